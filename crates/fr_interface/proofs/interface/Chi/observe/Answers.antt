use Rattle.std.proofs.Common.{sym}
use Rattle.fr_interface.specs.InterfaceFields.{state_in}
use Rattle.fr_interface.proofs.InterfaceLemmas.{lawful-more}
use Rattle.fr_interface.proofs.RoomLemmas.{observe-fits}
use Rattle.fr_journal.specs.declared.entry.Entry.TheVariants.{Observe}
use Rattle.fr_interface.proofs.interface.Chi.observe.Goals as goal

pub push_observe-requires : goal.push_observe-requires
push_observe-requires g c =
    record {
      room = observe-fits c.self.inside.state (g.H.History.told c.self.inside.history) _ c.args.number
          c.self.invariant (sym c.in_ok-observe.ensures.refusal);
    }

pub invariant_of-self-2 : goal.invariant_of-self-2
invariant_of-self-2 g c =
    let es = g.H.History.told c.self.inside.history in
    lawful-more c.self.inside.state c.observe.new.self es _ _ _
    (Observe c.args.number c.args.a.now c.args.b.now) c.self.invariant c.push_observe.ensures.entries
    c.push_observe.ensures.limits c.in_ok-observe.ensures.terms
    (c.in_ok-observe.ensures.history (state_in c.self.inside.state es) c.self.invariant.history)
