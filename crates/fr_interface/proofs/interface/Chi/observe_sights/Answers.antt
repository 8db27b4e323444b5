use Rattle.std.proofs.Common.{sym}
use Rattle.fr_interface.specs.InterfaceFields.{state_in}
use Rattle.fr_interface.specs.Sights.{seen_in}
use Rattle.fr_interface.proofs.InterfaceLemmas.{lawful-more}
use Rattle.fr_interface.proofs.RoomLemmas.{observe-fits}
use Rattle.fr_journal.specs.declared.entry.Entry.TheVariants.{Observe}
use Rattle.fr_interface.proofs.interface.Chi.observe_sights.Goals as goal

pub push_sights-requires : goal.push_sights-requires
push_sights-requires g c =
    record {
      room = observe-fits c.self.inside.state (g.H.History.told c.self.inside.history) _ c.args.number
          c.self.invariant (sym c.in_ok-observe_sights.ensures.refusal);
    }

pub invariant_of-self-2 : goal.invariant_of-self-2
invariant_of-self-2 g c =
    let es = g.H.History.told c.self.inside.history in
    lawful-more c.self.inside.state c.observe_sights.new.self es _ _ _
    (Observe c.args.number (seen_in c.args.a.now) (seen_in c.args.b.now)) c.self.invariant
    c.push_sights.ensures.entries c.push_sights.ensures.limits c.in_ok-observe_sights.ensures.terms
    (c.in_ok-observe_sights.ensures.history (state_in c.self.inside.state es) c.self.invariant.history)
