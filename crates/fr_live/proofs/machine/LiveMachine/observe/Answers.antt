use Rattle.std.proofs.Common.{◌≡◌, ◌<◌, List, length, sym, ap, subst, ◌∙◌}
use Rattle.std.proofs.lemmas.Bool.{ltb-true}
use Rattle.std.specs.Prelude.{slice_set, slice_index_or}
use Rattle.fr_core.proofs.FrontLemmas.{place_ok, index_any}
use Rattle.fr_core.specs.Carried.{Carried, Idle, Took, carried_of}
use Rattle.fr_core.specs.Steps.{with_interface, observed}
use Rattle.fr_core.specs.Worlds.{interface_at}
use Rattle.fr_interface.specs.Standing.{IsHistory}
use Rattle.fr_interface.specs.State.{with_entry}
use Rattle.fr_journal.specs.declared.entry.Entry.TheVariants as entries
use Rattle.fr_live.proofs.LeadLemmas.{history_lent, with_history, with_place}
use Rattle.fr_live.specs.LiveWorlds.{LiveState, Leads, has_node}
use Rattle.fr_core.specs.Worlds.{carried_at}
use Rattle.fr_slots.specs.Windows.{Opportunity}
use Rattle.fr_live.proofs.machine.LiveMachine.observe.Goals as goal

pub returns-clause-leads : goal.returns-clause-leads
returns-clause-leads c w is =
    let l : LiveState = record {
      interfaces = c.self.inside.interfaces.items;
      bus = c.self.inside.bus;
      carried = c.self.inside.controllers.items;
    } in
    let at = place_ok (has_node c.args.self.now c.args.node) c.args.node c.in_ok-place.place c.in_ok-place.ensures in
    let place = c.in_ok-place.place in
    let leads : Leads w l = subst (Leads w) (sym c.self.view_is) is in
    let within : place < length l.interfaces =
    subst (λ n. n < length l.interfaces) (sym at.1) (ltb-true c.args.node (length l.interfaces)
    (ap (λ (x : LiveState). has_node x c.args.node) c.self.view_is ∙ at.0)) in
    let s = interface_at w place in
    let carried_is : carried_at w place ≡ Took c.in-Observe.window c.controller.inside.a c.controller.inside.b =
    ap (λ (cs : List Carried). slice_index_or cs place Idle) leads.carried_are
    ∙ index_any l.carried place Idle c.index_mut-controller.result.now
    (subst (λ n. place < n) c.self.invariant within)
    ∙ sym c.index_mut-controller.ensures.value ∙ sym c.controller.view_is
    ∙ ap (λ d. carried_of d c.controller.inside.offer c.controller.inside.a c.controller.inside.b) c.in-Observe.is in
    let history : IsHistory c.index_mut.result.now s =
    history_lent w l leads place c.index_mut.result.now c.index_mut.ensures.value within in
    let a = c.controller.inside.a in
    let b = c.controller.inside.b in
    let number : c.window.inside.number ≡ c.in-Observe.window.number =
    ap (λ (x : Opportunity). x.number) c.window.view_is in
    let t = with_entry s (entries.Observe c.in-Observe.window.number a b) in
    let m : LiveState = record l { interfaces = slice_set l.interfaces place c.observe.new.self } in
    let kept : IsHistory c.observe.new.self t =
    subst (λ n. IsHistory c.observe.new.self (with_entry s (entries.Observe n a b))) number
    (c.in_ok-observe.ensures.history s history) in
    let after : Leads (with_interface w place t) m = with_history w l leads place c.observe.new.self t kept in
    let both = with_place (with_interface w place t) m after place Idle in
    let end = record m { carried = slice_set m.carried place Idle } in
    subst (λ n. Leads (observed w n (carried_at w n)) end) at.1
    (subst (λ (k : Carried). Leads (observed w place k) end) (sym carried_is) both)
