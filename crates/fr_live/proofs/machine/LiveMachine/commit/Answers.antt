use Rattle.std.proofs.Common.{◌≡◌, ◌<◌, length, sym, ap, subst, ◌∙◌}
use Rattle.std.proofs.lemmas.Bool.{ltb-true}
use Rattle.std.specs.Prelude.{slice_set}
use Rattle.fr_core.proofs.FrontLemmas.{place_ok}
use Rattle.fr_core.specs.Steps.{with_interface}
use Rattle.fr_core.specs.Worlds.{interface_at}
use Rattle.fr_interface.specs.Standing.{IsHistory}
use Rattle.fr_interface.specs.State.{with_entry}
use Rattle.fr_journal.specs.declared.entry.Entry.TheVariants as entries
use Rattle.fr_live.proofs.LeadLemmas.{history_lent, with_history}
use Rattle.fr_live.specs.LiveWorlds.{LiveState, Leads, has_node}
use Rattle.fr_interface.proofs.StandingLemmas.{entries-length}
use Rattle.fr_interface.specs.Standing.{entries_before}
use Rattle.fr_live.proofs.machine.LiveMachine.commit.Goals as goal

pub returns-clause-receipt : goal.returns-clause-receipt
returns-clause-receipt c w is =
    let l : LiveState = record {
      interfaces = c.self.inside.interfaces.items;
      bus = c.self.inside.bus;
      carried = c.self.inside.controllers.items;
    } in
    let at = place_ok (has_node c.args.self.now c.args.node) c.args.node c.in_ok-place.place c.in_ok-place.ensures in
    let place = c.in_ok-place.place in
    let leads : Leads w l = subst (Leads w) (sym c.self.view_is) is in
    let within : place < length l.interfaces =
    subst (λ n. n < length l.interfaces) (sym at.1) (ltb-true c.args.node (length l.interfaces)
    (ap (λ (x : LiveState). has_node x c.args.node) c.self.view_is ∙ at.0)) in
    let s = interface_at w place in
    let history : IsHistory c.index_mut-interface.result.now s =
    history_lent w l leads place c.index_mut-interface.result.now c.index_mut-interface.ensures.value within in
    let number : c.in_ok-entry.entry ≡ length s.entries =
    c.in_ok-entry.ensures.entry ∙ ap entries_before (sym history.leaves) ∙ entries-length s in
    let numbered : c.in_ok-entry.entry ≡ length (interface_at w c.args.node).entries =
    number ∙ ap (λ n. length (interface_at w n).entries) at.1 in
    λ i. record { task = c.args.task; entry = numbered i }

pub returns-clause-leads : goal.returns-clause-leads
returns-clause-leads c w is =
    let l : LiveState = record {
      interfaces = c.self.inside.interfaces.items;
      bus = c.self.inside.bus;
      carried = c.self.inside.controllers.items;
    } in
    let at = place_ok (has_node c.args.self.now c.args.node) c.args.node c.in_ok-place.place c.in_ok-place.ensures in
    let place = c.in_ok-place.place in
    let leads : Leads w l = subst (Leads w) (sym c.self.view_is) is in
    let within : place < length l.interfaces =
    subst (λ n. n < length l.interfaces) (sym at.1) (ltb-true c.args.node (length l.interfaces)
    (ap (λ (x : LiveState). has_node x c.args.node) c.self.view_is ∙ at.0)) in
    let s = interface_at w place in
    let history : IsHistory c.index_mut-interface.result.now s =
    history_lent w l leads place c.index_mut-interface.result.now c.index_mut-interface.ensures.value within in
    let e = entries.Commit c.args.task c.args.buffer c.args.payload.now in
    subst (λ n. Leads (with_interface w n (with_entry (interface_at w n) e))
    (record l { interfaces = slice_set l.interfaces place c.commit.new.self })) at.1
    (with_history w l leads place c.commit.new.self (with_entry s e) (c.in_ok-entry.ensures.history s history))
