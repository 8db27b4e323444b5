use Rattle.std.proofs.Common.{◌≡◌, ◌<◌, List, length, sym, ap, subst, ◌∙◌}
use Rattle.std.proofs.lemmas.Bool.{ltb-true}
use Rattle.std.specs.Prelude.{slice_set, slice_index_or}
use Rattle.fr_core.proofs.FrontLemmas.{place_ok, index_any}
use Rattle.fr_core.specs.Carried.{Carried, Idle, Knows, Offers, carried_of}
use Rattle.fr_core.specs.Steps.{with_interface, with_carried, fetched}
use Rattle.fr_core.specs.Worlds.{interface_at}
use Rattle.fr_interface.specs.Standing.{IsHistory}
use Rattle.fr_interface.specs.State.{with_entry, fetch_entry}
use Rattle.fr_live.proofs.LeadLemmas.{history_lent, with_history, with_place}
use Rattle.fr_live.specs.LiveWorlds.{LiveState, Leads, has_node}
use Rattle.fr_core.specs.Worlds.{carried_at}
use Rattle.fr_interface.specs.declared.interface.Offer.{Offer}
use Rattle.fr_live.proofs.machine.LiveMachine.fetch.Goals as goal

pub returns-clause-leads : goal.returns-clause-leads
returns-clause-leads c w is =
    let l : LiveState = record {
      interfaces = c.self.inside.interfaces.items;
      bus = c.self.inside.bus;
      carried = c.self.inside.controllers.items;
    } in
    let at = place_ok (has_node c.args.self.now c.args.node) c.args.node c.in_ok-place.place c.in_ok-place.ensures in
    let place = c.in_ok-place.place in
    let leads : Leads w l = subst (Leads w) (sym c.self.view_is) is in
    let within : place < length l.interfaces =
    subst (λ n. n < length l.interfaces) (sym at.1) (ltb-true c.args.node (length l.interfaces)
    (ap (λ (x : LiveState). has_node x c.args.node) c.self.view_is ∙ at.0)) in
    let s = interface_at w place in
    let carried_is : carried_at w place ≡ Knows c.in-Fetch.window =
    ap (λ (cs : List Carried). slice_index_or cs place Idle) leads.carried_are
    ∙ index_any l.carried place Idle c.index_mut-controller.result.now
    (subst (λ n. place < n) c.self.invariant within)
    ∙ sym c.index_mut-controller.ensures.value ∙ sym c.controller.view_is
    ∙ ap (λ d. carried_of d c.controller.inside.offer c.controller.inside.a c.controller.inside.b) c.in-Fetch.is in
    let window = c.in-Fetch.window in
    let history : IsHistory c.index_mut.result.now s =
    history_lent w l leads place c.index_mut.result.now c.index_mut.ensures.value within in
    let t = with_entry s (fetch_entry s window) in
    let m : LiveState = record l { interfaces = slice_set l.interfaces place c.fetch_into.new.self } in
    let after : Leads (with_interface w place t) m =
    with_history w l leads place c.fetch_into.new.self t (c.in_ok-fetch_into.ensures.history s history) in
    let both = with_place (with_interface w place t) m after place (Offers window c.fetch_into.new.offer) in
    let end = record m { carried = slice_set m.carried place (Offers window c.fetch_into.new.offer) } in
    subst (λ n. Leads (fetched w n (carried_at w n)) end) at.1
    (subst (λ (k : Carried). Leads (fetched w place k) end) (sym carried_is)
    (subst (λ (o : Offer). Leads (with_carried (with_interface w place t) place (Offers window o)) end)
    (c.in_ok-fetch_into.ensures.offer s history) both))
