use Rattle.std.proofs.Common.{◌≡◌, rules, ◌<◌, true, Some, length, sym, ap, subst, ◌∙◌}
use Rattle.std.proofs.lemmas.Bool.{ltb-true}
use Rattle.std.specs.Prelude.{option_map, slice_set}
use Rattle.std.specs.Result.{result_err}
use Rattle.fr_core.proofs.FrontLemmas.{place_ok}
use Rattle.fr_core.specs.declared.error.StepError.TheVariants.{Host}
use Rattle.fr_core.specs.Steps.{with_interface}
use Rattle.fr_core.specs.Worlds.{WorldState, interface_at}
use Rattle.fr_core.specs.Worlds as worlds
use Rattle.fr_interface.specs.Calls.{call_refusal, call_answer, call_entry}
use Rattle.fr_interface.specs.Standing.{IsHistory}
use Rattle.fr_interface.specs.State.{with_entry}
use Rattle.fr_live.proofs.CallLemmas.{place_no, no_node, node_call, done_call}
use Rattle.fr_live.proofs.LeadLemmas.{nodes_same, history_lent, with_history}
use Rattle.fr_live.specs.LiveWorlds.{LiveState, Leads, has_node}
use Rattle.fr_live.proofs.machine.LiveMachine.call.Goals as goal

pub returns-in_err-place-clause-refusal : goal.returns-in_err-place-clause-refusal
returns-in_err-place-clause-refusal c w is =
    let e = c.in_err-place.field-0.0 in
    let no = place_no (has_node c.args.self.now c.args.node) c.args.node e c.in_err-place.ensures in
    let told : result_err c.from_residual.result ≡ Some e = search rules in
    told ∙ ap Some no.1 ∙ sym (no_node w c.args.node c.args.task c.args.call.now
    (sym (nodes_same w c.args.self.now is c.args.node) ∙ no.0))

pub returns-in_err-answer-clause-refusal : goal.returns-in_err-answer-clause-refusal
returns-in_err-answer-clause-refusal c w is =
    let l : LiveState = record {
      interfaces = c.self.inside.interfaces.items;
      bus = c.self.inside.bus;
      carried = c.self.inside.controllers.items;
    } in
    let at = place_ok (has_node c.args.self.now c.args.node) c.args.node c.in_ok-place.place c.in_ok-place.ensures in
    let place = c.in_ok-place.place in
    let leads : Leads w l = subst (Leads w) (sym c.self.view_is) is in
    let within : place < length l.interfaces =
    subst (λ n. n < length l.interfaces) (sym at.1) (ltb-true c.args.node (length l.interfaces)
    (ap (λ (x : LiveState). has_node x c.args.node) c.self.view_is ∙ at.0)) in
    let there : worlds.has_node w c.args.node ≡ true = sym (nodes_same w c.args.self.now is c.args.node) ∙ at.0 in
    let s = interface_at w place in
    let history : IsHistory c.index_mut.result.now s =
    history_lent w l leads place c.index_mut.result.now c.index_mut.ensures.value within in
    let n = c.args.node in
    let task = c.args.task in
    let call = c.args.call.now in
    let told : result_err c.from_residual-in_err-answer.result ≡ Some (Host c.in_err-answer.field-0.0) = search rules in
    told ∙ ap (option_map Host) (c.in_err-answer.ensures.refusal s history)
    ∙ ap (λ m. option_map Host (call_refusal (interface_at w m) task call)) at.1 ∙ sym (node_call w n task call there)

pub returns-clause-refusal : goal.returns-clause-refusal
returns-clause-refusal c w is =
    let l : LiveState = record {
      interfaces = c.self.inside.interfaces.items;
      bus = c.self.inside.bus;
      carried = c.self.inside.controllers.items;
    } in
    let at = place_ok (has_node c.args.self.now c.args.node) c.args.node c.in_ok-place.place c.in_ok-place.ensures in
    let place = c.in_ok-place.place in
    let leads : Leads w l = subst (Leads w) (sym c.self.view_is) is in
    let within : place < length l.interfaces =
    subst (λ n. n < length l.interfaces) (sym at.1) (ltb-true c.args.node (length l.interfaces)
    (ap (λ (x : LiveState). has_node x c.args.node) c.self.view_is ∙ at.0)) in
    let there : worlds.has_node w c.args.node ≡ true = sym (nodes_same w c.args.self.now is c.args.node) ∙ at.0 in
    let s = interface_at w place in
    let history : IsHistory c.index_mut.result.now s =
    history_lent w l leads place c.index_mut.result.now c.index_mut.ensures.value within in
    let n = c.args.node in
    let task = c.args.task in
    let call = c.args.call.now in
    ap (option_map Host) (c.in_ok-answer.ensures.refusal s history)
    ∙ ap (λ m. option_map Host (call_refusal (interface_at w m) task call)) at.1 ∙ sym (node_call w n task call there)

pub returns-clause-answer : goal.returns-clause-answer
returns-clause-answer c w is =
    let l : LiveState = record {
      interfaces = c.self.inside.interfaces.items;
      bus = c.self.inside.bus;
      carried = c.self.inside.controllers.items;
    } in
    let at = place_ok (has_node c.args.self.now c.args.node) c.args.node c.in_ok-place.place c.in_ok-place.ensures in
    let place = c.in_ok-place.place in
    let leads : Leads w l = subst (Leads w) (sym c.self.view_is) is in
    let within : place < length l.interfaces =
    subst (λ n. n < length l.interfaces) (sym at.1) (ltb-true c.args.node (length l.interfaces)
    (ap (λ (x : LiveState). has_node x c.args.node) c.self.view_is ∙ at.0)) in
    let there : worlds.has_node w c.args.node ≡ true = sym (nodes_same w c.args.self.now is c.args.node) ∙ at.0 in
    let s = interface_at w place in
    let history : IsHistory c.index_mut.result.now s =
    history_lent w l leads place c.index_mut.result.now c.index_mut.ensures.value within in
    let n = c.args.node in
    let task = c.args.task in
    let call = c.args.call.now in
    c.in_ok-answer.ensures.answer s history ∙ ap (λ m. call_answer (interface_at w m) task call) at.1

pub returns-clause-leads : goal.returns-clause-leads
returns-clause-leads c w is =
    let l : LiveState = record {
      interfaces = c.self.inside.interfaces.items;
      bus = c.self.inside.bus;
      carried = c.self.inside.controllers.items;
    } in
    let at = place_ok (has_node c.args.self.now c.args.node) c.args.node c.in_ok-place.place c.in_ok-place.ensures in
    let place = c.in_ok-place.place in
    let leads : Leads w l = subst (Leads w) (sym c.self.view_is) is in
    let within : place < length l.interfaces =
    subst (λ n. n < length l.interfaces) (sym at.1) (ltb-true c.args.node (length l.interfaces)
    (ap (λ (x : LiveState). has_node x c.args.node) c.self.view_is ∙ at.0)) in
    let there : worlds.has_node w c.args.node ≡ true = sym (nodes_same w c.args.self.now is c.args.node) ∙ at.0 in
    let s = interface_at w place in
    let history : IsHistory c.index_mut.result.now s =
    history_lent w l leads place c.index_mut.result.now c.index_mut.ensures.value within in
    let n = c.args.node in
    let task = c.args.task in
    let call = c.args.call.now in
    let end = record l { interfaces = slice_set l.interfaces place c.call.new.self } in
    subst (λ (v : WorldState). Leads v end)
    (ap (λ m. with_interface w m (with_entry (interface_at w m) (call_entry (interface_at w m) task call))) at.1
    ∙ done_call w n task call)
    (with_history w l leads place c.call.new.self (with_entry s (call_entry s task call))
    (c.in_ok-answer.ensures.history s history))
