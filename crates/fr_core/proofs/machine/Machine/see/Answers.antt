use Rattle.std.proofs.Common.{◌≡◌, ◌<◌, None, true, [], ◌∷◌, length, take, sym, ap, subst, ◌∙◌}
use Rattle.std.proofs.lemmas.Bool.{ltb-true}
use Rattle.std.specs.Prelude.{slice_set}
use Rattle.fr_bus.specs.States.{BusState, seen_last, take_done, take_refusal}
use Rattle.fr_core.proofs.FrontLemmas.{accepted_holds, accepted_none, err_holds, index_any, ok_holds}
use Rattle.fr_core.proofs.FrontLemmas.{place_ok, sees_both}
use Rattle.fr_core.specs.Carried.{Idle, Waits, carried_of}
use Rattle.fr_core.specs.declared.event.Event.TheVariants.{Take, Observe}
use Rattle.fr_core.specs.Fronts.{Accepts}
use Rattle.fr_core.specs.Worlds.{WorldState, carried_at, has_node, interface_at, no_interface}
use Rattle.fr_interface.specs.Sights.{seen_in}
use Rattle.fr_interface.specs.State.{observe_refusal, with_entry}
use Rattle.fr_journal.specs.declared.entry.Entry.TheVariants as entries
use Rattle.fr_slots.specs.declared.channel.Channel.TheVariants.{A, B}
use Rattle.fr_slots.specs.Windows.{Opportunity}
use Rattle.fr_core.proofs.machine.Machine.see.Goals as goal

pub returns-then-is_err-2-clause-accepts : goal.returns-then-is_err-2-clause-accepts
returns-then-is_err-2-clause-accepts c =
    let w : WorldState = record {
      interfaces = c.self.inside.interfaces.items;
      bus = c.self.inside.bus;
      carried = c.self.inside.controllers.items;
    } in
    let same : c.take_lent.new.self ≡ w.bus =
    err_holds (c.take_lent.new.self ≡ w.bus) c.take_lent.result (sym c.is_err-2.ensures.value ∙ c.if-is_err-2.true)
    c.take_lent.ensures.refused in
    let events = take c.see_in_turn-then-is_err-2.result (Take c.args.node ∷ Observe c.args.node ∷ []) in
    subst (λ (x : WorldState). Accepts x events c.see_in_turn-then-is_err-2.new.self) c.self.view_is
    (subst (λ (b : BusState). Accepts (record w { bus = b }) events c.see_in_turn-then-is_err-2.new.self) same
    c.see_in_turn-then-is_err-2.ensures.accepts)

pub returns-clause-accepts : goal.returns-clause-accepts
returns-clause-accepts c =
    let w : WorldState = record {
      interfaces = c.self.inside.interfaces.items;
      bus = c.self.inside.bus;
      carried = c.self.inside.controllers.items;
    } in
    let n = c.args.node in
    let place = c.in-Ok.place in
    let at = place_ok (has_node c.args.self.now n) n place c.in-Ok.ensures in
    let window = c.in-Take.window in
    let i = c.observe_sights-outcome.new.self in
    let number : c.window.inside.number ≡ window.number = ap (λ (x : Opportunity). x.number) c.window.view_is in
    let there : has_node w n ≡ true = ap (λ (x : WorldState). has_node x n) c.self.view_is ∙ at.0 in
    let within : n < length w.interfaces = ltb-true n (length w.interfaces) there in
    let in_place : place < length w.interfaces = subst (λ m. m < length w.interfaces) (sym at.1) within in
    let carried_place : place < length w.carried = subst (λ m. place < m) c.self.invariant in_place in
    let waits : carried_at w place ≡ Waits window =
    index_any w.carried place Idle c.index.result.now carried_place ∙ sym c.index.ensures ∙ sym c.behind-self.view_is
    ∙ ap (λ d. carried_of d c.behind-self.inside.offer c.behind-self.inside.a c.behind-self.inside.b) c.in-Take.is in
    let shared : c.index-2.result.now ≡ interface_at w place =
    c.index-2.ensures ∙ index_any w.interfaces place c.index-2.result.now no_interface in_place in
    let lent : c.index_mut.result.now ≡ interface_at w place =
    c.index_mut.ensures.value ∙ index_any w.interfaces place c.index_mut.result.now no_interface in_place in
    let unobserved : observe_refusal (interface_at w place) window.number ≡ None =
    accepted_none c.check_observe.result (observe_refusal (interface_at w place) window.number)
    (sym c.is_err.ensures.value ∙ c.if-is_err.false)
    (c.check_observe.ensures ∙ (λ j. observe_refusal (shared j) (number j))) in
    let untaken : take_refusal w.bus n window.number ≡ None =
    accepted_none c.take_lent.result (take_refusal w.bus n window.number)
    (sym c.is_err-2.ensures.value ∙ c.if-is_err-2.false)
    (c.take_lent.ensures.refusal ∙ ap (take_refusal w.bus n) number) in
    let took : c.take_lent.new.self ≡ take_done w.bus n =
    accepted_holds (c.take_lent.new.self ≡ take_done w.bus n) c.take_lent.result
    (sym c.is_err-2.ensures.value ∙ c.if-is_err-2.false) c.take_lent.ensures.accepted in
    let on_a : seen_in c.sight-a.result ≡ seen_last w.bus A n =
    c.sight-a.ensures ∙ ap (λ (b : BusState). seen_last b A n) took in
    let on_b : seen_in c.sight-b.result ≡ seen_last w.bus B n =
    c.sight-b.ensures ∙ ap (λ (b : BusState). seen_last b B n) took in
    let closes : i ≡ with_entry (interface_at w place)
    (entries.Observe window.number (seen_last w.bus A n) (seen_last w.bus B n)) =
    ok_holds (i ≡ with_entry c.index_mut.result.now
    (entries.Observe c.window.inside.number (seen_in c.sight-a.result) (seen_in c.sight-b.result)))
    c.observe_sights-outcome.result (sym c.is_ok-accepted.ensures.value ∙ c.if-prove.false)
    c.observe_sights-outcome.ensures.accepted
    ∙ (λ j. with_entry (lent j) (entries.Observe (number j) (on_a j) (on_b j))) in
    let both = sees_both w n window there (subst (λ m. m < length w.carried) at.1 carried_place)
    (ap (carried_at w) (sym at.1) ∙ waits) untaken
    (subst (λ m. observe_refusal (interface_at w m) window.number ≡ None) at.1 unobserved) in
    subst (λ (x : WorldState). Accepts x (Take n ∷ Observe n ∷ []) (record {
      interfaces = slice_set w.interfaces place i;
      bus = c.take_lent.new.self;
      carried = slice_set w.carried place Idle;
    })) c.self.view_is
    (subst (λ (x : WorldState). Accepts w (Take n ∷ Observe n ∷ []) x)
    (λ j. record {
      interfaces = slice_set w.interfaces (sym at.1 j) (sym (subst (λ m. i ≡ with_entry (interface_at w m)
          (entries.Observe window.number (seen_last w.bus A n) (seen_last w.bus B n))) at.1 closes) j);
      bus = sym took j;
      carried = slice_set w.carried (sym at.1 j) Idle;
    }) both)
