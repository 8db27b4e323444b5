use Rattle.std.proofs.Common.{◌≡◌, ◌<◌, None, true, [], ◌∷◌, length, take, sym, ap, subst, ◌∙◌}
use Rattle.std.proofs.lemmas.Bool.{ltb-true}
use Rattle.std.specs.Prelude.{slice_set}
use Rattle.fr_bus.specs.Standing.{ForEachLiveHistory, IsLiveHistory, LiveStanding, bare}
use Rattle.fr_bus.specs.States.{take_done, take_refusal}
use Rattle.fr_core.proofs.FrontLemmas.{accepted_holds, accepted_none, err_holds, index_any, ok_holds, place_ok}
use Rattle.fr_core.specs.Carried.{Idle, Waits, carried_of}
use Rattle.fr_core.specs.declared.event.Event.TheVariants.{Take, Observe}
use Rattle.fr_interface.specs.Sights.{seen_in}
use Rattle.fr_interface.specs.Standing.{ForEachHistory, IsHistory, Standing, observe_refused}
use Rattle.fr_interface.specs.State.{with_entry}
use Rattle.fr_journal.specs.declared.entry.Entry.TheVariants as entries
use Rattle.fr_live.proofs.SeeLemmas.{Sees, sees_both}
use Rattle.fr_live.specs.LiveSteps.{LiveAccepts}
use Rattle.fr_live.specs.LiveWorlds.{LiveState, carried_at, has_node, no_standing, standing_at}
use Rattle.fr_slots.specs.Windows.{Opportunity}
use Rattle.fr_live.proofs.machine.LiveMachine.see.Goals as goal

pub returns-then-is_err-2-clause-accepts : goal.returns-then-is_err-2-clause-accepts
returns-then-is_err-2-clause-accepts c =
    let l : LiveState = record {
      interfaces = c.self.inside.interfaces.items;
      bus = c.self.inside.bus;
      carried = c.self.inside.controllers.items;
    } in
    let same : c.take.new.self ≡ l.bus =
    err_holds (c.take.new.self ≡ l.bus) c.take.result (sym c.is_err-2.ensures.value ∙ c.if-is_err-2.true)
    c.take.ensures.refused in
    let events = take c.see_in_turn-then-is_err-2.result (Take c.args.node ∷ Observe c.args.node ∷ []) in
    subst (λ (x : LiveState). LiveAccepts x events c.see_in_turn-then-is_err-2.new.self) c.self.view_is
    (subst (λ (b : LiveStanding). LiveAccepts (record l { bus = b }) events c.see_in_turn-then-is_err-2.new.self) same
    c.see_in_turn-then-is_err-2.ensures.accepts)

pub returns-clause-accepts : goal.returns-clause-accepts
returns-clause-accepts c =
    let l : LiveState = record {
      interfaces = c.self.inside.interfaces.items;
      bus = c.self.inside.bus;
      carried = c.self.inside.controllers.items;
    } in
    let n = c.args.node in
    let place = c.in-Ok.place in
    let at = place_ok (has_node c.args.self.now n) n place c.in-Ok.ensures in
    let window = c.in-Take.window in
    let bus = c.take.new.self in
    let h = c.observe_sights-outcome.new.self in
    let a = seen_in c.sight-a.result in
    let b = seen_in c.sight-b.result in
    let number : c.window.inside.number ≡ window.number = ap (λ (x : Opportunity). x.number) c.window.view_is in
    let there : has_node l n ≡ true = ap (λ (x : LiveState). has_node x n) c.self.view_is ∙ at.0 in
    let within : n < length l.interfaces = ltb-true n (length l.interfaces) there in
    let in_place : place < length l.interfaces = subst (λ m. m < length l.interfaces) (sym at.1) within in
    let carried_place : place < length l.carried = subst (λ m. place < m) c.self.invariant in_place in
    let waits : carried_at l place ≡ Waits window =
    index_any l.carried place Idle c.index.result.now carried_place ∙ sym c.index.ensures ∙ sym c.behind-self.view_is
    ∙ ap (λ d. carried_of d c.behind-self.inside.offer c.behind-self.inside.a c.behind-self.inside.b) c.in-Take.is in
    let shared : c.index-2.result.now ≡ standing_at l place =
    c.index-2.ensures ∙ index_any l.interfaces place c.index-2.result.now no_standing in_place in
    let lent : c.index_mut.result.now ≡ standing_at l place =
    c.index_mut.ensures.value ∙ index_any l.interfaces place c.index_mut.result.now no_standing in_place in
    let unobserved : observe_refused (standing_at l place) window.number ≡ None =
    accepted_none c.check_observe.result (observe_refused (standing_at l place) window.number)
    (sym c.is_err.ensures.value ∙ c.if-is_err.false)
    (c.check_observe.ensures ∙ (λ i. observe_refused (shared i) (number i))) in
    let untaken : take_refusal (bare l.bus.bus) n window.number ≡ None =
    accepted_none c.take.result (take_refusal (bare l.bus.bus) n window.number)
    (sym c.is_err-2.ensures.value ∙ c.if-is_err-2.false)
    (c.take.ensures.refusal ∙ ap (take_refusal (bare l.bus.bus) n) number) in
    let closes : ForEachHistory (standing_at l place)
    (λ s. IsHistory h (with_entry s (entries.Observe window.number a b))) =
    subst (λ m. ForEachHistory (standing_at l place) (λ s. IsHistory h (with_entry s (entries.Observe m a b)))) number
    (subst (λ (x : Standing). ForEachHistory x
    (λ s. IsHistory h (with_entry s (entries.Observe c.window.inside.number a b)))) lent
    (λ s is. ok_holds (IsHistory h (with_entry s (entries.Observe c.window.inside.number a b)))
    c.observe_sights-outcome.result (sym c.is_ok-accepted.ensures.value ∙ c.if-prove.false)
    (c.observe_sights-outcome.ensures.history s is))) in
    let took : ForEachLiveHistory l.bus (λ s. IsLiveHistory bus (take_done s n)) =
    λ s is. accepted_holds (IsLiveHistory bus (take_done s n)) c.take.result
    (sym c.is_err-2.ensures.value ∙ c.if-is_err-2.false) (c.take.ensures.history s is) in
    let sees : Sees l n window bus h a b = record {
      there = there;
      carries = subst (λ m. m < length l.carried) at.1 carried_place;
      waits = ap (carried_at l) (sym at.1) ∙ waits;
      taking = untaken;
      observing = subst (λ m. observe_refused (standing_at l m) window.number ≡ None) at.1 unobserved;
      took = took;
      on_a = c.sight-a.ensures;
      on_b = c.sight-b.ensures;
      closes = subst (λ m. ForEachHistory (standing_at l m)
          (λ s. IsHistory h (with_entry s (entries.Observe window.number a b)))) at.1 closes;
    } in
    subst (λ (x : LiveState). LiveAccepts x (Take n ∷ Observe n ∷ []) (record {
      interfaces = slice_set l.interfaces place h;
      bus = bus;
      carried = slice_set l.carried place Idle;
    })) c.self.view_is
    (subst (λ m. LiveAccepts l (Take n ∷ Observe n ∷ []) (record {
      interfaces = slice_set l.interfaces m h;
      bus = bus;
      carried = slice_set l.carried m Idle;
    })) (sym at.1) (sees_both l n window bus h a b sees))
