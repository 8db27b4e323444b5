-- A take and an observe of a node as one step.
use Rattle.std.proofs.Common.{◌≡◌, ℕ, ◌<◌, true, [], ◌∷◌, Option, None, length, refl, sym}
use Rattle.std.proofs.Common.{subst, ap, ◌∙◌, get_or-set_same}
use Rattle.std.proofs.lemmas.Bool.{ltb-true}
use Rattle.std.specs.Prelude.{slice_set, option_map}
use Rattle.fr_bus.specs.Standing.{LiveStanding, ForEachLiveHistory, IsLiveHistory, bare}
use Rattle.fr_bus.specs.States.{seen_last, take_done, take_refusal}
use Rattle.fr_core.proofs.FrontLemmas.{set_again}
use Rattle.fr_core.specs.Carried.{Carried, Idle, Waits, Took}
use Rattle.fr_core.specs.declared.event.Event.TheVariants.{Take, Observe}
use Rattle.fr_core.specs.declared.error.StepError.{StepError}
use Rattle.fr_core.specs.declared.error.StepError.TheVariants.{Bus, Slot}
use Rattle.fr_core.specs.Steps.{observed, taken, step_done, step_refusal, with_bus, with_carried, with_interface}
use Rattle.fr_core.specs.Worlds.{WorldState, interface_at}
use Rattle.fr_core.specs.Worlds as worlds
use Rattle.fr_interface.specs.Standing.{Standing, ForEachHistory, IsHistory, observe_refused}
use Rattle.fr_interface.specs.State.{with_entry}
use Rattle.fr_journal.specs.declared.entry.Entry.TheVariants as entries
use Rattle.fr_live.proofs.LeadLemmas.{carried_same, history_at, with_history, with_live, with_place}
use Rattle.fr_live.proofs.RefusalLemmas.{take_refuses, observe_refuses}
use Rattle.fr_live.specs.LiveSteps.{Accepts, LiveAccepts, if_node, observe_in_turn, take_in_turn}
use Rattle.fr_live.specs.LiveWorlds.{LiveState, Leads, carried_at, has_node, standing_at}
use Rattle.fr_slots.specs.declared.channel.Channel.TheVariants.{A, B}
use Rattle.fr_slots.specs.Windows.{Opportunity}
use Rattle.fr_status.specs.Forms.{Seen}

-- the data of a node whose take is due: its window, and the answers of the bus and of the interface
pub record Sees (l : LiveState) (n : ℕ) (window : Opportunity) (bus : LiveStanding) (h : Standing) (a b : Seen)
    : Type 0 where
  pub there : has_node l n ≡ true
  pub carries : n < length l.carried
  pub waits : carried_at l n ≡ Waits window
  pub taking : take_refusal (bare l.bus.bus) n window.number ≡ None
  pub observing : observe_refused (standing_at l n) window.number ≡ None
  pub took : ForEachLiveHistory l.bus (λ s. IsLiveHistory bus (take_done s n))
  pub on_a : ForEachLiveHistory bus (λ s. a ≡ seen_last s A n)
  pub on_b : ForEachLiveHistory bus (λ s. b ≡ seen_last s B n)
  pub closes : ForEachHistory (standing_at l n) (λ s. IsHistory h (with_entry s (entries.Observe window.number a b)))

module _ (l : LiveState) (n : ℕ) (window : Opportunity) (bus : LiveStanding) (h : Standing) (a b : Seen)
    (sees : Sees l n window bus h a b) where
  -- between the take and the observe
  abbrev pub between : LiveState
  between = record {
    interfaces = l.interfaces;
    bus = bus;
    carried = slice_set l.carried n (Took window a b);
  }

  abbrev pub after : LiveState
  after = record {
    interfaces = slice_set l.interfaces n h;
    bus = bus;
    carried = slice_set l.carried n Idle;
  }

  within : n < length l.interfaces
  within = ltb-true n (length l.interfaces) sees.there

  took_it : carried_at between n ≡ Took window a b
  took_it = get_or-set_same l.carried n (Took window a b) Idle sees.carries

  no_refusal : (r : Option StepError) → r ≡ None → if_node l n r ≡ None
  no_refusal r none = ap (λ t. if_node l n t) none ∙ in_node
    where
      in_node : if_node l n None ≡ None
      in_node = rw sees.there refl

  takes : (w : WorldState) → Leads w l → step_refusal w (Take n) ≡ None
  takes w is = sym (take_refuses w l is n)
      ∙ no_refusal (take_in_turn l n (carried_at l n))
      (ap (take_in_turn l n) sees.waits ∙ ap (option_map Bus) sees.taking)

  -- the world between
  took_world : (w : WorldState) → Leads w l → Leads (step_done w (Take n)) between
  took_world w is =
      let in_bus : IsLiveHistory bus (take_done w.bus n) = sees.took w.bus is.bus_is in
      let waits : worlds.carried_at w n ≡ Waits window = sym (carried_same w l is n) ∙ sees.waits in
      let on_a : a ≡ seen_last w.bus A n = sees.on_a (take_done w.bus n) in_bus in
      let on_b : b ≡ seen_last w.bus B n = sees.on_b (take_done w.bus n) in_bus in
      let bus_led = with_live w l is (take_done w.bus n) bus in_bus in
      let led = with_place (with_bus w (take_done w.bus n)) (record l { bus = bus }) bus_led n (Took window a b) in
      subst (λ (k : Carried). Leads (taken w n k) between) (sym waits)
      (subst (λ x. Leads (with_carried (with_bus w (take_done w.bus n)) n (Took window x (seen_last w.bus B n)))
      between) on_a
      (subst (λ y. Leads (with_carried (with_bus w (take_done w.bus n)) n (Took window a y)) between) on_b led))

  observes : (w : WorldState) → Leads w between → step_refusal w (Observe n) ≡ None
  observes w is = sym (observe_refuses w between is n)
      ∙ no_refusal (observe_in_turn between n (carried_at between n))
      (ap (observe_in_turn between n) took_it ∙ ap (option_map Slot) sees.observing)

  observed_world : (w : WorldState) → Leads w between → Leads (step_done w (Observe n)) after
  observed_world w is =
      let s = interface_at w n in
      let t = with_entry s (entries.Observe window.number a b) in
      let took : worlds.carried_at w n ≡ Took window a b = sym (carried_same w between is n) ∙ took_it in
      let led = with_history w between is n h t (sees.closes s (history_at w between is n within)) in
      let closed : LiveState = record between { interfaces = slice_set l.interfaces n h } in
      let idle = with_place (with_interface w n t) closed led n Idle in
      subst (λ (k : Carried). Leads (observed w n k) after) (sym took)
      (subst (λ cs. Leads (with_carried (with_interface w n t) n Idle) (record closed { carried = cs }))
      (set_again l.carried n (Took window a b) Idle) idle)

  pub sees_both : LiveAccepts l (Take n ∷ Observe n ∷ []) after
  unfolding Accepts
  sees_both w is =
      let led = took_world w is in (
        step_done (step_done w (Take n)) (Observe n),
        (takes w is, (observes (step_done w (Take n)) led, refl)),
        observed_world (step_done w (Take n)) led,
      )
