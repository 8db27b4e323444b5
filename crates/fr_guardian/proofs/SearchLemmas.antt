-- A binary search finds the interval in which a number lies, and a slot is open to its owner from its first macrotick
-- on.
use Rattle.std.proofs.Common.{◌≡◌, ℕ, ◌+◌, ◌-◌, ◌*◌, ◌<◌, ◌≤◌, ◌||◌, leb, nat_lt, not, Bool, true, false, List, length}
use Rattle.std.proofs.Common.{get_or, ◌&&◌, Option, Some, slice_get, refl, sym, ap, subst, ◌∙◌, inl, inr, arith}
use Rattle.std.specs.Prelude.{IsTrue, ◌↔◌}
use Rattle.std.specs.List.{All, AllPairs}
use Rattle.std.proofs.lemmas.Bool.{cases_Bool, cases_lt, cases_eq, and_parts, leb-true, both_ways, ltb-true, lt-ltb}
use Rattle.std.proofs.lemmas.Bool.{false_from_ne_true, le-leb}
use Rattle.std.proofs.lemmas.List.{get_or_default}
use Rattle.std.proofs.lemmas.List.Elements.{Contains-get_or}
use Rattle.std.specs.List.Sorted.{IsNonDecreasingBy, IsPartitionPoint}
use Rattle.fr_slots.specs.declared.channel.Channel.{Channel}
use Rattle.fr_slots.specs.declared.plan.Own.{Own}
use Rattle.fr_slots.specs.Faults.{is_owned}
use Rattle.fr_slots.specs.Parameters.{Parameters, IsParameters, is_static_slot}
use Rattle.fr_guardian.specs.GuardianFields.{IsSlotWithin}
use Rattle.fr_guardian.specs.Guarding.{passes_in, passes, IsOpenTo, IsOpenMacrotick}
use Rattle.fr_guardian.specs.Intervals.{Span, IsCovered, AreMaximalIntervals}
use Rattle.fr_guardian.proofs.AloneLemmas.{each_at, static_if_owned}
use Rattle.fr_guardian.proofs.SpanLemmas.{same_set}
use Rattle.fr_schedule.specs.Clusters.{IsNode, IsCluster}
use Rattle.fr_schedule.specs.Descriptions.{Description, is_guarded}
use Rattle.fr_slots.specs.Plans.{Plan}
use Rattle.fr_slots.specs.Windows.{Opportunity, slot_of, is_static}
use Rattle.fr_slots.proofs.FaultlessLemmas.{faultless}
use Rattle.fr_guardian.proofs.OpenLemmas.{slot_open, slot_closed}

-- ---- intervals that don't touch

module _ (xs : List Span) (not_empty : All (λ (x : Span). x.0 < x.1) xs)
    (apart : AllPairs (λ (x later : Span). x.1 < later.0) xs) where
  pub starts_rise : IsNonDecreasingBy (λ (x : Span). x.0) xs
  starts_rise i j d le below =
      elim (cases_eq i j) [
        | inl same ↦ (let e = ap (λ k. (get_or xs k d).0) same in omega (arith, e))
        | inr other ↦ (let some = not_empty i d (omega arith) in let sooner =
            apart i j d (omega arith) below in omega (arith, some, sooner))
      ]

  module _ (n k : ℕ) (bound : k ≤ length xs)
      (point : IsPartitionPoint (λ (x : Span). leb x.0 n ≡ true) (λ (x : Span). leb x.0 n ≡ false) xs k) where
    covered_last : 0 < k → n < (get_or xs (k - 1) (0, 0)).1 → IsCovered xs n
    covered_last some before = record {
      span = get_or xs (k - 1) (0, 0);
      of_list = Contains-get_or xs (k - 1) (0, 0) (omega arith);
      from_start = leb-true _ n (point.0 (k - 1) (0, 0) (omega arith) (omega arith));
      before_end = before;
    }

    record IsLast : Type 0 where
      pub some : 0 < k
      pub before : n < (get_or xs (k - 1) (0, 0)).1

    is_last : IsCovered xs n → IsLast
    is_last h =
        let (i, below, is) = h.of_list in
        let from : (get_or xs i (0, 0)).0 ≤ n = subst (λ (x : Span). x.0 ≤ n)
        (sym is ∙ get_or_default xs i _ (0, 0) below) h.from_start in
        let before : n < (get_or xs i (0, 0)).1 = subst (λ (x : Span). n < x.1)
        (sym is ∙ get_or_default xs i _ (0, 0) below) h.before_end in
        let within : i < k =
        elim (cases_lt i k) [
          | inl less ↦ less
          | inr after ↦ absurd (both_ways _ (point.1 i (0, 0) after below) (le-leb _ n from))
        ] in
        elim (cases_eq i (k - 1)) [
          | inl same ↦ record { some = omega arith; before = subst (λ j. n < (get_or xs j (0, 0)).1) same before }
          | inr other ↦
              (let sooner = apart i (k - 1) (0, 0) (omega arith) (omega arith) in
              let started = leb-true _ n (point.0 (k - 1) (0, 0) (omega arith) (omega arith)) in
              absurd (omega (arith, sooner, started, before)))
        ]

    pub found_some : 0 < k → IsTrue (nat_lt n (get_or xs (k - 1) (0, 0)).1) ↔ IsCovered xs n
    found_some some = (λ yes. covered_last some (ltb-true n _ yes), λ covered. lt-ltb n _ (is_last covered).before)

    pub found_none : k ≤ 0 → IsTrue (nat_lt 0 k) ↔ IsCovered xs n
    found_none none = (
      λ yes. absurd (let some = ltb-true 0 k yes in omega (arith, some, none)),
      λ covered. lt-ltb 0 k (is_last covered).some,
    )

-- ---- a slot that is open from its first macrotick on

or_owned : (b : Bool) → (not true || b) ≡ b
or_owned true = refl
or_owned false = refl

pub within_if_owned : (p : Parameters) → IsParameters p → (owned : List Own) (cycle : ℕ) (channel : Channel) (slot : ℕ)
    (spans : List Span) (answer : Bool)
    → (is_owned owned slot channel cycle ≡ true → is_static_slot p slot ≡ true)
    → AreMaximalIntervals (IsOpenTo p true owned cycle channel) spans
    → IsSlotWithin p spans slot answer → answer ≡ is_owned owned slot channel cycle
within_if_owned p lawful owned cycle channel slot spans answer only_static maximal h =
    elim (cases_Bool (is_owned owned slot channel cycle)) [
      | inl owns ↦
          (let static = only_static owns in
          let here = slot_open p lawful true owned cycle channel (slot - 1) (below static)
          (ap (λ (s : ℕ). not true || is_owned owned s channel cycle) slot_is ∙ or_owned _ ∙ owns)
          ((slot - 1) * p.static_mt) (omega arith) (omega (arith, lawful.static_mt_fit.from_least)) in
          h.tells.1 (static, maximal.covers ((slot - 1) * p.static_mt) here) ∙ sym owns)
      | inr not_owned ↦
          false_from_ne_true answer
          (λ yes.
          let (static, covered) = h.tells.0 yes in
          let opens = maximal.covers_only ((slot - 1) * p.static_mt) covered in
          slot_closed p true owned cycle channel (slot - 1) (below static)
          (ap (λ (s : ℕ). not true || is_owned owned s channel cycle) slot_is ∙ or_owned _ ∙ not_owned)
          ((slot - 1) * p.static_mt) (omega arith) (omega (arith, lawful.static_mt_fit.from_least)) opens)
          ∙ sym not_owned
    ]
  where
    slot_is : slot - 1 + 1 ≡ slot
    slot_is = omega (arith, h.slot_is.from_one)

    below : is_static_slot p slot ≡ true → slot - 1 < p.static_slots
    below static = let le = leb-true slot p.static_slots static in omega (arith, le, h.slot_is.from_one)

-- the search finds exactly the transmissions that pass
pub passes_found : (d : Description) → IsCluster d → (node : ℕ) (w : Opportunity) (channel : Channel) (plan : Plan)
    (slot : ℕ) (spans : List Span) (answer : Bool)
    → slice_get d.plans node ≡ Some plan → slot_of w channel ≡ Some slot
    → (is_static w && is_guarded d.guard channel) ≡ true
    → AreMaximalIntervals (IsOpenMacrotick d node w.cycle channel) spans → IsSlotWithin d.params spans slot answer
    → answer ≡ passes d node w channel
passes_found d lawful node w channel plan slot spans answer at opened watched maximal h =
    within_if_owned d.params lawful.params_are plan.owned w.cycle channel slot spans answer
    (λ owns. static_if_owned d.params plan slot channel w.cycle
    (faultless d.params plan (each_at (IsNode d.params) d.plans node plan lawful.nodes_are at).1) owns)
    (same_set (IsOpenMacrotick d node w.cycle channel) (IsOpenTo d.params true plan.owned w.cycle channel) spans there
    back maximal)
    h
    ∙ sym (ap (λ (o : Option Plan). passes_in d w channel o (slot_of w channel)) at
    ∙ ap (passes_in d w channel (Some plan)) opened
    ∙ ap (λ (b : Bool). not b || is_owned plan.owned slot channel w.cycle) watched ∙ or_owned _)
  where
    guarded : is_guarded d.guard channel ≡ true
    guarded = (and_parts (is_static w) (is_guarded d.guard channel) watched).1

    there : (n : ℕ) → IsOpenMacrotick d node w.cycle channel n → IsOpenTo d.params true plan.owned w.cycle channel n
    there n opens =
        let same : opens.plan ≡ plan = (let a = opens.of_node in cc) in
        subst (λ (b : Bool). IsOpenTo d.params b plan.owned w.cycle channel n) guarded
        (subst (λ (x : Plan). IsOpenTo d.params (is_guarded d.guard channel) x.owned w.cycle channel n) same
        opens.open_to)

    back : (n : ℕ) → IsOpenTo d.params true plan.owned w.cycle channel n → IsOpenMacrotick d node w.cycle channel n
    back n opens = record {
      plan = plan;
      of_node = at;
      open_to =
          subst (λ (b : Bool). IsOpenTo d.params b plan.owned w.cycle channel n) (sym guarded) opens;
    }
