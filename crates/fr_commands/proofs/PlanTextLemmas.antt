-- The text of a plan, one node, one slot, one cycle or one interval more.
use Rattle.std.proofs.Common.{◌≡◌, ℕ, zero, suc, ◌+◌, ◌-◌, ◌%◌, ◌<◌, ◌≤◌, ◌==◌, true, false, ◌&&◌, List, [], ◌∷◌, ◌++◌}
use Rattle.std.proofs.Common.{length, Option, Some, Result, Ok, Err, refl, sym, ap, subst, ◌∙◌, append-nil, add-one}
use Rattle.std.proofs.Common.{arith}
use Rattle.std.specs.Io.KnownBytes.{Appends}
use Rattle.std.specs.List.{flat_map, range_with_len, list_any}
use Rattle.std.specs.Prelude.{slice_get, OnOk}
use Rattle.std.proofs.KnownBytes.{Appends-nil, Appends-trans}
use Rattle.std.proofs.Math.Nat.{mod-eq_of_lt}
use Rattle.std.proofs.lemmas.Grind.{flat_map-append}
use Rattle.std.proofs.lemmas.Option.{same_Some}
use Rattle.std.proofs.lemmas.Bool.{cond-true, cond-false, false_from_ne_true, and_parts, and_from, or_parts, both_ways}
use Rattle.std.proofs.lemmas.Bool.{eqb-true, eq-eqb}
use Rattle.fr_schedule.specs.Clusters.{IsNode, IsCluster}
use Rattle.fr_schedule.specs.Descriptions.{Description}
use Rattle.fr_schedule.specs.FileFaults.{all_owned}
use Rattle.fr_schedule.specs.SenderTable.{IsSender}
use Rattle.fr_schedule.proofs.ClusterLemmas.{each_at}
use Rattle.fr_guardian.proofs.PeriodLemmas.{AreWithin, within_period}
use Rattle.fr_slots.specs.declared.channel.Channel.{Channel}
use Rattle.fr_slots.specs.declared.plan.Own.{Own}
use Rattle.fr_slots.specs.Admission.{includes}
use Rattle.fr_slots.specs.Faults.{claims, is_owned, sends_at}
use Rattle.fr_slots.specs.Parameters.{is_static_slot}
use Rattle.fr_slots.specs.declared.channel.Channel.TheVariants.{A, B}
use Rattle.fr_slots.specs.Plans.{Plan, IsOwn, Each}
use Rattle.fr_files.specs.NodeTexts.{of_nodes}
use Rattle.fr_commands.specs.PlanText.{begins_at, own_text, owner_text, base_text, owners_text, slot_line}
use Rattle.fr_commands.specs.PlanText.{static_text, dynamic_text, cycles_told, IsGuardText, AreCycleTexts}
use Rattle.fr_commands.specs.PlanText.{AreGuardTexts, IsPlanText, Adds}

-- ---- the owner of a static slot

of_nodes-none : (text : ℕ → Plan → List ℕ) (node : ℕ) (plans : List Plan)
    → ((place : ℕ) (plan : Plan) → slice_get plans place ≡ Some plan → text (node + place) plan ≡ [])
    → of_nodes text node plans ≡ []
unfolding of_nodes
of_nodes-none text node [] none = refl
of_nodes-none text node (x ∷ plans) none =
    let here : node ≡ node + 0 = omega arith in
    ap (λ (t : List ℕ). t ++ of_nodes text (node + 1) plans) (ap (λ (n : ℕ). text n x) here ∙ none 0 x refl)
    ∙ of_nodes-none text (node + 1) plans
    (λ place plan at.
    let next : node + 1 + place ≡ node + suc place = omega arith in
    ap (λ (n : ℕ). text n plan) next ∙ none (suc place) plan at)

of_nodes-one : (text : ℕ → Plan → List ℕ) (node : ℕ) (plans : List Plan) (m : ℕ) (plan : Plan)
    → slice_get plans m ≡ Some plan
    → ((place : ℕ) (other : Plan) → slice_get plans place ≡ Some other → (place ≡ m → ⊥)
    → text (node + place) other ≡ [])
    → of_nodes text node plans ≡ text (node + m) plan
unfolding of_nodes
of_nodes-one text node [] m plan at others = cc at
of_nodes-one text node (x ∷ plans) zero plan at others =
    let same : x ≡ plan = cc at in
    let here : node ≡ node + 0 = omega arith in
    ap (λ (t : List ℕ). text node x ++ t)
    (of_nodes-none text (node + 1) plans
    (λ place other there.
    let next : node + 1 + place ≡ node + suc place = omega arith in
    ap (λ (n : ℕ). text n other) next ∙ others (suc place) other there
    (λ zero_is. let none : ⊥ = omega (arith, zero_is) in none)))
    ∙ append-nil (text node x) ∙ ap (text node) same ∙ ap (λ (n : ℕ). text n plan) here
of_nodes-one text node (x ∷ plans) (suc m) plan at others =
    let here : node ≡ node + 0 = omega arith in
    let next : node + 1 + m ≡ node + suc m = omega arith in
    ap (λ (t : List ℕ). t ++ of_nodes text (node + 1) plans)
    (ap (λ (n : ℕ). text n x) here ∙ others 0 x refl (λ is. let none : ⊥ = omega (arith, is) in none))
    ∙ of_nodes-one text (node + 1) plans m plan at
    (λ place other there differ.
    let after : node + 1 + place ≡ node + suc place = omega arith in
    ap (λ (n : ℕ). text n other) after ∙ others (suc place) other there (λ same. differ (omega (arith, same))))
    ∙ ap (λ (n : ℕ). text n plan) next

-- a line that begins at a cycle is for it
begun_claims : (slot : ℕ) (channel : Channel) (base : ℕ) (own : Own) → IsOwn own
    → begins_at slot channel base own ≡ true
    → claims slot channel base own ≡ true
begun_claims slot channel base own lawful begins =
    let (front, first) = and_parts (own.slot == slot && includes own.channels channel)
    (own.cycles.base == base) begins in
    let base_is = eqb-true own.cycles.base base first in
    let below : base < own.cycles.repetition = omega (arith, base_is, lawful.cycles_are.base_below) in
    and_from _ _ front (eq-eqb (base % own.cycles.repetition) own.cycles.base (mod-eq_of_lt below ∙ sym base_is))

-- if no line is for the cycle, none begins at it
unowned_text : (slot : ℕ) (channel : Channel) (base node : ℕ) (owned : List Own) → Each IsOwn owned
    → is_owned owned slot channel base ≡ false
    → flat_map (own_text slot channel base node) owned ≡ []
unowned_text slot channel base node [] lawful unowned = refl
unowned_text slot channel base node (own ∷ owned) lawful unowned =
    let (here, later) = or_parts (claims slot channel base own) (is_owned owned slot channel base) unowned in
    ap (λ (text : List ℕ). text ++ flat_map (own_text slot channel base node) owned)
    (cond-false (begins_at slot channel base own) (slot_line slot channel node own.cycles) []
    (false_from_ne_true _ (λ begins. both_ways _ here (begun_claims slot channel base own lawful.0 begins))))
    ∙ unowned_text slot channel base node owned lawful.1 later

module _ (d : Description) (lawful : IsCluster d) (slot : ℕ) (channel : Channel) (base : ℕ)
    (static : is_static_slot d.params slot ≡ true) where
  owner_is : (n : ℕ) (plan : Plan) → slice_get d.plans n ≡ Some plan → is_owned plan.owned slot channel base ≡ true
      → IsSender d base slot channel n
  owner_is n plan at owns = record {
    plan = plan;
    at = at;
    sends = cond-true (is_static_slot d.params slot) (is_owned plan.owned slot channel base)
        (list_any (sends_at slot channel base) plan.buffers) static ∙ owns;
  }

  no_line : (n : ℕ) (plan : Plan) → slice_get d.plans n ≡ Some plan → (IsSender d base slot channel n → ⊥) → (node : ℕ)
      → owner_text slot channel base node plan ≡ []
  no_line n plan at never node =
      unowned_text slot channel base node plan.owned (each_at
      (IsNode d.params) d.plans n plan lawful.nodes_are at).0.owned_are
      (false_from_ne_true _ (λ owns. never (owner_is n plan at owns)))

  from_zero : (n : ℕ) → 0 + n ≡ n
  from_zero n = omega arith

  -- only the sender can have a line that begins there
  pub owner_line : base < 64 → (n : ℕ) (plan : Plan) → slice_get d.plans n ≡ Some plan → IsSender d base slot channel n
      → base_text d.plans slot channel base ≡ owner_text slot channel base n plan
  owner_line few n plan at sender =
      of_nodes-one (owner_text slot channel base) 0 d.plans n plan at
      (λ place other there differ.
      no_line place other there (λ sends. differ (lawful.one_sender base slot channel place n few sends sender))
      (0 + place))
      ∙ ap (λ (k : ℕ). owner_text slot channel base k plan) (from_zero n)

  pub no_owner : ((n : ℕ) → IsSender d base slot channel n → ⊥) → base_text d.plans slot channel base ≡ []
  no_owner never = of_nodes-none (owner_text slot channel base) 0 d.plans
      (λ place plan at. no_line place plan at (never place) (0 + place))

-- ---- no line begins at a cycle from the greatest repetition on

each_front : {X : Type 0} (P : X → Type 0) (xs ys : List X) → Each P (xs ++ ys) → Each P xs × Each P ys
each_front P [] ys all = (tt, all)
each_front P (x ∷ xs) ys all = let (front, back) = each_front P xs ys all.1 in ((all.0, front), back)

-- what holds for all lines holds for those of a node
of_plan : (P : Own → Type 0) (plans : List Plan) (n : ℕ) (plan : Plan) → Each P (all_owned plans)
    → slice_get plans n ≡ Some plan → Each P plan.owned
of_plan P [] n plan all at = cc at
of_plan P (first ∷ plans) zero plan all at =
    subst (λ (x : Plan). Each P x.owned) (same_Some first plan at) (each_front P first.owned (all_owned plans) all).0
of_plan P (first ∷ plans) (suc n) plan all at = of_plan P plans n plan
    (each_front P first.owned (all_owned plans) all).1 at

late_text : (slot : ℕ) (channel : Channel) (base node most : ℕ) (owned : List Own) → Each IsOwn owned
    → AreWithin most owned → most ≤ base
    → flat_map (own_text slot channel base node) owned ≡ []
late_text slot channel base node most [] lawful within late = refl
late_text slot channel base node most (own ∷ owned) lawful within late =
    ap (λ (text : List ℕ). text ++ flat_map (own_text slot channel base node) owned)
    (cond-false (begins_at slot channel base own) (slot_line slot channel node own.cycles) []
    (false_from_ne_true _ (λ begins.
    let (front, first) = and_parts (own.slot == slot && includes own.channels channel)
    (own.cycles.base == base) begins in
    let base_is = eqb-true own.cycles.base base first in
    let no : ⊥ = omega (arith, base_is, lawful.0.cycles_are.base_below, within.0, late) in no)))
    ∙ late_text slot channel base node most owned lawful.1 within.1 late

none_begins : (d : Description) → IsCluster d → (slot : ℕ) (channel : Channel) (base : ℕ) → cycles_told d ≤ base
    → base_text d.plans slot channel base ≡ []
none_begins d lawful slot channel base late =
    of_nodes-none (owner_text slot channel base) 0 d.plans
    (λ place plan at.
    late_text slot channel base (0 + place) (cycles_told d) plan.owned
    (each_at (IsNode d.params) d.plans place plan lawful.nodes_are at).0.owned_are
    (of_plan (λ own. own.cycles.repetition ≤ cycles_told d) d.plans place plan (within_period (all_owned d.plans)) at)
    late)

nothing_from : (text : ℕ → List ℕ) (first : ℕ) → ((n : ℕ) → first ≤ n → text n ≡ []) → (count : ℕ)
    → flat_map text (range_with_len first count) ≡ []
nothing_from text first none zero = refl
nothing_from text first none (suc count) =
    ap (λ (t : List ℕ). t ++ flat_map text (range_with_len (first + 1) count)) (none first (omega arith))
    ∙ nothing_from text (first + 1) (λ n le. none n (omega arith)) count

range-split : (first m n : ℕ) → range_with_len first (m + n) ≡ range_with_len first m ++ range_with_len (first + m) n
range-split first zero n =
    let none : 0 + n ≡ n = omega arith in
    let here : first ≡ first + 0 = omega arith in
    ap (range_with_len first) none ∙ ap (λ (k : ℕ). range_with_len k n) here
range-split first (suc m) n =
    let all : suc m + n ≡ suc (m + n) = omega arith in
    let next : first + 1 + m ≡ first + suc m = omega arith in
    ap (range_with_len first) all
    ∙ ap (λ (xs : List ℕ). first ∷ xs) (range-split (first + 1) m n ∙ ap
    (λ (k : ℕ). range_with_len (first + 1) m ++ range_with_len k n) next)

-- the lines of the cycles below the greatest repetition are all lines
pub owners_all : (d : Description) → IsCluster d → (slot : ℕ) (channel : Channel) (cycles : ℕ) → cycles ≡ cycles_told d
    → cycles ≤ 64
    → flat_map (base_text d.plans slot channel) (range_with_len 0 cycles) ≡ owners_text d.plans slot channel
unfolding owners_text
owners_all d lawful slot channel cycles is few =
    let text = base_text d.plans slot channel in
    let all : 64 ≡ cycles + (64 - cycles) = omega (arith, few) in
    sym (ap (λ (n : ℕ). flat_map text (range_with_len 0 n)) all
    ∙ ap (flat_map text) (range-split 0 cycles (64 - cycles))
    ∙ flat_map-append text (range_with_len 0 cycles) (range_with_len (0 + cycles) (64 - cycles))
    ∙ ap (λ (t : List ℕ). flat_map text (range_with_len 0 cycles) ++ t)
    (nothing_from text (0 + cycles) (λ n le. none_begins d lawful slot channel n (omega (arith, is, le))) (64 - cycles))
    ∙ append-nil (flat_map text (range_with_len 0 cycles)))

-- ---- slots

range-more : (first count : ℕ) → range_with_len first (count + 1) ≡ range_with_len first count ++ (first + count) ∷ []
range-more first zero = ap (λ (n : ℕ). n ∷ []) (omega arith)
range-more first (suc count) =
    let next : suc count + 1 ≡ suc (count + 1) = omega arith in
    let here : first + 1 + count ≡ first + suc count = omega arith in
    ap (λ (n : ℕ). range_with_len first n) next
    ∙ ap (λ (xs : List ℕ). first ∷ xs) (range-more (first + 1) count ∙ ap
    (λ (n : ℕ). range_with_len (first + 1) count ++ n ∷ []) here)

-- one number more
pub one_more : (text : ℕ → List ℕ) (first count : ℕ) (old mid new : Option (List ℕ))
    → Appends old mid (flat_map text (range_with_len first count))
    → Appends mid new (text (first + count)) → Appends old new (flat_map text (range_with_len first (count + 1)))
one_more text first count old mid new before more =
    let texts = ap (flat_map text) (range-more first count)
    ∙ flat_map-append text (range_with_len first count) ((first + count) ∷ [])
    ∙ ap (λ (t : List ℕ). flat_map text (range_with_len first count) ++ t) (append-nil (text (first + count))) in
    subst (λ (t : List ℕ). Appends old new t) (sym texts) (Appends-trans old mid new
    (flat_map text (range_with_len first count)) (text (first + count)) before more)

-- ---- guards

pub no_guard : (d : Description) (old : Option (List ℕ)) → Adds (AreGuardTexts d 0) old old
no_guard d old = ([], refl, Appends-nil old)

pub one_guard : (d : Description) (node : ℕ) (old mid first new : Option (List ℕ)) → Adds (AreGuardTexts d node) old mid
    → Adds (AreCycleTexts d node A (cycles_told d)) mid first → Adds (AreCycleTexts d node B (cycles_told d)) first new
    → Adds (AreGuardTexts d (node + 1)) old new
one_guard d node old mid first new before on_a on_b =
    let (texts, texts_are, added) = before in
    let (a, a_is, added_a) = on_a in
    let (b, b_is, added_b) = on_b in (
      texts ++ a ++ b,
      subst (λ (n : ℕ). AreGuardTexts d n (texts ++ a ++ b)) (sym (add-one node))
          (texts, a, b, texts_are, a_is, b_is, refl),
      Appends-trans old first new (texts ++ a) b (Appends-trans old mid first texts a added added_a) added_b,
    )

pub no_cycle : (d : Description) (node : ℕ) (channel : Channel) (old : Option (List ℕ))
    → Adds (AreCycleTexts d node channel 0) old old
no_cycle d node channel old = ([], refl, Appends-nil old)

pub one_cycle : (d : Description) (node : ℕ) (channel : Channel) (cycle : ℕ) (old mid new : Option (List ℕ))
    → Adds (AreCycleTexts d node channel cycle) old mid
    → Adds (IsGuardText d node channel cycle) mid new → Adds (AreCycleTexts d node channel (cycle + 1)) old new
one_cycle d node channel cycle old mid new before here =
    let (texts, texts_are, added) = before in
    let (last, last_is, added_last) = here in (
      texts ++ last,
      subst (λ (n : ℕ). AreCycleTexts d node channel n (texts ++ last)) (sym (add-one cycle))
          (texts, last, texts_are, last_is, refl),
      Appends-trans old mid new texts last added added_last,
    )

-- ---- the plan

-- the parts of a plan's text; the last one is written only after success
pub plan_done : {X E : Type 0} (r : Result X E) (d : Description) (nodes : ℕ) (old first second new : Option (List ℕ))
    → nodes ≡ length d.plans
    → Appends old first (static_text d) → Appends first second (dynamic_text d)
    → OnOk r (Adds (AreGuardTexts d nodes) second new)
    → OnOk r (Adds (IsPlanText d) old new)
plan_done (Err e) d nodes old first second new all slots buffers guards = tt
plan_done (Ok x) d nodes old first second new all slots buffers guards =
    let (texts, texts_are, added) = guards in (
      static_text d ++ dynamic_text d ++ texts,
      record { guards = texts; guards_are = subst (λ (n : ℕ). AreGuardTexts d n texts) all texts_are; text_is = refl },
      Appends-trans old second new (static_text d ++ dynamic_text d) texts
          (Appends-trans old first second (static_text d) (dynamic_text d) slots buffers) added,
    )
