-- The rows of slots, from the minislots at which each slot can begin.
use Rattle.std.proofs.Common.{◌≡◌, ℕ, zero, suc, ◌+◌, ◌-◌, ◌<◌, ◌≤◌, eqb, List, [], ◌∷◌, ◌++◌, length, get_or}
use Rattle.std.proofs.Common.{sym, ap, ◌∙◌, subst, arith, Some, slice_get}
use Rattle.fr_slots.specs.declared.channel.Channel.{Channel}
use Rattle.fr_slots.specs.Numbers.{cycle_count}
use Rattle.fr_schedule.specs.Clusters.{IsCluster}
use Rattle.fr_schedule.specs.Descriptions.{Description}
use Rattle.fr_latency.specs.Cells.{HasBits, CycleTest, has_bit}
use Rattle.fr_latency.specs.Openings.{can_begin, greatest, horizon}
use Rattle.fr_latency.specs.Rows.{AreLast, BeginsRightAfter, IsRow}
use Rattle.fr_latency.proofs.BeginLemmas.{frames_have_lengths, starts_after, starts_first, begins_none}
use Rattle.fr_latency.proofs.CellLemmas.{bits_same}
use Rattle.fr_latency.proofs.GreatestLemmas.{greatest_moved, greatest_none, greatest_bounds}
use Rattle.std.proofs.Common.{ltb, leb, inl, inr}
use Rattle.std.proofs.lemmas.Bool.{cases_lt, lt-ltb, le-ltb, le-leb}

-- ---- one slot

pub last_moved : (earlier cycle most place : ℕ) (cells : List ℕ) (test : CycleTest) → earlier < most
    → most ≤ earlier + length cells → cycle < cycle_count → BeginsRightAfter earlier test
    → HasBits (earlier + 1) test cells
    → place ≡ greatest (λ index. has_bit (get_or cells index 0) cycle) (most - earlier - 1)
    → earlier + 1 + place ≡ greatest (test cycle) most
last_moved earlier cycle most place cells test some room within right bits is =
    let n : ℕ = most - earlier - 1 in
    let whole : earlier + 1 + n ≡ most = omega arith in
    ap (λ k. earlier + 1 + k) is
    ∙ sym (greatest_moved (test cycle) (λ index. has_bit (get_or cells index 0) cycle) (earlier + 1) n (omega arith)
    (right.first cycle) (λ i few. bits i cycle (omega arith) within))
    ∙ ap (greatest (test cycle)) whole

pub last_none : (earlier cycle most : ℕ) (test : CycleTest) → most ≤ earlier → BeginsRightAfter earlier test
    → 0 ≡ greatest (test cycle) most
last_none earlier cycle most test few right =
    sym (greatest_none (test cycle) most (λ m less. right.above cycle m (omega arith)))

pub begins_right : (d : Description) (channel : Channel) (earlier : ℕ) → IsCluster d
    → BeginsRightAfter earlier (λ cycle minislot. can_begin d channel cycle earlier minislot)
begins_right d channel earlier is = record {
  first = λ cycle. starts_first d channel cycle earlier;
  above = λ cycle minislot few. starts_after d channel cycle earlier minislot
      (frames_have_lengths d.params is.params_are) few;
}

pub is_row : (d : Description) (channel : Channel) (earlier : ℕ) (begin opening : List ℕ)
    → AreLast (λ cycle minislot. can_begin d channel cycle earlier minislot) (horizon d.params earlier) begin
    → AreLast (λ cycle minislot. can_begin d channel cycle earlier minislot) d.params.minislots opening
    → IsRow d channel earlier (record { begin = begin; opening = opening })
is_row d channel earlier begin opening begins opens = record { begins = begins; openings = opens }

pub first_slot : (d : Description) (channel : Channel) (cells : List ℕ)
    → HasBits 1 (λ cycle minislot. eqb minislot 1) cells
    → HasBits 1 (λ cycle minislot. can_begin d channel cycle 0 minislot) cells
first_slot d channel cells is =
    bits_same 1 (λ cycle minislot. eqb minislot 1) (λ cycle minislot. can_begin d channel cycle 0 minislot) cells
    (λ cycle minislot. sym (begins_none d channel cycle minislot)) is

-- ---- one more

pub pushed : {X : Type 0} (P : ℕ → X → Type 0) (xs : List X) (x : X)
    → ((k : ℕ) (y : X) → slice_get xs k ≡ Some y → P k y) → P (length xs) x
    → (k : ℕ) (y : X) → slice_get (xs ++ x ∷ []) k ≡ Some y → P k y
pushed P [] x each here zero y at = let same : x ≡ y = cc in subst (P 0) same here
pushed P [] x each here (suc k) y at = absurd (cc)
pushed P (z ∷ zs) x each here zero y at = each zero y at
pushed P (z ∷ zs) x each here (suc k) y at = pushed (λ n. P (suc n)) zs x (λ n w a. each (suc n) w a) here k y at

pub none_pushed : {X : Type 0} (P : ℕ → X → Type 0) → (k : ℕ) (y : X) → slice_get [] k ≡ Some y → P k y
none_pushed P k y at = absurd (cc)

-- ---- the earliest minislot

-- a slot can begin up to a minislot, if there are more minislots than slots before it
pub begins_in_time : (d : Description) (channel : Channel) (cycle earlier latest : ℕ) → IsCluster d
    → ltb earlier latest ≡ leb 1 (greatest (can_begin d channel cycle earlier) latest)
begins_in_time d channel cycle earlier latest is =
    let test = can_begin d channel cycle earlier in
    elim (cases_lt earlier latest) as (λ _. ltb earlier latest ≡ leb 1 (greatest test latest)) [
      | inl less ↦
          let bound : earlier + 1 ≤ greatest test latest =
          greatest_bounds test latest (earlier + 1) (omega arith) (starts_first d channel cycle earlier) in
          lt-ltb earlier latest less ∙ sym (le-leb 1 (greatest test latest) (omega arith))
      | inr more ↦
          let none : greatest test latest ≡ 0 = greatest_none test latest
          (λ m few. starts_after d channel cycle earlier m (frames_have_lengths d.params is.params_are)
          (omega arith)) in
          le-ltb earlier latest more ∙ sym (ap (leb 1) none)
    ]
