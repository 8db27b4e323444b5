-- The observations of the nodes of a bus, which stay in their places.
use Rattle.std.proofs.Common.{◌≡◌, ℕ, zero, suc, ◌+◌, ◌<◌, ◌≤◌, List, [], ◌∷◌, length, Option, Some, None, refl}
use Rattle.std.proofs.Common.{sym, ap, subst, ◌∙◌, arith, slice_get}
use Rattle.std.specs.Prelude.{slice_set, ◌-◌}
use Rattle.fr_bus.specs.Record.{Recorded, seen_by}
use Rattle.fr_bus.specs.States.{BusState, last_recorded, seen_last, seen_where}
use Rattle.fr_desks.specs.declared.letter.Observations.{Observations}
use Rattle.fr_desks.specs.Letters.{AreSeen, sees}
use Rattle.fr_slots.specs.declared.channel.Channel.{Channel}
use Rattle.fr_slots.specs.declared.channel.Channel.TheVariants.{A, B}

-- ---- places

set_there : {X : Type 0} (xs : List X) (k : ℕ) (x : X) → k < length xs → slice_get (slice_set xs k x) k ≡ Some x
set_there [] k x within = absurd (let none : ⊥ = omega (arith, within) in none)
set_there (y ∷ ys) zero x within = refl
set_there (y ∷ ys) (suc k) x within = set_there ys k x (omega (arith, within))

set_after : {X : Type 0} (xs : List X) (k n : ℕ) (x : X) → n < k → slice_get (slice_set xs k x) n ≡ slice_get xs n
set_after [] k n x before = refl
set_after (y ∷ ys) zero n x before = absurd (let none : ⊥ = omega (arith, before) in none)
set_after (y ∷ ys) (suc k) zero x before = refl
set_after (y ∷ ys) (suc k) (suc n) x before = set_after ys k n x (omega (arith, before))

seen_kept : (b : BusState) (n k : ℕ) (xs : List Observations) (x : Observations) → n ≤ k → AreSeen b n xs
    → AreSeen b n (slice_set xs k x)
unfolding AreSeen
seen_kept b zero k xs x few seen = tt
seen_kept b (suc n) k xs x few seen =
    (seen_kept b n k xs x (omega (arith, few)) seen.0, set_after xs k n x (omega (arith, few)) ∙ seen.1)

pub seen_none : (b : BusState) (xs : List Observations) → AreSeen b zero xs
unfolding AreSeen
seen_none b xs = tt

-- the next node's observations
pub seen_more : (b : BusState) (n : ℕ) (xs ys : List Observations) → n < length xs → ys ≡ slice_set xs n (sees b n)
    → AreSeen b n xs → AreSeen b (n + 1) ys
unfolding AreSeen
seen_more b n xs ys within set seen =
    let both : AreSeen b (suc n) (slice_set xs n (sees b n)) =
    (seen_kept b n n xs (sees b n) (omega arith) seen, set_there xs n (sees b n) within) in
    let next : suc n ≡ n + 1 = omega arith in
    subst (λ (m : ℕ). AreSeen b m ys) next (subst (AreSeen b (suc n)) (sym set) both)

-- ---- two buses with the same cluster and the same record

seen_where_same : (b c : BusState) (o : Option Recorded) (channel : Channel) (n : ℕ) → b.cluster ≡ c.cluster
    → seen_where b o channel n ≡ seen_where c o channel n
seen_where_same b c None channel n same = refl
seen_where_same b c (Some r) channel n same = λ j. seen_by (same j).params r channel n

seen_last_same : (b c : BusState) (channel : Channel) (n : ℕ) → b.cluster ≡ c.cluster → b.sealed ≡ c.sealed
    → seen_last b channel n ≡ seen_last c channel n
seen_last_same b c channel n same sealed =
    ap (λ (rs : List Recorded). seen_where b (slice_get rs (length rs - 1)) channel n) sealed
    ∙ seen_where_same b c (last_recorded c) channel n same

pub sees_same : (b c : BusState) (n : ℕ) → b.cluster ≡ c.cluster → b.sealed ≡ c.sealed → sees b n ≡ sees c n
sees_same b c n same sealed = λ j. record {
  a = seen_last_same b c A n same sealed j;
  b = seen_last_same b c B n same sealed j;
}
