-- The greatest number of cycles of a run without history.
use Rattle.std.proofs.Common.{◌≡◌, ℕ, ◌*◌, ◌/◌, ◌≤◌, min, true, ap₂, arith}
use Rattle.std.proofs.lemmas.Bool.{and_parts, leb-true, le-leb}
use Rattle.std.proofs.lemmas.Nat.{div-add-mod', le-div, mul-le}
use Rattle.std.specs.Prelude.{nat_le, ◌&&◌}
use Rattle.fr_bus.specs.Courses.{opportunities}
use Rattle.fr_bus.specs.Live.{cycles_suit, most_live_cycles}
use Rattle.fr_slots.specs.Parameters.{Parameters}

module _ (p : Parameters) (some : 1 ≤ opportunities p) (result : ℕ)
    (is : result ≡ min 4000000 (1610612734 / opportunities p)) where
  few : result ≤ 1610612734 / opportunities p
  few = omega (arith, is)

  most : result ≤ 4000000
  most = omega (arith, is)

  within : result * opportunities p ≤ 1610612734
  within =
      let parts = div-add-mod' 1610612734 (opportunities p) in
      let below = mul-le result (opportunities p) (1610612734 / opportunities p) (opportunities p) few (omega arith) in
      omega (arith, parts, below)

  pub result_suits : opportunities p ≤ 20000 → cycles_suit p result ≡ true
  result_suits fit =
      let above = le-div 1 1610612734 (opportunities p) (omega (arith, some)) (omega (arith, fit)) in
      let one : nat_le 1 result ≡ true = le-leb 1 result (omega (arith, is, above)) in
      let two : nat_le result most_live_cycles ≡ true = le-leb result most_live_cycles most in
      let three : nat_le (result * opportunities p) 1610612734 ≡ true =
      le-leb (result * opportunities p) 1610612734 within in
      ap₂ (λ x y. x && y) (ap₂ (λ x y. x && y) one two) three

  pub result_greatest : (cycles : ℕ) → cycles_suit p cycles ≡ true → cycles ≤ result
  result_greatest cycles suits =
      let (front, third) = and_parts (nat_le 1 cycles && nat_le cycles most_live_cycles)
      (nat_le (cycles * opportunities p) 1610612734) suits in
      let (first, second) = and_parts (nat_le 1 cycles) (nat_le cycles most_live_cycles) front in
      let up = leb-true cycles most_live_cycles second in
      let fits = leb-true (cycles * opportunities p) 1610612734 third in
      let quotient = le-div cycles 1610612734 (opportunities p) (omega (arith, some)) fits in
      omega (arith, is, up, quotient)
