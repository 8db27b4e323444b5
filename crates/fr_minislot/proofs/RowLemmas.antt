-- One more row.
use Rattle.std.proofs.Common.{◌≡◌, ℕ, zero, suc, ◌+◌, ◌*◌, ◌≤◌, inl, inr, List, [], ◌∷◌, ◌++◌, true}
use Rattle.std.proofs.Common.{length-append, refl, ap, ◌∙◌, sym, arith}
use Rattle.std.proofs.lemmas.Bool.Decides.{eqb_tells}
use Rattle.std.proofs.lemmas.Grind.{div_ceil_times}
use Rattle.std.specs.Int.{div_ceil}
use Rattle.std.proofs.lemmas.List.Sums.{sum_by-append}
use Rattle.fr_minislot.specs.Lanes.{Standing, standing_after, closed, IsStanding}
use Rattle.fr_minislot.specs.DynamicRows.{first_minislot, slot_after, row_length, is_row, has_row_after}
use Rattle.fr_slots.proofs.HistoryLemmas.{AllAfter-snoc}
use Rattle.fr_slots.specs.History.{AllAfter}
use Rattle.fr_slots.specs.Parameters.{Parameters}

slot_more : (p : Parameters) (counts : List ℕ) (bytes : ℕ) → slot_after p (counts ++ bytes ∷ []) ≡ slot_after p counts +
    1
slot_more p counts bytes = omega (arith, length-append counts (bytes ∷ []))

minislot_more : (p : Parameters) (counts : List ℕ) (bytes : ℕ)
    → first_minislot p (counts ++ bytes ∷ []) ≡ first_minislot p counts + row_length p bytes
minislot_more p counts bytes = omega (arith, sum_by-append (row_length p) counts (bytes ∷ []))

-- a lane that closes a row is the lane after that row too
pub closed_more : (p : Parameters) (counts : List ℕ) (bytes : ℕ)
    → closed (standing_after p counts) bytes ≡ standing_after p (counts ++ bytes ∷ [])
closed_more p counts bytes = λ i. record {
  params = p;
  slot = sym (slot_more p counts bytes) i;
  begins =
      sym (minislot_more p counts bytes) i;
}

pub closed_rows : (s : Standing) (bytes : ℕ) (counts : List ℕ) → s ≡ standing_after s.params counts
    → closed s bytes ≡ standing_after s.params (counts ++ bytes ∷ [])
closed_rows s bytes counts e = ap (λ (t : Standing). closed t bytes) e ∙ closed_more s.params counts bytes

-- so it is a lane
pub closed_stands : (s : Standing) (bytes : ℕ) → is_row s.params s.slot s.begins ≡ true → IsStanding s
    → IsStanding (closed s bytes)
closed_stands s bytes opened is =
    let there : has_row_after s.params is.counts ≡ true = ap (λ (t : Standing). is_row s.params t.slot t.begins)
    (sym is.stands) ∙ opened in
    record {
      counts = is.counts ++ bytes ∷ [];
      are_rows = AllAfter-snoc (λ before count. has_row_after s.params before ≡ true) is.counts bytes is.are_rows there;
      stands = closed_rows s bytes is.counts is.stands;
    }

-- a new lane is one too
pub new_stands : (p : Parameters) → IsStanding (standing_after p [])
unfolding AllAfter
new_stands p = record { counts = []; are_rows = tt; stands = refl }

some_times : (q n a : ℕ) → a ≤ q * n → 1 ≤ a → 1 ≤ q
some_times zero n a few some = omega (arith, few, some)
some_times (suc q) n a few some = omega arith

-- each row has a minislot
pub row_has_one : (p : Parameters) (bytes : ℕ) → 1 ≤ p.words_per_minislot → 1 ≤ row_length p bytes
row_has_one p bytes some = elim (eqb_tells bytes 0) [
  | inl none ↦ rw none.0 (omega arith)
  | inr other ↦ rw other.0 (omega (
    arith,
    some_times (div_ceil bytes (2 * p.words_per_minislot))
        (2 * p.words_per_minislot) bytes (div_ceil_times bytes (2 * p.words_per_minislot) (omega (arith, some))).0
        (omega (arith, other.1)),
  ))
]
