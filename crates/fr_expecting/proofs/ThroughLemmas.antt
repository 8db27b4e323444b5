-- The entries of a journal through some cycles, by the entries before a place and those that are left.
use Rattle.std.proofs.Common.{◌≡◌, ℕ, zero, suc, ◌+◌, ◌-◌, ◌≤◌, Bool, true, false, cond, ◌&&◌, List, [], ◌∷◌, ◌++◌}
use Rattle.std.proofs.Common.{length, take, drop, Some, refl, sym, ap, ◌∙◌, append-nil, arith}
use Rattle.std.specs.Prelude.{◌==◌, count_by, slice_get}
use Rattle.std.proofs.lemmas.Bool.{ne_eqb}
use Rattle.std.proofs.lemmas.List.Sums.{sum_by-append}
use Rattle.fr_journal.specs.Cycles.{begins_cycle_at}
use Rattle.fr_expecting.proofs.PlaceLemmas.{here, nothing_left}
use Rattle.fr_expecting.specs.Expected.{through}
use Rattle.fr_journal.specs.Forms.{Entry}

-- the number of cycles that some entries began
abbrev pub begun_in : List Entry → ℕ
begun_in es = count_by begins_cycle_at es

next : (n : ℕ) (e : Entry) (es : List Entry) (b : Bool) → begins_cycle_at e ≡ b
    → through n (e ∷ es) ≡ cond (b && n == 0) [] (e ∷ through (cond b (n - 1) n) es)
unfolding through
next n e es b is = λ i. cond (is i && n == 0) [] (e ∷ through (cond (is i) (n - 1) n) es)

through_begin : (m : ℕ) (e : Entry) (es : List Entry) → begins_cycle_at e ≡ true
    → through (suc m) (e ∷ es) ≡ e ∷ through m es
through_begin m e es is =
    let less : suc m - 1 ≡ m = omega arith in
    let some : (suc m == 0) ≡ false = ne_eqb (suc m) 0 (λ none. let no : ⊥ = omega (arith, none) in no) in
    next (suc m) e es true is
    ∙ ap (λ (b : Bool). cond b [] (e ∷ through (suc m - 1) es)) some
    ∙ ap (λ (n : ℕ). e ∷ through n es) less

through_other : (n : ℕ) (e : Entry) (es : List Entry) → begins_cycle_at e ≡ false
    → through n (e ∷ es) ≡ e ∷ through n es
through_other n e es is = next n e es false is

through_none : (e : Entry) (es : List Entry) → begins_cycle_at e ≡ true → through 0 (e ∷ es) ≡ []
through_none e es is = next 0 e es true is

count_with : (e : Entry) (es : List Entry) (b : Bool) → begins_cycle_at e ≡ b
    → begun_in (e ∷ es) ≡ cond b 1 0 + begun_in es
count_with e es b is =
    let one : ◌≡◌ {A = ℕ} (cond (begins_cycle_at e) 1 0) (cond b 1 0) = ap (λ (b : Bool). cond b 1 0) is in
    omega (arith, one, sum_by-append (λ (x : Entry). cond (begins_cycle_at x) 1 0) (e ∷ []) es)

-- the entries before a place, and then as many cycles as are left
pub through_front : (n k : ℕ) (es : List Entry) → begun_in (take k es) ≤ n
    → through n es ≡ take k es ++ through (n - begun_in (take k es)) (drop k es)
unfolding through
through_front n zero es few = let all : n ≡ n - 0 = omega arith in ap (λ (m : ℕ). through m es) all
through_front n (suc k) [] few = refl
through_front n (suc k) (e ∷ es) few = by_begin n few (begins_cycle_at e) refl (λ m. through_front m k es)
  where
    by_begin : (n : ℕ) → begun_in (e ∷ take k es) ≤ n → (b : Bool) → begins_cycle_at e ≡ b
        → ((m : ℕ) → begun_in (take k es) ≤ m
        → through m es ≡ take k es ++ through (m - begun_in (take k es)) (drop k es))
        → through n (e ∷ es) ≡ e ∷ take k es ++ through (n - begun_in (e ∷ take k es)) (drop k es)
    by_begin n few false is rest =
        let count : begun_in (e ∷ take k es) ≡ 0 + begun_in (take k es) = count_with e (take k es) false is in
        let less : begun_in (take k es) ≤ n = omega (arith, few, count) in
        let same : n - begun_in (take k es) ≡ n - begun_in (e ∷ take k es) = omega (arith, count) in
        through_other n e es is
        ∙ ap (λ (l : List Entry). e ∷ l) (rest n less)
        ∙ ap (λ (m : ℕ). e ∷ take k es ++ through m (drop k es)) same
    by_begin zero few true is rest = absurd (omega (arith, few, count_with e (take k es) true is))
    by_begin (suc m) few true is rest =
        let count : begun_in (e ∷ take k es) ≡ 1 + begun_in (take k es) = count_with e (take k es) true is in
        let less : begun_in (take k es) ≤ m = omega (arith, few, count) in
        let same : m - begun_in (take k es) ≡ suc m - begun_in (e ∷ take k es) = omega (arith, count) in
        through_begin m e es is
        ∙ ap (λ (l : List Entry). e ∷ l) (rest m less)
        ∙ ap (λ (m : ℕ). e ∷ take k es ++ through m (drop k es)) same

-- behind the last entry
pub through_all : (n k : ℕ) (es : List Entry) → begun_in (take k es) ≤ n → length es ≤ k → take k es ≡ through n es
unfolding through
through_all n k es few behind =
    sym (append-nil (take k es))
    ∙ sym (through_front n k es few ∙ ap
    (λ (l : List Entry). take k es ++ through (n - begun_in (take k es)) l) (nothing_left es k behind))

-- at the entry that begins the next cycle
pub through_next : (n k : ℕ) (e : Entry) (es : List Entry) → slice_get es k ≡ Some e → begins_cycle_at e ≡ true
    → begun_in (take k es) ≡ n → take k es ≡ through n es
through_next n k e es is begins count =
    let h = here es k e is in
    let none : n - begun_in (take k es) ≡ 0 = omega (arith, count) in
    sym (append-nil (take k es))
    ∙ sym (through_front n k es (omega (arith, count))
    ∙ (λ i. take k es ++ through (none i) (h.left i))
    ∙ ap (λ (l : List Entry). take k es ++ l) (through_none e (drop (k + 1) es) begins))

-- ---- the meaning of the end of a cycle

-- They are a front of the journal. If an entry follows, so many cycles began before it, and it begins the next one.
pub record IsEnd (n : ℕ) (es : List Entry) : Type 0 where
  pub rest : List Entry
  pub whole : es ≡ through n es ++ rest
  pub few : begun_in (through n es) ≤ n
  pub next_is : (e : Entry) → slice_get rest 0 ≡ Some e → (begins_cycle_at e ≡ true) × (begun_in (through n es) ≡ n)

pub through_is : (n : ℕ) (es : List Entry) → IsEnd n es
unfolding through
through_is n [] = record { rest = []; whole = refl; few = omega arith; next_is = λ e is. absurd cc }
through_is n (e ∷ es) = by_begin n (begins_cycle_at e) refl (λ m. through_is m es)
  where
    longer : (m n : ℕ) (b : Bool) → begins_cycle_at e ≡ b → through n (e ∷ es) ≡ e ∷ through m es
        → cond b 1 0 + m ≡ n → IsEnd m es → IsEnd n (e ∷ es)
    longer m n b is same count h =
        let more : begun_in (through n (e ∷ es)) ≡ cond b 1 0 + begun_in (through m es) =
        ap begun_in same ∙ count_with e (through m es) b is in
        record {
          rest = h.rest;
          whole =
              ap (λ (l : List Entry). e ∷ l) h.whole ∙ sym (ap (λ (l : List Entry). l ++ h.rest) same);
          few = omega (arith, more, h.few, count);
          next_is = λ f first. (
            (h.next_is f first).0,
            more ∙ ap (λ (k : ℕ). cond b 1 0 + k) (h.next_is f first).1 ∙ count,
          );
        }

    stopped : begins_cycle_at e ≡ true → IsEnd 0 (e ∷ es)
    stopped is =
        let none : through 0 (e ∷ es) ≡ [] = through_none e es is in
        record {
          rest = e ∷ es;
          whole = sym (ap (λ (l : List Entry). l ++ e ∷ es) none);
          few = omega (arith, ap begun_in none);
          next_is = λ f first.
              let same : e ≡ f = cc in
              (ap begins_cycle_at (sym same) ∙ is, ap begun_in none);
        }

    by_begin : (n : ℕ) (b : Bool) → begins_cycle_at e ≡ b → ((m : ℕ) → IsEnd m es) → IsEnd n (e ∷ es)
    by_begin n false is rest = longer n n false is (through_other n e es is) (omega arith) (rest n)
    by_begin zero true is rest = stopped is
    by_begin (suc m) true is rest = longer m (suc m) true is (through_begin m e es is) (omega arith) (rest m)
