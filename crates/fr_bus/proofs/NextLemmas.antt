-- The next dynamic window opens at the lesser of the minislots at which the two channels open their next slots.
use Rattle.std.proofs.Common.{◌≡◌, ℕ, suc, ◌+◌, ◌≤◌, Bool, true, false, cond, List, [], ◌∷◌, Option, Some, None, length}
use Rattle.std.proofs.Common.{refl, sym, ap, ◌∙◌, arith}
use Rattle.std.proofs.lemmas.Bool.{leb-true, ne_eqb}
use Rattle.std.specs.Prelude.{◌&&◌, ◌||◌, ◌==◌, ◌-◌, ◌%◌, nat_le, nat_lt, is_some, option_map}
use Rattle.std.specs.Option.{option_or}
use Rattle.fr_slots.specs.Windows.{static_window}
use Rattle.std.specs.List.{find, range_with_len}
use Rattle.fr_bus.proofs.LeastLemmas.{find_least}
use Rattle.fr_bus.specs.Courses.{course_of, inner_next, first_next, opening, next_of}
use Rattle.fr_bus.specs.Windows.{opens_any, opened_on, counts_on, least_of, following, this_cycle, statics_of}
use Rattle.fr_bus.specs.Record.{Recorded}
use Rattle.fr_minislot.specs.DynamicRows.{first_minislot, slot_after, has_row_after, last_slot}
use Rattle.fr_slots.specs.declared.channel.Channel.{Channel}
use Rattle.fr_slots.specs.declared.channel.Channel.TheVariants.{A, B}
use Rattle.fr_slots.specs.Parameters.{Parameters}

find_same : {X : Type 0} (f g : X → Bool) (xs : List X) → ((x : X) → f x ≡ g x) → find f xs ≡ find g xs
find_same f g [] same = refl
find_same f g (x ∷ xs) same =
    ap (λ (b : Bool). cond b (Some x) (find f xs)) (same x) ∙ ap (λ o. cond (g x) (Some x) o) (find_same f g xs same)

pub some_if : (b : Bool) (slot : ℕ) → is_some (cond b (Some slot) None) ≡ b
some_if true slot = refl
some_if false slot = refl

pub and_left : (p q : Bool) → (p && q) ≡ true → p ≡ true
and_left true q e = refl
and_left false q e = e

-- the minislot at which a channel opens its next slot, if it opens one
abbrev pub next_on : Parameters → Channel → List Recorded → Option ℕ
next_on p channel rows = cond (has_row_after p (counts_on channel rows))
    (Some (first_minislot p (counts_on channel rows))) None

within : (p : Parameters) (counts : List ℕ) → has_row_after p counts ≡ true
    → (1 ≤ first_minislot p counts) × (first_minislot p counts ≤ p.minislots)
within p counts e = (
  omega arith,
  leb-true (first_minislot p counts) p.minislots
      (and_left (nat_le (first_minislot p counts) p.minislots) (nat_le (slot_after p counts) last_slot) e),
)

pub next_minislot_is : (p : Parameters) (rows : List Recorded)
    → find (opens_any p rows) (range_with_len 1 p.minislots) ≡ least_of (next_on p A rows) (next_on p B rows)
next_minislot_is p rows =
    let a = counts_on A rows in
    let b = counts_on B rows in
    find_same (opens_any p rows) (λ m. (has_row_after p (counts_on A rows) && first_minislot p (counts_on A rows) == m)
    || (has_row_after p (counts_on B rows) && first_minislot p (counts_on B rows) == m))
    (range_with_len 1 p.minislots)
    (λ m. ap (λ c. c || is_some (opened_on p B rows m)) (some_if
    (has_row_after p (counts_on A rows) && first_minislot p (counts_on A rows) == m)
    (slot_after p (counts_on A rows)))
    ∙ ap (λ c. (has_row_after p (counts_on A rows) && first_minislot p (counts_on A rows) == m) || c)
    (some_if (has_row_after p (counts_on B rows) && first_minislot p (counts_on B rows) == m)
    (slot_after p (counts_on B rows))))
    ∙ find_least (has_row_after p a) (has_row_after p b) (first_minislot p a) (first_minislot p b) p.minislots
    (within p a) (within p b)

not_empty : {X : Type 0} (n : ℕ) (x y : X) → cond (suc n == 0) x y ≡ y
not_empty n x y = ap (λ b. cond b x y) (ne_eqb (suc n) 0 (λ same. let none : ⊥ = omega (arith, same) in none))

-- the window that follows those of a record is the next one of its course
pub next_is : (p : Parameters) (cycles : ℕ) (rs : List Recorded)
    → next_of (course_of p cycles rs) ≡ following p cycles rs
next_is p cycles [] = refl
next_is p cycles (r ∷ rs) =
    let done = this_cycle (r ∷ rs) in
    let c = course_of p cycles (r ∷ rs) in
    not_empty (length rs) (first_next c) (option_or (inner_next c) (first_next c))
    ∙ ap (λ (o : Option ℕ). option_or (cond (nat_lt (statics_of done) p.static_slots)
    (Some (static_window c.windows ((c.begun - 1) % 64) (c.statics + 1))) (option_map (opening c) o))
    (first_next c)) (sym (next_minislot_is p done))
