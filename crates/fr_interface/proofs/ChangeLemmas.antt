-- One changed element of a list, and lists with an element for each buffer.
use Rattle.std.proofs.Common.{◌≡◌, ℕ, zero, suc, ◌+◌, ◌≤◌, ◌<◌, Bool, true, false, cond, eqb, List, [], ◌∷◌, set}
use Rattle.std.proofs.Common.{get_or, length, map, Some, refl, sym, ap, subst, ◌∙◌, arith, option_map, eq-eqb}
use Rattle.std.specs.Prelude.{slice_get}
use Rattle.std.proofs.lemmas.Bool.{eqb-true}
use Rattle.fr_buffers.specs.Transmitting.{Transmitter}
use Rattle.fr_interface.specs.Known.{each_buffer, change_at}
use Rattle.fr_slots.specs.declared.plan.Buffer.{Buffer}
use Rattle.fr_slots.specs.declared.plan.Mode.{Mode}

module _ {X : Type 0} where
  -- writing the changed element of a place
  pub change_at-set : (f : X → X) (xs : List X) (place : ℕ) (x : X) → place < length xs → x ≡ get_or xs place x
      → set xs place (f x) ≡ change_at f xs place
  change_at-set f [] place x lt is = absurd (omega (arith, lt))
  change_at-set f (y ∷ xs) zero x lt is = ap (λ (z : X). f z ∷ xs) is
  change_at-set f (y ∷ xs) (suc place) x lt is = ap (λ (rest : List X). y ∷ rest)
      (change_at-set f xs place x (omega (arith, lt)) is)

  -- the element at a place
  pub get-at : (xs : List X) (place : ℕ) (x : X) → place < length xs → x ≡ get_or xs place x
      → slice_get xs place ≡ Some x
  get-at [] place x lt is = absurd (omega (arith, lt))
  get-at (y ∷ xs) zero x lt is = ap (λ (z : X). Some z) (sym is)
  get-at (y ∷ xs) (suc place) x lt is = get-at xs place x (omega (arith, lt)) is

  -- no such place exists
  pub change_at-past : (f : X → X) (xs : List X) (place : ℕ) → length xs ≤ place → change_at f xs place ≡ xs
  change_at-past f [] place le = refl
  change_at-past f (y ∷ xs) zero le = absurd (omega (arith, le))
  change_at-past f (y ∷ xs) (suc place) le = ap (λ (rest : List X). y ∷ rest)
      (change_at-past f xs place (omega (arith, le)))

-- ---- an element for each buffer

pub length-each : (f : ℕ → Mode → Transmitter) (number : ℕ) (buffers : List Buffer)
    → length (each_buffer f number buffers) ≡ length buffers
length-each f number [] = refl
length-each f number (b ∷ buffers) = ap suc (length-each f (number + 1) buffers)

pub each-same : (f g : ℕ → Mode → Transmitter) (number : ℕ) (buffers : List Buffer)
    → ((n : ℕ) (mode : Mode) → f n mode ≡ g n mode) → each_buffer f number buffers ≡ each_buffer g number buffers
each-same f g number [] same = refl
each-same f g number (b ∷ buffers) same = λ i. same number b.mode i ∷ each-same f g (number + 1) buffers same i

-- the same, if only the existing buffers count
pub each-same_there : (f g : ℕ → Mode → Transmitter) (number : ℕ) (buffers : List Buffer)
    → ((place : ℕ) (b : Buffer) → slice_get buffers place ≡ Some b
    → f (number + place) b.mode ≡ g (number + place) b.mode)
    → each_buffer f number buffers ≡ each_buffer g number buffers
each-same_there f g number [] same = refl
each-same_there f g number (b ∷ buffers) same =
    let first : number + 0 ≡ number = omega arith in
    let head : f number b.mode ≡ g number b.mode = subst (λ (n : ℕ). f n b.mode ≡ g n b.mode) first (same 0 b refl) in
    let tail : each_buffer f (number + 1) buffers ≡ each_buffer g (number + 1) buffers =
    each-same_there f g (number + 1) buffers (λ place c there. later place c (same (suc place) c there)) in
    λ i. head i ∷ tail i
  where
    later : (place : ℕ) (c : Buffer) → f (number + suc place) c.mode ≡ g (number + suc place) c.mode
        → f ((number + 1) + place) c.mode ≡ g ((number + 1) + place) c.mode
    later place c h = let next : number + suc place ≡ (number + 1) + place =
        omega arith in subst (λ (n : ℕ). f n c.mode ≡ g n c.mode) next h

get_each_from : (f : ℕ → Mode → Transmitter) (number place : ℕ) (buffers : List Buffer)
    → slice_get (each_buffer f number buffers) place ≡ option_map (λ (b : Buffer). f (number + place) b.mode)
    (slice_get buffers place)
get_each_from f number place [] = refl
get_each_from f number zero (b ∷ buffers) = let here : number ≡ number + 0 =
    omega arith in ap (λ (n : ℕ). Some (f n b.mode)) here
get_each_from f number (suc place) (b ∷ buffers) =
    let next : (number + 1) + place ≡ number + suc place = omega arith in
    get_each_from f (number + 1) place buffers ∙ ap (λ (n : ℕ). option_map (λ (c : Buffer). f n c.mode)
    (slice_get buffers place)) next

pub get_each : (f : ℕ → Mode → Transmitter) (place : ℕ) (buffers : List Buffer)
    → slice_get (each_buffer f 0 buffers) place ≡ option_map (λ (b : Buffer). f place b.mode) (slice_get buffers place)
get_each f place buffers =
    let here : 0 + place ≡ place = omega arith in
    get_each_from f 0 place buffers ∙ ap (λ (n : ℕ). option_map (λ (b : Buffer). f n b.mode) (slice_get buffers place))
    here

-- the element of one number is changed
abbrev pub changed : (Transmitter → Transmitter) → ℕ → (ℕ → Mode → Transmitter) → ℕ → Mode → Transmitter
changed c number f n mode = cond (eqb n number) (c (f n mode)) (f n mode)

same_number : (n : ℕ) → eqb n n ≡ true
same_number n = eq-eqb n n refl

-- the buffers after the changed one
each-after : (c : Transmitter → Transmitter) (f : ℕ → Mode → Transmitter) (number wanted : ℕ) (buffers : List Buffer)
    → wanted < number
    → each_buffer f number buffers ≡ each_buffer (changed c wanted f) number buffers
each-after c f number wanted [] lt = refl
each-after c f number wanted (b ∷ buffers) lt =
    let other : eqb number wanted ≡ false = above number wanted (eqb number wanted) refl lt in
    λ i. ap (λ (t : Bool). cond t (c (f number b.mode)) (f number b.mode)) (sym other) i ∷ each-after c f
    (number + 1) wanted buffers (omega (arith, lt)) i
  where
    above : (m n : ℕ) (t : Bool) → eqb m n ≡ t → n < m → eqb m n ≡ false
    above m n true test lt = absurd (omega (arith, lt, eqb-true m n test))
    above m n false test lt = test

change_each_from : (c : Transmitter → Transmitter) (f : ℕ → Mode → Transmitter) (number place : ℕ)
    (buffers : List Buffer)
    → change_at c (each_buffer f number buffers) place ≡ each_buffer (changed c (number + place) f) number buffers
change_each_from c f number place [] = refl
change_each_from c f number zero (b ∷ buffers) =
    let here : eqb number (number + 0) ≡ true = ap (eqb number) (let z : number + 0 ≡ number = omega arith in z) ∙
    same_number number in
    λ i. ap (λ (t : Bool). cond t (c (f number b.mode)) (f number b.mode)) (sym here) i ∷ each-after c f (number + 1)
    (number + 0) buffers (omega arith) i
change_each_from c f number (suc place) (b ∷ buffers) =
    let other : eqb number (number + suc place) ≡ false = below number (number + suc place)
    (eqb number (number + suc place)) refl (omega arith) in
    let next : (number + 1) + place ≡ number + suc place = omega arith in
    let rest : change_at c (each_buffer f (number + 1) buffers) place ≡ each_buffer (changed c (number + suc place) f)
    (number + 1) buffers =
    change_each_from c f (number + 1) place buffers ∙ ap (λ (n : ℕ). each_buffer (changed c n f) (number + 1) buffers)
    next in
    λ i. ap (λ (t : Bool). cond t (c (f number b.mode)) (f number b.mode)) (sym other) i ∷ rest i
  where
    below : (m n : ℕ) (t : Bool) → eqb m n ≡ t → m < n → eqb m n ≡ false
    below m n true test lt = absurd (omega (arith, lt, eqb-true m n test))
    below m n false test lt = test

pub change_each : (c : Transmitter → Transmitter) (f : ℕ → Mode → Transmitter) (place : ℕ) (buffers : List Buffer)
    → change_at c (each_buffer f 0 buffers) place ≡ each_buffer (changed c place f) 0 buffers
change_each c f place buffers =
    let here : 0 + place ≡ place = omega arith in
    change_each_from c f 0 place buffers ∙ ap (λ (n : ℕ). each_buffer (changed c n f) 0 buffers) here

-- the same for each buffer, of any number
pub each-mapped : (g : Mode → Transmitter) (f : ℕ → Mode → Transmitter) (number : ℕ) (buffers : List Buffer)
    → ((n : ℕ) (mode : Mode) → f n mode ≡ g mode)
    → map (λ (b : Buffer). g b.mode) buffers ≡ each_buffer f number buffers
each-mapped g f number [] same = refl
each-mapped g f number (b ∷ buffers) same = λ i. sym (same number b.mode) i ∷ each-mapped g f (number + 1) buffers same
    i
