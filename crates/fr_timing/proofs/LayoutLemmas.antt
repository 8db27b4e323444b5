-- Places by multiplication and division are the places of the layout.
use Rattle.std.proofs.Common.{◌≡◌, ℕ, zero, suc, ◌+◌, ◌-◌, ◌*◌, ◌/◌, ◌%◌, ◌<◌, ◌≤◌, inl, inr, List, [], ◌∷◌, ◌++◌}
use Rattle.std.proofs.Common.{length, refl, sym, ap, subst, ◌∙◌, arith, Option, Some, None}
use Rattle.std.specs.Prelude.{Contains, IfSome, IsNone, ◌↔◌}
use Rattle.std.specs.List.{range_with_len}
use Rattle.std.proofs.lemmas.List.Elements.{Contains-append_cases, Contains-append_left, Contains-append_right}
use Rattle.std.proofs.lemmas.Bool.{cases_lt}
use Rattle.std.proofs.lemmas.Bool.Decides.{nat_tests}
use Rattle.std.proofs.lemmas.Nat.{div_below, mod_below, div-add-mod', mul-add-lt, div-mul-add, mod-mul-add}
use Rattle.fr_slots.specs.Parameters.{Parameters, IsParameters}
use Rattle.fr_timing.specs.declared.place.Place.{Place}
use Rattle.fr_timing.specs.declared.place.Place.TheVariants.{Static, Minislot, Symbol, Idle}
use Rattle.fr_timing.specs.Division.{place_at, start_at, start_in_row}
use Rattle.fr_timing.specs.Segments.{dynamic_start, symbol_start, idle_start, cycle_end}
use Rattle.fr_timing.specs.Layout.{Part, static_slot, minislot, symbol_window, idle_time, Stretch, numbered, Interval}
use Rattle.fr_timing.specs.Layout.{laid_from, layout, part_of, offset_of, IsAt}

-- ---- membership

Contains-head : {X : Type 0} (x : X) (xs : List X) → Contains (x ∷ xs) x
Contains-head x xs = (0, omega (arith, length-cons), refl)
  where
    length-cons : length (x ∷ xs) ≡ length xs + 1
    length-cons = omega arith

Contains-one : {X : Type 0} (x y : X) → Contains (x ∷ []) y → x ≡ y
Contains-one x y (zero, below, is) = is
Contains-one x y (suc k, below, is) = absurd (omega arith)

-- ---- lengths

abbrev total : List Stretch → ℕ
total [] = 0
total (s ∷ rest) = s.length + total rest

laid_from-append : (start : ℕ) (xs ys : List Stretch) → laid_from start (xs ++ ys) ≡ laid_from start xs ++ laid_from
    (start + total xs) ys
unfolding laid_from
laid_from-append start [] ys = ap (λ n. laid_from n ys) (omega arith)
laid_from-append start (x ∷ xs) ys =
    ap (λ (rest : List Interval). record { part = x.part; start = start; end = start + x.length } ∷ rest)
    (laid_from-append (start + x.length) xs ys ∙ ap (λ n. laid_from (start + x.length) xs ++ laid_from n ys)
    (omega arith))

total-numbered : (part : ℕ → Part) (size first count : ℕ) → total (numbered part size (range_with_len first count)) ≡
    count * size
total-numbered part size first zero = omega arith
total-numbered part size first (suc count) =
    omega (arith, total-numbered part size (first + 1) count)

-- ---- a row of parts of one length

abbrev Interval-of : (ℕ → Part) → ℕ → ℕ → ℕ → Interval
Interval-of part number start end = record { part = part number; start = start; end = end }

-- the k-th interval of a row
abbrev row_interval : (ℕ → Part) → ℕ → ℕ → ℕ → ℕ → Interval
row_interval part size first start k = Interval-of part (first + k) (start + k * size) (start + k * size + size)

same_interval : (part : ℕ → Part) (a b s t e f : ℕ) → a ≡ b → s ≡ t → e ≡ f
    → Interval-of part a s e ≡ Interval-of part b t f
same_interval part a b s t e f p q r = cc

Contains-tail : {X : Type 0} (x y : X) (xs : List X) → Contains xs y → Contains (x ∷ xs) y
Contains-tail x y xs h = Contains-append_right (x ∷ []) xs y h

in_row : (part : ℕ → Part) (size first count start k : ℕ) → k < count
    → Contains (laid_from start (numbered part size (range_with_len first count)))
    (row_interval part size first start k)
unfolding laid_from
in_row part size first zero start k below = absurd (omega arith)
in_row part size first (suc count) start zero below =
    let rest = laid_from (start + size) (numbered part size (range_with_len (first + 1) count)) in
    subst (λ (i : Interval). Contains (Interval-of part first start (start + size) ∷ rest) i)
    (same_interval part first (first + 0) start (start + 0 * size) (start + size) (start + 0 * size + size)
    (omega arith) (omega arith) (omega arith))
    (Contains-head _ rest)
in_row part size first (suc count) start (suc k) below =
    let rest = laid_from (start + size) (numbered part size (range_with_len (first + 1) count)) in
    subst (λ (i : Interval). Contains (Interval-of part first start (start + size) ∷ rest) i)
    (same_interval part (first + 1 + k) (first + suc k) (start + size + k * size) (start + suc k * size)
    (start + size + k * size + size) (start + suc k * size + size) (omega arith) (omega arith) (omega arith))
    (Contains-tail _ _ rest (in_row part size (first + 1) count (start + size) k (omega arith)))

-- each interval of a row is one of these
record IsInRow (part : ℕ → Part) (size first start count : ℕ) (i : Interval) : Type 0 where
  k : ℕ
  below : k < count
  part_is : i.part ≡ part (first + k)
  start_is : i.start ≡ start + k * size
  end_is : i.end ≡ start + k * size + size

of_row : (part : ℕ → Part) (size first count start : ℕ) (i : Interval)
    → Contains (laid_from start (numbered part size (range_with_len first count))) i
    → IsInRow part size first start count i
unfolding laid_from
of_row part size first zero start i h = absurd (omega arith)
of_row part size first (suc count) start i h =
    let rest = laid_from (start + size) (numbered part size (range_with_len (first + 1) count)) in
    elim (Contains-append_cases (Interval-of part first start (start + size) ∷ []) rest i h) [
      | inl here ↦
          let same = Contains-one (Interval-of part first start (start + size)) i here in
          record {
            k = 0;
            below = omega arith;
            part_is = sym (ap (λ (x : Interval). x.part) same) ∙ ap part
                (omega arith);
            start_is = sym (ap (λ (x : Interval). x.start) same) ∙ omega arith;
            end_is =
                sym (ap (λ (x : Interval). x.end) same) ∙ omega arith;
          }
      | inr later ↦
          let w = of_row part size (first + 1) count (start + size) i later in
          record {
            k = suc w.k;
            below = omega arith;
            part_is = w.part_is ∙ ap part (omega arith);
            start_is =
                omega arith;
            end_is = omega arith;
          }
    ]

-- ---- the whole layout

total-append : (xs ys : List Stretch) → total (xs ++ ys) ≡ total xs + total ys
total-append [] ys = omega arith
total-append (x ∷ xs) ys = omega (arith, total-append xs ys)

abbrev static_row : Parameters → List Interval
static_row p = laid_from 0 (numbered static_slot p.static_mt (range_with_len 1 p.static_slots))

abbrev dynamic_row : Parameters → List Interval
dynamic_row p = laid_from (dynamic_start p) (numbered minislot p.minislot_mt (range_with_len 1 p.minislots))

abbrev symbol_interval : Parameters → Interval
symbol_interval p = record { part = symbol_window; start = symbol_start p; end = idle_start p }

abbrev idle_interval : Parameters → Interval
idle_interval p = record { part = idle_time; start = idle_start p; end = cycle_end p }

abbrev last_two : Parameters → List Interval
last_two p = symbol_interval p ∷ idle_interval p ∷ []

layout-parts : (p : Parameters) → layout p ≡ static_row p ++ dynamic_row p ++ last_two p
unfolding layout laid_from
layout-parts p =
    let a = numbered static_slot p.static_mt (range_with_len 1 p.static_slots) in
    let b = numbered minislot p.minislot_mt (range_with_len 1 p.minislots) in
    let c : List Stretch = record { part = symbol_window; length = p.symbol_mt } ∷
    record { part = idle_time; length = p.nit_mt } ∷ [] in
    let after_a : 0 + total a ≡ dynamic_start p = omega (arith, total-numbered static_slot p.static_mt 1 p.static_slots)
    in
    let after_b : 0 + total (a ++ b) ≡ symbol_start p = omega (
      arith,
      total-append a b,
      total-numbered static_slot p.static_mt 1 p.static_slots,
      total-numbered minislot p.minislot_mt 1 p.minislots,
    ) in
    laid_from-append 0 (a ++ b) c
    ∙ ap (λ (xs : List Interval). xs ++ laid_from (0 + total (a ++ b)) c) (laid_from-append 0 a b)
    ∙ ap (λ n. laid_from 0 a ++ laid_from n b ++ laid_from (0 + total (a ++ b)) c) after_a
    ∙ ap (λ n. laid_from 0 a ++ laid_from (dynamic_start p) b ++ laid_from n c) after_b

-- ---- places by numbers

-- the macrotick of a place in a row
record IsNamed (start count size number offset macrotick : ℕ) : Type 0 where
  from_one : 1 ≤ number
  at_most : number ≤ count
  short : offset < size
  sum_is : start + (number - 1) * size + offset ≡ macrotick

abbrev Names : Parameters → Place → ℕ → Type 0
Names p (Static slot offset) m = IsNamed 0 p.static_slots p.static_mt slot offset m
Names p (Minislot number offset) m = IsNamed (dynamic_start p) p.minislots p.minislot_mt number offset m
Names p (Symbol offset) m = IsNamed (symbol_start p) 1 p.symbol_mt 1 offset m
Names p (Idle offset) m = IsNamed (idle_start p) 1 p.nit_mt 1 offset m

static_slot-same : (m n : ℕ) → static_slot m ≡ static_slot n → m ≡ n
static_slot-same m n e = cc

minislot-same : (m n : ℕ) → minislot m ≡ minislot n → m ≡ n
minislot-same m n e = cc

-- the interval is one of the layout
data Kind (p : Parameters) (i : Interval) : Type 0 where
  of_static : IsInRow static_slot p.static_mt 1 0 p.static_slots i → Kind p i
  of_dynamic : IsInRow minislot p.minislot_mt 1 (dynamic_start p) p.minislots i → Kind p i
  of_symbol : symbol_interval p ≡ i → Kind p i
  of_idle : idle_interval p ≡ i → Kind p i

kind_of : (p : Parameters) (i : Interval) → Contains (layout p) i → Kind p i
kind_of p i h =
    let parts : Contains (static_row p ++ dynamic_row p ++ last_two p) i =
    subst (λ (xs : List Interval). Contains xs i) (layout-parts p) h in
    elim (Contains-append_cases (static_row p ++ dynamic_row p) (last_two p) i parts) [
      | inl segments ↦
          elim (Contains-append_cases (static_row p) (dynamic_row p) i segments) [
            | inl here ↦ of_static (of_row static_slot p.static_mt 1 p.static_slots 0 i here)
            | inr here ↦ of_dynamic (of_row minislot p.minislot_mt 1 p.minislots (dynamic_start p) i here)
          ]
      | inr last ↦
          elim (Contains-append_cases (symbol_interval p ∷ []) (idle_interval p ∷ []) i last) [
            | inl here ↦ of_symbol (Contains-one (symbol_interval p) i here)
            | inr here ↦ of_idle (Contains-one (idle_interval p) i here)
          ]
    ]

names_in_row : (part : ℕ → Part) (same : (a b : ℕ) → part a ≡ part b → a ≡ b) (size start count number offset m : ℕ)
    (i : Interval)
    → IsInRow part size 1 start count i → i.part ≡ part number → i.start + offset ≡ m → m < i.end
    → IsNamed start count size number offset m
names_in_row part same size start count number offset m i w is from before =
    let at : number ≡ 1 + w.k = same number (1 + w.k) (sym is ∙ w.part_is) in
    let less : number - 1 ≡ w.k = omega arith in
    let k_is : start + (number - 1) * size ≡ start + w.k * size = ap (λ n. start + n * size) less in
    record {
      from_one = omega arith;
      at_most = omega (arith, w.below);
      short = omega (arith, w.start_is, w.end_is);
      sum_is = omega (arith, w.start_is, k_is);
    }

names_alone : (size start end offset m : ℕ) → end ≡ start + size → start + offset ≡ m → m < end
    → IsNamed start 1 size 1 offset m
names_alone size start end offset m until from before =
    record { from_one = omega arith; at_most = omega arith; short = omega arith; sum_is = omega arith }

names_by_kind : (p : Parameters) (m : ℕ) (x : Place) (i : Interval) → Kind p i → i.part ≡ part_of x
    → i.start + offset_of x ≡ m → m < i.end → Names p x m
names_by_kind p m (Static slot offset) i (of_static w) is from before =
    names_in_row static_slot static_slot-same p.static_mt 0 p.static_slots slot offset m i w is from before
names_by_kind p m (Static slot offset) i (of_dynamic w) is from before =
    let apart = sym w.part_is ∙ is in absurd (cc)
names_by_kind p m (Static slot offset) i (of_symbol e) is from before =
    let apart = ap (λ (x : Interval). x.part) e ∙ is in absurd (cc)
names_by_kind p m (Static slot offset) i (of_idle e) is from before =
    let apart = ap (λ (x : Interval). x.part) e ∙ is in absurd (cc)
names_by_kind p m (Minislot number offset) i (of_static w) is from before =
    let apart = sym w.part_is ∙ is in absurd (cc)
names_by_kind p m (Minislot number offset) i (of_dynamic w) is from before =
    names_in_row minislot minislot-same p.minislot_mt (dynamic_start p) p.minislots number offset m i w is from before
names_by_kind p m (Minislot number offset) i (of_symbol e) is from before =
    let apart = ap (λ (x : Interval). x.part) e ∙ is in absurd (cc)
names_by_kind p m (Minislot number offset) i (of_idle e) is from before =
    let apart = ap (λ (x : Interval). x.part) e ∙ is in absurd (cc)
names_by_kind p m (Symbol offset) i (of_static w) is from before = let apart = sym w.part_is ∙ is in absurd (cc)
names_by_kind p m (Symbol offset) i (of_dynamic w) is from before = let apart = sym w.part_is ∙ is in absurd (cc)
names_by_kind p m (Symbol offset) i (of_symbol e) is from before =
    names_alone p.symbol_mt (symbol_start p) (idle_start p) offset m refl
    (ap (λ (x : Interval). x.start + offset) e ∙ from)
    (subst (λ n. m < n) (sym (ap (λ (x : Interval). x.end) e)) before)
names_by_kind p m (Symbol offset) i (of_idle e) is from before =
    let apart = ap (λ (x : Interval). x.part) e ∙ is in absurd (cc)
names_by_kind p m (Idle offset) i (of_static w) is from before = let apart = sym w.part_is ∙ is in absurd (cc)
names_by_kind p m (Idle offset) i (of_dynamic w) is from before = let apart = sym w.part_is ∙ is in absurd (cc)
names_by_kind p m (Idle offset) i (of_symbol e) is from before =
    let apart = ap (λ (x : Interval). x.part) e ∙ is in absurd (cc)
names_by_kind p m (Idle offset) i (of_idle e) is from before =
    names_alone p.nit_mt (idle_start p) (cycle_end p) offset m refl
    (ap (λ (x : Interval). x.start + offset) e ∙ from)
    (subst (λ n. m < n) (sym (ap (λ (x : Interval). x.end) e)) before)

-- a place of the layout, as its numbers
names_from_layout : (p : Parameters) (m : ℕ) (x : Place) → IsAt p m x → Names p x m
names_from_layout p m x h = names_by_kind p m x h.interval (kind_of p h.interval h.of_layout) h.of_part h.from_start
    h.before_end

in_layout : (p : Parameters) (i : Interval) → Contains (static_row p ++ dynamic_row p ++ last_two p) i
    → Contains (layout p) i
in_layout p i h = subst (λ (xs : List Interval). Contains xs i) (sym (layout-parts p)) h

-- numbers of a place, as a place of the layout
layout_from_names : (p : Parameters) (m : ℕ) (x : Place) → Names p x m → IsAt p m x
layout_from_names p m (Static slot offset) h =
    record {
      interval = row_interval static_slot p.static_mt 1 0 (slot - 1);
      of_layout = in_layout p _ (Contains-append_left (static_row p ++ dynamic_row p) (last_two p) _
          (Contains-append_left (static_row p) (dynamic_row p) _
          (in_row static_slot p.static_mt 1 p.static_slots 0 (slot - 1) (omega arith))));
      of_part = ap static_slot (omega arith);
      from_start = omega arith;
      before_end = omega arith;
    }
layout_from_names p m (Minislot number offset) h =
    record {
      interval = row_interval minislot p.minislot_mt 1 (dynamic_start p) (number - 1);
      of_layout = in_layout p _ (Contains-append_left (static_row p ++ dynamic_row p) (last_two p) _
          (Contains-append_right (static_row p) (dynamic_row p) _
          (in_row minislot p.minislot_mt 1 p.minislots (dynamic_start p) (number - 1) (omega arith))));
      of_part = ap minislot (omega arith);
      from_start = omega arith;
      before_end = omega arith;
    }
layout_from_names p m (Symbol offset) h =
    record {
      interval = symbol_interval p;
      of_layout = in_layout p _ (Contains-append_right (static_row p ++ dynamic_row p) (last_two p) _
          (Contains-head (symbol_interval p) (idle_interval p ∷ [])));
      of_part = refl;
      from_start = omega arith;
      before_end = omega arith;
    }
layout_from_names p m (Idle offset) h =
    record {
      interval = idle_interval p;
      of_layout = in_layout p _ (Contains-append_right (static_row p ++ dynamic_row p) (last_two p) _
          (Contains-tail (symbol_interval p) (idle_interval p) (idle_interval p ∷ [])
          (Contains-head (idle_interval p) [])));
      of_part = refl;
      from_start = omega arith;
      before_end = omega arith;
    }

-- ---- places by multiplication

row_found : (first count size number offset m : ℕ) → start_in_row first count size number offset ≡ Some m
    → IsNamed first count size number offset m
row_found first count size number offset m e =
    record {
      from_one = grind (arith, nat_tests);
      at_most = grind (arith, nat_tests);
      short = grind (arith, nat_tests);
      sum_is = grind (arith, nat_tests);
    }

row_only : (first count size number offset m : ℕ) → IsNamed first count size number offset m
    → start_in_row first count size number offset ≡ Some m
row_only first count size number offset m h = grind (arith, nat_tests)

start_found : (p : Parameters) (m : ℕ) (x : Place) → start_at p x ≡ Some m → Names p x m
unfolding start_at
start_found p m (Static slot offset) e = row_found _ _ _ _ _ _ e
start_found p m (Minislot number offset) e = row_found _ _ _ _ _ _ e
start_found p m (Symbol offset) e = row_found _ _ _ _ _ _ e
start_found p m (Idle offset) e = row_found _ _ _ _ _ _ e

start_only : (p : Parameters) (m : ℕ) (x : Place) → Names p x m → start_at p x ≡ Some m
unfolding start_at
start_only p m (Static slot offset) h = row_only _ _ _ _ _ _ h
start_only p m (Minislot number offset) h = row_only _ _ _ _ _ _ h
start_only p m (Symbol offset) h = row_only _ _ _ _ _ _ h
start_only p m (Idle offset) h = row_only _ _ _ _ _ _ h

-- ---- places by division

place-static : (p : Parameters) (m : ℕ) → m < dynamic_start p
    → place_at p m ≡ Some (Static (m / p.static_mt + 1) (m % p.static_mt))
unfolding place_at
place-static p m h = grind (arith, nat_tests)

place-dynamic : (p : Parameters) (m : ℕ) → dynamic_start p ≤ m → m < symbol_start p
    → place_at p m ≡ Some (Minislot ((m - dynamic_start p) / p.minislot_mt + 1) ((m - dynamic_start p) % p.minislot_mt))
unfolding place_at
place-dynamic p m h k = grind (arith, nat_tests)

place-symbol : (p : Parameters) (m : ℕ) → symbol_start p ≤ m → m < idle_start p
    → place_at p m ≡ Some (Symbol (m - symbol_start p))
unfolding place_at
place-symbol p m h k = grind (arith, nat_tests)

place-idle : (p : Parameters) (m : ℕ) → idle_start p ≤ m → m < cycle_end p
    → place_at p m ≡ Some (Idle (m - idle_start p))
unfolding place_at
place-idle p m h k = grind (arith, nat_tests)

place-none : (p : Parameters) (m : ℕ) → cycle_end p ≤ m → place_at p m ≡ None
unfolding place_at
place-none p m h = grind (arith, nat_tests)

-- the part of a row in which a macrotick lies, by division
row_divides : (first count size m : ℕ) → 0 < size → first ≤ m → m < first + count * size
    → IsNamed first count size ((m - first) / size + 1) ((m - first) % size) m
row_divides first count size m some from until =
    let row : (m - first) / size + 1 - 1 ≡ (m - first) / size = omega arith in
    let whole : (m - first) / size * size + (m - first) % size ≡ m - first = div-add-mod' (m - first) size in
    record {
      from_one = omega arith;
      at_most = omega (arith, div_below (m - first) size count some (omega arith));
      short = mod_below (m - first) size some;
      sum_is = rw row (omega arith);
    }

-- and it is the only one
record IsDivided (first count size number offset m : ℕ) : Type 0 where
  from : first ≤ m
  until : m < first + count * size
  number_is : (m - first) / size + 1 ≡ number
  offset_is : (m - first) % size ≡ offset

row_divided : (first count size number offset m : ℕ) → IsNamed first count size number offset m
    → IsDivided first count size number offset m
row_divided first count size number offset m h =
    let from_first : m - first ≡ (number - 1) * size + offset = omega arith in
    let inside : (number - 1) * size + offset < size * count =
    mul-add-lt (number - 1) size offset count (omega arith) h.short in
    record {
      from = omega arith;
      until = omega arith;
      number_is = rw from_first (omega (arith, div-mul-add (number - 1) size offset h.short));
      offset_is = rw from_first (mod-mul-add (number - 1) size offset h.short);
    }

from_zero : (m : ℕ) → m - 0 ≡ m
from_zero m = omega arith

place_only : (p : Parameters) (m : ℕ) (x : Place) → Names p x m → place_at p m ≡ Some x
place_only p m (Static slot offset) h =
    let d = row_divided 0 p.static_slots p.static_mt slot offset m h in
    place-static p m (omega (arith, d.until))
    ∙ ap (λ n. Some (Static (n / p.static_mt + 1) (n % p.static_mt))) (sym (from_zero m))
    ∙ ap (λ n. Some (Static n ((m - 0) % p.static_mt))) d.number_is
    ∙ ap (λ n. Some (Static slot n)) d.offset_is
place_only p m (Minislot number offset) h =
    let d = row_divided (dynamic_start p) p.minislots p.minislot_mt number offset m h in
    place-dynamic p m d.from d.until
    ∙ ap (λ n. Some (Minislot n ((m - dynamic_start p) % p.minislot_mt))) d.number_is
    ∙ ap (λ n. Some (Minislot number n)) d.offset_is
place_only p m (Symbol offset) h = place-symbol p m (omega arith) (omega arith) ∙ ap (λ n. Some (Symbol n))
    (omega arith)
place_only p m (Idle offset) h = place-idle p m (omega arith) (omega arith) ∙ ap (λ n. Some (Idle n)) (omega arith)

-- a macrotick has a place, or lies after the end of the cycle
data Located (p : Parameters) (m : ℕ) : Type 0 where
  at : (x : Place) → place_at p m ≡ Some x → Names p x m → Located p m
  behind : place_at p m ≡ None → p.cycle_mt ≤ m → Located p m

alone_at : (start size m : ℕ) → start ≤ m → m < start + size → IsNamed start 1 size 1 (m - start) m
alone_at start size m from until = record {
  from_one = omega arith;
  at_most = omega arith;
  short = omega arith;
  sum_is =
      omega arith;
}

located : (p : Parameters) → IsParameters p → (m : ℕ) → Located p m
located p lawful m =
    elim (cases_lt m (dynamic_start p)) [
      | inl in_static ↦
          at (Static (m / p.static_mt + 1) (m % p.static_mt)) (place-static p m in_static)
          (subst (λ n. IsNamed 0 p.static_slots p.static_mt (n / p.static_mt + 1) (n % p.static_mt) m) (from_zero m)
          (row_divides 0 p.static_slots p.static_mt m (omega (arith, lawful.static_mt_fit.from_least)) (omega arith)
          (omega arith)))
      | inr after_static ↦
          elim (cases_lt m (symbol_start p)) [
            | inl in_dynamic ↦
                at (Minislot ((m - dynamic_start p) / p.minislot_mt + 1) ((m - dynamic_start p) % p.minislot_mt))
                (place-dynamic p m after_static in_dynamic)
                (row_divides (dynamic_start p) p.minislots p.minislot_mt m
                (omega (arith, lawful.minislot_mt_fit.from_least)) after_static in_dynamic)
            | inr after_dynamic ↦
                elim (cases_lt m (idle_start p)) [
                  | inl in_symbol ↦ at (Symbol (m - symbol_start p)) (place-symbol p m after_dynamic in_symbol)
                      (alone_at (symbol_start p) p.symbol_mt m after_dynamic in_symbol)
                  | inr after_symbol ↦
                      elim (cases_lt m (cycle_end p)) [
                        | inl in_idle ↦ at (Idle (m - idle_start p)) (place-idle p m after_symbol in_idle)
                            (alone_at (idle_start p) p.nit_mt m after_symbol in_idle)
                        | inr after ↦ behind (place-none p m after) (omega (arith, lawful.fills_the_cycle))
                      ]
                ]
          ]
    ]

-- no place lies after the end of the cycle
names_end : (p : Parameters) → IsParameters p → (m : ℕ) (x : Place) → Names p x m → m < p.cycle_mt
names_end p lawful m (Static slot offset) h =
    omega (arith, (row_divided 0 p.static_slots p.static_mt slot offset m h).until, lawful.fills_the_cycle)
names_end p lawful m (Minislot number offset) h =
    omega (
      arith,
      (row_divided (dynamic_start p) p.minislots p.minislot_mt number offset m h).until,
      lawful.fills_the_cycle,
    )
names_end p lawful m (Symbol offset) h = omega (arith, lawful.fills_the_cycle)
names_end p lawful m (Idle offset) h = omega (arith, lawful.fills_the_cycle)

-- ---- the answers of the calls

pub located_found : (p : Parameters) → IsParameters p → (m : ℕ) (answer : Option Place) → answer ≡ place_at p m
    → IfSome answer (λ x. IsAt p m x)
located_found p lawful m answer is =
    elim (located p lawful m) [
      | at x same names ↦ subst (λ (o : Option Place). IfSome o (λ x. IsAt p m x)) (sym (is ∙ same))
          (layout_from_names p m x names)
      | behind same after ↦ subst (λ (o : Option Place). IfSome o (λ x. IsAt p m x)) (sym (is ∙ same)) tt
    ]

pub located_only : (p : Parameters) (m : ℕ) (answer : Option Place) → answer ≡ place_at p m → (x : Place) → IsAt p m x
    → answer ≡ Some x
located_only p m answer is x h = is ∙ place_only p m x (names_from_layout p m x h)

pub located_none : (p : Parameters) → IsParameters p → (m : ℕ) (answer : Option Place) → answer ≡ place_at p m
    → IsNone answer ↔ (p.cycle_mt ≤ m)
located_none p lawful m answer is =
    elim (located p lawful m) [
      | at x same names ↦
          subst (λ (o : Option Place). IsNone o ↔ (p.cycle_mt ≤ m)) (sym (is ∙ same))
          (λ e. absurd (cc), λ after. absurd (omega (arith, names_end p lawful m x names)))
      | behind same after ↦ subst (λ (o : Option Place). IsNone o ↔ (p.cycle_mt ≤ m)) (sym (is ∙ same))
          (λ e. after, λ h. refl)
    ]

pub started_found : (p : Parameters) (x : Place) (answer : Option ℕ) → answer ≡ start_at p x
    → IfSome answer (λ m. IsAt p m x)
started_found p x None is = tt
started_found p x (Some m) is = layout_from_names p m x (start_found p m x (sym is))

pub started_only : (p : Parameters) (x : Place) (answer : Option ℕ) → answer ≡ start_at p x → (m : ℕ) → IsAt p m x
    → answer ≡ Some m
started_only p x answer is m h = is ∙ start_only p m x (names_from_layout p m x h)

-- a place has one macrotick
macrotick-same : (p : Parameters) (m n : ℕ) (x : Place) → IsAt p m x → IsAt p n x → n ≡ m
macrotick-same p m n x h k =
    let here = start_only p m x (names_from_layout p m x h) in
    let there = start_only p n x (names_from_layout p n x k) in
    cc

-- a macrotick has one place
place-same : (p : Parameters) (m : ℕ) (x y : Place) → IsAt p m x → IsAt p m y → y ≡ x
place-same p m x y h k =
    let here = place_only p m x (names_from_layout p m x h) in
    let there = place_only p m y (names_from_layout p m y k) in
    cc

pub located_alone : (p : Parameters) (m : ℕ) (answer : Option Place) → IfSome answer (λ x. IsAt p m x)
    → IfSome answer (λ x. (n : ℕ) → IsAt p n x → n ≡ m)
located_alone p m None found = tt
located_alone p m (Some x) found = λ n k. macrotick-same p m n x found k

pub started_alone : (p : Parameters) (x : Place) (answer : Option ℕ) → IfSome answer (λ m. IsAt p m x)
    → IfSome answer (λ m. (y : Place) → IsAt p m y → y ≡ x)
started_alone p x None found = tt
started_alone p x (Some m) found = λ y k. place-same p m x y found k
