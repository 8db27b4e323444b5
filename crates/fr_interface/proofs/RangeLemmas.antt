-- Searches among lines that find nothing outside a range, and the range of each slot.
use Rattle.std.proofs.Common.{◌≡◌, ℕ, zero, suc, ◌+◌, ◌-◌, ◌≤◌, ◌<◌, Bool, true, false, cond, eqb, ltb, ◌||◌, List, []}
use Rattle.std.proofs.Common.{◌∷◌, ◌++◌, length, map, take, drop, set, slice_range, Option, Some, None, option_map}
use Rattle.std.proofs.Common.{refl, sym, ap, subst, ◌∙◌, arith, min, max, is_some, inl, inr, ◌⊎◌, replicate, get_or}
use Rattle.std.proofs.Common.{take_all, length-append, length-set, eqb-true, ltb-true}
use Rattle.std.proofs.lemmas.Bool.Decides.{nat_tests}
use Rattle.std.specs.List.{position, position_from, position_or_len, list_any}
use Rattle.std.specs.Option.{option_and_then, option_or}
use Rattle.std.specs.Prelude.{slice_get}
use Rattle.std.proofs.lemmas.Bool.{false_from_ne_true, and_parts, and_right, both_ways}
use Rattle.std.proofs.lemmas.List.{length-replicate, length-take-le, map_more}
use Rattle.std.proofs.lemmas.Iterator.Adapters.{position_from-zero}
use Rattle.fr_frame.specs.Fields.{Fields}
use Rattle.fr_interface.specs.declared.index.LineRange.{LineRange}
use Rattle.fr_interface.specs.Known.{frame_on, taken_by, stored_all}
use Rattle.fr_interface.specs.Ranges.{IsWithin, IsRangeOf, AreRanges, IsTakingRange, widened, joined, slot_count}
use Rattle.fr_interface.specs.Ranges.{buffer_slots, own_slots, sending_slot, sending_slots}
use Rattle.fr_interface.proofs.HandingLemmas.{get_take}
use Rattle.fr_journal.specs.declared.entry.Arrival.{Arrival}
use Rattle.fr_journal.specs.declared.entry.Moment.{Moment}
use Rattle.fr_journal.specs.Arrivals.{takes_window}
use Rattle.fr_journal.specs.Held.{arrival_of}
use Rattle.fr_buffers.specs.Transmitting.{Transmitter}
use Rattle.fr_interface.specs.Sending.{OffersNothing, offered_by, offered_in, owner_on, sender_at, sender_in, sender_on}
use Rattle.fr_journal.specs.declared.entry.Offered.TheVariants.{Nothing}
use Rattle.fr_journal.specs.Offers.{is_admitting, line_of, may_begin, transmitter, ownership}
use Rattle.fr_slots.specs.declared.channel.Channel.{Channel}
use Rattle.fr_slots.specs.declared.channel.Channel.TheVariants.{A, B}
use Rattle.fr_slots.specs.declared.filter.Filter.{Filter}
use Rattle.fr_slots.specs.declared.plan.Buffer.{Buffer}
use Rattle.fr_slots.specs.declared.plan.Own.{Own}
use Rattle.fr_slots.specs.Faults.{claims}
use Rattle.fr_slots.specs.Plans.{Plan, admits_slot, admits_window, is_receive}
use Rattle.fr_slots.specs.Windows.{Opportunity, is_static, slot_of}
use Rattle.fr_slots.proofs.PlaceLemmas.{map-get, same_some}

-- ---- places

pub get-drop : {X : Type 0} (n : ℕ) (xs : List X) (place : ℕ) → slice_get (drop n xs) place ≡ slice_get xs (n + place)
get-drop zero xs place = let same : place ≡ 0 + place = omega arith in ap (slice_get xs) same
get-drop (suc n) [] place = refl
get-drop (suc n) (x ∷ xs) place =
    let next : suc (n + place) ≡ suc n + place = omega arith in
    get-drop n xs place ∙ ap (slice_get (x ∷ xs)) next

take_short : {X : Type 0} (n : ℕ) (xs : List X) → length (take n xs) ≤ n
take_short zero xs = omega arith
take_short (suc n) [] = omega arith
take_short (suc n) (x ∷ xs) = omega (arith, take_short n xs)

-- ---- a test that passes only in a range

-- the test passes at no place outside
pub record PassesWithin {X : Type 0} (test : X → Bool) (first end : ℕ) (xs : List X) : Type 0 where
  pub ordered : first ≤ end
  pub ends : end ≤ length xs
  pub within : (place : ℕ) (x : X) → slice_get xs place ≡ Some x → test x ≡ true → (first ≤ place) × (place < end)

module _ {X : Type 0} (test : X → Bool) where
  abbrev pub FailsBefore : List X → ℕ → Type 0
  FailsBefore xs first = (place : ℕ) (x : X) → slice_get xs place ≡ Some x → place < first → test x ≡ false

  abbrev pub FailsFrom : List X → ℕ → Type 0
  FailsFrom xs end = (place : ℕ) (x : X) → slice_get xs place ≡ Some x → end ≤ place → test x ≡ false

  later_before : (x : X) (xs : List X) (first : ℕ) → FailsBefore (x ∷ xs) (suc first) → FailsBefore xs first
  later_before x xs first h = λ place y is lt. h (suc place) y is (omega (arith, lt))

  later_from : (x : X) (xs : List X) (end : ℕ) → FailsFrom (x ∷ xs) (suc end) → FailsFrom xs end
  later_from x xs end h = λ place y is le. h (suc place) y is (omega (arith, le))

  all_from : (x : X) (xs : List X) → FailsFrom (x ∷ xs) zero → FailsFrom xs zero
  all_from x xs h = λ place y is le. h (suc place) y is (omega arith)

  -- ---- the first place

  from_shift : (xs : List X) (m n : ℕ) → position_from test (m + n) xs ≡ option_map (λ p. m + p)
      (position_from test n xs)
  from_shift [] m n = refl
  from_shift (x ∷ xs) m n =
      let next : (m + n) + 1 ≡ m + (n + 1) = omega arith in
      step (test x) (position_from test ((m + n) + 1) xs) (position_from test (n + 1) xs)
      (ap (λ (k : ℕ). position_from test k xs) next ∙ from_shift xs m (n + 1))
    where
      step : (t : Bool) (a b : Option ℕ) → a ≡ option_map (λ p. m + p) b
          → cond t (Some (m + n)) a ≡ option_map (λ p. m + p) (cond t (Some n) b)
      step true a b is = refl
      step false a b is = is

  from_skip : (xs : List X) (first n : ℕ) → FailsBefore xs first → first ≤ length xs
      → position_from test n xs ≡ position_from test (n + first) (drop first xs)
  from_skip xs zero n h le = let same : n ≡ n + 0 = omega arith in ap (λ (k : ℕ). position_from test k xs) same
  from_skip [] (suc first) n h le = absurd (let none : ⊥ = omega (arith, le) in none)
  from_skip (x ∷ xs) (suc first) n h le =
      let next : (n + 1) + first ≡ n + suc first = omega arith in
      ap (λ (t : Bool). cond t (Some n) (position_from test (n + 1) xs)) (h 0 x refl (omega arith))
      ∙ from_skip xs first (n + 1) (later_before x xs first h) (omega (arith, le))
      ∙ ap (λ (k : ℕ). position_from test k (drop first xs)) next

  from_cut : (xs : List X) (end n : ℕ) → FailsFrom xs end → position_from test n (take end xs) ≡ position_from test n xs
  from_cut [] zero n h = refl
  from_cut [] (suc end) n h = refl
  from_cut (x ∷ xs) zero n h =
      from_cut xs zero (n + 1) (all_from x xs h) ∙ ap (λ (t : Bool). cond t (Some n) (position_from test (n + 1) xs))
      (sym (h 0 x refl (omega arith)))
  from_cut (x ∷ xs) (suc end) n h = ap (λ (o : Option ℕ). cond (test x) (Some n) o)
      (from_cut xs end (n + 1) (later_from x xs end h))

  pub position-none : (xs : List X) → FailsFrom xs 0 → position test xs ≡ None
  position-none xs h = position_from-zero test xs ∙ sym (from_cut xs zero 0 h)

  -- ---- an item that passes exists

  any_skip : (xs : List X) (first : ℕ) → FailsBefore xs first → list_any test xs ≡ list_any test (drop first xs)
  any_skip xs zero h = refl
  any_skip [] (suc first) h = refl
  any_skip (x ∷ xs) (suc first) h = ap (λ (t : Bool). t || list_any test xs) (h 0 x refl (omega arith))
      ∙ any_skip xs first (later_before x xs first h)

  any_cut : (xs : List X) (end : ℕ) → FailsFrom xs end → list_any test (take end xs) ≡ list_any test xs
  any_cut [] zero h = refl
  any_cut [] (suc end) h = refl
  any_cut (x ∷ xs) zero h = any_cut xs zero (all_from x xs h) ∙ ap (λ (t : Bool). t || list_any test xs)
      (sym (h 0 x refl (omega arith)))
  any_cut (x ∷ xs) (suc end) h = ap (λ (t : Bool). test x || t) (any_cut xs end (later_from x xs end h))

  -- ---- in the range

  place_below : (xs : List X) (place : ℕ) → position test xs ≡ Some place → place < length xs
  place_below xs place is = below (ltb (position_or_len test xs) (length xs)) refl is
    where
      below : (t : Bool) → ltb (position_or_len test xs) (length xs) ≡ t
          → cond t (Some (position_or_len test xs)) None ≡ Some place → place < length xs
      below true at is =
          let same : position_or_len test xs ≡ place = cc in
          omega (arith, same, ltb-true (position_or_len test xs) (length xs) at)
      below false at is = absurd (let none : ⊥ = cc in none)

  module _ (first end : ℕ) (xs : List X) (h : PassesWithin test first end xs) where
    abbrev part : List X
    part = slice_range xs first end

    before : FailsBefore xs first
    before = λ place x is lt. false_from_ne_true (test x) (λ pass. let inside =
        h.within place x is pass in omega (arith, lt, inside.0))

    behind : FailsFrom (drop first xs) (end - first)
    behind = λ place x is le. false_from_ne_true (test x) (λ pass.
        let inside = h.within (first + place) x (sym (get-drop first xs place) ∙ is) pass in
        omega (arith, le, inside.1))

    short : first ≤ length xs
    short = omega (arith, h.ordered, h.ends)

    pub position-within : position test xs ≡ option_map (λ p. first + p) (position test part)
    position-within =
        let same : 0 + first ≡ first + 0 = omega arith in
        position_from-zero test xs
        ∙ from_skip xs first 0 before short
        ∙ sym (from_cut (drop first xs) (end - first) (0 + first) behind)
        ∙ ap (λ (k : ℕ). position_from test k part) same
        ∙ from_shift part first 0
        ∙ ap (option_map (λ p. first + p)) (sym (position_from-zero test part))

    pub any-within : list_any test xs ≡ list_any test part
    any-within = any_skip xs first before ∙ sym (any_cut (drop first xs) (end - first) behind)

    found_at : (o : Option ℕ) → position test part ≡ o → option_and_then (slice_get part) o ≡ option_and_then
        (slice_get xs) (option_map (λ p. first + p) o)
    found_at None is = refl
    found_at (Some place) is =
        let low : place < length part = place_below part place is in
        let below : place < end - first = omega (arith, low, take_short (end - first) (drop first xs)) in
        get_take (drop first xs) (end - first) place below ∙ get-drop first xs place

    -- the item at the first place
    pub found-within : option_and_then (slice_get part) (position test part) ≡ option_and_then (slice_get xs)
        (position test xs)
    found-within = found_at (position test part) refl ∙ ap (option_and_then (slice_get xs)) (sym position-within)

-- ---- the range of a slot

length_map : {X Y : Type 0} (f : X → Y) (xs : List X) → length (map f xs) ≡ length xs
length_map f [] = refl
length_map f (x ∷ xs) = ap suc (length_map f xs)

-- a test that only lines of the slot pass
pub passes-of : {X : Type 0} (f : X → ℕ) (test : X → Bool) (slot : ℕ) (range : LineRange) (xs : List X)
    → IsRangeOf slot (map f xs) range
    → ((x : X) → test x ≡ true → f x ≡ slot) → PassesWithin test range.first range.end xs
passes-of f test slot range xs is of = record {
  ordered = is.ordered;
  ends = omega (arith, is.ends, length_map f xs);
  within = λ place x there pass. is.covers place (map-get f xs place x there ∙ ap (λ (n : ℕ). Some n) (of x pass));
}

pub admits-slot : (f : Filter) (window : Opportunity) (channel : Channel) (slot : ℕ)
    → slot_of window channel ≡ Some slot → admits_window f window channel ≡ true → f.slot ≡ slot
admits-slot f window channel slot is admits =
    let there = subst (λ (o : Option ℕ). admits_slot f window.cycle channel o ≡ true) is admits in
    eqb-true f.slot slot (and_parts _ _ (and_parts _ _ there).0).0

pub admits-none : (f : Filter) (window : Opportunity) (channel : Channel) → slot_of window channel ≡ None
    → admits_window f window channel ≡ false
admits-none f window channel is = ap (λ (o : Option ℕ). admits_slot f window.cycle channel o) is

-- ---- searches among the lines of a slot

module _ (plan : Plan) (window : Opportunity) (channel : Channel) where
  admitting_slot : (slot : ℕ) → slot_of window channel ≡ Some slot → (b : Buffer) → is_admitting window channel b ≡ true
      → sending_slot b ≡ slot
  admitting_slot slot there b pass =
      ap (λ (sends : Bool). cond sends b.filter.slot 0) (and_parts _ _ pass).0
      ∙ admits-slot b.filter window channel slot there (and_parts _ _ pass).1

  taking_slot : (slot : ℕ) → slot_of window channel ≡ Some slot → (b : Buffer) → takes_window window channel b ≡ true
      → b.filter.slot ≡ slot
  taking_slot slot there b pass = admits-slot b.filter window channel slot there (and_parts _ _ pass).1

  pub transmitter-none : slot_of window channel ≡ None → transmitter plan window channel ≡ None
  transmitter-none none = position-none (is_admitting window channel) plan.buffers
      (λ place b there le. and_right _ _ (admits-none b.filter window channel none))

  module _ (slot : ℕ) (range : LineRange) (there : slot_of window channel ≡ Some slot)
      (is : IsRangeOf slot (sending_slots plan.buffers) range) where
    pub transmitter-in : transmitter plan window channel ≡ option_map (λ p. range.first + p)
        (position (is_admitting window channel) (slice_range plan.buffers range.first range.end))
    transmitter-in = position-within (is_admitting window channel) range.first range.end plan.buffers
        (passes-of sending_slot (is_admitting window channel) slot range plan.buffers is (admitting_slot slot there))

  module _ (slot : ℕ) (range : LineRange) (there : slot_of window channel ≡ Some slot)
      (is : IsRangeOf slot (buffer_slots plan.buffers) range) where
    pub taken-in : list_any (takes_window window channel) plan.buffers ≡ list_any (takes_window window channel)
        (slice_range plan.buffers range.first range.end)
    taken-in = any-within (takes_window window channel) range.first range.end plan.buffers
        (passes-of (λ (b : Buffer). b.filter.slot) (takes_window window channel) slot range plan.buffers is
        (taking_slot slot there))

pub ownership-in : (owned : List Own) (slot : ℕ) (channel : Channel) (cycle : ℕ) (range : LineRange)
    → IsRangeOf slot (own_slots owned) range
    → ownership (slice_range owned range.first range.end) slot channel cycle ≡ ownership owned slot channel cycle
ownership-in owned slot channel cycle range is =
    found-within (claims slot channel cycle) range.first range.end owned
    (passes-of (λ (o : Own). o.slot) (claims slot channel cycle) slot range owned is
    (λ o pass. eqb-true o.slot slot (and_parts _ _ (and_parts _ _ pass).0).0))

-- ---- a slot without lines

range_empty : {X : Type 0} (xs : List X) (first end : ℕ) → first ≡ end → slice_range xs first end ≡ []
range_empty xs first end same = let none : end - first ≡ 0 = omega (arith, same) in
    ap (λ (n : ℕ). take n (drop first xs)) none

module _ (plan : Plan) (window : Opportunity) (channel : Channel) where
  owner_none : (o : Option ℕ) → ((slot : ℕ) → o ≡ Some slot → ownership plan.owned slot channel window.cycle ≡ None)
      → option_and_then (line_of plan window channel) o ≡ None
  owner_none None none = refl
  owner_none (Some slot) none = by_static (is_static window)
    where
      by_static : (t : Bool) → cond t (ownership plan.owned slot channel window.cycle) None ≡ None
      by_static true = none slot refl
      by_static false = refl

  sender_none : (buffers : List Transmitter) (o : Option ℕ) → transmitter plan window channel ≡ None
      → sender_in plan buffers window channel o ≡ None
  sender_none buffers None none = refl
  sender_none buffers (Some slot) none = by_turn (may_begin plan window channel)
    where
      by_turn : (t : Bool)
          → cond t (option_and_then (sender_at buffers) (transmitter plan window channel)) None ≡ None
      by_turn true = ap (option_and_then (sender_at buffers)) none
      by_turn false = refl

  offered_none : (o : Option ℕ) → offered_in None None o ≡ Nothing
  offered_none None = refl
  offered_none (Some slot) = refl

  nothing_from : transmitter plan window channel ≡ None → owner_on plan window channel ≡ None
      → OffersNothing plan window channel
  nothing_from sends owns = λ buffers.
      let sender : sender_on plan buffers window channel ≡ None = sender_none buffers (slot_of window channel) sends in
      λ i. record {
        sender = sender i;
        own = owns i;
        offered = ((λ j. offered_by window channel (owns j) (sender j)) ∙ offered_none (slot_of window channel)) i;
      }

  pub nothing-none : slot_of window channel ≡ None → OffersNothing plan window channel
  nothing-none none = nothing_from (transmitter-none plan window channel none)
      (ap (option_and_then (line_of plan window channel)) none)

  pub nothing-empty : (slot : ℕ) (sending owning : LineRange) → slot_of window channel ≡ Some slot
      → IsRangeOf slot (sending_slots plan.buffers) sending → IsRangeOf slot (own_slots plan.owned) owning
      → eqb sending.first sending.end ≡ true → eqb owning.first owning.end ≡ true → OffersNothing plan window channel
  nothing-empty slot sending owning there sends owns no_buffer no_line =
      let buffers = range_empty plan.buffers sending.first sending.end (eqb-true sending.first sending.end no_buffer) in
      let lines = range_empty plan.owned owning.first owning.end (eqb-true owning.first owning.end no_line) in
      nothing_from
      (transmitter-in plan window channel slot sending there sends
      ∙ ap (λ (l : List Buffer). option_map (λ p. sending.first + p)
      (position (is_admitting window channel) l)) buffers)
      (owner_none (slot_of window channel) (λ other at.
      let same : other ≡ slot = same_some other slot (sym at ∙ there) in
      ap (λ (n : ℕ). ownership plan.owned n channel window.cycle) same
      ∙ sym (ownership-in plan.owned slot channel window.cycle owning owns)
      ∙ ap (λ (l : List Own). ownership l slot channel window.cycle) lines))

-- ---- one more line

-- a place of a list with one more item is one of the list, or the last
get_more : {X : Type 0} (xs : List X) (x y : X) (place : ℕ) → slice_get (xs ++ x ∷ []) place ≡ Some y
    → (slice_get xs place ≡ Some y) ⊎ ((place ≡ length xs) × (x ≡ y))
get_more [] x y zero is = inr (refl, same_some x y is)
get_more [] x y (suc place) is = absurd (let none : ⊥ = cc in none)
get_more (z ∷ xs) x y zero is = inl is
get_more (z ∷ xs) x y (suc place) is = later (get_more xs x y place is)
  where
    later : ((slice_get xs place ≡ Some y) ⊎ ((place ≡ length xs) × (x ≡ y)))
        → (slice_get (z ∷ xs) (suc place) ≡ Some y) ⊎ ((suc place ≡ suc (length xs)) × (x ≡ y))
    later (inl h) = inl h
    later (inr h) = inr (ap suc h.0, h.1)

-- the element at a place after a write
get_written : {X : Type 0} (xs : List X) (at place : ℕ) (x y : X) → slice_get (set xs at x) place ≡ Some y
    → ((place ≡ at) × (x ≡ y)) ⊎ ((place ≡ at → ⊥) × (slice_get xs place ≡ Some y))
get_written [] at place x y is = absurd (let none : ⊥ = cc in none)
get_written (z ∷ xs) zero zero x y is = inl (refl, same_some x y is)
get_written (z ∷ xs) zero (suc place) x y is = inr ((λ e. let none : ⊥ = omega (arith, e) in none), is)
get_written (z ∷ xs) (suc at) zero x y is = inr ((λ e. let none : ⊥ = omega (arith, e) in none), is)
get_written (z ∷ xs) (suc at) (suc place) x y is = later (get_written xs at place x y is)
  where
    later : (((place ≡ at) × (x ≡ y)) ⊎ ((place ≡ at → ⊥) × (slice_get xs place ≡ Some y)))
        → ((suc place ≡ suc at) × (x ≡ y)) ⊎ ((suc place ≡ suc at → ⊥) × (slice_get (z ∷ xs) (suc place) ≡ Some y))
    later (inl h) = inl (ap suc h.0, h.1)
    later (inr h) = inr ((λ e. h.0 (omega (arith, e))), h.1)

module _ (slots : List ℕ) (range : LineRange) where
  longer : (slot : ℕ) → length (slots ++ slot ∷ []) ≡ length slots + 1
  longer slot = length-append slots (slot ∷ [])

  within_widened : (place : ℕ) (t : Bool) → eqb range.first range.end ≡ t → range.end ≤ length slots
      → IsWithin place range
      → IsWithin place (record { first = cond t (length slots) range.first; end = length slots + 1 })
  within_widened place true empty ends inside = absurd (let same =
      eqb-true range.first range.end empty in let none : ⊥ = omega (arith, same, inside.0, inside.1) in none)
  within_widened place false empty ends inside = (inside.0, omega (arith, inside.1, ends))

  last_widened : (t : Bool) → range.first ≤ range.end → range.end ≤ length slots
      → IsWithin (length slots) (record { first = cond t (length slots) range.first; end = length slots + 1 })
  last_widened true ordered ends = (omega arith, omega arith)
  last_widened false ordered ends = (omega (arith, ordered, ends), omega arith)

  -- the range of the new line's slot
  widened-is : (slot : ℕ) → IsRangeOf slot slots range → IsRangeOf slot (slots ++ slot ∷ [])
      (widened range (length slots))
  widened-is slot is =
      let last = last_widened (eqb range.first range.end) is.ordered is.ends in
      record {
        ordered = omega (arith, last.0, last.1);
        ends = omega (arith, longer slot);
        covers = λ place there. by_place place (get_more slots slot slot place there);
      }
    where
      by_place : (place : ℕ) → ((slice_get slots place ≡ Some slot) ⊎ ((place ≡ length slots) × (slot ≡ slot)))
          → IsWithin place (widened range (length slots))
      by_place place (inl h) = within_widened place (eqb range.first range.end) refl is.ends (is.covers place h)
      by_place place (inr h) = subst (λ (n : ℕ). IsWithin n (widened range (length slots))) (sym h.0)
          (last_widened (eqb range.first range.end) is.ordered is.ends)

  -- the ranges of the other slots
  other-is : (slot other : ℕ) → (other ≡ slot → ⊥) → IsRangeOf other slots range
      → IsRangeOf other (slots ++ slot ∷ []) range
  other-is slot other differs is = record {
    ordered = is.ordered;
    ends = omega (arith, is.ends, longer slot);
    covers = λ place there. by_place place (get_more slots slot other place there);
  }
    where
      by_place : (place : ℕ) → ((slice_get slots place ≡ Some other) ⊎ ((place ≡ length slots) × (slot ≡ other)))
          → IsWithin place range
      by_place place (inl h) = is.covers place h
      by_place place (inr h) = absurd (differs (sym h.1))

module _ (slots : List ℕ) (ranges : List LineRange) (are : AreRanges slots ranges) (slot : ℕ) where
  -- with one more line
  pub ranges-more : (range : LineRange) → slice_get ranges slot ≡ Some range
      → AreRanges (slots ++ slot ∷ []) (set ranges slot (widened range (length slots)))
  ranges-more range at = record {
    all = length-set ranges slot (widened range (length slots)) ∙ are.all;
    each = λ other found there. by_slot other found (get_written ranges slot other
        (widened range (length slots)) found there);
  }
    where
      by_slot : (other : ℕ) (found : LineRange) → (((other ≡ slot) × (widened range (length slots) ≡ found)) ⊎
          ((other ≡ slot → ⊥) × (slice_get ranges other ≡ Some found))) → IsRangeOf other (slots ++ slot ∷ []) found
      by_slot other found (inl h) =
          subst (λ (n : ℕ). IsRangeOf n (slots ++ slot ∷ []) found) (sym h.0)
          (subst (IsRangeOf slot (slots ++ slot ∷ [])) h.1 (widened-is slots range slot (are.each slot range at)))
      by_slot other found (inr h) = other-is slots found slot other h.0 (are.each other found h.1)

-- without lines
get_replicate : {X : Type 0} (n place : ℕ) (x y : X) → slice_get (replicate n x) place ≡ Some y → x ≡ y
get_replicate zero place x y is = absurd (let none : ⊥ = cc in none)
get_replicate (suc n) zero x y is = same_some x y is
get_replicate (suc n) (suc place) x y is = get_replicate n place x y is

empty-is : (slot : ℕ) → IsRangeOf slot [] (record { first = 0; end = 0 })
empty-is slot = record {
  ordered = omega arith;
  ends = omega arith;
  covers =
      λ place there. absurd (let none : ⊥ = cc in none);
}

ranges_none : (ranges : List LineRange) (n : ℕ) → n ≡ slot_count → ranges ≡ replicate n (record { first = 0; end = 0 })
    → AreRanges [] ranges
ranges_none ranges n all are = record {
  all = ap length are ∙ length-replicate n (record { first = 0; end = 0 }) ∙ all;
  each = λ slot range there. subst (IsRangeOf slot []) (get_replicate n slot (record { first = 0; end = 0 }) range
      (ap (λ (l : List LineRange). slice_get l slot) (sym are) ∙ there)) (empty-is slot);
}

pub ranges-none : (ranges : List LineRange) → ranges ≡ replicate 2048 (record { first = 0; end = 0 })
    → AreRanges [] ranges
ranges-none ranges are = ranges_none ranges 2048 refl are

-- the lines before a place, and the line at that place
taken_more : {X : Type 0} (f : X → ℕ) (xs : List X) (place : ℕ) (x : X) → place < length xs → x ≡ get_or xs place x
    → map f (take (place + 1) xs) ≡ map f (take place xs) ++ f x ∷ []
taken_more f xs place x lt is = map_more f xs place x lt ∙ ap (λ (y : _). map f (take place xs) ++ f y ∷ []) (sym is)

ranges-next : {X : Type 0} (f : X → ℕ) (xs : List X) (place : ℕ) (x : X) (ranges : List LineRange)
    → place < length xs → x ≡ get_or xs place x
    → AreRanges (map f (take place xs) ++ f x ∷ []) ranges → AreRanges (map f (take (place + 1) xs)) ranges
ranges-next f xs place x ranges lt is are = subst (λ (l : List ℕ). AreRanges l ranges)
    (sym (taken_more f xs place x lt is)) are

length-before : {X : Type 0} (f : X → ℕ) (xs : List X) (place : ℕ) → place < length xs
    → length (map f (take place xs)) ≡ place
length-before f xs place lt = length_map f (take place xs) ∙ length-take-le place xs (omega (arith, lt))

-- the ranges of one more line
pub ranges-widened : {X : Type 0} (f : X → ℕ) (xs : List X) (place : ℕ) (x : X) (slot : ℕ) (old new : List LineRange)
    → place < length xs → x ≡ get_or xs place x → slot ≡ f x
    → ((slots : List ℕ) → length slots ≡ place → AreRanges slots old → AreRanges (slots ++ slot ∷ []) new)
    → AreRanges (map f (take place xs)) old → AreRanges (map f (take (place + 1) xs)) new
ranges-widened f xs place x slot old new lt is same widened are =
    ranges-next f xs place x new lt is (subst (λ (n : ℕ). AreRanges (map f (take place xs) ++ n ∷ []) new) same
    (widened (map f (take place xs)) (length-before f xs place lt) are))

pub ranges-all : {X : Type 0} (f : X → ℕ) (xs : List X) (place : ℕ) (ranges : List LineRange) → length xs ≤ place
    → AreRanges (map f (take place xs)) ranges → AreRanges (map f xs) ranges
ranges-all f xs place ranges le are = subst (λ (l : List _). AreRanges (map f l) ranges) (take_all place xs le) are

-- ---- two ranges as one

module _ (n : ℕ) (one other : LineRange) where
  abbrev Ends : LineRange → Type 0
  Ends range = (range.first ≤ range.end) × (range.end ≤ n)

  joined_ends : (t u : Bool) → Ends one → Ends other
      → Ends (cond t other (cond u one (record { first = min one.first other.first; end = max one.end other.end })))
  joined_ends true u a b = b
  joined_ends false true a b = a
  joined_ends false false a b = grind (arith, nat_tests)

  pub joined-ends : Ends one → Ends other → Ends (joined one other)
  joined-ends = joined_ends (eqb one.first one.end) (eqb other.first other.end)

module _ (one other : LineRange) (place : ℕ) where
  abbrev Joins : Bool → Bool → Type 0
  Joins t u = IsWithin place (cond t other (cond u one
      (record { first = min one.first other.first; end = max one.end other.end })))

  joins_one : (t u : Bool) → eqb one.first one.end ≡ t → IsWithin place one → Joins t u
  joins_one true u empty inside = absurd (let same = eqb-true one.first one.end empty in let none : ⊥ =
      omega (arith, same, inside.0, inside.1) in none)
  joins_one false true empty inside = inside
  joins_one false false empty inside = (omega (arith, inside.0), omega (arith, inside.1))

  joins_other : (t u : Bool) → eqb other.first other.end ≡ u → IsWithin place other → Joins t u
  joins_other true u empty inside = inside
  joins_other false true empty inside = absurd (let same = eqb-true other.first other.end empty in let none : ⊥ =
      omega (arith, same, inside.0, inside.1) in none)
  joins_other false false empty inside = (omega (arith, inside.0), omega (arith, inside.1))

  pub joined-one : IsWithin place one → IsWithin place (joined one other)
  joined-one = joins_one (eqb one.first one.end) (eqb other.first other.end) refl

  pub joined-other : IsWithin place other → IsWithin place (joined one other)
  joined-other = joins_other (eqb one.first one.end) (eqb other.first other.end) refl

-- ---- frames that buffers store

module _ (window : Opportunity) (channel : Channel) where
  frame_none : (moment : Moment) (b : Buffer) → is_some (frame_on moment window channel None b) ≡ false
  frame_none moment b = by_test (admits_window b.filter window channel)
    where
      by_test : (t : Bool) → is_some (cond t (option_map (arrival_of moment channel) None) None) ≡ false
      by_test true = refl
      by_test false = refl

  frame_admits : (moment : Moment) (frame : Option Fields) (b : Buffer)
      → is_some (frame_on moment window channel frame b) ≡ true → admits_window b.filter window channel ≡ true
  frame_admits moment frame b some = by_test (admits_window b.filter window channel) some
    where
      by_test : (t : Bool) → is_some (cond t (option_map (arrival_of moment channel) frame) None) ≡ true → t ≡ true
      by_test true some = refl
      by_test false some = absurd (let none : ⊥ = cc in none)

  -- without a frame
  pub taking-none : (buffers : List Buffer) (frame : Option Fields) → frame ≡ None
      → IsTakingRange buffers window channel frame (record { first = 0; end = 0 })
  taking-none buffers frame is = record {
    ordered = omega arith;
    ends = omega arith;
    covers = λ moment place b there some. absurd (both_ways _
        (ap (λ (f : Option Fields). is_some (frame_on moment window channel f b)) is ∙ frame_none moment b) some);
  }

  -- if the channel has no slot
  pub taking-nowhere : (buffers : List Buffer) (frame : Option Fields) → slot_of window channel ≡ None
      → IsTakingRange buffers window channel frame (record { first = 0; end = 0 })
  taking-nowhere buffers frame is = record {
    ordered = omega arith;
    ends = omega arith;
    covers = λ moment place b there some. absurd (both_ways _ (admits-none b.filter window channel is)
        (frame_admits moment frame b some));
  }

  pub taking-of : (buffers : List Buffer) (frame : Option Fields) (slot : ℕ) (range : LineRange)
      → slot_of window channel ≡ Some slot → IsRangeOf slot (buffer_slots buffers) range
      → IsTakingRange buffers window channel frame range
  taking-of buffers frame slot range there is = record {
    ordered = is.ordered;
    ends = omega (arith, is.ends, length_map (λ (b : Buffer). b.filter.slot) buffers);
    covers = λ moment place b at some.
        is.covers place (map-get (λ (b : Buffer). b.filter.slot) buffers place b at ∙ ap (λ (n : ℕ). Some n)
        (admits-slot b.filter window channel slot there (frame_admits moment frame b some)));
  }

module _ (moment : Moment) (window : Opportunity) (a b : Option Fields) where
  -- the line stores nothing
  abbrev TakesNone : Buffer → Type 0
  TakesNone line = taken_by moment window a b line ≡ None

  none_taken : (line : Buffer) → is_some (frame_on moment window A a line) ≡ false
      → is_some (frame_on moment window B b line) ≡ false → TakesNone line
  none_taken line on_a on_b = by_mode (is_receive line.mode) (frame_on moment window A a line)
      (frame_on moment window B b line) on_a on_b
    where
      by_mode : (t : Bool) (x y : Option Arrival) → is_some x ≡ false → is_some y ≡ false
          → cond t (option_or x y) None ≡ None
      by_mode false x y p q = refl
      by_mode true None None p q = refl
      by_mode true (Some x) y p q = absurd (let none : ⊥ = cc in none)
      by_mode true None (Some y) p q = absurd (let none : ⊥ = cc in none)

  stored_skip : (lines : List Buffer) (held : List (Option Arrival)) (first : ℕ)
      → ((place : ℕ) (line : Buffer) → slice_get lines place ≡ Some line → place < first → TakesNone line)
      → stored_all moment window a b (take first lines) held ≡ held
  stored_skip lines held zero h = refl
  stored_skip [] held (suc first) h = refl
  stored_skip (line ∷ lines) [] (suc first) h = refl
  stored_skip (line ∷ lines) (x ∷ held) (suc first) h =
      λ i. option_or (h 0 line refl (omega arith) i) x ∷ stored_skip lines held first
      (λ place y is lt. h (suc place) y is (omega (arith, lt))) i

  stored_cut : (lines : List Buffer) (held : List (Option Arrival)) (end : ℕ)
      → ((place : ℕ) (line : Buffer) → slice_get lines place ≡ Some line → end ≤ place → TakesNone line)
      → stored_all moment window a b (take end lines) held ≡ stored_all moment window a b lines held
  stored_cut [] held zero h = refl
  stored_cut [] held (suc end) h = refl
  stored_cut (line ∷ lines) [] zero h = refl
  stored_cut (line ∷ lines) [] (suc end) h = refl
  stored_cut (line ∷ lines) (x ∷ held) zero h =
      λ i. option_or (sym (h 0 line refl (omega arith)) i) x ∷ stored_cut lines held zero
      (λ place y is le. h (suc place) y is (omega arith)) i
  stored_cut (line ∷ lines) (x ∷ held) (suc end) h =
      ap (λ (rest : List (Option Arrival)). option_or (taken_by moment window a b line) x ∷ rest)
      (stored_cut lines held end (λ place y is le. h (suc place) y is (omega (arith, le))))

  module _ (lines : List Buffer) (one other : LineRange) (of_a : IsTakingRange lines window A a one)
      (of_b : IsTakingRange lines window B b other) where
    outside : (place : ℕ) (line : Buffer) → slice_get lines place ≡ Some line → (IsWithin place (joined one other) → ⊥)
        → TakesNone line
    outside place line there out =
        none_taken line
        (false_from_ne_true _ (λ some. out (joined-one one other place (of_a.covers moment place line there some))))
        (false_from_ne_true _ (λ some. out (joined-other one other place (of_b.covers moment place line there some))))

    -- the frames stored before the range and after it
    pub stored-before : (held : List (Option Arrival)) → stored_all moment window a b
        (take (joined one other).first lines) held ≡ held
    stored-before held = stored_skip lines held (joined one other).first
        (λ place line there lt. outside place line there (λ inside. let none : ⊥ = omega (arith, lt, inside.0) in none))

    pub stored-within : (held : List (Option Arrival)) → stored_all moment window a b
        (take (joined one other).end lines) held ≡ stored_all moment window a b lines held
    stored-within held = stored_cut lines held (joined one other).end
        (λ place line there le. outside place line there (λ inside. let none : ⊥ = omega (arith, le, inside.1) in none))
