use Rattle.std.proofs.Common.{◌≡◌, ℕ, Bool, true, false, cond, refl, sym, ap, ◌∙◌, ◌&&◌, ◌||◌, List, [], ◌∷◌, ◌++◌}
use Rattle.std.proofs.Common.{Some, None, arith, subst}
use Rattle.std.specs.List.{list_all, list_any}
use Rattle.std.specs.Prelude.{◌==◌, nat_le, IsTrue, not}
use Rattle.std.proofs.lemmas.Bool.Decides.{nat_tests}
use Rattle.std.proofs.lemmas.List.Folds.{list_all-append, list_any-append}
use Rattle.std.specs.HashSet.{HashSet, contains, IsEmpty}
use Rattle.fr_slots.specs.declared.channel.Channel.{Channel}
use Rattle.fr_slots.specs.declared.channel.Channel.TheVariants.{A, B}
use Rattle.fr_bus.specs.declared.fault.Fault.{Fault}
use Rattle.fr_bus.specs.declared.fault.Fault.TheVariants.{Babble, Mute, Corrupt}
use Rattle.fr_runs.specs.declared.cycles.RunCycles.{RunCycles}
use Rattle.fr_runs.specs.declared.cycles.RunCycles.TheVariants as cycles
use Rattle.fr_runs.specs.declared.fault_line.FaultPlace.{FaultPlace}
use Rattle.fr_runs.specs.declared.fault_line.FaultPlace.TheVariants.{EverySlot, Slot, EveryMinislot, Minislot}
use Rattle.fr_runs.specs.declared.fault_line.FaultLine.{FaultLine}
use Rattle.fr_session.specs.declared.marks.Mark.{Mark}
use Rattle.fr_core.proofs.CaseLemmas.{both, both_first, both_rest}
use Rattle.fr_runs.specs.Suiting.{are_alike, cycles_meet, places_meet, lines_meet, line_fits, IsFaultAfter}
use Rattle.fr_schedule.specs.Descriptions.{Description}
use Rattle.fr_slots.specs.Admission.{is_channel}
use Rattle.fr_session.specs.Marks.{are_plain_cycles, is_plain_place, is_plain, plain_mark_of, mark_of, mark_eq, is_same}
use Rattle.fr_session.specs.Marks.{target_eq, is_b, target_of, cycles_of, places_of, in_static, at, leaves_on, first_by}
use Rattle.fr_session.specs.Marks.{other_by, finds, is_left_by, AreMarksOf, AddsMarks}

-- ---- on each axis

channels : (c e : Channel) → is_same (is_b e) (is_b c) ≡ is_channel c e
channels A A = refl
channels A B = refl
channels B A = refl
channels B B = refl

targets : (one other : Fault) → target_eq (target_of other) (target_of one) ≡ are_alike one other
targets (Babble n c bytes) (Babble m e others) = let same = channels c e in grind (arith, same)
targets (Babble n c bytes) (Mute m e) = refl
targets (Babble n c bytes) (Corrupt e other) = refl
targets (Mute n c) (Babble m e others) = refl
targets (Mute n c) (Mute m e) = let same = channels c e in grind (arith, same)
targets (Mute n c) (Corrupt e other) = refl
targets (Corrupt c bit) (Babble m e others) = refl
targets (Corrupt c bit) (Mute m e) = refl
targets (Corrupt c bit) (Corrupt e other) = channels c e

on_cycles : (one other : RunCycles) → are_plain_cycles one ≡ true → are_plain_cycles other ≡ true
    → (leaves_on (cycles_of other) (first_by (cycles_of one)) || leaves_on (cycles_of other) (other_by (cycles_of one)))
    ≡ cycles_meet one other
on_cycles cycles.Every cycles.Every p q = refl
on_cycles cycles.Every (cycles.Only other) p q = refl
on_cycles (cycles.Only cycle) cycles.Every p q = refl
on_cycles (cycles.Only cycle) (cycles.Only other) p q = grind arith
on_cycles one other p q = absurd (let none : ⊥ = cc in none)

-- two slots with no other between them are one
one_slot : (a b : ℕ) → (b == a) ≡ (nat_le a b && nat_le b a || false)
one_slot a b = grind (arith, nat_tests)

on_places : (one other : FaultPlace) → is_plain_place one ≡ true → is_plain_place other ≡ true
    → (is_same (in_static other) (in_static one)
    && (leaves_on (places_of other) (first_by (places_of one)) || leaves_on (places_of other)
    (other_by (places_of one))))
    ≡ places_meet one other
on_places EverySlot EverySlot p q = refl
on_places EverySlot (Slot other) p q = refl
on_places EverySlot EveryMinislot p q = refl
on_places EverySlot (Minislot other) p q = refl
on_places (Slot number) EverySlot p q = refl
on_places (Slot number) (Slot other) p q = let same = one_slot number other in grind (arith, same)
on_places (Slot number) EveryMinislot p q = refl
on_places (Slot number) (Minislot other) p q = refl
on_places EveryMinislot EverySlot p q = refl
on_places EveryMinislot (Slot other) p q = refl
on_places EveryMinislot EveryMinislot p q = refl
on_places EveryMinislot (Minislot other) p q = refl
on_places (Minislot number) EverySlot p q = refl
on_places (Minislot number) (Slot other) p q = refl
on_places (Minislot number) EveryMinislot p q = refl
on_places (Minislot number) (Minislot other) p q = grind arith
on_places one other p q = absurd (let none : ⊥ = cc in none)

-- ---- the marks of a line find another line exactly if the two meet

four : (t f c e p q : Bool) → ((t && (f && (c && p))) || (t && (f && (c && q))) || (t && (f && (e && p)))
    || (t && (f && (e && q)))) ≡ (t && (f && (p || q)) && (c || e))
four t f c e p q = grind arith

meeting : (line other : FaultLine) → is_plain line ≡ true → is_plain other ≡ true
    → finds (λ m. is_left_by m other) (mark_of line) ≡ lines_meet line other
meeting line other p q =
    let kinds = targets line.fault other.fault in
    let in_time = on_cycles line.cycles other.cycles
    (both_first (are_plain_cycles line.cycles) (is_plain_place line.place) p)
    (both_first (are_plain_cycles other.cycles) (is_plain_place other.place) q) in
    let in_place = on_places line.place other.place
    (both_rest (are_plain_cycles line.cycles) (is_plain_place line.place) p)
    (both_rest (are_plain_cycles other.cycles) (is_plain_place other.place) q) in
    let all = four (target_eq (target_of other.fault) (target_of line.fault))
    (is_same (in_static other.place) (in_static line.place))
    (leaves_on (cycles_of other.cycles) (first_by (cycles_of line.cycles)))
    (leaves_on (cycles_of other.cycles) (other_by (cycles_of line.cycles)))
    (leaves_on (places_of other.place) (first_by (places_of line.place)))
    (leaves_on (places_of other.place) (other_by (places_of line.place))) in
    grind (arith, all, kinds, in_time, in_place)

shuffle : (a b c d e f g h : Bool) → ((a || e) || (b || f) || (c || g) || (d || h)) ≡
    ((a || b || c || d) || (e || f || g || h))
shuffle a b c d e f g h = grind arith

spread : (f g : Mark → Bool) (own : Mark) → finds (λ m. f m || g m) own ≡ (finds f own || finds g own)
spread f g own =
    let one = at own (first_by own.cycles) (first_by own.places) in
    let two = at own (first_by own.cycles) (other_by own.places) in
    let three = at own (other_by own.cycles) (first_by own.places) in
    let last = at own (other_by own.cycles) (other_by own.places) in
    shuffle (f one) (f two) (f three) (f last) (g one) (g two) (g three) (g last)

either : (a b c d : Bool) → a ≡ b → c ≡ d → (a || c) ≡ (b || d)
either a b c d one other = grind (arith, one, other)

-- the marks find a line that meets one of the lines
found : (line : FaultLine) (lines : List FaultLine) → is_plain line ≡ true → list_all is_plain lines ≡ true
    → finds (λ m. list_any (is_left_by m) lines) (mark_of line) ≡ list_any (lines_meet line) lines
found line [] plain all = refl
found line (other ∷ lines) plain all =
    spread (λ m. is_left_by m other) (λ m. list_any (is_left_by m) lines) (mark_of line)
    ∙ either _ _ _ _ (meeting line other plain (both_first (is_plain other) (list_all is_plain lines) all))
    (found line lines plain (both_rest (is_plain other) (list_all is_plain lines) all))

alike : (f g : Mark → Bool) (own : Mark) → ((m : Mark) → f m ≡ g m) → finds f own ≡ finds g own
alike f g own same = either _ _ _ _ (either _ _ _ _ (either _ _ _ _ (same _) (same _)) (same _)) (same _)

-- a line with an own mark is plain
own_plain : (line : FaultLine) (own : Mark) (b : Bool) → is_plain line ≡ b
    → cond b (Some (mark_of line)) None ≡ Some own
    → (is_plain line ≡ true) × (mark_of line ≡ own)
own_plain line own true plain is = (plain, cc is)
own_plain line own false other is = absurd (let none : ⊥ = cc in none)

pub met : {S : Type 0} (set : HashSet Mark S) (lines : List FaultLine) (line : FaultLine) (own : Mark)
    → AreMarksOf lines set → plain_mark_of line ≡ Some own
    → finds (contains mark_eq set) own ≡ list_any (lines_meet line) lines
met set lines line own marked is =
    let plain = own_plain line own (is_plain line) refl is in
    ap (finds (contains mark_eq set)) (sym plain.1)
    ∙ alike _ _ (mark_of line) marked.each ∙ found line lines plain.0 marked.plain

-- an empty list of lines leaves no mark
pub unmarked : {S : Type 0} (set : HashSet Mark S) → IsEmpty set → AreMarksOf [] set
unmarked set empty = record {
  plain = refl;
  each = λ m. subst (λ keys. list_any (mark_eq m) keys ≡ false) (sym empty) refl;
}

turned : (a b : Bool) → (a || b) ≡ (b || (a || false))
turned a b = grind arith

-- one plain line more
all_more : (lines : List FaultLine) (line : FaultLine) → list_all is_plain lines ≡ true → is_plain line ≡ true
    → list_all is_plain (lines ++ line ∷ []) ≡ true
all_more lines line all plain =
    list_all-append is_plain lines (line ∷ [])
    ∙ both (list_all is_plain lines) (is_plain line && true) all (both (is_plain line) true plain refl)

marked_more : {S : Type 0} (old new : HashSet Mark S) (lines : List FaultLine) (line : FaultLine)
    → is_plain line ≡ true → AreMarksOf lines old → AddsMarks old (mark_of line) new
    → AreMarksOf (lines ++ line ∷ []) new
marked_more old new lines line plain marked adds = record {
  plain = all_more lines line marked.plain plain;
  each = λ m. adds m ∙ either _ _ _ _ refl (marked.each m)
      ∙ turned (is_left_by m line) (list_any (is_left_by m) lines)
      ∙ sym (list_any-append (is_left_by m) lines (line ∷ []));
}

pub marked_by : {S : Type 0} (old new : HashSet Mark S) (own : Mark) (lines : List FaultLine) (line : FaultLine)
    → plain_mark_of line ≡ Some own → AreMarksOf lines old → AddsMarks old own new
    → AreMarksOf (lines ++ line ∷ []) new
marked_by old new own lines line is marked adds =
    let plain = own_plain line own (is_plain line) refl is in
    marked_more old new lines line plain.0 marked (subst (λ mark. AddsMarks old mark new) (sym plain.1) adds)

-- a line that fits suits exactly if the marks don't find it
pub suits_by : (d : Description) (cycles : ℕ) (lines : List FaultLine) (line : FaultLine) (is_found : Bool)
    → is_found ≡ list_any (lines_meet line) lines → line_fits d cycles line ≡ true
    → (IsTrue (not is_found) → IsFaultAfter d cycles lines line) ×
    (IsFaultAfter d cycles lines line → IsTrue (not is_found))
suits_by d cycles lines line true is fits =
    ((λ none. cc none), λ suits. cc (is ∙ suits.only))
suits_by d cycles lines line false is fits = ((λ none. record { fits = fits; only = sym is }), λ suits. refl)
