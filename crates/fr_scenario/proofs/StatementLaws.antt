-- Each value that a line of version 3 can say has a spelling that is read as this value.
use Rattle.std.proofs.Common.{◌≡◌, ℕ, zero, suc, ◌+◌, ◌/◌, ◌%◌, ◌<◌, ◌≤◌, ◌^◌, ◌==◌, Bool, true, false, inl, inr, List}
use Rattle.std.proofs.Common.{[], ◌∷◌, ◌++◌, codes, length, get_or, Option, Some, None, refl, sym, ap, ◌∙◌, arith}
use Rattle.std.proofs.Common.{append_assoc, length-append, subst}
use Rattle.std.proofs.lemmas.Bool.{cases_Bool, le-leb, or_parts}
use Rattle.std.proofs.lemmas.Bool.Decides.{nat_tests}
use Rattle.std.proofs.lemmas.List.{append-nil}
use Rattle.std.proofs.lemmas.Fmt.{decimal_by_steps, digits_decimal}
use Rattle.std.proofs.lemmas.Str.Parse.{digit_from_value}
use Rattle.std.specs.Fmt.{decimal}
use Rattle.std.specs.List.{list_any}
use Rattle.std.specs.Prelude.{nat_le}
use Rattle.std.specs.Str.{bytes_eq}
use Rattle.std.specs.Str.Parse.{AllDigits}
use Rattle.hex.specs.Hex.{encode_lower, encode_with, lower_digits}
use Rattle.fr_bus.specs.declared.fault.Fault.{Fault}
use Rattle.fr_bus.specs.declared.fault.Fault.TheVariants.{Babble, Mute, Corrupt}
use Rattle.fr_interface.specs.declared.call.Call.{Call}
use Rattle.fr_interface.specs.declared.call.Call.TheVariants.{Commit, Withdraw, Read, Pop}
use Rattle.fr_lines.proofs.PartLemmas.{channels_again}
use Rattle.fr_lines.proofs.PlanPartLemmas.{payload_again}
use Rattle.fr_lines.specs.Parts.{channels_word}
use Rattle.fr_names.specs.Names.{NamesOfNode}
use Rattle.fr_runs.specs.declared.cycles.RunCycles.{RunCycles}
use Rattle.fr_runs.specs.declared.cycles.RunCycles.TheVariants.{Every, Only, Span}
use Rattle.fr_runs.specs.declared.fault_line.FaultLine.{FaultLine}
use Rattle.fr_runs.specs.declared.fault_line.FaultPlace.{FaultPlace}
use Rattle.fr_runs.specs.declared.fault_line.FaultPlace.TheVariants.{EveryWindow, EverySlot, Slot, Slots}
use Rattle.fr_runs.specs.declared.fault_line.FaultPlace.TheVariants.{EveryMinislot, Minislot, Dynamic}
use Rattle.fr_scenario.proofs.ListLemmas.{line_chosen}
use Rattle.fr_scenario.proofs.PartedLemmas.{lacks, lacks-append, parted_none, parted_here, words_again, IsBare, AreBare}
use Rattle.fr_scenario.proofs.PartedLemmas.{is_bare_not, only_element}
use Rattle.fr_scenario.proofs.PartLemmas.{counted_again, run_cycle_again}
use Rattle.fr_scenario.specs.BlankWords.{has_bytes}
use Rattle.fr_scenario.specs.Choosing.{alone, chosen_said, each_chosen, joined, onto}
use Rattle.fr_scenario.specs.declared.statement.Statement.{Statement}
use Rattle.fr_scenario.specs.declared.statement.Statement.TheVariants as statement
use Rattle.fr_scenario.specs.declared.version.Version.TheVariants.{Two}
use Rattle.fr_scenario.specs.Lists.{few, line_said, line_statements}
use Rattle.fr_scenario.specs.Parts.{star, channel_word, cycles_word, place_word}
use Rattle.fr_scenario.specs.Spelled.{AreSaidCycles, IsCounted, IsRunCycle, IsSaidPlace, IsSpelledCall, IsSpelledFault}
use Rattle.fr_scenario.specs.Spelling.{kind_word, call_words}
use Rattle.fr_scenario.specs.StatementParts.{cycles_said, span_said, with_step, step_said, span_of, one_cycle}
use Rattle.fr_scenario.specs.StatementParts.{place_said, marked_place, slots_said, one_slot, some_slots, slots_from}
use Rattle.fr_scenario.specs.StatementParts.{minislots_said, dynamic_said, node_said, buffer_said}
use Rattle.fr_scenario.specs.Statements.{statement_said, statement_in, other_said, calls_said, call_said, commit_said}
use Rattle.fr_scenario.specs.Statements.{withdraw_said, read_said, pop_said, babble_said, mute_said, corrupt_said}
use Rattle.fr_scenario.specs.Statements.{expect_said, expect_none_said, fault_at, faults_on}
use Rattle.fr_scenario.specs.StatementText.{AreSaidCalls, AreSaidFaultLines, IsSaidExpectation, IsSaid, on_channel}
use Rattle.fr_scenario.specs.StatementText.{channel_of}
use Rattle.fr_scenario.specs.StatementText.{fault_words_on, fault_words_of, expected_words, statement_words}
use Rattle.fr_scenario.specs.StatementText.{said_alone, statement_text}
use Rattle.fr_slots.specs.declared.channel.Channel.{Channel}
use Rattle.fr_slots.specs.declared.channel.Channel.TheVariants.{A, B}
use Rattle.fr_slots.specs.declared.channel.Channels.{Channels}
use Rattle.fr_slots.specs.declared.channel.Channels.TheVariants as channels
use Rattle.fr_text.proofs.HexTextLemmas.{bytes_again}
use Rattle.fr_text.proofs.NumberLemmas.{own, number_again, decimal_other}
use Rattle.fr_text.specs.Spaces.{line_of}
use Rattle.fr_text.specs.Spelling.{hex_text}

-- ---- the bytes of a number

module _ (p : ℕ → Bool) (other : (b : ℕ) → 48 ≤ b → b < 58 → p b ≡ false) where
  digits_lack : (ds : List ℕ) → AllDigits 10 ds → lacks p ds
  digits_lack [] h = tt
  digits_lack (d ∷ ds) h =
      let low = digit_from_value d h.0 in
      (other d (omega (arith, low.0)) (omega (arith, low.1)), digits_lack ds h.1)

  number_lacks : (n : ℕ) → n < 2 ^ 64 → lacks p (decimal n)
  number_lacks n small = digits_lack (decimal n) (digits_decimal own n small)

no_dash : (n : ℕ) → n < 2 ^ 64 → lacks (λ b. b == 45) (decimal n)
no_dash n small = number_lacks (λ b. b == 45) (λ b low high. grind (arith, nat_tests)) n small

no_slash : (n : ℕ) → n < 2 ^ 64 → lacks (λ b. b == 47) (decimal n)
no_slash n small = number_lacks (λ b. b == 47) (λ b low high. grind (arith, nat_tests)) n small

-- a word that is longer than the star is another
long_other : (word : List ℕ) → 1 < length word → bytes_eq word star ≡ false
long_other [] long = absurd (omega arith)
long_other (a ∷ []) long = absurd (omega arith)
long_other (a ∷ b ∷ word) long =
    elim (cases_Bool (a == 42)) [
      | inl same ↦ rw same refl
      | inr other ↦ rw other refl
    ]

long_decimal : (n : ℕ) → n < 2 ^ 64 → 0 < length (decimal n)
long_decimal = decimal_by_steps (λ m ds. 0 < length ds) (λ m l. omega arith)
    (λ m ds l h. omega (arith, length-append ds ((48 + m % 10) ∷ [])))

-- ---- cycles

step_again : (n : ℕ) → 1 ≤ n → n < 1024 → step_said (decimal n) ≡ Some n
unfolding step_said
step_again n low high =
    let other : (n == 0) ≡ false = grind (arith, nat_tests) in
    rw (number_again 1024 n high (omega arith), other) refl

in_span : (first last step : ℕ) → first ≤ last → span_of first last step ≡ Some (Span first last step)
in_span first last step ordered =
    let is : nat_le first last ≡ true = le-leb first last ordered in
    rw is refl

-- the word of a span, as its parts around the marks
span_word : (first last step : ℕ)
    → cycles_word (Span first last step) ≡ decimal first ++ 45 ∷ (decimal last ++ 47 ∷ decimal step)
span_word first last step =
    append_assoc (decimal first ++ codes "-" ++ decimal last) (codes "/") (decimal step)
    ∙ append_assoc (decimal first ++ codes "-") (decimal last) (47 ∷ decimal step)
    ∙ append_assoc (decimal first) (codes "-") (decimal last ++ 47 ∷ decimal step)

pub cycles_said_again : (c : RunCycles) → AreSaidCycles c → cycles_said (cycles_word c) ≡ Some c
unfolding cycles_said one_cycle span_said with_step
cycles_said_again Every fits = refl
cycles_said_again (Only n) fits =
    let small : n < 2 ^ 64 = omega arith in
    rw (decimal_other n star small refl, parted_none 45 (decimal n) (no_dash n small), run_cycle_again n fits) refl
cycles_said_again (Span first last step) fits =
    let (ordered, within, some, few) = fits in
    let small : first < 2 ^ 64 = omega arith in
    let small2 : last < 2 ^ 64 = omega arith in
    let rest : List ℕ = decimal last ++ 47 ∷ decimal step in
    let word : List ℕ = decimal first ++ 45 ∷ rest in
    let long : 1 < length word = omega (
      arith,
      length-append (decimal first) (45 ∷ rest),
      length-append (decimal last)
          (47 ∷ decimal step),
    ) in
    let dash = parted_here 45 (decimal first) rest (no_dash first small) refl in
    let slash = parted_here 47 (decimal last) (decimal step) (no_slash last small2) refl in
    let first_fits : IsRunCycle first = omega arith in
    let said : cycles_said word ≡ Some (Span first last step) =
    rw (
      long_other word long,
      dash,
      run_cycle_again first first_fits,
      slash,
      run_cycle_again last within,
      step_again step some few,
      in_span first last step ordered,
    ) refl in
    ap cycles_said (span_word first last step) ∙ said

-- ---- places

some_in_order : (first last : ℕ) → first ≤ last → slots_from first last ≡ Some (Slots first last)
some_in_order first last ordered =
    let is : nat_le first last ≡ true = le-leb first last ordered in
    rw is refl

-- a letter and more is not the star
marked_other : (mark b : ℕ) (more : List ℕ) → bytes_eq (mark ∷ b ∷ more) star ≡ false
marked_other mark b more = long_other (mark ∷ b ∷ more) (omega arith)

one_slot_again : (n : ℕ) → IsCounted n → slots_said (decimal n) ≡ Some (Slot n)
unfolding slots_said one_slot
one_slot_again n fits =
    let high = fits.at_most in
    let small : n < 2 ^ 64 = omega arith in
    rw (decimal_other n star small refl, parted_none 45 (decimal n) (no_dash n small), counted_again n fits) refl

some_slots_again : (first last : ℕ) → IsCounted first → IsCounted last → first ≤ last
    → slots_said (decimal first ++ 45 ∷ decimal last) ≡ Some (Slots first last)
unfolding slots_said some_slots
some_slots_again first last fits last_fits ordered =
    let high = fits.at_most in
    let small : first < 2 ^ 64 = omega arith in
    let word : List ℕ = decimal first ++ 45 ∷ decimal last in
    let some : 0 < length (decimal last) = long_decimal last (omega (arith, last_fits.at_most)) in
    let long : 1 < length word = omega (arith, some, length-append (decimal first) (45 ∷ decimal last)) in
    rw (
      long_other word long,
      parted_here 45 (decimal first) (decimal last) (no_dash first small) refl,
      counted_again first fits,
      counted_again last last_fits,
      some_in_order first last ordered,
    ) refl

minislot_again : (n : ℕ) → IsCounted n → minislots_said (decimal n) ≡ Some (Minislot n)
unfolding minislots_said
minislot_again n fits =
    let high = fits.at_most in
    let small : n < 2 ^ 64 = omega arith in
    rw (decimal_other n star small refl, counted_again n fits) refl

dynamic_again : (n : ℕ) → IsCounted n → dynamic_said (decimal n) ≡ Some (Dynamic n)
unfolding dynamic_said
dynamic_again n fits = rw (counted_again n fits) refl

every_slot : place_said (115 ∷ star) ≡ Some EverySlot
unfolding place_said marked_place slots_said
every_slot = refl

every_minislot : place_said (109 ∷ star) ≡ Some EveryMinislot
unfolding place_said marked_place minislots_said
every_minislot = refl

-- a place with a letter
lettered : (mark : ℕ) (rest : List ℕ) → 0 < length rest → place_said (mark ∷ rest) ≡ marked_place (mark ∷ rest)
unfolding place_said
lettered mark rest some = rw (long_other (mark ∷ rest) (omega (arith, some))) refl

slots_word : (first last : ℕ) → place_word (Slots first last) ≡ 115 ∷ (decimal first ++ 45 ∷ decimal last)
slots_word first last = ap (λ (w : List ℕ). 115 ∷ w) (append_assoc (decimal first) (codes "-") (decimal last))

pub place_said_again : (p : FaultPlace) → IsSaidPlace p → place_said (place_word p) ≡ Some p
unfolding place_said marked_place
place_said_again EveryWindow fits = refl
place_said_again EverySlot fits = every_slot
place_said_again (Slot n) fits =
    lettered 115 (decimal n) (long_decimal n (omega (arith, fits.at_most))) ∙ one_slot_again n fits
place_said_again (Slots first last) fits =
    let (ordered, first_fits, last_fits) = fits in
    let word : List ℕ = decimal first ++ 45 ∷ decimal last in
    let some : 0 < length word = omega (arith, length-append (decimal first) (45 ∷ decimal last)) in
    ap place_said (slots_word first last) ∙ lettered 115 word some
    ∙ some_slots_again first last first_fits last_fits ordered
place_said_again EveryMinislot fits = every_minislot
place_said_again (Minislot n) fits =
    lettered 109 (decimal n) (long_decimal n (omega (arith, fits.at_most))) ∙ minislot_again n fits
place_said_again (Dynamic n) fits =
    lettered 100 (decimal n) (long_decimal n (omega (arith, fits.at_most))) ∙ dynamic_again n fits

-- ---- words without blanks and marks of comments

other_byte : (b : ℕ) → 48 ≤ b → b < 58 → is_bare_not b ≡ false
other_byte b low high = grind (arith, nat_tests)

has_some : (word : List ℕ) → 0 < length word → has_bytes word ≡ true
has_some [] some = absurd (omega arith)
has_some (b ∷ word) some = refl

bare_number : (n : ℕ) → n < 2 ^ 64 → IsBare (decimal n)
bare_number n small = record {
  some = has_some (decimal n) (long_decimal n small);
  bare = number_lacks is_bare_not other_byte n small;
}

lacks_at : (xs : List ℕ) (k : ℕ) → lacks is_bare_not xs → is_bare_not (get_or xs k 0) ≡ false
lacks_at [] k h = refl
lacks_at (x ∷ xs) zero h = h.0
lacks_at (x ∷ xs) (suc k) h = lacks_at xs k h.1

-- of given words
lacks_from : (xs : List ℕ) → list_any is_bare_not xs ≡ false → lacks is_bare_not xs
lacks_from [] h = tt
lacks_from (x ∷ xs) h =
    let parts = or_parts (is_bare_not x) (list_any is_bare_not xs) h in (parts.0, lacks_from xs parts.1)

bare_word : (word : List ℕ) → has_bytes word ≡ true → list_any is_bare_not word ≡ false → IsBare word
bare_word word some none = record { some = some; bare = lacks_from word none }

lacks_hex : (bs : List ℕ) → lacks is_bare_not (encode_lower bs)
unfolding encode_with
lacks_hex [] = tt
lacks_hex (b ∷ bs) =
    let digits = lacks_from lower_digits refl in
    (lacks_at lower_digits (b / 16) digits, (lacks_at lower_digits (b % 16) digits, lacks_hex bs))

bare_hex : (bs : List ℕ) → IsBare (hex_text bs)
bare_hex bs = record { some = refl; bare = (refl, lacks_hex bs) }

bare_cycles : (c : RunCycles) → AreSaidCycles c → IsBare (cycles_word c)
bare_cycles Every fits = bare_word star refl refl
bare_cycles (Only n) fits = bare_number n (omega arith)
bare_cycles (Span first last step) fits =
    let (ordered, within, some, few) = fits in
    let a = bare_number first (omega arith) in
    let b = bare_number last (omega arith) in
    let c = bare_number step (omega arith) in
    let end : lacks is_bare_not (decimal last ++ 47 ∷ decimal step) =
    lacks-append is_bare_not (decimal last) (47 ∷ decimal step) b.bare (refl, c.bare) in
    let word : List ℕ = decimal first ++ 45 ∷ (decimal last ++ 47 ∷ decimal step) in
    let whole : IsBare word = record {
      some = has_some word (omega (arith, length-append (decimal first) (45 ∷ (decimal last ++ 47 ∷ decimal step))));
      bare = lacks-append is_bare_not (decimal first) (45 ∷ (decimal last ++ 47 ∷ decimal step)) a.bare (refl, end);
    } in
    subst IsBare (sym (span_word first last step)) whole

bare_after : (mark : ℕ) (word : List ℕ) → is_bare_not mark ≡ false → IsBare word → IsBare (mark ∷ word)
bare_after mark word other bare = record { some = refl; bare = (other, bare.bare) }

bare_place : (p : FaultPlace) → IsSaidPlace p → IsBare (place_word p)
bare_place EveryWindow fits = bare_word star refl refl
bare_place EverySlot fits = bare_word (115 ∷ star) refl refl
bare_place (Slot n) fits = bare_after 115 (decimal n) refl (bare_number n (omega (arith, fits.at_most)))
bare_place (Slots first last) fits =
    let (ordered, first_fits, last_fits) = fits in
    let a = bare_number first (omega (arith, first_fits.at_most)) in
    let b = bare_number last (omega (arith, last_fits.at_most)) in
    let rest = lacks-append is_bare_not (decimal first) (45 ∷ decimal last) a.bare (refl, b.bare) in
    subst IsBare (sym (slots_word first last)) (record { some = refl; bare = (refl, rest) })
bare_place EveryMinislot fits = bare_word (109 ∷ star) refl refl
bare_place (Minislot n) fits = bare_after 109 (decimal n) refl (bare_number n (omega (arith, fits.at_most)))
bare_place (Dynamic n) fits = bare_after 100 (decimal n) refl (bare_number n (omega (arith, fits.at_most)))

-- ---- statements

-- a node or buffer that is a number is that number, whatever the names are
module _ (names : List NamesOfNode) where
  node_again : (n : ℕ) → n < 16 → node_said names (decimal n) ≡ Some n
  unfolding node_said
  node_again n fits = rw (number_again 16 n fits (omega arith)) refl

  buffer_again : (node b : ℕ) → b < 64 → buffer_said names node (decimal b) ≡ Some b
  unfolding buffer_said
  buffer_again node b fits = rw (number_again 64 b fits (omega arith)) refl

  calls_again : (n t : ℕ) (y : RunCycles) (call : Call) → AreSaidCalls n t y call
      → statement_said names (statement_words (statement.Calls n t y call)) ≡ Some (statement.Calls n t y call)
  unfolding statement_said other_said calls_said call_said commit_said withdraw_said read_said pop_said
  calls_again n t y (Commit b p) fits =
      rw (
        node_again n fits.node_fits,
        number_again 8 t fits.task_fits (omega arith),
        cycles_said_again y fits.cycles_fit,
        buffer_again n b fits.call_fits.0,
        payload_again p fits.call_fits.1 fits.call_fits.2,
      ) refl
  calls_again n t y (Withdraw b) fits =
      rw (
        node_again n fits.node_fits,
        number_again 8 t fits.task_fits (omega arith),
        cycles_said_again y fits.cycles_fit,
        buffer_again n b fits.call_fits,
      ) refl
  calls_again n t y (Read b) fits =
      rw (
        node_again n fits.node_fits,
        number_again 8 t fits.task_fits (omega arith),
        cycles_said_again y fits.cycles_fit,
        buffer_again n b fits.call_fits,
      ) refl
  calls_again n t y Pop fits =
      rw (
        node_again n fits.node_fits,
        number_again 8 t fits.task_fits (omega arith),
        cycles_said_again y fits.cycles_fit,
      ) refl

  -- a fault with this word for its channels
  fault_again_of : (channels : Channels) (fault : Fault) (y : RunCycles) (p : FaultPlace) → IsSpelledFault fault
      → AreSaidCycles y → IsSaidPlace p
      → statement_said names (fault_words_on (channels_word channels) (cycles_word y) (place_word p) fault)
      ≡ Some (faults_on channels (on_channel A fault) (on_channel B fault) y p)
  unfolding statement_said babble_said mute_said corrupt_said
  fault_again_of channels (Babble n c bytes) y p fits cycles_fit place_fits =
      rw (
        node_again n fits.0,
        channels_again channels,
        cycles_said_again y cycles_fit,
        place_said_again p place_fits,
        bytes_again 262 bytes.items fits.2 fits.1,
      ) refl
  fault_again_of channels (Mute n c) y p fits cycles_fit place_fits =
      rw (
        node_again n fits,
        channels_again channels,
        cycles_said_again y cycles_fit,
        place_said_again p place_fits,
      ) refl
  fault_again_of channels (Corrupt c bit) y p fits cycles_fit place_fits =
      rw (
        channels_again channels,
        cycles_said_again y cycles_fit,
        place_said_again p place_fits,
        number_again 65536 bit fits (omega arith),
      ) refl

  one_fault : (fault : Fault) (y : RunCycles) (p : FaultPlace) → IsSpelledFault fault → AreSaidCycles y → IsSaidPlace p
      → statement_said names
      (fault_words_on (channel_word (channel_of fault)) (cycles_word y) (place_word p) fault)
      ≡ Some (statement.Fault (fault_at fault y p))
  one_fault (Babble n A bytes) y p f c l = fault_again_of channels.A (Babble n A bytes) y p f c l
  one_fault (Babble n B bytes) y p f c l = fault_again_of channels.B (Babble n B bytes) y p f c l
  one_fault (Mute n A) y p f c l = fault_again_of channels.A (Mute n A) y p f c l
  one_fault (Mute n B) y p f c l = fault_again_of channels.B (Mute n B) y p f c l
  one_fault (Corrupt A bit) y p f c l = fault_again_of channels.A (Corrupt A bit) y p f c l
  one_fault (Corrupt B bit) y p f c l = fault_again_of channels.B (Corrupt B bit) y p f c l

  both_faults : (a b : FaultLine) → AreSaidFaultLines a b
      → statement_said names (fault_words_of (codes "AB") a) ≡ Some (statement.Faults a b)
  both_faults a b fits =
      let line = fits.first in
      let first : fault_at (on_channel A a.fault) a.cycles a.place ≡ a =
      ap (λ (f : Fault). fault_at f a.cycles a.place) (sym fits.on_a) in
      let second : FaultLine = fault_at (on_channel B a.fault) a.cycles a.place in
      fault_again_of channels.Both a.fault a.cycles a.place line.fault_fits line.cycles_fit line.place_fits
      ∙ ap (λ (f : FaultLine). Some (statement.Faults f second)) first
      ∙ ap (λ (f : FaultLine). Some (statement.Faults a f)) (sym fits.on_b)

  expected_again : (n : ℕ) (y : RunCycles) (b : ℕ) (p : Option (List ℕ)) → IsSaidExpectation n y b p
      → statement_said names (expected_words n y b p) ≡ Some (statement.Expected n y b p)
  unfolding statement_said other_said expect_said expect_none_said
  expected_again n y b (Some p) fits =
      rw (
        node_again n fits.node_fits,
        cycles_said_again y fits.cycles_fit,
        buffer_again n b fits.buffer_fits,
        payload_again p fits.payload_fits.0 fits.payload_fits.1,
      ) refl
  expected_again n y b None fits =
      rw (
        node_again n fits.node_fits,
        cycles_said_again y fits.cycles_fit,
        buffer_again n b fits.buffer_fits,
      ) refl

  said_again : (s : Statement) → IsSaid s → statement_said names (statement_words s) ≡ Some s
  unfolding statement_said
  said_again statement.Nothing fits = refl
  said_again (statement.Calls n t y call) fits = calls_again n t y call fits
  said_again (statement.Fault f) fits =
      one_fault f.fault f.cycles f.place fits.fault_fits fits.cycles_fit fits.place_fits
  said_again (statement.Faults a b) fits = both_faults a b fits
  said_again (statement.Expected n y b p) fits = expected_again n y b p fits

-- ---- lines

bare_kind : (call : Call) → IsBare (kind_word call)
bare_kind (Commit b p) = bare_word (codes "commit") refl refl
bare_kind (Withdraw b) = bare_word (codes "withdraw") refl refl
bare_kind (Read b) = bare_word (codes "read") refl refl
bare_kind Pop = bare_word (codes "pop") refl refl

bare_call : (call : Call) → IsSpelledCall Two call → AreBare (call_words call)
bare_call (Commit b p) fits = (bare_number b (omega (arith, fits.0)), (bare_hex p, tt))
bare_call (Withdraw b) fits = (bare_number b (omega (arith, fits)), tt)
bare_call (Read b) fits = (bare_number b (omega (arith, fits)), tt)
bare_call Pop fits = tt

module _ (channels : List ℕ) (y : RunCycles) (p : FaultPlace) (of_channels : IsBare channels) (cycles : AreSaidCycles y)
    (place : IsSaidPlace p) where
  bare_fault : (fault : Fault) → IsSpelledFault fault
      → AreBare (fault_words_on channels (cycles_word y) (place_word p) fault)
  bare_fault (Babble n c bytes) fits = (
    bare_word (codes "babble") refl refl,
    (
      bare_number n (omega (arith, fits.0)),
      (
        of_channels,
        (bare_cycles y cycles, (bare_place p place, (bare_hex bytes.items, tt))),
      ),
    ),
  )
  bare_fault (Mute n c) fits = (
    bare_word (codes "mute") refl refl,
    (
      bare_number n (omega (arith, fits)),
      (
        of_channels,
        (bare_cycles y cycles, (bare_place p place, tt)),
      ),
    ),
  )
  bare_fault (Corrupt c bit) fits = (
    bare_word (codes "corrupt") refl refl,
    (
      of_channels,
      (
        bare_cycles y cycles,
        (
          bare_place p place,
          (bare_number bit (omega (arith, fits)), tt),
        ),
      ),
    ),
  )

bare_channel : (c : Channel) → IsBare (channel_word c)
bare_channel A = bare_word (codes "A") refl refl
bare_channel B = bare_word (codes "B") refl refl

bare_channels : (c : Channels) → IsBare (channels_word c)
bare_channels channels.A = bare_word (codes "A") refl refl
bare_channels channels.B = bare_word (codes "B") refl refl
bare_channels channels.Both = bare_word (codes "AB") refl refl

bare_expected : (n : ℕ) (y : RunCycles) (b : ℕ) (p : Option (List ℕ)) → IsSaidExpectation n y b p
    → AreBare (expected_words n y b p)
bare_expected n y b (Some p) fits = (
  bare_word (codes "expect") refl refl,
  (
    bare_number n (omega (arith, fits.node_fits)),
    (bare_cycles y fits.cycles_fit, (bare_number b (omega (arith, fits.buffer_fits)), (bare_hex p, tt))),
  ),
)
bare_expected n y b None fits = (
  bare_word (codes "expect-none") refl refl,
  (
    bare_number n (omega (arith, fits.node_fits)),
    (bare_cycles y fits.cycles_fit, (bare_number b (omega (arith, fits.buffer_fits)), tt)),
  ),
)

bare_words : (s : Statement) → IsSaid s → AreBare (statement_words s)
bare_words statement.Nothing fits = tt
bare_words (statement.Calls n t y call) fits = (
  bare_kind call,
  (
    bare_number n (omega (arith, fits.node_fits)),
    (
      bare_number t (omega (arith, fits.task_fits)),
      (bare_cycles y fits.cycles_fit, bare_call call fits.call_fits),
    ),
  ),
)
bare_words (statement.Fault f) fits =
    bare_fault (channel_word (channel_of f.fault)) f.cycles f.place (bare_channel (channel_of f.fault)) fits.cycles_fit
    fits.place_fits f.fault fits.fault_fits
bare_words (statement.Faults a b) fits =
    bare_fault (codes "AB") a.cycles a.place (bare_word (codes "AB") refl refl) fits.first.cycles_fit
    fits.first.place_fits a.fault fits.first.fault_fits
bare_words (statement.Expected n y b p) fits = bare_expected n y b p fits

-- A value that a line of version 3 can say is what its spelling says, in a cluster with any names.
pub statement_again : (names : List NamesOfNode) (s : Statement) → IsSaid s
    → statement_in names (statement_text s) ≡ Some s
statement_again names s fits =
    ap (statement_said names) (words_again (statement_words s) (bare_words s fits)) ∙ said_again names s fits

-- The line of a fault with this word for its channels.
pub fault_line_again : (names : List NamesOfNode) (channels : Channels) (fault : Fault) (y : RunCycles) (p : FaultPlace)
    → IsSpelledFault fault → AreSaidCycles y → IsSaidPlace p
    → statement_in names
    (line_of (fault_words_on (channels_word channels) (cycles_word y) (place_word p) fault))
    ≡ Some (faults_on channels (on_channel A fault) (on_channel B fault) y p)
fault_line_again names channels fault y p fits cycles place =
    ap (statement_said names)
    (words_again (fault_words_on (channels_word channels) (cycles_word y) (place_word p) fault)
    (bare_fault (channels_word channels) y p (bare_channels channels) cycles place fault fits))
    ∙ fault_again_of names channels fault y p fits cycles place

-- ---- the lines for which a line stands

joined_end : (o : Option (List Statement)) → joined o (Some []) ≡ o
joined_end None = refl
joined_end (Some statements) = ap Some (append-nil statements)

-- words without commas are one line
alone_chosen : (names : List NamesOfNode) (words chosen : List (List ℕ)) → AreBare words
    → chosen_said names chosen words ≡ alone (statement_said names (chosen ++ words))
alone_chosen names [] chosen bare =
    ap (λ (ws : List (List ℕ)). alone (statement_said names ws)) (sym (append-nil chosen))
alone_chosen names (word ∷ words) chosen bare =
    let said : List ℕ → Option (List Statement) = λ element. chosen_said names (chosen ++ element ∷ []) words in
    ap (each_chosen said) (only_element word bare.0)
    ∙ joined_end (said word)
    ∙ alone_chosen names words (chosen ++ word ∷ []) bare.1
    ∙ ap (λ (ws : List (List ℕ)). alone (statement_said names ws)) (append_assoc chosen (word ∷ []) words)

one_line : (names : List NamesOfNode) (words : List (List ℕ)) (s : Statement) → AreBare words → 0 < length words
    → statement_said names words ≡ Some s → line_said names words ≡ Some (s ∷ [])
one_line names [] s bare some said = absurd (omega arith)
one_line names (kind ∷ words) s bare some said =
    sym (line_chosen names kind words)
    ∙ ap (λ (o : Option (List Statement)). few (onto [] o))
    (alone_chosen names words (kind ∷ []) bare.1 ∙ ap alone said)

some_fault : (channels cycles place : List ℕ) (fault : Fault) → 0 < length (fault_words_on channels cycles place fault)
some_fault channels cycles place (Babble n c bytes) = omega arith
some_fault channels cycles place (Mute n c) = omega arith
some_fault channels cycles place (Corrupt c bit) = omega arith

some_expected : (n : ℕ) (y : RunCycles) (b : ℕ) (p : Option (List ℕ)) → 0 < length (expected_words n y b p)
some_expected n y b (Some p) = omega arith
some_expected n y b None = omega arith

line_alone : (names : List NamesOfNode) (s : Statement) → IsSaid s
    → line_said names (statement_words s) ≡ Some (said_alone s)
line_alone names statement.Nothing fits = refl
line_alone names (statement.Calls n t y call) fits =
    let s = statement.Calls n t y call in
    one_line names (statement_words s) s (bare_words s fits) (omega arith) (said_again names s fits)
line_alone names (statement.Fault f) fits =
    let s = statement.Fault f in
    let some = some_fault (channel_word (channel_of f.fault)) (cycles_word f.cycles) (place_word f.place) f.fault in
    one_line names (statement_words s) s (bare_words s fits) some (said_again names s fits)
line_alone names (statement.Faults a b) fits =
    let s = statement.Faults a b in
    let some = some_fault (codes "AB") (cycles_word a.cycles) (place_word a.place) a.fault in
    one_line names (statement_words s) s (bare_words s fits) some (said_again names s fits)
line_alone names (statement.Expected n y b p) fits =
    let s = statement.Expected n y b p in
    one_line names (statement_words s) s (bare_words s fits) (some_expected n y b p) (said_again names s fits)

-- The spelling of a value stands for its statement alone.
pub line_again : (names : List NamesOfNode) (s : Statement) → IsSaid s
    → line_statements names (statement_text s) ≡ Some (said_alone s)
line_again names s fits =
    ap (line_said names) (words_again (statement_words s) (bare_words s fits)) ∙ line_alone names s fits
