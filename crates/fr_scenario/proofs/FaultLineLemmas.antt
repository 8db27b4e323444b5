-- The fault lines of one line of version 3. A fault line of version 2 is the same fault line in version 3.
use Rattle.std.proofs.Common.{◌≡◌, ℕ, ◌+◌, ◌<◌, ◌≤◌, ◌^◌, true, List, [], ◌∷◌, ◌++◌, codes, Option, Some}
use Rattle.std.proofs.Common.{None, refl, ap, length-append, ◌∙◌, arith}
use Rattle.std.specs.Fmt.{decimal}
use Rattle.arrayvec.specs.ArrayVec.{ArrayVec}
use Rattle.fr_bus.specs.declared.fault.Fault.{Fault}
use Rattle.fr_bus.specs.declared.fault.Fault.TheVariants.{Babble, Mute, Corrupt}
use Rattle.fr_lines.proofs.WordLemmas.{IsWord, number_word}
use Rattle.fr_lines.specs.Parts.{channels_word}
use Rattle.fr_names.specs.Names.{NamesOfNode}
use Rattle.fr_runs.specs.declared.cycles.RunCycles.{RunCycles}
use Rattle.fr_runs.specs.declared.cycles.RunCycles.TheVariants.{Every, Only, Span}
use Rattle.fr_runs.specs.declared.fault_line.FaultLine.{FaultLine}
use Rattle.fr_runs.specs.declared.fault_line.FaultPlace.{FaultPlace}
use Rattle.fr_runs.specs.declared.fault_line.FaultPlace.TheVariants.{EveryWindow, EverySlot, Slot, Slots}
use Rattle.fr_runs.specs.declared.fault_line.FaultPlace.TheVariants.{EveryMinislot, Minislot, Dynamic}
use Rattle.fr_scenario.proofs.LineLemmas.{line_takes}
use Rattle.fr_scenario.proofs.PartLemmas.{run_cycle_plain}
use Rattle.fr_scenario.proofs.StatementLaws.{fault_line_again, statement_again}
use Rattle.fr_scenario.specs.declared.fault_lines.LineFaults.TheVariants.{One}
use Rattle.fr_scenario.specs.declared.spelled.SpelledLine.{SpelledLine}
use Rattle.fr_scenario.specs.declared.spelled.SpelledLine.TheVariants.{Host, Fault as FaultOf}
use Rattle.fr_scenario.specs.declared.statement.Statement.TheVariants as statement
use Rattle.fr_scenario.specs.declared.version.Version.TheVariants.{Two}
use Rattle.fr_scenario.specs.FaultLines.{faults_of_line, faults_said}
use Rattle.fr_scenario.specs.LineReading.{fault_line_in, fault_said, line_in}
use Rattle.fr_scenario.specs.Parts.{channel_word, cycles_word, place_word}
use Rattle.fr_scenario.specs.Spelled.{AreSaidCycles, AreSpelledCycles, IsCounted, IsSaidFaultLine, IsSaidPlace}
use Rattle.fr_scenario.specs.Spelled.{IsSpelledFault, IsSpelledFaultLine, IsSpelledPlace}
use Rattle.fr_scenario.specs.Spelling.{fault_line_words, fault_words}
use Rattle.fr_scenario.specs.Statements.{faults_on, statement_in}
use Rattle.fr_scenario.specs.StatementText.{channel_of, fault_words_on}
use Rattle.fr_slots.specs.declared.channel.Channel.TheVariants.{A, B}
use Rattle.fr_slots.specs.declared.channel.Channels.{Channels}
use Rattle.fr_text.proofs.PlainLemmas.{IsPlain-append}
use Rattle.fr_text.specs.Plain.{is_plain}
use Rattle.fr_text.specs.Spaces.{line_of, words_of}
use Rattle.fr_text.specs.Spelling.{hex_text}

-- ---- the words are plain and few

adjoined : (a b : ℕ) (xs ys : List ℕ) → IsWord a xs → IsWord b ys → IsWord (a + b) (xs ++ ys)
adjoined a b xs ys first rest = record {
  plain = IsPlain-append xs ys first.plain rest.plain;
  short = omega (arith, length-append xs ys, first.short, rest.short);
}

widened : (a b : ℕ) (word : List ℕ) → a ≤ b → IsWord a word → IsWord b word
widened a b word more is = record { plain = is.plain; short = omega (arith, is.short) }

mark_word : (mark : ℕ) → is_plain (mark ∷ []) ≡ true → IsWord 1 (mark ∷ [])
mark_word mark plain = record { plain = plain; short = omega arith }

pub said_cycles_word : (y : RunCycles) → AreSaidCycles y → IsWord 14 (cycles_word y)
said_cycles_word Every fits = record { plain = refl; short = omega arith }
said_cycles_word (Only n) fits = widened 4 14 (decimal n) (omega arith) (run_cycle_plain n fits)
said_cycles_word (Span first last step) fits =
    let (order, last_fits, some, few) = fits in
    adjoined 10 4 _ (decimal step) (adjoined 9 1 _ (codes "/") (adjoined 5 4 _ (decimal last)
    (adjoined 4 1 (decimal first) (codes "-") (run_cycle_plain first (omega arith)) (mark_word 45 refl))
    (run_cycle_plain last last_fits)) (mark_word 47 refl)) (run_cycle_plain step few)

marked_word : (mark n : ℕ) → is_plain (mark ∷ []) ≡ true → IsCounted n → IsWord 5 (mark ∷ decimal n)
marked_word mark n plain fits =
    let high = fits.at_most in
    adjoined 1 4 (mark ∷ []) (decimal n) (mark_word mark plain)
    (number_word 4 n (omega arith) (omega arith) (omega arith))

pub said_place_word : (p : FaultPlace) → IsSaidPlace p → IsWord 10 (place_word p)
said_place_word EveryWindow fits = record { plain = refl; short = omega arith }
said_place_word EverySlot fits = record { plain = refl; short = omega arith }
said_place_word (Slot n) fits = widened 5 10 (115 ∷ decimal n) (omega arith) (marked_word 115 n refl fits)
said_place_word (Slots first last) fits =
    let (order, first_fits, last_fits) = fits in
    let high = last_fits.at_most in
    adjoined 6 4 _ (decimal last) (adjoined 5 1 (115 ∷ decimal first) (codes "-")
    (marked_word 115 first refl first_fits) (mark_word 45 refl))
    (number_word 4 last (omega arith) (omega arith) (omega arith))
said_place_word EveryMinislot fits = record { plain = refl; short = omega arith }
said_place_word (Minislot n) fits = widened 5 10 (109 ∷ decimal n) (omega arith) (marked_word 109 n refl fits)
said_place_word (Dynamic n) fits = widened 5 10 (100 ∷ decimal n) (omega arith) (marked_word 100 n refl fits)

-- ---- lines

-- with any channels
module _ (names : List NamesOfNode) (c : Channels) (y : RunCycles) (p : FaultPlace) (cycles : AreSaidCycles y)
    (place : IsSaidPlace p) where
  pub babble_line : (n : ℕ) (bytes : ArrayVec ℕ) → IsSpelledFault (Babble n A bytes)
      → statement_in names (line_of (codes "babble" ∷ decimal n ∷ channels_word c ∷ cycles_word y ∷ place_word p
      ∷ hex_text bytes.items ∷ [])) ≡ Some (faults_on c (Babble n A bytes) (Babble n B bytes) y p)
  babble_line n bytes fits = fault_line_again names c (Babble n A bytes) y p fits cycles place

  pub mute_line : (n : ℕ) → n < 16
      → statement_in names (line_of (codes "mute" ∷ decimal n ∷ channels_word c ∷ cycles_word y ∷ place_word p ∷ []))
      ≡ Some (faults_on c (Mute n A) (Mute n B) y p)
  mute_line n fits = fault_line_again names c (Mute n A) y p fits cycles place

  pub corrupt_line : (bit : ℕ) → bit < 2 ^ 16
      → statement_in names (line_of (codes "corrupt" ∷ channels_word c ∷ cycles_word y ∷ place_word p ∷ decimal bit
      ∷ [])) ≡ Some (faults_on c (Corrupt A bit) (Corrupt B bit) y p)
  corrupt_line bit fits = fault_line_again names c (Corrupt A bit) y p fits cycles place

same_words : (cycles place : List ℕ) (f : Fault)
    → fault_words cycles place f ≡ fault_words_on (channel_word (channel_of f)) cycles place f
same_words cycles place (Babble n c bytes) = refl
same_words cycles place (Mute n c) = refl
same_words cycles place (Corrupt c bit) = refl

pub said_same : (names : List NamesOfNode) (f : FaultLine) → IsSaidFaultLine f
    → faults_of_line names (line_of (fault_line_words f)) ≡ Some (One f)
said_same names f fits =
    ap (λ words. faults_of_line names (line_of words)) (same_words (cycles_word f.cycles) (place_word f.place) f.fault)
    ∙ ap faults_said (statement_again names (statement.Fault f) fits)

-- ---- a fault line of version 2

also_cycles : (y : RunCycles) → AreSpelledCycles y → AreSaidCycles y
also_cycles Every fits = tt
also_cycles (Only n) fits = fits
also_cycles (Span first last step) fits = absurd fits

also_place : (p : FaultPlace) → IsSpelledPlace p → IsSaidPlace p
also_place EveryWindow fits = absurd fits
also_place EverySlot fits = tt
also_place (Slot n) fits = fits
also_place (Slots first last) fits = absurd fits
also_place EveryMinislot fits = absurd fits
also_place (Minislot n) fits = fits
also_place (Dynamic n) fits = absurd fits

also_said : (f : FaultLine) → IsSpelledFaultLine f → IsSaidFaultLine f
also_said f fits = record {
  fault_fits = fits.fault_fits;
  cycles_fit = also_cycles f.cycles fits.cycles_fit;
  place_fits = also_place f.place fits.place_fits;
}

is_fault : (o : Option SpelledLine) (f : FaultLine) → fault_said o ≡ Some f → o ≡ Some (FaultOf f)
is_fault None f h = cc h
is_fault (Some (Host node task line)) f h = cc h
is_fault (Some (FaultOf g)) f h = let is : g ≡ f = cc h in ap (λ x. Some (FaultOf x)) is

pub line_same : (names : List NamesOfNode) (line : List ℕ) (f : FaultLine) → fault_line_in (words_of line) ≡ Some f
    → faults_of_line names line ≡ Some (One f)
line_same names line f h =
    let taken = line_takes Two line (FaultOf f) (is_fault (line_in Two (words_of line)) f h) in
    ap (faults_of_line names) taken.0 ∙ said_same names f (also_said f taken.1)
