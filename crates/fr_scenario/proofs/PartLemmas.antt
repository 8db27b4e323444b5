-- A word is the spelling of at most one part of a scenario's line.
use Rattle.std.proofs.Common.{◌≡◌, ℕ, ◌<◌, ◌≢◌, ◌^◌, ◌==◌, inl, inr, false, List, [], ◌∷◌, codes}
use Rattle.std.proofs.Common.{Some, refl, sym, ap, ◌∙◌, arith}
use Rattle.std.proofs.lemmas.Bool.{cases_Bool, eqb-true, eqb-false}
use Rattle.std.proofs.lemmas.Bool.Decides.{nat_tests}
use Rattle.std.specs.Fmt.{decimal}
use Rattle.fr_lines.proofs.PartLemmas.{word_or}
use Rattle.fr_lines.proofs.WordLemmas.{IsWord, number_word}
use Rattle.fr_runs.specs.declared.cycles.RunCycles.{RunCycles}
use Rattle.fr_runs.specs.declared.cycles.RunCycles.TheVariants.{Every, Only, Span}
use Rattle.fr_runs.specs.declared.fault_line.FaultPlace.{FaultPlace}
use Rattle.fr_runs.specs.declared.fault_line.FaultPlace.TheVariants.{EveryWindow, EverySlot, Slot, Slots}
use Rattle.fr_runs.specs.declared.fault_line.FaultPlace.TheVariants.{EveryMinislot, Minislot, Dynamic}
use Rattle.fr_lines.specs.PartReading.{channel_in}
use Rattle.fr_scenario.specs.PartReading.{run_cycle_in, cycles_in, counted_in, slots_in, minislot_in, place_in}
use Rattle.fr_scenario.specs.Parts.{star, channel_word, cycles_word, place_word}
use Rattle.fr_scenario.specs.Spelled.{IsRunCycle, AreSpelledCycles, IsCounted, IsSpelledPlace}
use Rattle.fr_slots.specs.declared.channel.Channel.{Channel}
use Rattle.fr_slots.specs.declared.channel.Channel.TheVariants.{A, B}
use Rattle.fr_text.proofs.BindLemmas.{bind_some}
use Rattle.fr_text.proofs.NumberLemmas.{number_takes, number_again, decimal_other}
use Rattle.fr_text.proofs.PlainLemmas.{IsPlain-append}
use Rattle.fr_text.specs.Plain.{IsPlain}
use Rattle.fr_text.specs.Reading.{number_in}

-- ---- channels

pub channel_takes : (word : List ℕ) (c : Channel) → channel_in word ≡ Some c → word ≡ channel_word c
unfolding channel_in
channel_takes word c h =
    elim (word_or word (codes "A") _ _ c h) [
      | inl same ↦ let is : A ≡ c = cc same.1 in same.0 ∙ ap channel_word is
      | inr h1 ↦
          elim (word_or word (codes "B") _ _ c h1) [
            | inl same ↦ let is : B ≡ c = cc same.1 in same.0 ∙ ap channel_word is
            | inr h2 ↦ cc h2
          ]
    ]

pub channel_again : (c : Channel) → channel_in (channel_word c) ≡ Some c
unfolding channel_in
channel_again A = refl
channel_again B = refl

pub channel_plain : (c : Channel) → IsWord 1 (channel_word c)
channel_plain A = record { plain = refl; short = omega arith }
channel_plain B = record { plain = refl; short = omega arith }

-- ---- cycles of a run

pub run_cycle_takes : (word : List ℕ) (n : ℕ) → run_cycle_in word ≡ Some n → (word ≡ decimal n) × IsRunCycle n
unfolding run_cycle_in
run_cycle_takes word n h =
    let (m, hm, h1) = bind_some (number_in 1024 word) _ n h in
    let is : m ≡ n = cc h1 in
    let taken = number_takes 1024 word m hm in
    rw (← is) (sym taken.0, taken.1)

pub run_cycle_again : (n : ℕ) → IsRunCycle n → run_cycle_in (decimal n) ≡ Some n
unfolding run_cycle_in
run_cycle_again n fits = rw (number_again 1024 n fits (omega arith)) refl

pub run_cycle_plain : (n : ℕ) → IsRunCycle n → IsWord 4 (decimal n)
run_cycle_plain n fits = number_word 4 n (omega arith) (omega arith) (omega arith)

pub cycles_takes : (word : List ℕ) (c : RunCycles) → cycles_in word ≡ Some c
    → (word ≡ cycles_word c) × AreSpelledCycles c
unfolding cycles_in
cycles_takes word c h =
    elim (word_or word star (Some Every) _ c h) [
      | inl same ↦ let is : Every ≡ c = cc same.1 in rw (← is) (same.0, tt)
      | inr h1 ↦
          let (n, hn, h2) = bind_some (run_cycle_in word) _ c h1 in
          let is : Only n ≡ c = cc h2 in
          let taken = run_cycle_takes word n hn in
          rw (← is) taken
    ]

pub cycles_again : (c : RunCycles) → AreSpelledCycles c → cycles_in (cycles_word c) ≡ Some c
unfolding cycles_in
cycles_again Every fits = refl
cycles_again (Only n) fits =
    let small : n < 2 ^ 64 = omega arith in
    rw (decimal_other n star small refl, run_cycle_again n fits) refl
cycles_again (Span first last step) fits = absurd fits

pub cycles_plain : (c : RunCycles) → AreSpelledCycles c → IsWord 4 (cycles_word c)
cycles_plain Every fits = record { plain = refl; short = omega arith }
cycles_plain (Only n) fits = run_cycle_plain n fits
cycles_plain (Span first last step) fits = absurd fits

-- ---- places

counted_takes : (word : List ℕ) (n : ℕ) → counted_in word ≡ Some n → (word ≡ decimal n) × IsCounted n
unfolding counted_in
counted_takes word n h =
    let (m, hm, h1) = bind_some (number_in 8001 word) _ n h in
    let taken = number_takes 8001 word m hm in
    let below = taken.1 in
    elim (cases_Bool (m == 0)) [
      | inl none ↦ cc (rw none at h1)
      | inr some ↦
          let is : m ≡ n = cc (rw some at h1) in
          let other : m ≢ 0 = eqb-false m 0 some in
          rw (← is) (sym taken.0, record { from_one = omega arith; at_most = omega arith })
    ]

pub counted_again : (n : ℕ) → IsCounted n → counted_in (decimal n) ≡ Some n
unfolding counted_in
counted_again n fits =
    let low = fits.from_one in
    let high = fits.at_most in
    let other : (n == 0) ≡ false = grind (arith, nat_tests) in
    rw (number_again 8001 n (omega arith) (omega arith), other) refl

counted_plain : (n : ℕ) → IsCounted n → IsWord 4 (decimal n)
counted_plain n fits =
    let high = fits.at_most in
    number_word 4 n (omega arith) (omega arith) (omega arith)

slots_takes : (word : List ℕ) (p : FaultPlace) → slots_in word ≡ Some p → (115 ∷ word ≡ place_word p) × IsSpelledPlace p
unfolding slots_in
slots_takes word p h =
    elim (word_or word star (Some EverySlot) _ p h) [
      | inl same ↦ let is : EverySlot ≡ p = cc same.1 in rw (← is) (ap (λ w. 115 ∷ w) same.0, tt)
      | inr h1 ↦
          let (n, hn, h2) = bind_some (counted_in word) _ p h1 in
          let is : Slot n ≡ p = cc h2 in
          let taken = counted_takes word n hn in
          rw (← is) (ap (λ w. 115 ∷ w) taken.0, taken.1)
    ]

minislot_takes : (word : List ℕ) (p : FaultPlace) → minislot_in word ≡ Some p
    → (109 ∷ word ≡ place_word p) × IsSpelledPlace p
unfolding minislot_in
minislot_takes word p h =
    let (n, hn, h1) = bind_some (counted_in word) _ p h in
    let is : Minislot n ≡ p = cc h1 in
    let taken = counted_takes word n hn in
    rw (← is) (ap (λ w. 109 ∷ w) taken.0, taken.1)

pub place_takes : (word : List ℕ) (p : FaultPlace) → place_in word ≡ Some p → (word ≡ place_word p) × IsSpelledPlace p
unfolding place_in
place_takes [] p h = cc h
place_takes (mark ∷ number) p h =
    elim (cases_Bool (mark == 115)) [
      | inl pass ↦
          let taken = slots_takes number p (rw pass at h) in
          let is : mark ≡ 115 = eqb-true mark 115 pass in
          rw is taken
      | inr fail ↦
          let h1 = rw fail at h in
          elim (cases_Bool (mark == 109)) [
            | inl pass ↦
                let taken = minislot_takes number p (rw pass at h1) in
                let is : mark ≡ 109 = eqb-true mark 109 pass in
                rw is taken
            | inr none ↦ cc (rw none at h1)
          ]
    ]

pub place_again : (p : FaultPlace) → IsSpelledPlace p → place_in (place_word p) ≡ Some p
unfolding place_in slots_in minislot_in
place_again EverySlot fits = refl
place_again (Slot n) fits =
    let high = fits.at_most in
    let small : n < 2 ^ 64 = omega arith in
    rw (decimal_other n star small refl, counted_again n fits) refl
place_again (Minislot n) fits = rw (counted_again n fits) refl
place_again EveryWindow fits = absurd fits
place_again (Slots first last) fits = absurd fits
place_again EveryMinislot fits = absurd fits
place_again (Dynamic n) fits = absurd fits

marked : (mark n : ℕ) → IsPlain (mark ∷ []) → IsCounted n → IsWord 5 (mark ∷ decimal n)
marked mark n plain fits =
    let number = counted_plain n fits in
    let few = number.short in
    record { plain = IsPlain-append (mark ∷ []) (decimal n) plain number.plain; short = omega arith }

pub place_plain : (p : FaultPlace) → IsSpelledPlace p → IsWord 5 (place_word p)
place_plain EverySlot fits = record { plain = refl; short = omega arith }
place_plain (Slot n) fits = marked 115 n refl fits
place_plain (Minislot n) fits = marked 109 n refl fits
place_plain EveryWindow fits = absurd fits
place_plain (Slots first last) fits = absurd fits
place_plain EveryMinislot fits = absurd fits
place_plain (Dynamic n) fits = absurd fits
