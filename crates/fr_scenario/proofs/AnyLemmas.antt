-- The text of a scenario of any version.
use Rattle.std.proofs.Common.{◌≡◌, ℕ, ◌⊎◌, false, inl, inr, List, Some, Result, Ok, Err, refl, sym}
use Rattle.std.proofs.Common.{ap, ◌∙◌}
use Rattle.std.proofs.lemmas.Bool.{cases_Bool}
use Rattle.std.specs.Prelude.{IfOk, IfErr}
use Rattle.std.specs.Result.{result_err}
use Rattle.fr_names.specs.Names.{NamesOfNode}
use Rattle.fr_scenario.proofs.TextLemmas.{scenario_again, scenario_found}
use Rattle.fr_scenario.specs.AnyText.{IsScenarioText}
use Rattle.fr_scenario.specs.Contents.{Contents}
use Rattle.fr_scenario.specs.declared.error.ScenarioError.{ScenarioError}
use Rattle.fr_scenario.specs.declared.error.ScenarioError.TheVariants.{BadMagic, BadLine, TooManyLines, Truncated}
use Rattle.fr_scenario.specs.declared.error.ScenarioError.TheVariants.{TooManyCalls, Memory}
use Rattle.fr_scenario.specs.declared.spelled.SpelledLine.{SpelledLine}
use Rattle.fr_scenario.specs.declared.version.Version.{Version}
use Rattle.fr_scenario.specs.declared.version.Version.TheVariants.{One, Two}
use Rattle.fr_scenario.specs.Reading.{is_new, first_fault, scenario_in}
use Rattle.fr_scenario.specs.ScenarioText.{scenario_text, IsOldText}

-- ---- a text of version 1 or 2 isn't one of version 3

not_new : (version : Version) (lines : List SpelledLine) → is_new (scenario_text version lines) ≡ false
not_new One lines = refl
not_new Two lines = refl

old_not_new : (text : List ℕ) (s : Contents) → IsOldText text s → is_new text ≡ false
old_not_new text s old = ap is_new old.spelled ∙ not_new old.version old.lines

module _ (names : List NamesOfNode) (cycles : ℕ) (text : List ℕ) where
  found : (s : Contents) → scenario_in names cycles text ≡ Ok s → IsScenarioText names cycles text s
  found s h =
      elim (cases_Bool (is_new text)) [
        | inl new ↦ inr (record { version = new; read = rw new at h })
        | inr old ↦ inl (scenario_found text s (rw old at h))
      ]

  again : (s : Contents) → IsScenarioText names cycles text s → scenario_in names cycles text ≡ Ok s
  again s (inl old) = rw (old_not_new text s old) (scenario_again text s old)
  again s (inr new) = rw new.version new.read

-- ---- the meaning of a result

-- unless memory ran out, the result is what the text spells
abbrev pub Tells : List NamesOfNode → ℕ → List ℕ → Result Contents ScenarioError → Type 0
Tells names cycles text r = (r ≡ Err Memory → ⊥) → r ≡ scenario_in names cycles text

memory_or_not : (e : ScenarioError) → (e ≡ Memory) ⊎ (e ≡ Memory → ⊥)
memory_or_not BadMagic = inr (λ h. cc h)
memory_or_not (BadLine n) = inr (λ h. cc h)
memory_or_not TooManyLines = inr (λ h. cc h)
memory_or_not Truncated = inr (λ h. cc h)
memory_or_not TooManyCalls = inr (λ h. cc h)
memory_or_not Memory = inl refl

module _ (names : List NamesOfNode) (cycles : ℕ) (text : List ℕ) where
  pub told_found : (r : Result Contents ScenarioError)
      → Tells names cycles text r → IfOk r (IsScenarioText names cycles text)
  told_found (Err e) told = tt
  told_found (Ok s) told = found names cycles text s (sym (told (λ e. cc e)))

  pub told_only : (r : Result Contents ScenarioError) (s : Contents)
      → Tells names cycles text r → IsScenarioText names cycles text s
      → (r ≡ Ok s) ⊎ (r ≡ Err Memory)
  told_only (Ok other) s told is = inl (told (λ e. cc e) ∙ again names cycles text s is)
  told_only (Err e) s told is =
      elim (memory_or_not e) [
        | inl out ↦ inr (ap Err out)
        | inr other ↦ inl (told (λ same. other (cc same)) ∙ again names cycles text s is)
      ]

  pub told_refused : (r : Result Contents ScenarioError)
      → Tells names cycles text r
      → IfErr r (λ e. (e ≡ Memory) ⊎ (first_fault names cycles text ≡ Some e))
  told_refused (Ok s) told = tt
  told_refused (Err e) told =
      elim (memory_or_not e) [
        | inl out ↦ inl out
        | inr other ↦ inr (ap result_err (sym (told (λ same. other (cc same)))))
      ]

  pub told_hopeless : (r : Result Contents ScenarioError)
      → Tells names cycles text r
      → IfErr r (λ e. (e ≡ Memory) ⊎ ((s : Contents) → IsScenarioText names cycles text s → ⊥))
  told_hopeless (Ok s) told = tt
  told_hopeless (Err e) told =
      elim (memory_or_not e) [
        | inl out ↦ inl out
        | inr other ↦ inr (λ s is. let same = told (λ same. other (cc same)) ∙ again names cycles text s is in cc same)
      ]
