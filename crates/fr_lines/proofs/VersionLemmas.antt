-- The first line of a text, and the version that it names.
use Rattle.std.proofs.Common.{◌≡◌, ℕ, List, Some, inl, inr, refl, ap, ◌∙◌}
use Rattle.fr_lines.proofs.PartLemmas.{word_or}
use Rattle.fr_lines.specs.declared.versions.Version.{Version}
use Rattle.fr_lines.specs.declared.versions.Version.TheVariants.{One, Two, Three}
use Rattle.fr_lines.specs.Reading.{version_in}
use Rattle.fr_lines.specs.Spelling.{first_line}

pub version_takes : (line : List ℕ) (v : Version) → version_in line ≡ Some v → line ≡ first_line v
unfolding version_in
version_takes line v h =
    elim (word_or line (first_line One) _ _ v h) [
      | inl same ↦ let is : One ≡ v = cc same.1 in same.0 ∙ ap first_line is
      | inr h1 ↦
          elim (word_or line (first_line Two) _ _ v h1) [
            | inl same ↦ let is : Two ≡ v = cc same.1 in same.0 ∙ ap first_line is
            | inr h2 ↦
                elim (word_or line (first_line Three) _ _ v h2) [
                  | inl same ↦ let is : Three ≡ v = cc same.1 in same.0 ∙ ap first_line is
                  | inr h3 ↦ cc h3
                ]
          ]
    ]

pub version_again : (v : Version) → version_in (first_line v) ≡ Some v
unfolding version_in
version_again One = refl
version_again Two = refl
version_again Three = refl
