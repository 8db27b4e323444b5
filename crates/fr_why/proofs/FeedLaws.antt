-- If the reason of a refusal is `Feed`, the text becomes a trace with one line feed more.
use Rattle.std.proofs.Common.{◌≡◌, ℕ, List, [], ◌∷◌, ◌++◌, Ok, inl, inr, refl, sym, ap, ◌∙◌, arith}
use Rattle.std.proofs.lemmas.Bool.{cases_Bool}
use Rattle.std.proofs.lemmas.List.Sums.{fold-append}
use Rattle.std.proofs.lemmas.Slice.Eq.{bytes_eq-Decides}
use Rattle.std.specs.Str.{bytes_eq}
use Rattle.fr_interface.specs.State.{State}
use Rattle.fr_lines.specs.declared.versions.Version.{Version}
use Rattle.fr_lines.specs.Spelling.{end_line}
use Rattle.fr_trace.specs.declared.error.TraceError.TheVariants as refusal
use Rattle.fr_trace.specs.Stream.{Phase, magic, params, node, lines, body, finished, Progress, reading, fresh}
use Rattle.fr_trace.specs.Stream.{take_byte, take_bytes, outcome_of}
use Rattle.fr_trace.proofs.LineLemmas.{fill}
use Rattle.fr_trace.proofs.TextLemmas.{take_in-open}
use Rattle.fr_why.specs.declared.reason.Reason.TheVariants as reason
use Rattle.fr_why.specs.Reasons.{feed_in, reason_for}

ended : (v : Version) (s : State) → take_bytes (reading (body v s) []) (end_line ++ 10 ∷ []) ≡ reading (finished v s) []
ended v s =
    fold-append take_byte (reading (body v s) []) end_line (10 ∷ [])
    ∙ (ap (λ (r : Progress). take_bytes r (10 ∷ [])) (fill (body v s) end_line [] refl refl (omega arith))
    ∙ take_in-open (body v s) end_line 10 refl)

abbrev IsEnded : Phase → List ℕ → Type 0
IsEnded p line = (s : State) × (outcome_of (take_bytes (reading p []) (line ++ 10 ∷ [])) ≡ Ok s)

feed_ends : (p : Phase) (line : List ℕ) → feed_in p line ≡ reason.Feed → IsEnded p line
feed_ends magic line is = cc is
feed_ends (params v) line is = cc is
feed_ends (node v p) line is = cc is
feed_ends (lines v p plan) line is = cc is
feed_ends (body v s) line is = elim (cases_Bool (bytes_eq line end_line)) [
  | inl end ↦
      let same : line ≡ end_line = (bytes_eq-Decides line end_line).0 end in (
        s,
        ap (λ (l : List ℕ). outcome_of (take_bytes (reading (body v s) []) (l ++ 10 ∷ []))) same ∙ ap outcome_of
            (ended v s),
      )
  | inr other ↦ let none : reason.Plain ≡ reason.Feed = rw other at is in cc none
]
feed_ends (finished v s) line is = cc is

pub feed_missing : (front line : List ℕ) (p : Phase) → take_bytes fresh front ≡ reading p []
    → reason_for refusal.Truncated (take_bytes fresh front) line ≡ reason.Feed
    → (s : State) × (outcome_of (take_bytes fresh (front ++ (line ++ 10 ∷ []))) ≡ Ok s)
feed_missing front line p came is =
    let told : feed_in p line ≡ reason.Feed = sym (ap (λ r. reason_for refusal.Truncated r line) came) ∙ is in
    let (s, ends) = feed_ends p line told in (
      s,
      ap outcome_of (fold-append take_byte fresh front (line ++ 10 ∷ []) ∙ ap
          (λ (r : Progress). take_bytes r (line ++ 10 ∷ [])) came) ∙ ends,
    )
