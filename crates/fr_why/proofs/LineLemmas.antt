-- A whole line that is taken leads to the next one. No front of a line is then held.
use Rattle.std.proofs.Common.{◌≡◌, ℕ, ◌+◌, true, List, [], ◌∷◌, ◌++◌, length, Result, Ok, Err, inl, inr, refl, sym, ap}
use Rattle.std.proofs.Common.{◌∙◌, subst, arith}
use Rattle.std.proofs.lemmas.Bool.{cases_lt}
use Rattle.std.proofs.lemmas.List.Sums.{fold-append}
use Rattle.fr_interface.specs.State.{State}
use Rattle.fr_lines.specs.declared.versions.Version.{Version}
use Rattle.fr_text.specs.Plain.{has_no_feed}
use Rattle.fr_trace.specs.declared.error.TraceError.{TraceError}
use Rattle.fr_trace.specs.declared.error.TraceError.TheVariants.{BadLine}
use Rattle.fr_trace.specs.Stream.{Phase, magic, params, node, lines, body, finished, Progress, reading, failed}
use Rattle.fr_trace.specs.Stream.{take_line, take_byte, take_bytes, after_line, answer_of, too_long, line_number}
use Rattle.fr_trace.proofs.CutLemmas.{overflow, stays_failed}
use Rattle.fr_trace.proofs.LineLemmas.{fill}
use Rattle.fr_trace.proofs.TextLemmas.{is_open, take_in-open}

-- the phase after a line that isn't refused
abbrev pub Leads : Phase → List ℕ → Progress → Type 0
Leads p line t = (q : Phase) × (t ≡ reading q []) × (take_line p line ≡ Ok q)

led_by : (p : Phase) (line : List ℕ) (r : Result Phase TraceError) → take_line p line ≡ r
    → answer_of (after_line r) ≡ Ok tt → Leads p line (after_line r)
led_by p line (Ok q) is fine = (q, refl, is)
led_by p line (Err e) is fine = cc fine

open_leads : (p : Phase) (line : List ℕ) → is_open p ≡ true → has_no_feed line ≡ true
    → answer_of (take_bytes (reading p []) (line ++ 10 ∷ [])) ≡ Ok tt
    → Leads p line (take_bytes (reading p []) (line ++ 10 ∷ []))
open_leads p line opened plain fine =
    let split : take_bytes (reading p []) (line ++ 10 ∷ []) ≡ take_bytes (take_bytes (reading p []) line) (10 ∷ []) =
    fold-append take_byte (reading p []) line (10 ∷ []) in
    elim (cases_lt 1200 (length line)) [
      | inl long ↦
          let over : take_bytes (reading p []) line ≡ failed (too_long p) =
          overflow p [] line opened plain (omega arith) (omega (arith, long)) in
          let all : take_bytes (reading p []) (line ++ 10 ∷ []) ≡ failed (too_long p) =
          split ∙ ap (λ (s : Progress). take_bytes s (10 ∷ [])) over in
          cc (sym fine ∙ ap answer_of all)
      | inr short ↦
          let filled : take_bytes (reading p []) line ≡ reading p line =
          fill p line [] opened plain (omega (arith, short)) in
          let ended : take_bytes (reading p line) (10 ∷ []) ≡ after_line (take_line p line) =
          take_in-open p line 10 opened in
          let all : take_bytes (reading p []) (line ++ 10 ∷ []) ≡ after_line (take_line p line) =
          split ∙ (ap (λ (s : Progress). take_bytes s (10 ∷ [])) filled ∙ ended) in
          subst (λ (t : Progress). Leads p line t) (sym all)
          (led_by p line (take_line p line) refl (sym (ap answer_of all) ∙ fine))
    ]

over_leads : (v : Version) (s : State) (line : List ℕ) → answer_of
    (take_bytes (reading (finished v s) []) (line ++ 10 ∷ [])) ≡ Ok tt
    → Leads (finished v s) line (take_bytes (reading (finished v s) []) (line ++ 10 ∷ []))
over_leads v s [] fine = cc fine
over_leads v s (b ∷ line) fine = cc (sym fine ∙ ap answer_of
    (stays_failed (BadLine (line_number (finished v s))) (line ++ 10 ∷ [])))

pub line_leads : (p : Phase) (line : List ℕ) → has_no_feed line ≡ true
    → answer_of (take_bytes (reading p []) (line ++ 10 ∷ [])) ≡ Ok tt
    → Leads p line (take_bytes (reading p []) (line ++ 10 ∷ []))
line_leads magic line plain fine = open_leads magic line refl plain fine
line_leads (params v) line plain fine = open_leads (params v) line refl plain fine
line_leads (node v p) line plain fine = open_leads (node v p) line refl plain fine
line_leads (lines v p plan) line plain fine = open_leads (lines v p plan) line refl plain fine
line_leads (body v s) line plain fine = open_leads (body v s) line refl plain fine
line_leads (finished v s) line plain fine = over_leads v s line fine
