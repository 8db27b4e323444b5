-- A text of version 4 of a legal interface is read, and an accepted one is the text of its interface.
use Rattle.std.proofs.Common.{◌≡◌, ℕ, ◌≤◌, true, List, [], ◌++◌, length, drop, Ok, refl, sym, ap, ◌∙◌, append_assoc}
use Rattle.std.proofs.Common.{arith, append-nil}
use Rattle.fr_auditing.proofs.LongNodeLemmas.{long_node_again, long_node_no_feed, long_node_short}
use Rattle.fr_auditing.proofs.StreamLemmas.{long_next, late_line, next_late}
use Rattle.fr_auditing.proofs.LongTextLemmas.{parts_are, lines_behind}
use Rattle.fr_auditing.specs.LongStream.{long_bytes}
use Rattle.fr_auditing.specs.LongText.{long_first_line, long_head_text, long_params_text, long_numbers_text, long_text}
use Rattle.fr_interface.specs.State.{State, IsLegalInterface}
use Rattle.fr_lines.proofs.ParameterLemmas.{params_line_again, parameters_again, params_no_feed, params_short}
use Rattle.fr_lines.specs.declared.versions.Version.TheVariants.{Three}
use Rattle.fr_lines.specs.Spelled.{bare_plan}
use Rattle.fr_lines.specs.Spelling.{line_feed, line_text, params_words, node_words}
use Rattle.fr_slots.specs.Parameters.{Parameters, IsParameters}
use Rattle.fr_slots.specs.Plans.{Plan, IsPlan}
use Rattle.fr_text.specs.Plain.{has_no_feed}
use Rattle.fr_text.specs.Spaces.{line_of}
use Rattle.fr_trace.proofs.AgainLemmas.{text_came}
use Rattle.fr_trace.proofs.OutcomeLemmas.{all_told, all_owned_told}
use Rattle.fr_trace.proofs.TextLemmas.{is_open}
use Rattle.fr_trace.specs.Stream.{Phase, magic, params, node, lines, finished, reading, after_numbers}
use Rattle.fr_trace.specs.Stream.{after_parameters, after_node, line_number, take_line, fresh, outcome_of}
use Rattle.fr_trace.specs.TraceText.{head_text, numbers_text, trace_text}

-- ---- the first three lines

head_read : long_bytes fresh long_head_text ≡ reading (params Three) []
head_read = long_next fresh [] long_first_line magic (params Three) refl refl refl (omega arith) refl

params_read : (p : Parameters) → IsParameters p → long_bytes fresh (long_params_text p) ≡ reading (node Three p) []
params_read p is =
    long_next fresh long_head_text (line_of (params_words p)) (params Three) (node Three p) head_read refl
    (params_no_feed p is) (params_short p is)
    (ap (after_numbers Three) (params_line_again p is) ∙ ap (after_parameters Three) (parameters_again p is))

numbers_read : (p : Parameters) (plan : Plan) → IsParameters p → IsPlan plan
    → long_bytes fresh (long_numbers_text p plan) ≡ reading (lines Three p (bare_plan plan)) []
numbers_read p plan is plan_is =
    long_next fresh (long_params_text p) (line_of (node_words plan)) (node Three p) (lines Three p (bare_plan plan))
    (params_read p is) refl (long_node_no_feed plan plan_is) (long_node_short plan plan_is)
    (ap (after_node Three p) (long_node_again plan plan_is))

-- ---- the lines after them

-- the text of version 4 with the same lines after the first came to the phase
abbrev CameLong : Parameters → Plan → List ℕ → Phase → Type 0
CameLong p plan text q = (rest : List ℕ) × (text ≡ numbers_text Three p plan ++ rest)
    × (long_bytes fresh (long_numbers_text p plan ++ rest) ≡ reading q []) × (4 ≤ line_number q)

came_next : (p : Parameters) (plan : Plan) (text line : List ℕ) (q r : Phase) → CameLong p plan text q
    → is_open q ≡ true → has_no_feed line ≡ true → length line ≤ 1200 → take_line q line ≡ Ok r
    → CameLong p plan (text ++ (line ++ line_feed)) r
came_next p plan text line q r came opened plain short led =
    let (rest, same, read, late) = came in
    let more = line ++ line_feed in
    let long : long_bytes fresh ((long_numbers_text p plan ++ rest) ++ more) ≡ reading r [] =
    long_next fresh (long_numbers_text p plan ++ rest) line q r read opened plain short
    (late_line q line late ∙ led) in (
      rest ++ more,
      ap (λ (t : List ℕ). t ++ more) same ∙ append_assoc (numbers_text Three p plan) rest more,
      ap (long_bytes fresh) (sym (append_assoc (long_numbers_text p plan) rest more)) ∙ long,
      next_late q line r late led,
    )

-- the first line is all that differs
pub head_changed : (s : State) (p : Parameters) (plan : Plan) (rest : List ℕ)
    → trace_text Three s ≡ numbers_text Three p plan ++ rest → long_text s ≡ long_numbers_text p plan ++ rest
head_changed s p plan rest same =
    let first = line_text (params_words p) in
    let second = line_text (node_words plan) in
    let behind : (head : List ℕ) → ((head ++ first) ++ second) ++ rest ≡ head ++ (first ++ (second ++ rest)) =
    λ head. append_assoc (head ++ first) second rest ∙ append_assoc head first (second ++ rest) in
    let all : head_text Three ++ lines_behind s ≡ head_text Three ++ (first ++ (second ++ rest)) =
    sym (parts_are (head_text Three) s) ∙ same ∙ behind (head_text Three) in
    let lines : lines_behind s ≡ first ++ (second ++ rest) = ap (λ (t : List ℕ). drop 10 t) all in
    parts_are long_head_text s ∙ ap (λ (t : List ℕ). long_head_text ++ t) lines ∙ sym (behind long_head_text)

pub legal_read : (s : State) → IsLegalInterface s → long_bytes fresh (long_text s) ≡ reading (finished Three s) []
legal_read s is =
    let start : CameLong s.params s.plan (numbers_text Three s.params s.plan)
    (lines Three s.params (bare_plan s.plan)) = (
      [],
      sym (append-nil (numbers_text Three s.params s.plan)),
      ap (long_bytes fresh) (append-nil (long_numbers_text s.params s.plan)) ∙ numbers_read s.params s.plan
          is.params_are is.plan_is,
      omega arith,
    ) in
    let came : CameLong s.params s.plan (trace_text Three s) (finished Three s) =
    text_came (CameLong s.params s.plan) (came_next s.params s.plan) Three s is (all_owned_told s.plan.owned)
    (all_told s.entries) start in
    ap (long_bytes fresh) (head_changed s s.params s.plan came.0 came.1) ∙ came.2

-- a text of a legal interface is accepted
pub legal_accepted : (s : State) → IsLegalInterface s → outcome_of (long_bytes fresh (long_text s)) ≡ Ok s
legal_accepted s is = ap outcome_of (legal_read s is)
