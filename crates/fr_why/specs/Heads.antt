-- The content of the lines of a text, except the state of the interface. The code uses it, and asks an auditor for that
-- state only when it is needed. The head after a refused line doesn't matter.
use Rattle.std.specs.Prelude.{◌≡◌, ℕ, ℤ, List, [], Option, Some, None, is_none, Result, Ok, Err, if◌then◌else◌}
use Rattle.std.specs.Str.{bytes_eq}
use Rattle.fr_lines.specs.declared.plan_lines.PlanLine.{PlanLine}
use Rattle.fr_lines.specs.declared.plan_lines.PlanLine.TheVariants as plan_line
use Rattle.fr_lines.specs.declared.versions.Version.{Version}
use Rattle.fr_lines.specs.Reading.{version_in, params_in, node_in, plan_line_in}
use Rattle.fr_lines.specs.Spelling.{begin_line, end_line}
use Rattle.fr_slots.specs.declared.params.RangeError.{RangeError}
use Rattle.fr_slots.specs.Parameters.{Parameters, parameters_of}
use Rattle.fr_slots.specs.Plans.{Plan, own_refusal, buffer_refusal, queue_refusal, with_own, with_buffer, with_queue}
use Rattle.fr_text.specs.Spaces.{words_of}
use Rattle.fr_trace.specs.Stream.{Phase, magic, params, node, lines, body, finished, reading, fresh, take_bytes}
use Rattle.fr_why.specs.declared.head.Head.{Head}
use Rattle.fr_why.specs.declared.head.Head.TheVariants as head

-- ---- the state that is kept of the lines

abbrev pub head_of : Phase → Head
head_of magic = head.Start
head_of (params v) = head.Parameters v
head_of (node v p) = head.Node v p
head_of (lines v p plan) = head.Lines v p plan
head_of (body v s) = head.Body v
head_of (finished v s) = head.Finished

-- these whole lines lead to this state, and none of them is refused
abbrev pub Tells : List ℕ → Head → Type 0
Tells front h = (p : Phase) × (take_bytes fresh front ≡ reading p []) × (h ≡ head_of p)

-- ---- one line more

abbrev pub after_version : Option Version → Head
after_version None = head.Finished
after_version (Some v) = head.Parameters v

abbrev pub after_range : Version → Result Parameters RangeError → Head
after_range v (Err e) = head.Finished
after_range v (Ok p) = head.Node v p

abbrev pub after_numbers : Version → Option (List ℤ) → Head
after_numbers v None = head.Finished
after_numbers v (Some numbers) = after_range v (parameters_of numbers)

abbrev pub after_node : Version → Parameters → Option Plan → Head
after_node v p None = head.Finished
after_node v p (Some plan) = head.Lines v p plan

abbrev pub with_line : Plan → Option PlanLine → Plan
with_line plan None = plan
with_line plan (Some (plan_line.Own o)) = if is_none (own_refusal plan o) then with_own plan o else plan
with_line plan (Some (plan_line.Buffer b)) = if is_none (buffer_refusal plan b) then with_buffer plan b else plan
with_line plan (Some (plan_line.Queue q)) = if is_none (queue_refusal plan q) then with_queue plan q else plan

abbrev pub next_head : Head → List ℕ → Head
next_head head.Start line = after_version (version_in line)
next_head (head.Parameters v) line = after_numbers v (params_in (words_of line))
next_head (head.Node v p) line = after_node v p (node_in (words_of line))
next_head (head.Lines v p plan) line = if bytes_eq line begin_line then head.Body v
    else head.Lines v p (with_line plan (plan_line_in v (words_of line)))
next_head (head.Body v) line = if bytes_eq line end_line then head.Finished else head.Body v
next_head head.Finished line = head.Finished
