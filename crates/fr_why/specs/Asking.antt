-- The same reasons, from the kept state of the lines before (Heads) and the interface that an auditor gives.
use Rattle.std.specs.Prelude.{ℕ, List, codes, Option, Some, None, if◌then◌else◌}
use Rattle.std.specs.Str.{bytes_eq}
use Rattle.fr_interface.specs.State.{State}
use Rattle.fr_lines.specs.declared.versions.Version.{Version}
use Rattle.fr_lines.specs.declared.versions.Version.TheVariants.{Three}
use Rattle.fr_lines.specs.Reading.{params_in, plan_line_in, entry_in}
use Rattle.fr_lines.specs.Spelling.{begin_line, end_line}
use Rattle.fr_slots.specs.Faults.{plan_fault}
use Rattle.fr_text.specs.Spaces.{words_of}
use Rattle.fr_trace.specs.declared.error.TraceError.{TraceError}
use Rattle.fr_trace.specs.declared.error.TraceError.TheVariants as refusal
use Rattle.fr_why.specs.declared.head.Head.{Head}
use Rattle.fr_why.specs.declared.head.Head.TheVariants as head
use Rattle.fr_why.specs.declared.reason.Misfit.{Misfit}
use Rattle.fr_why.specs.declared.reason.Misfit.TheVariants.{Word, After}
use Rattle.fr_why.specs.declared.reason.Reason.{Reason}
use Rattle.fr_why.specs.declared.reason.Reason.TheVariants.{Plain, Feed}
use Rattle.fr_why.specs.Reasons.{first_word, misfit_of, misfit_in_plan, is_of_journal}
use Rattle.fr_why.specs.Reasons.{reason_of_misfit, reason_of_numbers, reason_of_fault, reason_of_entry}

abbrev pub reason_by_state : Version → Option State → List ℕ → Reason
reason_by_state v None line = Plain
reason_by_state v (Some s) line = reason_of_entry s (entry_in v (words_of line))

abbrev pub reason_by_head : Head → Option State → List ℕ → Reason
reason_by_head head.Start o line = Plain
reason_by_head (head.Parameters v) o line = reason_of_numbers (params_in (words_of line))
reason_by_head (head.Node v p) o line = Plain
reason_by_head (head.Lines v p plan) o line = if bytes_eq line begin_line then reason_of_fault (plan_fault p plan)
    else Plain
reason_by_head (head.Body v) o line = reason_by_state v o line
reason_by_head head.Finished o line = Plain

abbrev pub misfit_by_head : Head → List (List ℕ) → Misfit
misfit_by_head head.Start words = Word
misfit_by_head (head.Parameters v) words = misfit_of (bytes_eq (first_word words) (codes "params"))
misfit_by_head (head.Node v p) words = misfit_of (bytes_eq (first_word words) (codes "node"))
misfit_by_head (head.Lines v p plan) words = misfit_in_plan plan (first_word words) (plan_line_in v words)
misfit_by_head (head.Body v) words = misfit_of (is_of_journal (first_word words))
misfit_by_head head.Finished words = After

abbrev pub version_by_head : Head → Version
version_by_head head.Start = Three
version_by_head (head.Parameters v) = v
version_by_head (head.Node v p) = v
version_by_head (head.Lines v p plan) = v
version_by_head (head.Body v) = v
version_by_head head.Finished = Three

abbrev pub feed_by_head : Head → List ℕ → Reason
feed_by_head head.Start line = Plain
feed_by_head (head.Parameters v) line = Plain
feed_by_head (head.Node v p) line = Plain
feed_by_head (head.Lines v p plan) line = Plain
feed_by_head (head.Body v) line = if bytes_eq line end_line then Feed else Plain
feed_by_head head.Finished line = Plain

abbrev pub reason_asked : TraceError → Head → Option State → List ℕ → Reason
reason_asked (refusal.BadLine n) h o line = reason_of_misfit (version_by_head h) (misfit_by_head h (words_of line))
    (words_of line)
reason_asked (refusal.Refused n) h o line = reason_by_head h o line
reason_asked (refusal.WrongAnswer n) h o line = reason_by_head h o line
reason_asked refusal.Truncated h o line = feed_by_head h line
reason_asked e h o line = Plain
