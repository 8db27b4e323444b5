-- The printed text of a refusal of a trace (project-defined).
use Rattle.std.specs.Prelude.{ℕ, List, codes, ◌++◌}
use Rattle.std.specs.Fmt.{decimal}
use Rattle.fr_trace.specs.declared.error.TraceError.{TraceError}
use Rattle.fr_trace.specs.declared.error.TraceError.TheVariants as refusal

-- the number of the line at fault follows the name
abbrev pub trace_error_text : TraceError → List ℕ
trace_error_text refusal.BadMagic = codes "BadMagic"
trace_error_text (refusal.BadLine n) = codes "BadLine " ++ decimal n
trace_error_text (refusal.LineTooLong n) = codes "LineTooLong " ++ decimal n
trace_error_text (refusal.Refused n) = codes "Refused " ++ decimal n
trace_error_text (refusal.WrongAnswer n) = codes "WrongAnswer " ++ decimal n
trace_error_text refusal.Truncated = codes "Truncated"
trace_error_text refusal.Read = codes "Read"
trace_error_text refusal.Write = codes "Write"
trace_error_text refusal.Memory = codes "Memory"
