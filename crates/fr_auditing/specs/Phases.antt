-- The meaning of the phases of an auditor, and the effect of a line on them.
use Rattle.std.specs.Prelude.{ℕ, Bool, List, ◌⊎◌}
use Rattle.fr_auditing.specs.LongStream.{line_by}
use Rattle.fr_auditing.specs.Tracking.{Auditing, Tracks}
use Rattle.fr_auditing.specs.declared.auditor.KeptPhase.{KeptPhase}
use Rattle.fr_auditing.specs.declared.auditor.KeptPhase.TheVariants.{Magic, Parameters, Node, Lines, Body, Finished}
use Rattle.fr_trace.specs.declared.error.TraceError.TheVariants.{Memory}
use Rattle.fr_trace.specs.Feeds.{IsBegin}
use Rattle.fr_trace.specs.Stream.{Phase, Progress, magic, params, node, lines, body, finished, reading, failed}
use Rattle.fr_trace.specs.Stream.{after_line}

abbrev pub phase_of : KeptPhase → Phase
phase_of Magic = magic
phase_of (Parameters v) = params v
phase_of (Node v p) = node v p
phase_of (Lines v p plan) = lines v p plan
phase_of (Body v s) = body v s
phase_of (Finished v s) = finished v s

-- the end of this line, in place of the one that the text holds
abbrev pub EndsLine : Bool → Progress → List ℕ → Auditing → Type 0
EndsLine later (failed e) line new = Tracks later new (failed e)
EndsLine later (reading q front) line new = Tracks later new (after_line (line_by later q line))
    ⊎ (Tracks later new (failed Memory) × IsBegin q line)
