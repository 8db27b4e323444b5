-- The meaning of the phases of an auditor.
use Rattle.std.specs.Prelude.{ℕ, List, Option, Some, None}
use Rattle.fr_trace.specs.Stream.{Phase as View, Progress, magic, params, node, lines, body, finished, reading, failed}
use Rattle.fr_trace.specs.declared.auditor.TextPhase.{TextPhase}
use Rattle.fr_trace.specs.declared.auditor.TextPhase.TheVariants.{Magic, Parameters, Node, Lines, Body, Finished}
use Rattle.fr_trace.specs.declared.error.TraceError.{TraceError}

abbrev pub phase_of : TextPhase → View
phase_of Magic = magic
phase_of (Parameters v) = params v
phase_of (Node v p) = node v p
phase_of (Lines v p plan) = lines v p plan
phase_of (Body v interface) = body v interface
phase_of (Finished v interface) = finished v interface

abbrev pub progress_in : Option TraceError → View → List ℕ → Progress
progress_in (Some e) phase line = failed e
progress_in None phase line = reading phase line
