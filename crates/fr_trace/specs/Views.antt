-- The state of an auditor, from its private fields.
use Rattle.fr_trace.specs.Auditor.{phase_of, progress_in}
use Rattle.fr_trace.specs.Stream.{Progress}
use Rattle.fr_trace.specs.declared.auditor.Auditor.TheInside.{Inside}

abbrev pub progress_of : Inside → Progress
progress_of a = progress_in a.fault (phase_of a.phase) a.line.items
