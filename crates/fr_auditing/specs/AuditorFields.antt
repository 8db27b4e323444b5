-- The state of an auditor, from its private fields.
use Rattle.fr_auditing.specs.Phases.{phase_of}
use Rattle.fr_auditing.specs.Tracking.{Auditing, auditing}
use Rattle.fr_auditing.specs.declared.auditor.KeptAuditor.TheInside.{Inside}
use Rattle.fr_trace.specs.Auditor.{progress_in}

abbrev pub auditing_of : Inside → Auditing
auditing_of a = auditing a.later (progress_in a.fault (phase_of a.phase) a.line.items)
