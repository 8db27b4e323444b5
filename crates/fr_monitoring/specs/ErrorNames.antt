-- The printed text of an error (project-defined).
use Rattle.std.specs.Prelude.{ℕ, List, codes, ◌++◌}
use Rattle.std.specs.Fmt.{decimal}
use Rattle.fr_monitoring.specs.declared.error.MonitorError.{MonitorError}
use Rattle.fr_monitoring.specs.declared.error.MonitorError.TheVariants as monitor
use Rattle.fr_recording.specs.declared.phase.Refusal.TheVariants as refusal
use Rattle.fr_slots.specs.Admission.{letter_of}

-- the channel and the cycle follow, or the byte of the file at which the record or block begins
abbrev pub monitor_error_text : MonitorError → List ℕ
monitor_error_text (monitor.NoClock channel cycle) = codes "NoClock " ++ letter_of channel ++ codes " " ++ decimal cycle
monitor_error_text (monitor.Capture refusal.NoCapture) = codes "NoCapture"
monitor_error_text (monitor.Capture (refusal.BadBlock place)) = codes "BadBlock " ++ decimal place
monitor_error_text (monitor.Capture (refusal.Truncated place)) = codes "Truncated " ++ decimal place
monitor_error_text monitor.Read = codes "Read"
monitor_error_text monitor.Write = codes "Write"
monitor_error_text monitor.Memory = codes "Memory"
