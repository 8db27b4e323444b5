-- The command `latency` on a whole cluster file.
use Rattle.std.specs.Prelude.{ℕ, List, Option, Result}
use Rattle.std.specs.Io.KnownBytes.{Appends}
use Rattle.fr_files.specs.ClusterFiles.{Tells}
use Rattle.fr_files.specs.declared.error.BenchError.{BenchError}
use Rattle.fr_schedule.specs.Descriptions.{Description}
use Rattle.fr_latency.specs.LatencyText.{latency_text}

-- the cluster's latencies
abbrev pub HasLatencies : Description → Option (List ℕ) → Option (List ℕ) → Type 0
HasLatencies d old new = Appends old new (latency_text d)

abbrev pub ShowsLatencies : List ℕ → Option (List ℕ) → Option (List ℕ) → Result (Unit {0}) BenchError → Type 0
ShowsLatencies = Tells HasLatencies
