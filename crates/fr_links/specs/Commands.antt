-- The command `links` on a whole cluster file.
use Rattle.std.specs.Prelude.{ℕ, List, Option, Result}
use Rattle.std.specs.Io.KnownBytes.{Appends}
use Rattle.fr_files.specs.ClusterFiles.{Tells}
use Rattle.fr_files.specs.declared.error.BenchError.{BenchError}
use Rattle.fr_schedule.specs.Descriptions.{Description}
use Rattle.fr_links.specs.LinkText.{links_text}

-- the cluster's links
abbrev pub HasLinks : Description → Option (List ℕ) → Option (List ℕ) → Type 0
HasLinks d old new = Appends old new (links_text d)

abbrev pub ShowsLinks : List ℕ → Option (List ℕ) → Option (List ℕ) → Result (Unit {0}) BenchError → Type 0
ShowsLinks = Tells HasLinks
