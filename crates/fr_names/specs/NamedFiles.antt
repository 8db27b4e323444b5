-- The reading of a cluster file as a cluster and its names (project-defined).
use Rattle.std.specs.Prelude.{⊤, ◌≡◌, ℕ, List, Result, Ok, Err, IfOk}
use Rattle.fr_files.specs.ClusterFiles.{IsClusterIn, IsClusterOf}
use Rattle.fr_files.specs.declared.error.BenchError.{BenchError}
use Rattle.fr_files.specs.declared.error.BenchError.TheVariants as error
use Rattle.fr_names.specs.FileNames.{names_of}
use Rattle.fr_names.specs.Names.{NamesOfNode}
use Rattle.fr_schedule.specs.Descriptions.{Description}
use Rattle.fr_schedule.specs.Files.{description_of}
use Rattle.toml.specs.Data.{Members}

-- the cluster without its names
abbrev pub cluster_part : Result (Description × List NamesOfNode) BenchError → Result Description BenchError
cluster_part (Ok named) = Ok named.0
cluster_part (Err e) = Err e

-- The cluster that the table describes, or its first fault. `Memory` may come for any table.
abbrev pub IsClusterAt : Members → Result Description BenchError → Type 0
IsClusterAt root (Ok d) = description_of root ≡ Ok d
IsClusterAt root (Err (error.Config e)) = description_of root ≡ Err e
IsClusterAt root (Err error.Memory) = ⊤
IsClusterAt root (Err e) = ⊥

-- the names beside a cluster are those of the text
abbrev pub HasNamesOf : List ℕ → Result (Description × List NamesOfNode) BenchError → Type 0
HasNamesOf text r = IfOk r (λ named. named.1 ≡ names_of text)

-- The bytes describe this cluster or are refused as `cluster_of` refuses them, and the names are theirs.
abbrev pub IsNamedClusterIn : List ℕ → Result (Description × List NamesOfNode) BenchError → Type 0
IsNamedClusterIn text r = IsClusterIn text (cluster_part r) × HasNamesOf text r

-- The same for a file that is read to its end, so that it may also be too long or fail to be read.
abbrev pub IsNamedClusterOf : List ℕ → Result (Description × List NamesOfNode) BenchError → Type 0
IsNamedClusterOf text r = IsClusterOf text (cluster_part r) × HasNamesOf text r
