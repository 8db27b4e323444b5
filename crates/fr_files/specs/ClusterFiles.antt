-- The reading of a whole cluster file, and the end of a command that reads one.
use Rattle.std.specs.Prelude.{⊤, ◌≡◌, ◌<◌, ◌≤◌, ℕ, List, length, Option, Result, Ok, Err}
use Rattle.std.specs.Io.KnownBytes.{Keeps}
use Rattle.std.specs.Str.{IsUtf8}
use Rattle.fr_files.specs.declared.error.BenchError.{BenchError}
use Rattle.fr_files.specs.declared.error.BenchError.TheVariants as error
use Rattle.fr_files.specs.Outputs.{IsCut}
use Rattle.fr_schedule.specs.Descriptions.{Description}
use Rattle.fr_schedule.specs.Files.{described}
use Rattle.fr_schedule.specs.declared.error.ConfigError.{ConfigError}
use Rattle.fr_schedule.specs.declared.error.ConfigError.TheVariants as config

-- a text that isn't too long
abbrev pub IsShort : List ℕ → Type 0
IsShort text = length text ≤ 1048576

-- the text, which is UTF-8, describes this cluster
abbrev pub IsDescribed : List ℕ → Description → Type 0
IsDescribed text d = IsShort text × IsUtf8 text × (described text ≡ Ok d)

-- The refusal of a text. A text that isn't UTF-8 is refused as no TOML.
abbrev pub IsRefused : List ℕ → ConfigError → Type 0
IsRefused text config.Toml = IsUtf8 text → described text ≡ Err config.Toml
IsRefused text e = IsUtf8 text × (described text ≡ Err e)

-- The cluster that the bytes describe, or their first fault. `Memory` comes only while a text is parsed.
abbrev pub IsClusterIn : List ℕ → Result Description BenchError → Type 0
IsClusterIn text (Ok d) = IsUtf8 text × (described text ≡ Ok d)
IsClusterIn text (Err (error.Config e)) = IsRefused text e
IsClusterIn text (Err error.Memory) = IsUtf8 text
IsClusterIn text (Err e) = ⊥

-- The cluster that the text describes, or the first fault of the text. `Read` and `Memory` may come for any text.
abbrev pub IsClusterOf : List ℕ → Result Description BenchError → Type 0
IsClusterOf text (Ok d) = IsDescribed text d
IsClusterOf text (Err error.TooLong) = 1048576 < length text
IsClusterOf text (Err (error.Config e)) = IsShort text × IsRefused text e
IsClusterOf text (Err error.Read) = ⊤
IsClusterOf text (Err error.Memory) = ⊤
IsClusterOf text (Err e) = ⊥

-- After success the text describes a cluster, and `IsWritten` holds for the output. After `Write` the text describes a
-- cluster, and a front of such an output is written. Every other error leaves the output unchanged: the text is too
-- long, or it is refused by its first fault, or the reader or an allocation failed.
abbrev pub Tells : (Description → Option (List ℕ) → Option (List ℕ) → Type 0) → List ℕ → Option (List ℕ)
    → Option (List ℕ) → Result (Unit {0}) BenchError → Type 0
Tells IsWritten text old new (Ok _) = (d : Description) × IsDescribed text d × IsWritten d old new
Tells IsWritten text old new (Err error.TooLong) = (1048576 < length text) × Keeps old new
Tells IsWritten text old new (Err (error.Config e)) = IsShort text × IsRefused text e × Keeps old new
Tells IsWritten text old new (Err error.Write) = (d : Description) × IsDescribed text d × IsCut (IsWritten d) old new
Tells IsWritten text old new (Err error.Read) = Keeps old new
Tells IsWritten text old new (Err error.Memory) = Keeps old new
Tells IsWritten text old new (Err e) = ⊥

-- an error of a cluster file as one of the command; a failed allocation is the command's own error
abbrev pub given_of : ConfigError → BenchError
given_of config.Memory = error.Memory
given_of e = error.Config e
