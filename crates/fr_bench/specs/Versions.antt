-- The version of a text, by its first bytes. The pieces that brought enough bytes to know the version are its head.
use Rattle.std.specs.Prelude.{◌≡◌, ℕ, ◌≤◌, Bool, ◌&&◌, List, length, take, Option, Result, Ok, Err, IfSome}
use Rattle.std.specs.Io.KnownBytes.{Consumes}
use Rattle.std.specs.Prelude.{nat_lt}
use Rattle.std.specs.Str.{bytes_eq}
use Rattle.arrayvec.specs.ArrayVec.{ArrayVec}
use Rattle.fr_auditing.specs.LongText.{long_head_text}
use Rattle.fr_bench.specs.LongStops.{Known, LongStopsEarly}
use Rattle.fr_trace.specs.Audit.{StopsEarly}
use Rattle.fr_trace.specs.declared.error.TraceError.{TraceError}
use Rattle.fr_trace.specs.declared.error.TraceError.TheVariants.{Read}

-- the text begins with the first line of version 4 and its line feed
abbrev pub is_later : List ℕ → Bool
is_later text = bytes_eq long_head_text (take 10 text)

-- the bytes are a front of that line, and more of it may come
abbrev pub is_open : List ℕ → Bool
is_open bytes = nat_lt (length bytes) 10 && bytes_eq bytes (take (length bytes) long_head_text)

-- the bytes were read, and have the version of the text
abbrev pub IsHead : Option (List ℕ) → Option (List ℕ) → List ℕ → Type 0
IsHead text rest head = Consumes text rest head × (length head ≤ 4096)
    × IfSome text (λ t. is_later t ≡ is_later head)

-- the head of a text, or the failure of its reader, before which no fault showed in any version
abbrev pub Heads : Option (List ℕ) → Option (List ℕ) → Result (ArrayVec ℕ) TraceError → Type 0
Heads text rest (Ok head) = IsHead text rest head.items
Heads text rest (Err e) = (e ≡ Read) × Known text rest StopsEarly × Known text rest LongStopsEarly
