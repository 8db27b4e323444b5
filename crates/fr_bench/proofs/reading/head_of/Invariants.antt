use Rattle.std.proofs.Common.{◌≡◌, true, length}
use Rattle.std.specs.Io.KnownBytes.{Consumes}
use Rattle.fr_bench.specs.Versions.{is_open}
use Rattle.fr_bench.proofs.reading.head_of.Given as goal

abbrev pub invariant-pieces : goal.invariant-pieces
invariant-pieces g l =
    Consumes (g.R.Read.remaining l.fn.reader) (g.R.Read.remaining l.reader) l.head.items
    × (is_open l.head.items ≡ true) × (length l.room ≡ 4086)
