use Rattle.std.proofs.Common.{ℕ, Bool, List, Option}
use Rattle.fr_bench.specs.Reading.{SoFar}
use Rattle.fr_bench.proofs.reading.rest_of.Given as goal

abbrev pub invariant-pieces : goal.invariant-pieces
invariant-pieces g l = (later : Bool) (text : Option (List ℕ))
    → SoFar later text (g.R.Read.remaining l.fn.reader) l.fn.auditor
    → SoFar later text (g.R.Read.remaining l.reader) l.auditor
