use Rattle.std.proofs.Common.{◌≡◌, ◌++◌}
use Rattle.std.specs.Iterator.Adapters.{zip_first, zip_second}
use Rattle.std.specs.Slice.Iter.{iter_rest}
use Rattle.fr_runs.specs.Effects.{idle_numbers}
use Rattle.fr_runs.proofs.effects.idle_numbers.Given as goal

-- those found so far, and those among the lines that are left
abbrev pub invariant-loop-line : goal.invariant-loop-line
invariant-loop-line l =
    l.idle.items ++ idle_numbers l.windows (iter_rest (zip_first l.line-iterator))
    (iter_rest (zip_second l.line-iterator))
    ≡ idle_numbers l.windows l.lines l.numbers
