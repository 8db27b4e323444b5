use Rattle.std.proofs.Common.{◌≡◌, ◌++◌, drop}
use Rattle.std.specs.List.{filter}
use Rattle.fr_runs.specs.Effects.{each_once, is_wholly_idle, wholly_idle}
use Rattle.fr_runs.proofs.effects.wholly_idle.Given as goal

-- the numbers so far, and those among the idle ones that are left
abbrev pub invariant-loop-number : goal.invariant-loop-number
invariant-loop-number l =
    l.told.items ++ filter (is_wholly_idle l.numbers l.idle) (each_once l.last (drop l.number-index l.idle))
    ≡ wholly_idle l.numbers l.idle
