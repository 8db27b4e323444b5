use Rattle.std.proofs.Common.{◌≡◌, take}
use Rattle.std.specs.List.{flat_map}
use Rattle.fr_expecting.specs.Expected.{missed_of}
use Rattle.fr_expecting.proofs.judging.missed_in.Given as goal

-- those among the expectations so far
abbrev pub invariant-loop-expectation : goal.invariant-loop-expectation
invariant-loop-expectation l =
    l.missed.items ≡ flat_map (missed_of l.cycles l.interfaces) (take l.expectation-index l.expectations)
