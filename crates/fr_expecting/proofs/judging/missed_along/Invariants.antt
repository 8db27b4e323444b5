use Rattle.std.proofs.Common.{◌≡◌, ◌≤◌, Some}
use Rattle.fr_expecting.specs.Contents.{IsPlace}
use Rattle.fr_expecting.specs.Expected.{found_with, missed_with}
use Rattle.fr_expecting.proofs.judging.missed_along.Given as goal

-- as missed by the cycles so far, and a place before the end of this cycle
abbrev pub invariant-loop-cycle : goal.invariant-loop-cycle
invariant-loop-cycle l = record {
  place_is : IsPlace l.interface l.filter l.place;
  before : l.place.begun ≤ l.cycle;
  so_far : l.missed ≡ missed_with l.cycle l.expectation (found_with l.interface (Some l.filter));
}
