use Rattle.std.proofs.Common.{◌≡◌, ◌+◌, ◌≤◌}
use Rattle.fr_expecting.specs.Contents.{IsPlace}
use Rattle.fr_expecting.proofs.walk.go_to_end.Given as goal

-- a place at this entry, not past the end of the cycle
abbrev pub invariant-loop-number : goal.invariant-loop-number
invariant-loop-number l = record {
  place_is : IsPlace l.interface l.filter l.place;
  here : l.place.next ≡ l.number;
  before : l.place.begun ≤ l.cycle + 1;
}
