use Rattle.std.proofs.Common.{◌≡◌, take}
use Rattle.std.specs.Str.Parse.{AllDigits, digits_value}
use Rattle.fr_lines.proofs.fronts.digits_at_front.Given as goal

abbrev pub invariant-loop-at : goal.invariant-loop-at
invariant-loop-at l = record {
  value : l.number ≡ digits_value 10 (take l.at l.bytes);
  digits : AllDigits 10 (take l.at l.bytes);
}
