use Rattle.std.proofs.Common.{◌≡◌, ◌≤◌, take}
use Rattle.fr_guardian.specs.Periods.{period}
use Rattle.fr_guardian.proofs.guardian.period_of.Given as goal

-- the greatest repetition of the lines so far
abbrev pub invariant-loop-own : goal.invariant-loop-own
invariant-loop-own l = record {
  most : l.most ≡ period (take l.own-index l.owned);
  few : l.most ≤ 64;
}
