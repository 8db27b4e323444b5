use Rattle.std.proofs.Common.{◌≡◌, ◌+◌, ◌++◌, drop, map}
use Rattle.fr_scenario.specs.RunContents.{expected_in_run}
use Rattle.fr_scenario.proofs.run_contents.expected_in_run.Given as goal

-- the expectations so far, and those of the lines that are left
abbrev pub invariant-loop-line : goal.invariant-loop-line
invariant-loop-line l = record {
  number : l.number ≡ l.line-index + 2;
  expected : l.expected.items
      ++ expected_in_run l.cycles l.number (map (λ line. line.items) (drop l.line-index l.lines))
      ≡ expected_in_run l.cycles 2 (map (λ line. line.items) l.lines);
}
