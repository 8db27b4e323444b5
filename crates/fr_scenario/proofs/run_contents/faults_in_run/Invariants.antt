use Rattle.std.proofs.Common.{◌≡◌, ◌+◌, ◌++◌, drop, map}
use Rattle.fr_scenario.specs.RunContents.{faults_in_run, numbers_in_run}
use Rattle.fr_scenario.proofs.run_contents.faults_in_run.Given as goal

-- the fault lines so far and their numbers, and those of the lines that are left
abbrev pub invariant-loop-line : goal.invariant-loop-line
invariant-loop-line l = record {
  number : l.number ≡ l.line-index + 2;
  faults : l.faults.items ++ faults_in_run l.cycles (map (λ line. line.items) (drop l.line-index l.lines))
      ≡ faults_in_run l.cycles (map (λ line. line.items) l.lines);
  numbers : l.numbers.items
      ++ numbers_in_run l.cycles l.number (map (λ line. line.items) (drop l.line-index l.lines))
      ≡ numbers_in_run l.cycles 2 (map (λ line. line.items) l.lines);
}
