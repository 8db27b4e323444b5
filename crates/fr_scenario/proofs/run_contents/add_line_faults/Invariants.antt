use Rattle.std.proofs.Common.{◌≡◌, ◌++◌, drop, map}
use Rattle.fr_scenario.specs.RunContents.{faults_on_line}
use Rattle.fr_scenario.proofs.run_contents.add_line_faults.Given as goal

-- the fault lines so far and their numbers, and those of the statements that are left
abbrev pub invariant-loop-statement : goal.invariant-loop-statement
invariant-loop-statement l = record {
  faults : l.faults.items ++ faults_on_line l.cycles (drop l.statement-index l.line)
      ≡ l.initial.faults.items ++ faults_on_line l.cycles l.line;
  numbers : l.numbers.items ++ map (λ _. l.number) (faults_on_line l.cycles (drop l.statement-index l.line))
      ≡ l.initial.numbers.items ++ map (λ _. l.number) (faults_on_line l.cycles l.line);
}
