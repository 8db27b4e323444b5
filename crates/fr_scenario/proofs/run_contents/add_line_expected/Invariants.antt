use Rattle.std.proofs.Common.{◌≡◌, ◌++◌, drop}
use Rattle.fr_scenario.specs.RunContents.{expected_on_line}
use Rattle.fr_scenario.proofs.run_contents.add_line_expected.Given as goal

-- the expectations so far, and those of the statements that are left
abbrev pub invariant-loop-statement : goal.invariant-loop-statement
invariant-loop-statement l =
    l.expected.items ++ expected_on_line l.cycles l.number (drop l.statement-index l.line)
    ≡ l.initial.expected.items ++ expected_on_line l.cycles l.number l.line
