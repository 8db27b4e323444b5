use Rattle.std.proofs.Common.{◌≡◌, ◌++◌}
use Rattle.fr_scenario.proofs.run_contents.add_statements.Given as goal

-- the statements that were moved, after the old ones
abbrev pub invariant-loop-statement : goal.invariant-loop-statement
invariant-loop-statement l = l.statements.items ≡ l.initial.statements.items ++ l.yielded
