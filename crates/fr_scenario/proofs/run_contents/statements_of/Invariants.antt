use Rattle.std.proofs.Common.{◌≡◌, map}
use Rattle.fr_scenario.specs.RunContents.{statements_of}
use Rattle.fr_scenario.proofs.run_contents.statements_of.Given as goal

-- the statements of the lines so far
abbrev pub invariant-loop-line : goal.invariant-loop-line
invariant-loop-line l = l.statements.items ≡ statements_of (map (λ line. line.items) l.yielded)
