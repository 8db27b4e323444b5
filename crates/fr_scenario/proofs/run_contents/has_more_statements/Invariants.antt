use Rattle.std.proofs.Common.{◌≡◌, ◌+◌, length, take}
use Rattle.std.specs.List.{sum_by}
use Rattle.fr_scenario.proofs.run_contents.has_more_statements.Given as goal

-- the remaining room, with the statements so far
abbrev pub invariant-loop-line : goal.invariant-loop-line
invariant-loop-line l = l.room + sum_by (λ line. length line.items) (take l.line-index l.lines) ≡ 4094
