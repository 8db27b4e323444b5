use Rattle.std.proofs.Common.{◌≡◌, take}
use Rattle.fr_runs.specs.Faulted.{lines_of_cycle}
use Rattle.fr_runs.proofs.fault_line.keep_lines_of.Given as goal

-- the named ones of the lines so far are kept
abbrev pub invariant-loop-line : goal.invariant-loop-line
invariant-loop-line l = l.kept.items ≡ lines_of_cycle l.cycle (take l.line-index l.lines)
