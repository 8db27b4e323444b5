use Rattle.std.proofs.Common.{◌≡◌, drop}
use Rattle.fr_runs.specs.Stepping.{lines_given}
use Rattle.fr_runs.proofs.stepping.lines_given.Given as goal

-- the lines are those of the remaining scripts
abbrev pub invariant-loop-script : goal.invariant-loop-script
invariant-loop-script l = lines_given (drop l.script-index l.scripts) l.node l.task
    ≡ lines_given l.scripts l.node l.task
