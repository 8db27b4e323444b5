use Rattle.std.proofs.Common.{◌≡◌, drop}
use Rattle.fr_runs.specs.Faulted.{babble_due}
use Rattle.fr_runs.proofs.faulted.babble_due.Given as goal

-- the babble is that of the remaining lines
abbrev pub invariant-loop-line : goal.invariant-loop-line
invariant-loop-line l =
    babble_due (drop l.line-index l.lines) l.cycle l.window l.node l.channel
    ≡ babble_due l.lines l.cycle l.window l.node l.channel
