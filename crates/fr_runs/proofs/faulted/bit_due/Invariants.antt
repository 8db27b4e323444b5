use Rattle.std.proofs.Common.{◌≡◌, drop}
use Rattle.fr_runs.specs.Faulted.{bit_due}
use Rattle.fr_runs.proofs.faulted.bit_due.Given as goal

-- the bit is that of the remaining lines
abbrev pub invariant-loop-line : goal.invariant-loop-line
invariant-loop-line l = bit_due (drop l.line-index l.lines) l.cycle l.window l.channel
    ≡ bit_due l.lines l.cycle l.window l.channel
