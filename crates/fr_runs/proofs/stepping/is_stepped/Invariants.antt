use Rattle.std.proofs.Common.{ℕ, ◌<◌, take}
use Rattle.fr_runs.specs.Stepping.{IsInTurnAt}
use Rattle.fr_runs.specs.Steps.{IsProgress}
use Rattle.fr_runs.proofs.stepping.is_stepped.Given as goal

-- the earlier entries came in their turn
abbrev pub invariant-loop-number : goal.invariant-loop-number
invariant-loop-number l = record {
  so_far : IsProgress l.recorded (take l.number l.interface.entries) l.progress;
  in_turn : (k : ℕ) → k < l.number → IsInTurnAt l.recorded l.scripts l.node l.interface.entries k;
}
