use Rattle.std.proofs.Common.{◌≡◌, ◌≤◌, take, drop}
use Rattle.fr_bus.specs.Windows.{cycles_begun}
use Rattle.fr_runs.specs.Effects.{has_effect, has_effect_after}
use Rattle.fr_runs.proofs.effects.has_effect.Given as goal

-- the windows that are left decide whether the line had an effect
abbrev pub invariant-loop-sealed : goal.invariant-loop-sealed
invariant-loop-sealed l = record {
  begun : l.begun ≡ cycles_begun (take l.sealed-index l.windows);
  few : l.begun ≤ l.sealed-index;
  left : has_effect_after l.line (take l.sealed-index l.windows) (drop l.sealed-index l.windows)
      ≡ has_effect l.windows l.line;
}
