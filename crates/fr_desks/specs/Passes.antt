-- The state of a task's handle (project-defined).
use Rattle.std.specs.Prelude.{ℕ}

pub record Pass : Type 0 where
  -- the task that makes calls with it
  pub task : ℕ
  -- the number of accepted commits that were made with it
  pub commits : ℕ
