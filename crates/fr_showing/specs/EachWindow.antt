-- What is said of each window of a record, in its cycle of the run (project-defined).
use Rattle.std.specs.Prelude.{ℕ, ◌-◌, List, [], ◌∷◌, ◌++◌}
use Rattle.fr_bus.specs.Record.{Recorded}
use Rattle.fr_bus.specs.Windows.{cycles_begun}
use Rattle.fr_slots.specs.History.{each_after}

-- of a window after those before it, in its cycle of the run
abbrev pub said_after : (ℕ → Recorded → List ℕ) → List Recorded → Recorded → List ℕ
said_after said before r = said (cycles_begun (before ++ r ∷ []) - 1) r

-- of all windows of a record, in their order
abbrev pub each_window : (ℕ → Recorded → List ℕ) → List Recorded → List ℕ
each_window said rs = each_after (said_after said) [] rs
