-- The cycles of a run that a line names (project-defined).
use Rattle.std.specs.Prelude.{ℕ, ◌-◌, ◌%◌, ◌==◌, nat_le, min, not, Bool, true, ◌&&◌}
use Rattle.fr_runs.specs.declared.cycles.RunCycles.{RunCycles}
use Rattle.fr_runs.specs.declared.cycles.RunCycles.TheVariants.{Every, Only, Span}

-- This cycle of the run is named. A span names each `step`th cycle from its first on, up to its last, and none if the
-- step is 0.
abbrev pub names_cycle : RunCycles → ℕ → Bool
names_cycle Every cycle = true
names_cycle (Only only) cycle = only == cycle
names_cycle (Span first last step) cycle =
    not (step == 0) && nat_le first cycle && nat_le cycle last && (cycle - first) % step == 0

-- the same cycles, without those that a run of so many cycles lacks; a single cycle stays as it is
abbrev pub cycles_within : ℕ → RunCycles → RunCycles
cycles_within cycles Every = Every
cycles_within cycles (Only only) = Only only
cycles_within cycles (Span first last step) = Span first (min last (cycles - 1)) step
