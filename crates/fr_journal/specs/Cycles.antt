-- The cycles of a run that a journal has begun (project-defined).
use Rattle.std.specs.Prelude.{ℕ, ◌-◌, Bool, false, List, length, count_by}
use Rattle.fr_journal.specs.declared.entry.Moment.{Moment}
use Rattle.fr_journal.specs.declared.entry.Entry.TheVariants.{Commit, Withdraw, Read, Pop, Fetch, Observe}
use Rattle.fr_journal.specs.Forms.{Entry}
use Rattle.fr_slots.specs.Windows.{opens_cycle}

abbrev pub begins_cycle_at : Entry → Bool
begins_cycle_at (Commit task buffer payload) = false
begins_cycle_at (Withdraw task buffer of) = false
begins_cycle_at (Read task buffer from) = false
begins_cycle_at (Pop task from) = false
begins_cycle_at (Fetch w a b) = opens_cycle w
begins_cycle_at (Observe number a b) = false

-- The number of cycles of the run that the node has begun. A call of a task then belongs to the cycle of that number,
-- before its windows, like a line of a scenario.
abbrev pub cycles_of : List Entry → ℕ
cycles_of entries = count_by begins_cycle_at entries

-- the cycle of the run in which the last window was fetched, from 0
abbrev pub run_cycle : List Entry → ℕ
run_cycle entries = cycles_of entries - 1

-- the moment of the next entry: its number, and the cycle of the run
abbrev pub moment_after : List Entry → Moment
moment_after entries = record { entry = length entries; cycle = run_cycle entries }
