-- The cycle of the run to which a window or a call belongs. Several modules define it, each for its own data, and all
-- of them name the same cycle (project-defined).
use Rattle.std.specs.Prelude.{◌≡◌, ℕ, ◌%◌, List, [], ◌∷◌, ◌++◌, length, count_by, ◌≤◌, take, Some, slice_get}
use Rattle.fr_bus.specs.declared.error.Phase.TheVariants.{Collect, Sealed}
use Rattle.fr_bus.specs.Record.{Recorded}
use Rattle.fr_bus.specs.Windows.{cycles_begun}
use Rattle.fr_core.specs.Accounts.{recorded_cycle}
use Rattle.fr_core.specs.declared.script.Line.{Line}
use Rattle.fr_core.specs.Scripts.{Scripted}
use Rattle.fr_core.specs.Settling.{windows_fetched, windows_of}
use Rattle.fr_core.specs.Worlds.{WorldState}
use Rattle.fr_guarantees.specs.Delays.{run_cycle as cycle_of_delay}
use Rattle.fr_guarantees.specs.Guarantees.{cycle_of as cycle_number}
use Rattle.fr_interface.specs.State.{State}
use Rattle.fr_journal.specs.Cycles.{run_cycle, cycles_of}
use Rattle.fr_journal.specs.declared.entry.Entry.TheVariants.{Fetch}
use Rattle.fr_journal.specs.declared.entry.Offered.{Offered}
use Rattle.fr_journal.specs.Forms.{Entry}
use Rattle.fr_matrix.specs.Places.{cycle_of as cycle_of_row}
use Rattle.fr_playing.specs.declared.play.Played.{Played}
use Rattle.fr_playing.specs.Moving.{run_cycle_after}
use Rattle.fr_playing.specs.Settled.{IsSettled}
use Rattle.fr_runs.specs.declared.fault_line.FaultLine.{FaultLine}
use Rattle.fr_runs.specs.Faulted.{cycle_at}
use Rattle.fr_runs.specs.Stepping.{is_fetch, task_of, is_by, lines_given, IsInStep}
use Rattle.fr_schedule.specs.Descriptions.{Description}
use Rattle.fr_session.specs.Queries.{cycle_at as cycle_of_time}
use Rattle.fr_slots.specs.Numbers.{last_node}
use Rattle.fr_slots.specs.Windows.{Opportunity}

-- ---- a window of the record

-- The window of `r` comes after those of `before`. Its cycle of the run is the number of windows of static slot 1 up to
-- it, less one.
pub record IsOneCycle (before : List Recorded) (r : Recorded) (after : List Recorded) (cycle : ℕ) : Type 0 where
  -- for the faults of a finished run
  pub of_faults : cycle_at (before ++ r ∷ after) (length before) ≡ cycle
  -- for the row of a picture of the run
  pub of_row : cycle_of_row before r ≡ cycle
  -- for the fault lines that take effect, when the window is open
  pub of_strikes : run_cycle_after before r.window ≡ cycle
  -- for the time of a session, while the window is open, and once it is sealed
  pub of_time : cycle_of_time Collect (cycles_begun before) r.window ≡ cycle
  pub of_sealed_time : cycle_of_time Sealed (cycles_begun (before ++ r ∷ [])) r.window ≡ cycle
  -- for latencies
  pub of_delays : (w : WorldState) → w.bus.sealed ≡ before → cycle_of_delay w r.window ≡ cycle
  -- for the cycle counter, of which 64 values follow one another
  pub of_number : cycle_number (before ++ r ∷ []) ≡ cycle % 64

abbrev pub AreWindowCycles : Type 0
AreWindowCycles = (before : List Recorded) (r : Recorded) (after : List Recorded)
    → IsOneCycle before r after (recorded_cycle (before ++ r ∷ after) (length before))

-- ---- an entry of a journal whose windows are those of the record

-- a fetch: the cycle that `commits` names for a frame that it hands to the bus is that of the recorded window
abbrev pub AreSentCycles : Type 0
AreSentCycles = (s : State) (rs : List Recorded) (before later : List Entry) (w : Opportunity) (a b : Offered)
    → windows_fetched s ≡ windows_of rs → s.entries ≡ before ++ Fetch w a b ∷ later
    → run_cycle (before ++ Fetch w a b ∷ []) ≡ recorded_cycle rs (count_by is_fetch before)

-- A call in step with its line: the cycle that `commits` names for its entry is that of the line. `answers` names the
-- line's cycle.
abbrev pub AreCallCycles : Type 0
AreCallCycles = (s : State) (rs : List Recorded) (before later : List Entry) (cycle : ℕ)
    → windows_fetched s ≡ windows_of rs → s.entries ≡ before ++ later → IsInStep rs cycle before
    → cycles_of before ≡ cycle

-- ---- a settled run

-- In a settled run the call of each line is such a call: `commits` names the cycle of the line for its entry.
abbrev pub AreLineCycles : Type 0
AreLineCycles = (d : Description) (scripts : List Scripted) (lines : List FaultLine) (cycles : ℕ) (played : Played)
    → IsSettled d scripts lines cycles played
    → (n k task : ℕ) (s : State) (e : Entry) (line : Line) → n ≤ last_node
    → slice_get played.world.interfaces n ≡ Some s → slice_get s.entries k ≡ Some e → task_of e ≡ Some task
    → slice_get (lines_given scripts n task) (count_by (is_by task) (take k s.entries)) ≡ Some line
    → cycles_of (take k s.entries) ≡ line.cycle
