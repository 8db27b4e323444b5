-- The numbers of a receive FIFO after some entries, and the lines of the next entry, as the code goes along a journal.
-- The proofs show that they agree with `FifoText`.
use Rattle.std.specs.Prelude.{ℕ, ◌+◌, ◌-◌, min, List, [], ◌++◌, length, Option, Some, None, if◌then◌else◌}
use Rattle.std.specs.List.{flat_map, range_with_len}
use Rattle.fr_fifo.specs.FifoText.{held_count, overwritten_line, popped_line, stored, stored_line, waiting_line}
use Rattle.fr_fifo.specs.declared.frames.Left.{Left}
use Rattle.fr_fifo.specs.declared.frames.Left.TheVariants.{Overwritten, Popped, Waiting}
use Rattle.fr_fifo.specs.declared.running.Running.{Running}
use Rattle.fr_frame.specs.Fields.{Fields}
use Rattle.fr_interface.specs.State.{State}
use Rattle.fr_journal.specs.Arrivals.{is_for_queue}
use Rattle.fr_journal.specs.Cycles.{cycles_of}
use Rattle.fr_journal.specs.declared.entry.Entry.TheVariants.{Commit, Withdraw, Read, Pop, Fetch, Observe}
use Rattle.fr_journal.specs.Forms.{Entry}
use Rattle.fr_journal.specs.Held.{data_frame_seen}
use Rattle.fr_slots.specs.declared.channel.Channel.{Channel}
use Rattle.fr_slots.specs.declared.channel.Channel.TheVariants.{A, B}
use Rattle.fr_slots.specs.declared.plan.Queue.{Queue}
use Rattle.fr_slots.specs.Windows.{Opportunity, opens_cycle}
use Rattle.fr_status.specs.Forms.{Seen}

-- the numbers after these entries
abbrev pub running_of : State → Queue → List Entry → Running
running_of s q entries = record {
  stored = length (stored s q entries);
  held = held_count s q entries;
  cycles = cycles_of entries;
}

abbrev pub oldest_in : Running → ℕ
oldest_in r = r.stored - r.held

abbrev pub cycle_in : Running → ℕ
cycle_in r = r.cycles - 1

-- the frame that the FIFO stores of an observation
abbrev pub frame_on : State → Queue → Opportunity → Channel → Seen → Option Fields
frame_on s q window channel seen =
    if is_for_queue s.plan q window channel then data_frame_seen s.params window channel seen else None

-- ---- the numbers after an entry

abbrev pub with_frame : ℕ → Running → Option Fields → Running
with_frame capacity r None = r
with_frame capacity r (Some f) = record {
  stored = r.stored + 1;
  held = min (r.held + 1) capacity;
  cycles = r.cycles;
}

abbrev pub with_frames : ℕ → Running → Option Fields → Option Fields → Running
with_frames capacity r a b = with_frame capacity (with_frame capacity r a) b

abbrev pub without_oldest : Running → Running
without_oldest r = record { stored = r.stored; held = r.held - 1; cycles = r.cycles }

abbrev pub with_window : Running → Opportunity → Running
with_window r window = record {
  stored = r.stored;
  held = r.held;
  cycles = r.cycles + (if opens_cycle window then 1 else 0);
}

-- after the observations of this window
abbrev pub after_window : State → Queue → Running → Option Opportunity → Seen → Seen → Running
after_window s q r None a b = r
after_window s q r (Some w) a b = with_frames q.capacity r (frame_on s q w A a) (frame_on s q w B b)

-- after an entry, which closes this window
abbrev pub after_entry : State → Queue → Running → Option Opportunity → Entry → Running
after_entry s q r closed (Commit task buffer payload) = r
after_entry s q r closed (Withdraw task buffer of) = r
after_entry s q r closed (Read task buffer from) = r
after_entry s q r closed (Pop task from) = without_oldest r
after_entry s q r closed (Fetch window a b) = with_window r window
after_entry s q r closed (Observe window a b) = after_window s q r closed a b

-- ---- lines

-- the line of a frame by its number
abbrev pub line_by : Left → ℕ → List ℕ
line_by (Overwritten cycle) = overwritten_line cycle
line_by (Popped cycle task) = popped_line cycle task
line_by Waiting = waiting_line

-- the lines of the frames that wait
abbrev pub waiting_text : Running → List ℕ
waiting_text r = flat_map waiting_line (range_with_len (oldest_in r) (r.stored - oldest_in r))

-- the numbers of the frames that are gone after it
abbrev pub left_between : Running → Running → List ℕ
left_between r next = range_with_len (oldest_in r) (oldest_in next - oldest_in r)

abbrev pub frame_text : Running → Channel → Option Fields → List ℕ
frame_text r channel None = []
frame_text r channel (Some f) = stored_line r.stored (cycle_in r) channel f

abbrev pub frames_seen : ℕ → Running → Option Fields → Option Fields → List ℕ
frames_seen capacity r a b =
    frame_text r A a ++ frame_text (with_frame capacity r a) B b
    ++ flat_map (overwritten_line (cycle_in r)) (left_between r (with_frames capacity r a b))

abbrev pub window_text : State → Queue → Running → Option Opportunity → Seen → Seen → List ℕ
window_text s q r None a b = []
window_text s q r (Some w) a b = frames_seen q.capacity r (frame_on s q w A a) (frame_on s q w B b)

abbrev pub step_text : State → Queue → Running → Option Opportunity → Entry → List ℕ
step_text s q r closed (Commit task buffer payload) = []
step_text s q r closed (Withdraw task buffer of) = []
step_text s q r closed (Read task buffer from) = []
step_text s q r closed (Pop task from) =
    flat_map (popped_line r.cycles task) (left_between r (without_oldest r))
step_text s q r closed (Fetch window a b) = []
step_text s q r closed (Observe window a b) = window_text s q r closed a b
