-- What happens to the frames of a node's receive FIFO, as lines (project-defined; the arrivals and the content of the
-- FIFO are those of `Arrivals`).
use Rattle.std.specs.Prelude.{ℕ, ◌-◌, ◌+◌, List, [], ◌∷◌, ◌++◌, codes, length, Option, Some, None}
use Rattle.std.specs.Fmt.{decimal}
use Rattle.std.specs.List.{flat_map, range_with_len}
use Rattle.fr_frame.specs.Fields.{Fields}
use Rattle.fr_interface.specs.State.{State}
use Rattle.fr_journal.specs.Arrivals.{arrived, moves, queue_arrivals_in, queue_length}
use Rattle.fr_journal.specs.Cycles.{cycles_of, moment_after, run_cycle}
use Rattle.fr_journal.specs.declared.entry.Arrival.{Arrival}
use Rattle.fr_journal.specs.declared.entry.Entry.TheVariants.{Commit, Withdraw, Read, Pop, Fetch, Observe}
use Rattle.fr_journal.specs.Forms.{Entry}
use Rattle.fr_journal.specs.OpenWindow.{open_window}
use Rattle.fr_lines.specs.Parts.{indicators}
use Rattle.fr_lines.specs.Spelling.{line_text}
use Rattle.fr_slots.specs.Admission.{letter_of}
use Rattle.fr_slots.specs.declared.channel.Channel.{Channel}
use Rattle.fr_slots.specs.declared.plan.Queue.{Queue}
use Rattle.fr_slots.specs.History.{each_after}
use Rattle.fr_text.specs.Spelling.{hex_text}

-- ---- the numbers of frames

-- The frames that the FIFO stored, in their order. The number of a frame is its place among them, from 0.
abbrev pub stored : State → Queue → List Entry → List Arrival
stored s q entries = arrived (moves s.params s.plan q entries)

-- the number of frames that it holds
abbrev pub held_count : State → Queue → List Entry → ℕ
held_count s q entries = queue_length q.capacity (moves s.params s.plan q entries)

-- The number of its oldest frame, or of the next one if it is empty. Its content is the stored frames from this number
-- on (`queue_content`).
abbrev pub oldest_number : State → Queue → List Entry → ℕ
oldest_number s q entries = length (stored s q entries) - held_count s q entries

-- the numbers of the frames that it holds, the oldest first
abbrev pub held_numbers : State → Queue → List Entry → List ℕ
held_numbers s q entries = range_with_len (oldest_number s q entries) (held_count s q entries)

-- the numbers of the frames that it holds no longer after an entry: from its oldest one before up to that after it
abbrev pub left_by : State → Queue → List Entry → Entry → List ℕ
left_by s q before e =
    range_with_len (oldest_number s q before)
    (oldest_number s q (before ++ e ∷ []) - oldest_number s q before)

-- ---- lines

-- its number, the cycle of the run in which it came, slot, channel, indicators and payload
abbrev pub stored_line : ℕ → ℕ → Channel → Fields → List ℕ
stored_line number cycle channel f =
    line_text (codes "stored" ∷ decimal number ∷ decimal cycle ∷ decimal f.id ∷ letter_of channel ∷ indicators f
    ∷ hex_text f.payload ∷ [])

-- the number of a frame that made room for a later one in this cycle of the run
abbrev pub overwritten_line : ℕ → ℕ → List ℕ
overwritten_line cycle number = line_text (codes "overwritten" ∷ decimal number ∷ decimal cycle ∷ [])

-- the number of a frame that a task popped after so many cycles of the run began
abbrev pub popped_line : ℕ → ℕ → ℕ → List ℕ
popped_line cycle task number =
    line_text (codes "popped" ∷ decimal number ∷ decimal cycle ∷ decimal task ∷ [])

-- the number of a frame that waits at the end
abbrev pub waiting_line : ℕ → List ℕ
waiting_line number = line_text (codes "waiting" ∷ decimal number ∷ [])

-- ---- the lines of a journal

abbrev pub arrival_line : ℕ → Arrival → List ℕ
arrival_line number a = stored_line number a.cycle a.origin.channel a.frame

-- the lines of arrivals, of which the first has this number
abbrev pub stored_from : ℕ → List Arrival → List ℕ
stored_from number [] = []
stored_from number (a ∷ later) = arrival_line number a ++ stored_from (number + 1) later

-- the lines of an entry, by those before it
abbrev pub entry_text : State → Queue → List Entry → Entry → List ℕ
entry_text s q before (Commit task buffer payload) = []
entry_text s q before (Withdraw task buffer of) = []
entry_text s q before (Read task buffer from) = []
entry_text s q before (Pop task from) =
    flat_map (popped_line (cycles_of before) task) (left_by s q before (Pop task from))
entry_text s q before (Fetch window a b) = []
entry_text s q before (Observe window a b) =
    stored_from (length (stored s q before))
    (queue_arrivals_in s.params s.plan q (moment_after before) a b (open_window before))
    ++ flat_map (overwritten_line (run_cycle before)) (left_by s q before (Observe window a b))

-- the lines of these entries, and then those of the frames that wait after them
abbrev pub frames_text : State → Queue → List Entry → List ℕ
frames_text s q entries =
    each_after (entry_text s q) [] entries ++ flat_map waiting_line (held_numbers s q entries)

-- a node without a receive FIFO has no line
abbrev pub text_by : State → Option Queue → List ℕ
text_by s None = []
text_by s (Some q) = frames_text s q s.entries

abbrev pub fifo_text : State → List ℕ
fifo_text s = text_by s s.plan.queue
