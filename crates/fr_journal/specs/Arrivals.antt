-- The receive FIFO: its arrivals, its content, and the number of lost frames (project-defined).
use Rattle.std.specs.Prelude.{ℕ, ◌+◌, ◌-◌, min, Bool, false, not, ◌&&◌, List, [], ◌∷◌, ◌++◌, length, drop, Option, Some}
use Rattle.std.specs.Prelude.{None, is_some, if◌then◌else◌, option_map, count_by, option_to_list, slice_get}
use Rattle.std.specs.List.{fold, list_any}
use Rattle.fr_journal.specs.Cycles.{moment_after}
use Rattle.fr_journal.specs.declared.entry.Arrival.{Arrival}
use Rattle.fr_journal.specs.declared.entry.Moment.{Moment}
use Rattle.fr_journal.specs.Forms.{Entry}
use Rattle.fr_journal.specs.declared.entry.Entry.TheVariants.{Commit, Withdraw, Read, Pop, Fetch, Observe}
use Rattle.fr_journal.specs.Held.{data_frame_seen, arrival_of}
use Rattle.fr_journal.specs.OpenWindow.{open_window}
use Rattle.fr_slots.specs.declared.channel.Channel.{Channel}
use Rattle.fr_slots.specs.declared.channel.Channel.TheVariants.{A, B}
use Rattle.fr_slots.specs.declared.plan.Buffer.{Buffer}
use Rattle.fr_slots.specs.declared.plan.Queue.{Queue}
use Rattle.fr_slots.specs.History.{each_after}
use Rattle.fr_slots.specs.Parameters.{Parameters}
use Rattle.fr_slots.specs.Plans.{Plan, queue_admits, is_receive, admits_window}
use Rattle.fr_slots.specs.Windows.{Opportunity, slot_of}
use Rattle.fr_status.specs.Forms.{Seen}

-- ---- arrivals

abbrev pub takes_window : Opportunity → Channel → Buffer → Bool
takes_window window channel b = is_receive b.mode && admits_window b.filter window channel

abbrev pub queue_admits_slot : Queue → ℕ → Channel → Option ℕ → Bool
queue_admits_slot q cycle channel None = false
queue_admits_slot q cycle channel (Some slot) = queue_admits q cycle slot channel

-- the receive FIFO admits the window on the channel, and no receive buffer of the node does
abbrev pub is_for_queue : Plan → Queue → Opportunity → Channel → Bool
is_for_queue plan q window channel =
    queue_admits_slot q window.cycle channel (slot_of window channel)
    && not (list_any (takes_window window channel) plan.buffers)

abbrev pub queue_arrival_on : Parameters → Plan → Queue → Moment → Opportunity → Channel → Seen → List Arrival
queue_arrival_on params plan q moment window channel seen =
    if is_for_queue plan q window channel
    then option_to_list (option_map (arrival_of moment channel) (data_frame_seen params window channel seen))
    else []

abbrev pub queue_arrivals_in : Parameters → Plan → Queue → Moment → Seen → Seen → Option Opportunity → List Arrival
queue_arrivals_in params plan q moment a b None = []
queue_arrivals_in params plan q moment a b (Some window) = queue_arrival_on params plan q moment window A a
    ++ queue_arrival_on params plan q moment window B b

-- a step of a receive FIFO: a frame arrives, or a task pops
pub data Move : Type 0 where
  arrives : Arrival → Move
  pops : Move

abbrev pub arrive_all : List Arrival → List Move
arrive_all [] = []
arrive_all (arrival ∷ arrivals) = arrives arrival ∷ arrive_all arrivals

abbrev pub moves_at : Parameters → Plan → Queue → List Entry → Entry → List Move
moves_at params plan q before (Commit task buffer payload) = []
moves_at params plan q before (Withdraw task buffer of) = []
moves_at params plan q before (Read task buffer from) = []
moves_at params plan q before (Pop task from) = pops ∷ []
moves_at params plan q before (Fetch window a b) = []
moves_at params plan q before (Observe window a b) =
    arrive_all (queue_arrivals_in params plan q (moment_after before) a b (open_window before))

-- arrivals and pops, in the order of the entries, and an arrival on channel A before one on B
abbrev pub moves : Parameters → Plan → Queue → List Entry → List Move
moves params plan q entries = each_after (moves_at params plan q) [] entries

abbrev pub arrived : List Move → List Arrival
arrived [] = []
arrived (arrives arrival ∷ moves) = arrival ∷ arrived moves
arrived (pops ∷ moves) = arrived moves

-- ---- content

-- the length of the receive FIFO after a move: an arrival leaves a full one full
abbrev pub length_after : ℕ → ℕ → Move → ℕ
length_after capacity n (arrives arrival) = min (n + 1) capacity
length_after capacity n pops = n - 1

abbrev pub queue_length : ℕ → List Move → ℕ
queue_length capacity moves = fold (length_after capacity) 0 moves

-- the last arrivals, as many as the receive FIFO holds, the oldest first
abbrev pub queue_content : ℕ → List Move → List Arrival
queue_content capacity moves = drop (length (arrived moves) - queue_length capacity moves) (arrived moves)

-- the oldest frame, which a pop returns
abbrev pub oldest : ℕ → List Move → Option Arrival
oldest capacity moves = slice_get (queue_content capacity moves) 0

-- ---- losses

abbrev pub is_answered_pop : Entry → Bool
is_answered_pop (Commit task buffer payload) = false
is_answered_pop (Withdraw task buffer of) = false
is_answered_pop (Read task buffer from) = false
is_answered_pop (Pop task from) = is_some from
is_answered_pop (Fetch window a b) = false
is_answered_pop (Observe window a b) = false

-- the number of arrivals that were never popped and aren't in the receive FIFO
abbrev pub queue_lost : Parameters → Plan → Queue → List Entry → ℕ
queue_lost params plan q entries =
    length (arrived (moves params plan q entries)) - count_by is_answered_pop entries
    - queue_length q.capacity (moves params plan q entries)
