-- What each command of the program does, with its numbers as those of the cluster (project-defined).
use Rattle.std.specs.Prelude.{ℕ, ◌==◌, Option, Some, None, option_map, if◌then◌else◌}
use Rattle.fr_capture.specs.declared.form.Form.TheVariants.{Capture, Table}
use Rattle.fr_cli.specs.declared.view.Asked.{Asked}
use Rattle.fr_cli.specs.declared.view.Asked.TheVariants as asked
use Rattle.fr_cli.specs.declared.view.StreamAsked.{StreamAsked}
use Rattle.fr_cli.specs.declared.view.StreamAsked.TheVariants as asked_stream
use Rattle.fr_cli.specs.declared.view.ViewOrder.{ViewOrder}
use Rattle.fr_cli.specs.declared.view.ViewOrder.TheVariants as order
use Rattle.fr_matrix.specs.declared.view.View.{View}
use Rattle.fr_showing.specs.declared.shown.Shown.{Shown}
use Rattle.fr_showing.specs.declared.shown.Shown.TheVariants as shown
use Rattle.fr_slots.specs.declared.channel.Channel.{Channel}
use Rattle.fr_slots.specs.Numbers.{number_within, last_cycle, last_node, last_slot}
use Rattle.fr_streaming.specs.declared.telling.Streamed.{Streamed}
use Rattle.fr_streaming.specs.declared.telling.Streamed.TheVariants as streamed
use Rattle.fr_view.specs.declared.task.Task.{Task}
use Rattle.fr_view.specs.declared.task.Task.TheVariants as task
use Rattle.fr_why.specs.declared.verdict.Verdict.{Verdict}
use Rattle.fr_why.specs.declared.verdict.Verdict.TheVariants.{Accepted, Refused}

-- ---- views of a run

abbrev pub drawn : Channel → Option ℕ → ℕ → ℕ → Shown
drawn channel node from from_window =
    shown.Matrix (record { channel = channel; node = node; from = from; from_window = from_window })

-- none if a node is named that no cluster can have, and for a view that is written as the run goes
abbrev pub shown_of : Asked → Option Shown
shown_of asked.Outcome = Some shown.Outcome
shown_of asked.Answers = Some shown.Answers
shown_of asked.Commits = Some shown.Commits
shown_of asked.Record = Some shown.Record
shown_of asked.Windows = Some shown.Windows
shown_of asked.Reasons = None
shown_of asked.Origins = None
shown_of asked.Received = None
shown_of asked.Heard = Some shown.Heard
shown_of (asked.Trace node) = option_map shown.Trace (number_within 0 last_node node)
shown_of (asked.Matrix channel None from from_window) = Some (drawn channel None from from_window)
shown_of (asked.Matrix channel (Some node) from from_window) =
    option_map (λ n. drawn channel (Some n) from from_window) (number_within 0 last_node node)

-- a view that is written as the run goes
abbrev pub streamed_of : StreamAsked → Streamed
streamed_of asked_stream.Outcome = streamed.Outcome
streamed_of asked_stream.Answers = streamed.Answers
streamed_of asked_stream.Commits = streamed.Commits
streamed_of asked_stream.Record = streamed.Record
streamed_of asked_stream.Windows = streamed.Windows
streamed_of asked_stream.Reasons = streamed.Reasons
streamed_of asked_stream.Origins = streamed.Origins
streamed_of asked_stream.Received = streamed.Received
streamed_of asked_stream.Heard = streamed.Heard

-- ---- all commands

-- none if a number is out of its range
abbrev pub task_of : ViewOrder → Option Task
task_of (order.Schedule file cycle) = option_map (task.Cycle file) (number_within 0 last_cycle cycle)
task_of (order.Latency file None) = Some (task.Latencies file)
task_of (order.Latency file (Some a)) =
    option_map (λ slot. task.Way file slot a.channel) (number_within 1 last_slot a.slot)
task_of (order.Links file) = Some (task.Links file)
task_of (order.Capture until_fault own) = Some (task.Seen (Capture own) until_fault)
task_of (order.Frames until_fault all) = Some (task.Seen (Table all) until_fault)
task_of order.Why = Some task.Why
task_of order.Fifo = Some task.Fifo
task_of (order.Show asked.Reasons cluster scenario cycles) =
    Some (task.Stream streamed.Reasons cluster scenario cycles)
task_of (order.Show asked.Origins cluster scenario cycles) =
    Some (task.Stream streamed.Origins cluster scenario cycles)
task_of (order.Show asked.Received cluster scenario cycles) =
    Some (task.Stream streamed.Received cluster scenario cycles)
task_of (order.Show asked cluster scenario cycles) =
    option_map (λ s. task.Run s cluster scenario cycles) (shown_of asked)
task_of (order.Stream asked cluster scenario cycles) =
    Some (task.Stream (streamed_of asked) cluster scenario cycles)
task_of order.Help = Some task.Help

-- ---- the exit statuses

-- After a run: 3 if it missed an expectation, otherwise 5 if one wasn't judged, and otherwise 0.
abbrev pub run_status : ℕ → ℕ → ℕ
run_status missed unjudged = if missed == 0 then (if unjudged == 0 then 0 else 5) else 3

-- that of `why`

abbrev pub status_told : Verdict → ℕ
status_told Accepted = 0
status_told Refused = 1
