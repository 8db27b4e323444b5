-- The words that are an order of `fr_view`, by the rules of `clap`, and the refusals that follow from its errors.
use Rattle.std.specs.Prelude.{◌≡◌, ◌⊎◌, ◌<◌, ℕ, List, [], ◌∷◌, length, Option, Some, None, Result, Ok, Err, true, false}
use Rattle.std.specs.Prelude.{codes, option_map, option_and_then, Bool, ◌&&◌, ◌||◌, ◌==◌, is_some, if◌then◌else◌}
use Rattle.fr_text.specs.Reading.{number_in}
use Rattle.std.specs.Str.{bytes_eq}
use Rattle.clap.specs.Words.{App, Row, Rule, Text, fault_of, first_of, new_app, new_rule, subcommand_of}
use Rattle.clap.specs.Words.{with_rule, with_subcommand}
use Rattle.fr_cli.specs.declared.view.Asked.{Asked}
use Rattle.fr_cli.specs.declared.view.Asked.TheVariants.{Reasons, Origins, Received}
use Rattle.fr_cli.specs.declared.view.Asked.TheVariants.{Outcome, Answers, Commits, Record, Windows, Heard, Trace}
use Rattle.fr_cli.specs.declared.view.Asked.TheVariants.{Matrix}
use Rattle.fr_slots.specs.declared.channel.Channel.{Channel}
use Rattle.fr_slots.specs.declared.channel.Channel.TheVariants.{A, B}
use Rattle.clap.specs.declared.builder.action.ArgAction.TheVariants.{SetTrue}
use Rattle.fr_cli.specs.declared.view.SlotAsked.{SlotAsked}
use Rattle.fr_cli.specs.declared.view.StreamAsked.{StreamAsked}
use Rattle.fr_cli.specs.declared.view.StreamAsked.TheVariants as streamed
use Rattle.fr_cli.specs.declared.view.ViewOrder.{ViewOrder}
use Rattle.fr_cli.specs.declared.view.ViewOrder.TheVariants as the_order
use Rattle.fr_cli.specs.declared.error.OrderError.{OrderError}
use Rattle.fr_cli.specs.declared.error.OrderError.TheVariants as refusal
use Rattle.fr_cli.specs.Commands.{IsNamed, bare, cycles_in, has_long_run_by, has_run_by, is_true, most_in, named}
use Rattle.fr_cli.specs.Commands.{the_cycles, the_file, the_scenario, with_file, word_in}

-- a command that reads a trace, with the flag `--until-fault`, and a flag by which it shows more
abbrev pub flag_named : Text → Rule
flag_named name = record (new_rule name) { long = Some name; action = Some SetTrue }

abbrev pub of_trace : Text → Text → App
of_trace name more = with_rule (with_rule (new_app name) (flag_named (codes "until-fault"))) (flag_named more)

-- the command of the picture of a cluster file, with a cycle that isn't required
abbrev pub the_cycle : Rule
the_cycle = record (new_rule (codes "cycle")) { long = Some (codes "cycle") }

abbrev pub schedule_command : App
schedule_command = with_rule (with_file (codes "schedule")) the_cycle

-- an option of this name, with a value
abbrev pub option_named : Text → Rule
option_named name = record (new_rule name) { long = Some name }

-- the command of the latencies of a cluster file, with a slot and a channel that aren't required
abbrev pub latency_command : App
latency_command =
    with_rule (with_rule (with_file (codes "latency")) (option_named (codes "slot"))) (option_named (codes "channel"))

-- the program with the commands that read one file
abbrev pub one_command : App
one_command = with_subcommand (bare (codes "fr_view")) (of_trace (codes "capture") (codes "own")).top

abbrev pub two_commands : App
two_commands = with_subcommand one_command (of_trace (codes "frames") (codes "all")).top

abbrev pub three_commands : App
three_commands = with_subcommand two_commands (named (codes "why"))

abbrev pub four_commands : App
four_commands = with_subcommand three_commands schedule_command.top

abbrev pub five_commands : App
five_commands = with_subcommand four_commands latency_command.top

abbrev pub six_commands : App
six_commands = with_subcommand five_commands (with_file (codes "links")).top

abbrev pub file_commands : App
file_commands = with_subcommand six_commands (named (codes "fifo"))

-- a command of a run, with its two files and its number of cycles
abbrev pub with_run : App → App
with_run command = with_rule (with_rule (with_rule command the_file) the_scenario) the_cycles

abbrev pub of_run : Text → App
of_run name = with_run (new_app name)

-- the same for a run that can be one without history, with the flag `--endless`
abbrev pub of_long_run : Text → App
of_long_run name = with_rule (of_run name) (flag_named (codes "endless"))

abbrev pub the_node : Rule
the_node = record (new_rule (codes "NODE")) { required = true }

abbrev pub trace_command : App
trace_command = with_run (with_rule (new_app (codes "trace")) the_node)

-- the command of the picture of a run, with its options
abbrev pub matrix_drawn : App
matrix_drawn =
    with_rule (with_rule (with_rule (with_rule (new_app (codes "matrix")) (option_named (codes "channel")))
    (option_named (codes "node"))) (option_named (codes "from"))) (option_named (codes "from-window"))

abbrev pub matrix_command : App
matrix_command = with_run matrix_drawn

-- with the commands that show a run as lines
abbrev pub with_outcome : App
with_outcome = with_subcommand file_commands (of_long_run (codes "outcome")).top

abbrev pub with_answers : App
with_answers = with_subcommand with_outcome (of_long_run (codes "answers")).top

abbrev pub with_commits : App
with_commits = with_subcommand with_answers (of_long_run (codes "commits")).top

abbrev pub with_record : App
with_record = with_subcommand with_commits (of_long_run (codes "record")).top

abbrev pub line_commands : App
line_commands = with_subcommand with_record (of_long_run (codes "windows")).top

-- with those that show why it went so
abbrev pub with_reasons : App
with_reasons = with_subcommand line_commands (of_long_run (codes "reasons")).top

abbrev pub with_origins : App
with_origins = with_subcommand with_reasons (of_long_run (codes "origins")).top

abbrev pub cause_commands : App
cause_commands = with_subcommand with_origins (of_long_run (codes "received")).top

-- and with those that show it in another form
abbrev pub with_bus : App
with_bus = with_subcommand cause_commands (of_long_run (codes "bus")).top

abbrev pub with_matrix : App
with_matrix = with_subcommand with_bus matrix_command.top

abbrev pub the_commands : App
the_commands = with_subcommand with_matrix trace_command.top

-- ---- what the words enter

-- the name of the command is this one
abbrev pub is_named : Text → Option (Text × List Row) → Bool
is_named name None = false
is_named name (Some entered) = bytes_eq entered.0 name

-- the cycle that a word spells: 0 to 63, without a leading zero, and 0 without a word
abbrev pub cycle_asked : Option Text → Option ℕ
cycle_asked None = Some 0
cycle_asked (Some word) = number_in 64 word

-- the first words of these arguments ask for the picture of a cycle
abbrev pub has_schedule_by : (Text → Option Text) → Bool
has_schedule_by first_word = is_some (first_word (codes "FILE")) && is_some (cycle_asked (first_word (codes "cycle")))

-- the order has the file and the cycle of these arguments
abbrev pub IsScheduleBy : (Text → Option Text) → ViewOrder → Type 0
IsScheduleBy first_word (the_order.Capture until_fault own) = ⊥
IsScheduleBy first_word (the_order.Frames until_fault all) = ⊥
IsScheduleBy first_word the_order.Why = ⊥
IsScheduleBy first_word the_order.Fifo = ⊥
IsScheduleBy first_word the_order.Help = ⊥
IsScheduleBy first_word (the_order.Latency file way) = ⊥
IsScheduleBy first_word (the_order.Links file) = ⊥
IsScheduleBy first_word (the_order.Show asked cluster scenario cycles) = ⊥
IsScheduleBy first_word (the_order.Stream asked cluster scenario cycles) = ⊥
IsScheduleBy first_word (the_order.Schedule file cycle) =
    (first_word (codes "FILE") ≡ Some file.now) × (cycle_asked (first_word (codes "cycle")) ≡ Some cycle)

-- ---- a run

-- the node that a word spells, if there is one: 0 to 15, without a leading zero
abbrev pub node_asked : Option Text → Option ℕ
node_asked word = option_and_then (number_in 16) word

-- the channel that a word names, and A without a word
abbrev pub channel_asked : Option Text → Option Channel
channel_asked None = Some A
channel_asked (Some word) =
    if bytes_eq word (codes "A") then Some A else if bytes_eq word (codes "B") then Some B else None

-- the node whose observations are drawn, and none without a word
abbrev pub viewer_asked : Option Text → Option (Option ℕ)
viewer_asked None = Some None
viewer_asked (Some word) = option_map Some (number_in 16 word)

-- the cycle of the run that is drawn first
abbrev pub from_asked : Option Text → Option ℕ
from_asked None = Some 0
from_asked (Some word) = number_in 1024 word

-- the window of each cycle that is drawn first
abbrev pub window_asked : Option Text → Option ℕ
window_asked None = Some 0
window_asked (Some word) = number_in 4096 word

abbrev pub matrix_of : Option Channel → Option (Option ℕ) → Option ℕ → Option ℕ → Option Asked
matrix_of None viewer from window = None
matrix_of (Some channel) None from window = None
matrix_of (Some channel) (Some viewer) None window = None
matrix_of (Some channel) (Some viewer) (Some from) None = None
matrix_of (Some channel) (Some viewer) (Some from) (Some window) = Some (Matrix channel viewer from window)

-- the picture of a run that the arguments ask for
abbrev pub drawn_by : (Text → Option Text) → Option Asked
drawn_by first_word =
    matrix_of (channel_asked (first_word (codes "channel"))) (viewer_asked (first_word (codes "node")))
    (from_asked (first_word (codes "from"))) (window_asked (first_word (codes "from-window")))

-- the view of the command of this name, if it shows a run
abbrev pub asked_by : Text → (Text → Option Text) → Option Asked
asked_by name first_word =
    if bytes_eq name (codes "outcome") then Some Outcome
    else if bytes_eq name (codes "answers") then Some Answers
    else if bytes_eq name (codes "commits") then Some Commits
    else if bytes_eq name (codes "record") then Some Record
    else if bytes_eq name (codes "windows") then Some Windows
    else if bytes_eq name (codes "reasons") then Some Reasons
    else if bytes_eq name (codes "origins") then Some Origins
    else if bytes_eq name (codes "received") then Some Received
    else if bytes_eq name (codes "bus") then Some Heard
    else if bytes_eq name (codes "trace") then option_map Trace (node_asked (first_word (codes "NODE")))
    else if bytes_eq name (codes "matrix") then drawn_by first_word
    else None

-- a command of this name shows a run, and its arguments name one with its history
abbrev pub has_kept_by : Text → (Text → Option Text) → Bool
has_kept_by name first_word = is_some (asked_by name first_word) && has_run_by first_word

-- the order has the view of the command of this name, and the run of its arguments
abbrev pub IsKeptBy : Text → (Text → Option Text) → ViewOrder → Type 0
IsKeptBy name first_word (the_order.Capture until_fault own) = ⊥
IsKeptBy name first_word (the_order.Frames until_fault all) = ⊥
IsKeptBy name first_word the_order.Why = ⊥
IsKeptBy name first_word the_order.Fifo = ⊥
IsKeptBy name first_word the_order.Help = ⊥
IsKeptBy name first_word (the_order.Latency file way) = ⊥
IsKeptBy name first_word (the_order.Links file) = ⊥
IsKeptBy name first_word (the_order.Schedule file cycle) = ⊥
IsKeptBy name first_word (the_order.Stream asked cluster scenario cycles) = ⊥
IsKeptBy name first_word (the_order.Show asked cluster scenario cycles) =
    (asked_by name first_word ≡ Some asked)
    × (first_word (codes "FILE") ≡ Some cluster.now)
    × (first_word (codes "SCENARIO") ≡ Some scenario.now)
    × (option_and_then cycles_in (first_word (codes "cycles")) ≡ Some cycles)

-- the view of the command of this name, if it can be written as the run goes
abbrev pub streamed_by : Text → Option StreamAsked
streamed_by name =
    if bytes_eq name (codes "outcome") then Some streamed.Outcome
    else if bytes_eq name (codes "answers") then Some streamed.Answers
    else if bytes_eq name (codes "commits") then Some streamed.Commits
    else if bytes_eq name (codes "record") then Some streamed.Record
    else if bytes_eq name (codes "windows") then Some streamed.Windows
    else if bytes_eq name (codes "reasons") then Some streamed.Reasons
    else if bytes_eq name (codes "origins") then Some streamed.Origins
    else if bytes_eq name (codes "received") then Some streamed.Received
    else if bytes_eq name (codes "bus") then Some streamed.Heard
    else None

-- a command of this name shows a run as it goes, and its arguments name one without history
abbrev pub has_stream_by : Text → (Text → Option Text) → Bool
has_stream_by name first_word = is_some (streamed_by name) && has_long_run_by first_word

-- the order has that view, and the run of its arguments
abbrev pub IsStreamBy : Text → (Text → Option Text) → ViewOrder → Type 0
IsStreamBy name first_word (the_order.Capture until_fault own) = ⊥
IsStreamBy name first_word (the_order.Frames until_fault all) = ⊥
IsStreamBy name first_word the_order.Why = ⊥
IsStreamBy name first_word the_order.Fifo = ⊥
IsStreamBy name first_word the_order.Help = ⊥
IsStreamBy name first_word (the_order.Latency file way) = ⊥
IsStreamBy name first_word (the_order.Links file) = ⊥
IsStreamBy name first_word (the_order.Schedule file cycle) = ⊥
IsStreamBy name first_word (the_order.Show asked cluster scenario cycles) = ⊥
IsStreamBy name first_word (the_order.Stream asked cluster scenario cycles) =
    (streamed_by name ≡ Some asked)
    × (first_word (codes "FILE") ≡ Some cluster.now)
    × (first_word (codes "SCENARIO") ≡ Some scenario.now)
    × (option_and_then most_in (first_word (codes "cycles")) ≡ Some cycles)

-- the flag `--endless` decides between the two
abbrev pub is_endless : (Text → Option Text) → Bool
is_endless first_word = is_true (first_word (codes "endless"))

abbrev pub has_show_by : Text → (Text → Option Text) → Bool
has_show_by name first_word =
    if is_endless first_word then has_stream_by name first_word else has_kept_by name first_word

abbrev pub IsShowIf : Bool → Text → (Text → Option Text) → ViewOrder → Type 0
IsShowIf true name first_word order = IsStreamBy name first_word order
IsShowIf false name first_word order = IsKeptBy name first_word order

abbrev pub IsShowBy : Text → (Text → Option Text) → ViewOrder → Type 0
IsShowBy name first_word order = IsShowIf (is_endless first_word) name first_word order

-- the same for the entered command
abbrev pub has_show : Option (Text × List Row) → Bool
has_show None = false
has_show (Some (name, rows)) = has_show_by name (λ id. first_of id rows)

abbrev pub IsShow : Option (Text × List Row) → ViewOrder → Type 0
IsShow None order = ⊥
IsShow (Some (name, rows)) order = IsShowBy name (λ id. first_of id rows) order

-- ---- latencies

-- the slot that a word spells: 1 to 2047, without a leading zero
abbrev pub slot_in : Text → Option ℕ
slot_in word = option_and_then (λ n. if n == 0 then None else Some n) (number_in 2048 word)

-- the slot on the channel, and none without a word for the slot; a channel without a slot is wrong
abbrev pub way_of : Option ℕ → Option Channel → Option (Option SlotAsked)
way_of None channel = None
way_of (Some slot) None = None
way_of (Some slot) (Some channel) = Some (Some (record { slot = slot; channel = channel }))

abbrev pub way_asked : Option Text → Option Text → Option (Option SlotAsked)
way_asked None None = Some None
way_asked None (Some channel) = None
way_asked (Some slot) channel = way_of (slot_in slot) (channel_asked channel)

-- the first words of these arguments ask for the latencies of a cluster
abbrev pub has_latency_by : (Text → Option Text) → Bool
has_latency_by first_word =
    is_some (first_word (codes "FILE"))
    && is_some (way_asked (first_word (codes "slot")) (first_word (codes "channel")))

-- the order has the file and the slot of these arguments
abbrev pub IsLatencyBy : (Text → Option Text) → ViewOrder → Type 0
IsLatencyBy first_word (the_order.Capture until_fault own) = ⊥
IsLatencyBy first_word (the_order.Frames until_fault all) = ⊥
IsLatencyBy first_word the_order.Why = ⊥
IsLatencyBy first_word the_order.Fifo = ⊥
IsLatencyBy first_word the_order.Help = ⊥
IsLatencyBy first_word (the_order.Links file) = ⊥
IsLatencyBy first_word (the_order.Schedule file cycle) = ⊥
IsLatencyBy first_word (the_order.Show asked cluster scenario cycles) = ⊥
IsLatencyBy first_word (the_order.Stream asked cluster scenario cycles) = ⊥
IsLatencyBy first_word (the_order.Latency file way) =
    (first_word (codes "FILE") ≡ Some file.now)
    × (way_asked (first_word (codes "slot")) (first_word (codes "channel")) ≡ Some way)

-- ---- receivers

-- the first words of these arguments ask for the receivers of a cluster's transmit buffers
abbrev pub has_links_by : (Text → Option Text) → Bool
has_links_by first_word = is_some (first_word (codes "FILE"))

-- the order has the file of these arguments
abbrev pub IsLinksBy : (Text → Option Text) → ViewOrder → Type 0
IsLinksBy first_word (the_order.Capture until_fault own) = ⊥
IsLinksBy first_word (the_order.Frames until_fault all) = ⊥
IsLinksBy first_word the_order.Why = ⊥
IsLinksBy first_word the_order.Fifo = ⊥
IsLinksBy first_word the_order.Help = ⊥
IsLinksBy first_word (the_order.Latency file way) = ⊥
IsLinksBy first_word (the_order.Schedule file cycle) = ⊥
IsLinksBy first_word (the_order.Show asked cluster scenario cycles) = ⊥
IsLinksBy first_word (the_order.Stream asked cluster scenario cycles) = ⊥
IsLinksBy first_word (the_order.Links file) = first_word (codes "FILE") ≡ Some file.now

-- ---- a trace

-- the flag of this name is set
abbrev pub has_flag : Option (Text × List Row) → Text → Bool
has_flag entered name = is_true (word_in entered name)

-- a command of this name is entered, with these flags
abbrev pub IsTraced : Text → Text → Option (Text × List Row) → Bool → Bool → Type 0
IsTraced name more entered until_fault shows_more =
    IsNamed name entered × (until_fault ≡ has_flag entered (codes "until-fault"))
    × (shows_more ≡ has_flag entered more)

-- ---- any command

-- one of the commands is entered, with all its required arguments
abbrev pub asks : Option (Text × List Row) → Bool
asks entered =
    has_show entered || is_named (codes "capture") entered || is_named (codes "frames") entered
    || is_named (codes "why") entered || is_named (codes "fifo") entered
    || (is_named (codes "schedule") entered && has_schedule_by (word_in entered))
    || (is_named (codes "latency") entered && has_latency_by (word_in entered))
    || (is_named (codes "links") entered && has_links_by (word_in entered))

-- the order is that of the entered command, with its arguments
abbrev pub IsOrder : Option (Text × List Row) → ViewOrder → Type 0
IsOrder entered (the_order.Capture until_fault own) = IsTraced (codes "capture") (codes "own") entered until_fault own
IsOrder entered (the_order.Frames until_fault all) = IsTraced (codes "frames") (codes "all") entered until_fault all
IsOrder entered the_order.Why = IsNamed (codes "why") entered
IsOrder entered the_order.Fifo = IsNamed (codes "fifo") entered
IsOrder entered the_order.Help = ⊥
IsOrder entered (the_order.Schedule file cycle) =
    IsNamed (codes "schedule") entered × IsScheduleBy (word_in entered) (the_order.Schedule file cycle)
IsOrder entered (the_order.Latency file way) =
    IsNamed (codes "latency") entered × IsLatencyBy (word_in entered) (the_order.Latency file way)
IsOrder entered (the_order.Links file) =
    IsNamed (codes "links") entered × IsLinksBy (word_in entered) (the_order.Links file)
IsOrder entered (the_order.Show asked cluster scenario cycles) =
    IsShow entered (the_order.Show asked cluster scenario cycles)
IsOrder entered (the_order.Stream asked cluster scenario cycles) =
    IsShow entered (the_order.Stream asked cluster scenario cycles)

-- ---- the answer

-- the call for help: this word alone
abbrev pub is_help : List Text → Bool
is_help (word ∷ []) = bytes_eq word (codes "--help")
is_help words = false

-- An order is that of the words, and `clap` finds no fault with these. Words are refused as no command only if it finds
-- a fault, or if they enter no whole command. `Memory` may come for any words.
abbrev pub IsAnswerTo : List Text → Result ViewOrder OrderError → Type 0
IsAnswerTo words (Ok order) = (fault_of the_commands words ≡ []) × IsOrder (subcommand_of the_commands words) order
IsAnswerTo words (Err refusal.Usage) = (0 < length (fault_of the_commands words))
    ⊎ (asks (subcommand_of the_commands words) ≡ false)
IsAnswerTo words (Err refusal.Memory) = Unit {0}

abbrev pub IsAnswerBy : Bool → List Text → Result ViewOrder OrderError → Type 0
IsAnswerBy true words answer = answer ≡ Ok the_order.Help
IsAnswerBy false words answer = IsAnswerTo words answer

abbrev pub IsAnswer : List Text → Result ViewOrder OrderError → Type 0
IsAnswer words answer = IsAnswerBy (is_help words) words answer
