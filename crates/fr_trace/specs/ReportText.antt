-- The text of a report.
use Rattle.std.specs.Prelude.{ℕ, ◌+◌, List, [], ◌∷◌, ◌++◌, codes, slice_index, Option, Some, None, if◌then◌else◌}
use Rattle.std.specs.Fmt.{decimal}
use Rattle.fr_journal.specs.Counts.{StatusCounts, counts_of}
use Rattle.fr_journal.specs.declared.entry.Arrival.{Arrival}
use Rattle.fr_journal.specs.declared.fate.Tally.{Tally}
use Rattle.fr_journal.specs.Fate.{tally_of}
use Rattle.fr_journal.specs.Held.{held}
use Rattle.fr_interface.specs.State.{State}
use Rattle.fr_lines.specs.Parts.{absent, origin_word}
use Rattle.fr_journal.specs.Arrivals.{moves, queue_length, queue_lost}
use Rattle.fr_slots.specs.declared.channel.Channel.{Channel}
use Rattle.fr_slots.specs.declared.channel.Channel.TheVariants.{A, B}
use Rattle.fr_slots.specs.declared.plan.Buffer.{Buffer}
use Rattle.fr_slots.specs.declared.plan.Queue.{Queue}
use Rattle.fr_slots.specs.Admission.{letter_of}
use Rattle.fr_slots.specs.Plans.{is_receive}
use Rattle.fr_text.specs.Spelling.{hex_text}
use Rattle.fr_lines.specs.Spelling.{line_text}

-- ---- lines

abbrev pub tally_words : ℕ → Tally → List (List ℕ)
tally_words number tally =
    codes "tx" ∷ decimal number ∷ decimal tally.committed ∷ decimal tally.sent ∷ decimal tally.overwritten
    ∷ decimal tally.pending ∷ decimal tally.withdrawn ∷ []

abbrev pub held_words : ℕ → Option Arrival → List (List ℕ)
held_words number None = codes "rx" ∷ decimal number ∷ absent ∷ absent ∷ []
held_words number (Some arrival) = codes "rx" ∷ decimal number ∷ origin_word arrival.origin
    ∷ hex_text arrival.frame.payload ∷ []

abbrev pub queue_report_words : ℕ → ℕ → List (List ℕ)
queue_report_words length lost = codes "queue" ∷ decimal length ∷ decimal lost ∷ []

abbrev pub channel_words : Channel → StatusCounts → List (List ℕ)
channel_words channel counts =
    letter_of channel ∷ decimal counts.valid ∷ decimal counts.syntax_errors ∷ decimal counts.content_errors
    ∷ decimal counts.boundary_violations ∷ decimal counts.conflicts ∷ []

-- the end of a channel's line, after its first two counts
abbrev pub errors_text : ℕ → ℕ → ℕ → List ℕ
errors_text content boundary conflict = 32 ∷ line_text (decimal content ∷ decimal boundary ∷ decimal conflict ∷ [])

-- five counts, in the order of the line
abbrev pub counts_in : List ℕ → StatusCounts
counts_in counts = record {
  valid = slice_index counts 0;
  syntax_errors = slice_index counts 1;
  content_errors = slice_index counts 2;
  boundary_violations = slice_index counts 3;
  conflicts = slice_index counts 4;
}

-- ---- the report

-- the fate of the commits of a transmit buffer, or the frame that a receive buffer holds
abbrev pub report_words : State → ℕ → Buffer → List (List ℕ)
report_words s number b = if is_receive b.mode then held_words number (held s.params b.filter s.entries)
    else tally_words number (tally_of number s.entries)

abbrev pub buffer_report : State → ℕ → Buffer → List ℕ
buffer_report s number b = line_text (report_words s number b)

-- the words of the line of a buffer, from the answers of the interface
abbrev pub answer_words : ℕ → Option Tally → Option Arrival → List (List ℕ)
answer_words number (Some tally) arrival = tally_words number tally
answer_words number None arrival = held_words number arrival

-- a line for each buffer; the first has this number
unfoldable pub reports_from : State → ℕ → List Buffer → List ℕ
reports_from s number [] = []
reports_from s number (b ∷ buffers) = buffer_report s number b ++ reports_from s (number + 1) buffers

-- the line of the receive FIFO, if the plan has one
abbrev pub queue_report : State → Option Queue → List ℕ
queue_report s None = []
queue_report s (Some q) = line_text (queue_report_words (queue_length q.capacity (moves s.params s.plan q s.entries))
    (queue_lost s.params s.plan q s.entries))

abbrev pub channel_report : State → Channel → List ℕ
channel_report s channel = line_text (channel_words channel (counts_of s.params channel s.entries))

abbrev pub channels_report : State → List ℕ
channels_report s = channel_report s A ++ channel_report s B

-- the buffers in order of their numbers, then the receive FIFO, then both channels
abbrev pub report_text : State → List ℕ
report_text s = reports_from s 0 s.plan.buffers ++ queue_report s s.plan.queue ++ channels_report s
