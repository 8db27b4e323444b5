-- The report of an interface, by the data that it keeps in place of its journal.
use Rattle.std.specs.Prelude.{ℕ, zero, suc, List, [], ◌++◌, length, Option, Some, None, option_map}
use Rattle.fr_interface.specs.Standing.{Standing, tally_at, received_at}
use Rattle.fr_journal.specs.Counts.{StatusCounts}
use Rattle.fr_lines.specs.Spelling.{line_text}
use Rattle.fr_slots.specs.declared.channel.Channel.{Channel}
use Rattle.fr_slots.specs.declared.channel.Channel.TheVariants.{A, B}
use Rattle.fr_status.specs.declared.counters.Counters.{Counters}
use Rattle.fr_trace.specs.ReportText.{answer_words, channel_words, counts_in, queue_report_words}

abbrev pub buffer_line : Standing → ℕ → List ℕ
buffer_line h number = line_text (answer_words number (tally_at h number) (received_at h number))

-- the lines of so many buffers
unfoldable pub buffer_lines : Standing → ℕ → List ℕ
buffer_lines h zero = []
buffer_lines h (suc count) = buffer_lines h count ++ buffer_line h count

-- the line of the receive FIFO with this length and these losses, if there is one
abbrev pub queue_line : Option ℕ → Option ℕ → List ℕ
queue_line None lost = []
queue_line (Some held) None = []
queue_line (Some held) (Some lost) = line_text (queue_report_words held lost)

abbrev pub channel_line : Channel → StatusCounts → List ℕ
channel_line channel counts = line_text (channel_words channel counts)

abbrev pub channel_lines : Counters → List ℕ
channel_lines c = channel_line A (counts_in c.a) ++ channel_line B (counts_in c.b)

-- the report of an interface with so many buffers
abbrev pub kept_report : Standing → ℕ → List ℕ
kept_report h count =
    (buffer_lines h count
    ++ queue_line (option_map (λ q. length q.frames) h.queue) (option_map (λ q. q.lost) h.queue))
    ++ channel_lines h.counters
