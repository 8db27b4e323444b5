-- Replies by the data that a world without history keeps (project-defined).
use Rattle.std.specs.Prelude.{◌≡◌, ℕ, ◌+◌, ◌==◌, List, [], ◌∷◌, ◌++◌, codes, Option, Some, None, if◌then◌else◌}
use Rattle.std.specs.Fmt.{decimal}
use Rattle.fr_auditing.specs.KeptReport.{kept_report}
use Rattle.fr_bus.specs.Record.{Recorded}
use Rattle.fr_bus.specs.Standing.{LiveStanding}
use Rattle.fr_interface.specs.Standing.{Standing}
use Rattle.fr_lines.specs.Spelling.{line_text}
use Rattle.fr_live.specs.LiveWorlds.{LiveState, ForEachWorld}
use Rattle.fr_session.specs.Queries.{IsBlockOf, at_words, counters_on, node_text, status_line, status_text}
use Rattle.fr_slots.specs.declared.channel.Channel.{Channel}
use Rattle.fr_slots.specs.Parameters.{Parameters}
use Rattle.fr_trace.specs.ReportText.{counts_in, report_text}

-- ---- the report of a node

-- the line of a node with so many buffers, and its report, as in the outcome of a run
abbrev pub kept_node : ℕ → Standing → ℕ → List ℕ
kept_node node h count = line_text (codes "node" ∷ decimal node ∷ []) ++ kept_report h count

-- the block of the report of a node, in each world with its history
abbrev pub IsReportOf : LiveState → ℕ → List ℕ → Type 0
IsReportOf l n reply = ForEachWorld l (λ w. IsBlockOf report_text w n reply)

-- ---- single lines, by the kept data

-- the number of sealed windows, by the last of them
abbrev pub windows_by : Option Recorded → ℕ
windows_by None = 0
windows_by (Some r) = r.window.number + 1

abbrev pub kept_time : Parameters → LiveStanding → List ℕ
kept_time p h = line_text (at_words p h.bus.phase h.bus.course.begun (windows_by h.last) h.bus.opened)

abbrev pub kept_status : Channel → Standing → List ℕ
kept_status channel h = status_line channel (counts_in (counters_on channel h.counters))

-- the status counters of a node, in each world with its history
abbrev pub IsStatusOf : LiveState → ℕ → Channel → List ℕ → Type 0
IsStatusOf l n channel reply = ForEachWorld l (λ w. reply ≡ node_text (status_text channel) w n)

-- ---- what is missing without history

-- the reply to `trace` and `origin`
abbrev pub no_history_text : List ℕ
no_history_text = line_text (codes "refused" ∷ codes "NoHistory" ∷ [])

-- the window, if it has this number
abbrev pub if_numbered : ℕ → Option Recorded → Option Recorded
if_numbered number None = None
if_numbered number (Some r) = if r.window.number == number then Some r else None
