-- The text of a trace: for each version of the format, the one spelling of parameters, a plan and a journal.
use Rattle.std.specs.Prelude.{◌≡◌, ℕ, true, List, [], ◌++◌, Option, Some, None}
use Rattle.std.specs.List.{flat_map}
use Rattle.fr_journal.specs.Forms.{Entry}
use Rattle.fr_interface.specs.State.{State}
use Rattle.fr_lines.specs.declared.versions.Version.{Version}
use Rattle.fr_lines.specs.Spelling.{line_feed, line_text, first_line, begin_line, end_line, params_words, node_words}
use Rattle.fr_lines.specs.Spelling.{own_words, buffer_words, queue_words, entry_words}
use Rattle.fr_lines.specs.Versions.{tells, tells_own}
use Rattle.fr_slots.specs.declared.plan.Buffer.{Buffer}
use Rattle.fr_slots.specs.declared.plan.Own.{Own}
use Rattle.fr_slots.specs.declared.plan.Queue.{Queue}
use Rattle.fr_slots.specs.Parameters.{Parameters}
use Rattle.fr_slots.specs.Plans.{Plan, Each}

abbrev pub own_line : Version → Own → List ℕ
own_line v own = line_text (own_words v own)

abbrev pub buffer_line : Buffer → List ℕ
buffer_line buffer = line_text (buffer_words buffer)

abbrev pub queue_lines : Option Queue → List ℕ
queue_lines None = []
queue_lines (Some queue) = line_text (queue_words queue)

abbrev pub entry_line : Entry → List ℕ
entry_line e = line_text (entry_words e)

-- ---- the fronts of a trace, up to the end of a part

abbrev pub head_text : Version → List ℕ
head_text v = first_line v ++ line_feed

abbrev pub params_text : Version → Parameters → List ℕ
params_text v params = head_text v ++ line_text (params_words params)

abbrev pub numbers_text : Version → Parameters → Plan → List ℕ
numbers_text v params plan = params_text v params ++ line_text (node_words plan)

-- ownership lines, buffers and receive FIFO, in this order
abbrev pub plan_text : Version → Parameters → Plan → List ℕ
plan_text v params plan =
    numbers_text v params plan ++ flat_map (own_line v) plan.owned ++ flat_map buffer_line plan.buffers
    ++ queue_lines plan.queue

abbrev pub begin_text : Version → Parameters → Plan → List ℕ
begin_text v params plan = plan_text v params plan ++ (begin_line ++ line_feed)

abbrev pub body_text : Version → State → List ℕ
body_text v s = begin_text v s.params s.plan ++ flat_map entry_line s.entries

-- ---- the whole text

-- The one text of parameters, a plan and a journal in this version. It exists if the version has a line for each
-- ownership and each entry.
abbrev pub trace_text : Version → State → List ℕ
trace_text v s = body_text v s ++ (end_line ++ line_feed)

-- the version has a line for each of these ownerships
abbrev pub AreOwnedTold : Version → List Own → Type 0
AreOwnedTold v owned = Each (λ o. tells_own v o ≡ true) owned

-- the version has a line for each of these entries
abbrev pub AreTold : Version → List Entry → Type 0
AreTold v entries = Each (λ e. tells v e ≡ true) entries

-- a text of parameters, a plan and a journal, in one of the versions
abbrev pub IsTraceOf : State → List ℕ → Type 0
IsTraceOf s text = (v : Version) × (text ≡ trace_text v s) × AreOwnedTold v s.plan.owned × AreTold v s.entries
