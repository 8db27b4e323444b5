-- The text of version 4 of a trace (project-defined). After its first line it has the lines of version 3, for a journal
-- with any room.
use Rattle.std.specs.Prelude.{◌≡◌, ℕ, List, ◌++◌, codes}
use Rattle.std.specs.List.{flat_map}
use Rattle.fr_interface.specs.State.{State}
use Rattle.fr_lines.specs.declared.versions.Version.TheVariants.{Three}
use Rattle.fr_lines.specs.Spelling.{line_feed, line_text, begin_line, end_line, params_words, node_words}
use Rattle.fr_slots.specs.Parameters.{Parameters}
use Rattle.fr_slots.specs.Plans.{Plan}
use Rattle.fr_trace.specs.TraceText.{own_line, buffer_line, queue_lines, entry_line, head_text, trace_text}

abbrev pub long_first_line : List ℕ
long_first_line = codes "frtrace 4"

-- ---- the fronts of a text of version 4, up to the end of a part

abbrev pub long_head_text : List ℕ
long_head_text = long_first_line ++ line_feed

abbrev pub long_params_text : Parameters → List ℕ
long_params_text params = long_head_text ++ line_text (params_words params)

abbrev pub long_numbers_text : Parameters → Plan → List ℕ
long_numbers_text params plan = long_params_text params ++ line_text (node_words plan)

abbrev pub long_plan_text : Parameters → Plan → List ℕ
long_plan_text params plan =
    long_numbers_text params plan ++ flat_map (own_line Three) plan.owned ++ flat_map buffer_line plan.buffers
    ++ queue_lines plan.queue

abbrev pub long_begin_text : Parameters → Plan → List ℕ
long_begin_text params plan = long_plan_text params plan ++ (begin_line ++ line_feed)

abbrev pub long_body_text : State → List ℕ
long_body_text s = long_begin_text s.params s.plan ++ flat_map entry_line s.entries

-- ---- the whole text

-- the one text of version 4 of parameters, a plan with any room and a journal
abbrev pub long_text : State → List ℕ
long_text s = long_body_text s ++ (end_line ++ line_feed)

-- the texts of versions 3 and 4 have the same lines after the first
abbrev pub HasSameLines : State → Type 0
HasSameLines s = (lines : List ℕ) × (trace_text Three s ≡ head_text Three ++ lines)
    × (long_text s ≡ long_head_text ++ lines)
