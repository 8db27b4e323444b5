-- The texts of versions 3 and 4 have the same lines after the first.
use Rattle.std.proofs.Common.{◌≡◌, ℕ, List, ◌++◌, ◌∙◌, append_assoc}
use Rattle.std.specs.List.{flat_map}
use Rattle.fr_auditing.specs.LongText.{long_head_text, HasSameLines}
use Rattle.fr_interface.specs.State.{State}
use Rattle.fr_lines.specs.declared.versions.Version.TheVariants.{Three}
use Rattle.fr_lines.specs.Spelling.{line_feed, line_text, begin_line, end_line, params_words, node_words}
use Rattle.fr_trace.specs.TraceText.{own_line, buffer_line, queue_lines, entry_line, head_text}

-- the parts of a text, behind its first line
abbrev parts_behind : List ℕ → State → List ℕ
parts_behind head s =
    ((((((head ++ line_text (params_words s.params)) ++ line_text (node_words s.plan))
    ++ flat_map (own_line Three) s.plan.owned) ++ flat_map buffer_line s.plan.buffers) ++ queue_lines s.plan.queue)
    ++ (begin_line ++ line_feed)) ++ flat_map entry_line s.entries ++ (end_line ++ line_feed)

-- the first line stands before all others
abbrev pub lines_behind : State → List ℕ
lines_behind s =
    line_text (params_words s.params) ++ (line_text (node_words s.plan) ++ (flat_map (own_line Three) s.plan.owned
    ++ (flat_map buffer_line s.plan.buffers ++ (queue_lines s.plan.queue ++ ((begin_line ++ line_feed)
    ++ (flat_map entry_line s.entries ++ (end_line ++ line_feed)))))))

pub parts_are : (head : List ℕ) (s : State) → parts_behind head s ≡ head ++ lines_behind s
parts_are head s =
    let params = line_text (params_words s.params) in
    let numbers = line_text (node_words s.plan) in
    let owned = flat_map (own_line Three) s.plan.owned in
    let buffers = flat_map buffer_line s.plan.buffers in
    let queue = queue_lines s.plan.queue in
    let begun = begin_line ++ line_feed in
    let entries = flat_map entry_line s.entries in
    let ended = end_line ++ line_feed in
    append_assoc (((((((head ++ params) ++ numbers) ++ owned) ++ buffers) ++ queue) ++ begun)) entries ended
    ∙ append_assoc ((((((head ++ params) ++ numbers) ++ owned) ++ buffers) ++ queue)) begun (entries ++ ended)
    ∙ append_assoc (((((head ++ params) ++ numbers) ++ owned) ++ buffers)) queue (begun ++ (entries ++ ended))
    ∙ append_assoc ((((head ++ params) ++ numbers) ++ owned)) buffers (queue ++ (begun ++ (entries ++ ended)))
    ∙ append_assoc (((head ++ params) ++ numbers)) owned (buffers ++ (queue ++ (begun ++ (entries ++ ended))))
    ∙ append_assoc (head ++ params) numbers (owned ++ (buffers ++ (queue ++ (begun ++ (entries ++ ended)))))
    ∙ append_assoc head params (numbers ++ (owned ++ (buffers ++ (queue ++ (begun ++ (entries ++ ended))))))

pub lines_same : (s : State) → HasSameLines s
lines_same s = (lines_behind s, parts_are (head_text Three) s, parts_are long_head_text s)
