use Rattle.std.proofs.Common.{drop, sym, ap, ◌∙◌}
use Rattle.fr_lines.proofs.FrontLemmas.{a_commit, within_same}
use Rattle.fr_slots.specs.Numbers.{last_task}
use Rattle.fr_text.specs.Spaces.{words_of}
use Rattle.fr_lines.proofs.entries.commit_at_front.Goals as goal

pub returns : goal.returns
returns c =
    let task = within_same 0 last_task c.in_ok-number.number c.in_ok-task.task
    (sym c.new.ensures ∙ c.in_ok-task.was) in
    a_commit (words_of c.args.line.now) c.in_ok-buffer.payload.now c.payload_into.new.payload c.in_ok-task.task
    c.in_ok-buffer.buffer
    (rw task at c.in_ok-number.ensures.number)
    (rw c.in_ok-number.ensures.left at c.in_ok-buffer.ensures.number)
    (c.in_ok-buffer.ensures.left ∙ ap (drop 1) c.in_ok-number.ensures.left)
    (sym (rw c.if-not-payload_into.false at c.payload_into.ensures))
