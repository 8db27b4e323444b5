use Rattle.std.proofs.Common.{sym, ◌∙◌}
use Rattle.fr_lines.proofs.FirstLemmas.{no_first_slot, a_first_slot}
use Rattle.fr_lines.proofs.entries.next_slot.Goals as goal

pub returns-in_err-slot-in-Ok-clause-slot : goal.returns-in_err-slot-in-Ok-clause-slot
returns-in_err-slot-in-Ok-clause-slot c =
    let read = rw c.in-Ok.is at c.in_ok-number.ensures.number in
    c.from_residual-in_err-slot-in-Ok.ensures
    ∙ sym (no_first_slot c.args.words.now c.in-Ok.number read (sym c.new.ensures ∙ c.in_err-slot-in-Ok.was))

pub returns-in_ok-slot-in-Ok-clause-slot : goal.returns-in_ok-slot-in-Ok-clause-slot
returns-in_ok-slot-in-Ok-clause-slot c =
    let read = rw c.in-Ok.is at c.in_ok-number.ensures.number in
    sym (a_first_slot c.args.words.now c.in-Ok.number c.in_ok-slot-in-Ok.slot read
    (sym c.new.ensures ∙ c.in_ok-slot-in-Ok.was))
