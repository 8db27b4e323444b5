use Rattle.std.proofs.Common.{sym, ◌∙◌}
use Rattle.fr_lines.proofs.FirstLemmas.{a_first_slot}
use Rattle.fr_lines.proofs.FrontLemmas.{no_slot}
use Rattle.fr_text.specs.Spaces.{words_of}
use Rattle.fr_lines.proofs.fronts.slot_at_front.Goals as goal

pub returns-in-Some-clause-slot : goal.returns-in-Some-clause-slot
returns-in-Some-clause-slot c = no_slot c.args.bytes.now (rw c.as_slice.ensures at c.in-Some.ensures.cases.0)

pub returns-clause-slot : goal.returns-clause-slot
returns-clause-slot c =
    a_first_slot (words_of c.args.bytes.now) c.in_ok-number.number c.in_ok-slot.slot c.in_ok-number.ensures.number
    (sym c.new.ensures ∙ c.in_ok-slot.was)
