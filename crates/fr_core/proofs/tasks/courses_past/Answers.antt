use Rattle.std.proofs.Common.{sym, ◌∙◌, arith}
use Rattle.fr_core.proofs.ScriptLemmas.{courses_past, courses_set, few_calls}
use Rattle.fr_journal.specs.Lent.{whole}
use Rattle.fr_core.proofs.tasks.courses_past.Goals as goal

pub returns-in_default : goal.returns-in_default
returns-in_default c =
    courses_past c.args.interface.now c.args.scripts.now c.args.node c.args.number c.args.courses.now
    (whole c.args.entry.now) c.requires.so_far c.requires.here
    (sym c.done_by.ensures ∙ c.in_default.is)

pub course_past-requires : goal.course_past-requires
course_past-requires c =
    few_calls c.args.interface.now c.args.scripts.now c.args.node c.args.number c.args.courses.now c.from-place.result _
    c.requires.so_far
    (omega (arith, c.from-place.ensures, c.number.ensures.fits, c.number.ensures.value)) c.requires.few

pub returns : goal.returns
returns c =
    courses_set c.args.interface.now c.args.scripts.now c.args.node c.args.number c.args.courses.now
    (whole c.args.entry.now) c.in-Some.done c.from-place.result _ _
    c.requires.so_far c.requires.here (sym c.done_by.ensures ∙ c.in-Some.is)
    (c.from-place.ensures ∙ c.number.ensures.value)
    (omega (arith, c.from-place.ensures, c.number.ensures.fits, c.number.ensures.value)) c.course_past.ensures
