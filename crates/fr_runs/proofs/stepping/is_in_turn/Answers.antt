use Rattle.std.proofs.Common.{take, sym, subst, ◌∙◌, arith, ◌↔◌, IsTrue}
use Rattle.std.specs.Prelude.{slice_index_or}
use Rattle.fr_journal.specs.Lent.{whole}
use Rattle.fr_runs.proofs.SteppingLemmas.{in_turn}
use Rattle.fr_runs.specs.Stepping.{lines_given}
use Rattle.fr_runs.specs.Steps.{StandsFor}
use Rattle.fr_runs.proofs.stepping.is_in_turn.Goals as goal

pub returns : goal.returns
returns c =
    let rs = c.args.recorded.now in
    let x = c.args.progress.now in
    let b = c.stands_for.result in
    let of = c.from.ensures ∙ c.number.ensures.value in
    in_turn rs (take c.args.place.now.number c.args.place.now.interface.now.entries) x c.requires
    c.args.scripts.now c.args.node (whole c.args.entry.now) c.in-Some.task 0 b
    (sym c.task_of.ensures ∙ c.in-Some.is) (omega (arith, c.number.ensures.fits, c.number.ensures.value))
    (subst (λ n. IsTrue b ↔ StandsFor rs (lines_given c.args.scripts.now c.args.node c.in-Some.task)
    (slice_index_or x.calls n 0) x) of
    (subst (λ ls. IsTrue b ↔ StandsFor rs ls (slice_index_or x.calls c.from.result 0) x) c.lines_given.ensures
    c.stands_for.ensures))
