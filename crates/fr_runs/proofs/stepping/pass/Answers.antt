use Rattle.std.proofs.Common.{take, sym, ap, subst, ◌∙◌, ◌+◌, arith, Some}
use Rattle.fr_journal.specs.Lent.{whole}
use Rattle.fr_runs.proofs.SteppingLemmas.{called, fetched_first, fetched_more, observed_more, few_calls}
use Rattle.fr_runs.specs.declared.stepping.Progress.{Progress}
use Rattle.fr_runs.specs.Steps.{IsProgress}
use Rattle.fr_runs.proofs.stepping.pass.Goals as goal
use Rattle.fr_runs.proofs.stepping.pass.Goals.{then-is_beginning, else-is_beginning}

pub overflow_add-progress : goal.overflow_add-progress
overflow_add-progress c =
    let few = few_calls c.args.recorded.now c.args.place.now.interface.now.entries c.args.place.now.number
    c.args.progress.now c.requires.so_far (whole c.args.entry.now) c.requires.here
    c.from.result 0 (omega (arith, c.from.ensures, c.number.ensures.fits, c.number.ensures.value)) in
    omega (arith, few, c.requires.few)

pub returns-in-Some : goal.returns-in-Some
returns-in-Some c =
    called c.args.recorded.now c.args.place.now.interface.now.entries c.args.place.now.number
    c.args.progress.now c.requires.so_far (whole c.args.entry.now) c.requires.here c.from.result
    (sym c.task_of.ensures ∙ c.in-Some.is ∙ ap Some (sym (c.from.ensures ∙ c.number.ensures.value)))
    (omega (arith, c.from.ensures, c.number.ensures.fits, c.number.ensures.value)) 0

pub returns-after-is_beginning : goal.returns-after-is_beginning
returns-after-is_beginning c =
    let rs = c.args.recorded.now in
    let es = c.args.place.now.interface.now.entries in
    let k = c.args.place.now.number in
    let e = whole c.args.entry.now in
    elim c.if-is_beginning.branch [
      | then-is_beginning w ↦
          subst (λ (p : Progress). IsProgress rs (take (k + 1) es) (record p { fetches = p.fetches + 1 }))
          (sym w.progress-is)
          (fetched_first rs es k c.args.progress.now c.requires.so_far e c.requires.here
          (sym c.task_of.ensures ∙ c.in_default.is)
          (sym c.is_fetch.ensures ∙ c.if-is_fetch.true) (sym c.is_beginning.ensures ∙ w.if-is_beginning.true))
      | else-is_beginning w ↦
          subst (λ (p : Progress). IsProgress rs (take (k + 1) es) (record p { fetches = p.fetches + 1 }))
          (sym w.progress-is)
          (fetched_more rs es k c.args.progress.now c.requires.so_far e c.requires.here
          (sym c.task_of.ensures ∙ c.in_default.is)
          (sym c.is_fetch.ensures ∙ c.if-is_fetch.true) (sym c.is_beginning.ensures ∙ w.if-is_beginning.false))
    ]

pub returns-else-is_fetch : goal.returns-else-is_fetch
returns-else-is_fetch c =
    observed_more c.args.recorded.now c.args.place.now.interface.now.entries c.args.place.now.number
    c.args.progress.now c.requires.so_far (whole c.args.entry.now) c.requires.here
    (sym c.task_of.ensures ∙ c.in_default.is) (sym c.is_fetch.ensures ∙ c.if-is_fetch.false)
