use Rattle.std.proofs.Common.{true, Option, None, ap, subst, ◌∙◌, refl, slice_get}
use Rattle.fr_core.proofs.ScriptLemmas.{task_found_new}
use Rattle.fr_core.specs.Walks.{AreFindings}
use Rattle.fr_interface.specs.State.{State}
use Rattle.fr_core.proofs.walk.find_at.Goals as goal

pub returns-in-None : goal.returns-in-None
returns-in-None c =
    subst (λ (o : Option State). AreFindings c.args.params.now o c.args.recorded.now c.args.scripts.now c.args.node
    (record { has_windows = true; offer = None; sight = None; task = c.other_task.result }))
    (c.in-None.ensures ∙ ap (slice_get c.args.interfaces.now) (c.from.ensures ∙ c.number.ensures.value))
    (record {
      windows = (λ yes. tt, λ agrees. refl);
      offers = λ k. tt;
      sights = λ k. tt;
      scripts = task_found_new c.args.scripts.now c.args.node c.new_courses.result c.other_task.result
          c.new_courses.ensures c.other_task.ensures;
    })
