use Rattle.std.proofs.Common.{◌++◌, ◌∷◌, [], map, set, sym, ap, ◌∙◌, arith}
use Rattle.std.proofs.lemmas.List.{map-set, get_or-map}
use Rattle.fr_scenario.proofs.gathered.add_task_line.Goals as goal

pub returns-clause-tasks : goal.returns-clause-tasks
returns-clause-tasks c =
    let tasks = c.args.tasks.now.items in
    let place = c.args.place in
    let line = c.args.line in
    let lines = c.index_mut-lines.result.now in
    let pushed = c.in_ok-push.ensures.items
    ∙ ap (λ v. v.items ++ line ∷ []) c.index_mut-lines.ensures.value
    ∙ ap (λ ls. ls ++ line ∷ []) (sym (get_or-map (λ v. v.items) tasks place lines []
    (omega (arith, c.args.tasks.now.ok.0)))) in
    map-set (λ v. v.items) tasks place c.push.new.self ∙ ap (λ ls. set (map (λ v. v.items) tasks) place ls) pushed
