use Rattle.std.proofs.Common.{rules, arith, ◌≡◌}
use Rattle.std.proofs.lemmas.List.Elements.{All-push, All-take}
use Rattle.fr_desks.proofs.PassLemmas.{numbered_push, numbered_found, all_last}
use Rattle.fr_desks.proofs.desk.Desk.open.Goals as goal

pub loop-number-preserved : goal.loop-number-preserved
loop-number-preserved g c = (
  omega arith,
  omega (arith, c.in-Some.ensures.len),
  search rules,
  rw c.pop.ensures.rest (All-take (λ s. s ≡ 0) _ _ c.loop-number.invariant.3),
  rw c.push_reserved.ensures.items (All-push (λ p. p.commits ≡ 0) _ _ c.loop-number.invariant.4
      (all_last (λ s. s ≡ 0) _ _ _ c.loop-number.invariant.3 c.in-Some.ensures.items)),
  rw c.push_reserved.ensures.items (numbered_push (λ p. p.task) _ _ _
      (search rules) c.from_number-task.ensures c.loop-number.invariant.5),
)

pub returns-clause-tasks : goal.returns-clause-tasks
returns-clause-tasks g c = numbered_found (λ p. p.task) _ (λ k d within. c.loop-number.invariant.5 k d (search rules))
