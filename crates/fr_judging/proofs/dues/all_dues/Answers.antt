use Rattle.fr_judging.proofs.DueLemmas.{due_none, due_more}
use Rattle.fr_judging.proofs.dues.all_dues.Goals as goal

pub loop-place-init : goal.loop-place-init
loop-place-init c = due_none _ _ _ c.in_ok-dues.ensures.items

pub loop-place-preserved : goal.loop-place-preserved
loop-place-preserved c =
    due_more _ _ _ _ _ _ c.in_ok-push.ensures.items c.loop-place.invariant c.due_in.ensures
