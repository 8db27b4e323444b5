use Rattle.fr_guardian.proofs.PostLemmas.{AreFirst}
use Rattle.fr_guardian.proofs.guardian.posts_of.Given as goal

-- the posts of the nodes so far
abbrev pub invariant-loop-plan : goal.invariant-loop-plan
invariant-loop-plan l = AreFirst l.cluster l.plan-index l.posts.items
