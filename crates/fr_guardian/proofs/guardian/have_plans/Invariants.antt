use Rattle.std.proofs.Common.{◌≡◌, map, take}
use Rattle.fr_guardian.specs.declared.guardian.Post.{Post}
use Rattle.fr_guardian.proofs.guardian.have_plans.Given as goal

-- the first plans are the same
abbrev pub invariant-loop-index : goal.invariant-loop-index
invariant-loop-index l = take l.index (map (λ (post : Post). post.plan) l.posts) ≡ take l.index l.plans
