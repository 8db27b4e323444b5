use Rattle.std.proofs.Common.{rules, ◌∙◌}
use Rattle.fr_endless.proofs.ReceivingLemmas.{oldest_none, oldest_same}
use Rattle.fr_endless.proofs.receiving.oldest_at.Goals as goal

pub returns-then-place-interfaces : goal.returns-then-place-interfaces
returns-then-place-interfaces c =
    λ w is. c.oldest.ensures ∙ oldest_same c.args.world.now c.args.node c.index-interfaces-place.result (search rules)
    (search rules) w is

pub returns-else-place-interfaces : goal.returns-else-place-interfaces
returns-else-place-interfaces c = oldest_none c.args.world.now c.args.node (search rules)
