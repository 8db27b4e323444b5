use Rattle.std.proofs.Common.{rules, ◌∙◌}
use Rattle.fr_endless.proofs.ReceivingLemmas.{held_none, held_same}
use Rattle.fr_endless.proofs.receiving.held_at.Goals as goal

pub returns-then-place-interfaces : goal.returns-then-place-interfaces
returns-then-place-interfaces c =
    λ w is. c.received.ensures ∙ held_same c.args.world.now c.args.node c.index-interfaces-place.result c.args.buffer
    (search rules) (search rules) w is

pub returns-else-place-interfaces : goal.returns-else-place-interfaces
returns-else-place-interfaces c = held_none c.args.world.now c.args.node c.args.buffer (search rules)
