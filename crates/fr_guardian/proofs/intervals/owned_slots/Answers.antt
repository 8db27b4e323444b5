use Rattle.std.proofs.Common.{refl, []}
use Rattle.fr_guardian.proofs.OpenLemmas.{owned_none}
use Rattle.fr_guardian.proofs.intervals.owned_slots.Goals as goal

pub loop-own-init : goal.loop-own-init
loop-own-init c = owned_none [] c.args.cycle c.args.channel _ refl refl
