use Rattle.fr_core.proofs.WorldLemmas.{kept_opening}
use Rattle.fr_core.specs.Worlds.{opening_world}
use Rattle.fr_live.specs.LiveWorlds.{with_room}
use Rattle.fr_live.proofs.world.LiveWorld.new.Goals as goal

pub invariant_of-result : goal.invariant_of-result
invariant_of-result c =
    let d = with_room c.args.room.now c.args.cluster.now in
    (opening_world d c.args.cycles, record { leads = c.in-Ok.ensures.1; world_is = kept_opening d c.args.cycles })

pub returns-in-Ok : goal.returns-in-Ok
returns-in-Ok c =
    let d = with_room c.args.room.now c.args.cluster.now in
    (c.in-Ok.ensures.0, record { leads = c.in-Ok.ensures.1; world_is = kept_opening d c.args.cycles })
