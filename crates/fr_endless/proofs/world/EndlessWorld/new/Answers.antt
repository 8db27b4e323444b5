use Rattle.std.proofs.Common.{◌∙◌, ap, sym}
use Rattle.fr_core.specs.Worlds.{opening_world}
use Rattle.fr_endless.specs.Alike.{buffers_in}
use Rattle.fr_endless.proofs.ReportLemmas.{room_buffers}
use Rattle.fr_live.specs.LiveWorlds.{with_room}
use Rattle.fr_endless.proofs.world.EndlessWorld.new.Goals as goal

pub invariant_of-result : goal.invariant_of-result
invariant_of-result c =
    let d = with_room c.args.room.now c.args.cluster.now in
    let plans = c.args.cluster.now.plans in
    let room = c.args.room.now in (
      opening_world d c.args.cycles,
      c.in-Ok.ensures.1,
      c.in-Ok-buffers_of.ensures ∙ ap buffers_in c.plans.ensures.value ∙ sym (room_buffers room.host room.slot plans),
    )
