use Rattle.fr_playing.proofs.PlayLemmas.{cycles_none, cycles_more}
use Rattle.fr_playing.specs.Moving.{whole_window}
use Rattle.fr_playing.proofs.play.play_cycles.Goals as goal

pub loop-cycle-init : goal.loop-cycle-init
loop-cycle-init c = cycles_none c.args.scripts.now c.args.faults.now (whole_window c.args.nodes) c.args.calls.now.items
    c.args.world.now c.requires.empty

pub loop-cycle-preserved : goal.loop-cycle-preserved
loop-cycle-preserved c =
    cycles_more c.args.scripts.now c.args.faults.now (whole_window c.args.nodes) c.loop-cycle.cycle
    c.loop-cycle.calls.items c.play_cycle.new.calls.items
    c.args.world.now c.loop-cycle.world c.play_cycle.new.world c.loop-cycle.invariant c.in_ok-play_cycle.ensures
