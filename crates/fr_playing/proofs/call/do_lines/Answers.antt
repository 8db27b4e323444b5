use Rattle.fr_playing.proofs.PlayLemmas.{adds_none, adds_more}
use Rattle.fr_playing.specs.Calls.{asked_in_script}
use Rattle.fr_playing.proofs.call.do_lines.Goals as goal

pub loop-script-init : goal.loop-script-init
loop-script-init c = adds_none c.args.calls.now.items c.args.world.now

pub loop-script-preserved : goal.loop-script-preserved
loop-script-preserved c =
    adds_more (asked_in_script c.args.cycle) c.args.scripts.now c.loop-script.script-index c.script-item.result
    c.args.calls.now.items c.loop-script.calls.items c.do_script.new.calls.items c.args.world.now c.loop-script.world
    c.do_script.new.world
    c.loop-script-test.true c.script-item.is c.loop-script.invariant c.in_ok-do_script.ensures
