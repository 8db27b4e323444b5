use Rattle.fr_playing.proofs.PlayLemmas.{adds_none, adds_more}
use Rattle.std.proofs.Common.{subst}
use Rattle.fr_core.specs.Scripts.{Scripted}
use Rattle.fr_playing.specs.Calls.{AddsCalls, asked_in_line}
use Rattle.fr_playing.proofs.call.do_script.Goals as goal

pub loop-line-init : goal.loop-line-init
loop-line-init c = adds_none c.args.calls.now.items c.args.world.now

pub loop-line-preserved : goal.loop-line-preserved
loop-line-preserved c =
    adds_more (asked_in_line c.args.cycle c.args.script.now.node c.args.script.now.task) _ c.loop-line.line-index
    c.line-item.result
    c.args.calls.now.items c.loop-line.calls.items c.do_line.new.calls.items c.args.world.now c.loop-line.world
    c.do_line.new.world
    c.loop-line-test.true c.line-item.is c.loop-line.invariant
    (subst (λ (s : Scripted). AddsCalls c.loop-line.calls.items c.do_line.new.calls.items c.loop-line.world
    (asked_in_line c.args.cycle s.node s.task c.line-item.result) c.do_line.new.world) c.script.view_is
    c.in_ok-do_line.ensures)
