use Rattle.std.proofs.Common.{rules}
use Rattle.fr_playing.proofs.PlayLemmas.{one_line, other_line}
use Rattle.fr_playing.proofs.call.do_line.Goals as goal

pub returns-then-line-cycle : goal.returns-then-line-cycle
returns-then-line-cycle c =
    other_line c.args.cycle c.args.node c.args.task c.args.line.now c.args.calls.now.items c.args.world.now
    c.if-line-cycle.true

pub returns : goal.returns
returns c =
    one_line c.args.cycle c.args.node c.args.task c.args.line.now c.args.calls.now.items c.push.new.self.items
    c.in_ok-call.call c.args.world.now
    c.do_call.new.world (search rules) (search rules) c.in_ok-call.ensures.does c.in_ok-call.ensures.is
