use Rattle.fr_endless.proofs.TraceLemmas.{applied_told}
use Rattle.fr_endless.specs.Taps.{with_taps}
use Rattle.fr_endless.proofs.telling.apply_traced.Goals as goal

pub returns-then-is_call : goal.returns-then-is_call
returns-then-is_call g c =
    applied_told (with_taps c.args.world.now c.args.taps.now)
    (with_taps c.step_traced.new.world c.step_traced.new.taps) c.args.event.now c.step_traced.result
    c.without_reply.result c.without_reply.ensures c.step_traced.ensures
