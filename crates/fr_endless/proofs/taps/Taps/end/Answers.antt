use Rattle.std.proofs.Common.{arith, refl}
use Rattle.fr_endless.proofs.EachLemmas.{each_all, each_more, each_none, then_flushed}
use Rattle.fr_endless.specs.Taps.{last_line}
use Rattle.fr_endless.proofs.taps.Taps.end.Goals as goal

pub loop-place-init : goal.loop-place-init
loop-place-init g c = each_none c.args.self.now (λ n. last_line)

pub loop-place-preserved : goal.loop-place-preserved
loop-place-preserved g c =
    each_more c.args.self.now c.loop-place.self c.end_trace.new.self (λ n. last_line) c.loop-place.place last_line refl
    c.loop-place.invariant c.end_trace.ensures

pub returns : goal.returns
returns g c =
    then_flushed c.args.self.now c.loop-place.self c.flush_traces.new.self (λ n. last_line)
    (each_all c.args.self.now c.loop-place.self (λ n. last_line) c.loop-place.place
    (omega (arith, c.loop-place-test.false, c.count-count.ensures)) c.loop-place.invariant) c.flush_traces.ensures
