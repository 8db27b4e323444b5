use Rattle.std.proofs.Common.{sym, ◌∙◌}
use Rattle.fr_slots.proofs.FaultLemmas.{any-goes_on, any-found, any-ended}
use Rattle.fr_links.specs.Receivers.{queues_in}
use Rattle.fr_links.proofs.receivers.is_queued.Goals as goal

pub returns-then-queues_in : goal.returns-then-queues_in
returns-then-queues_in c =
    any-found (queues_in c.args.link.now c.args.buffers.now c.args.queue.now) c.loop-number.number 64 _
    c.loop-number-test.true
    (rw (← c.from_bits.ensures) (sym c.queues_in.ensures ∙ c.if-queues_in.true))
    c.loop-number.invariant

pub loop-number-preserved : goal.loop-number-preserved
loop-number-preserved c =
    any-goes_on (queues_in c.args.link.now c.args.buffers.now c.args.queue.now) c.loop-number.number 64 _
    c.loop-number-test.true
    (rw (← c.from_bits.ensures) (sym c.queues_in.ensures ∙ c.if-queues_in.false))
    c.loop-number.invariant

pub returns : goal.returns
returns c = any-ended (queues_in c.args.link.now c.args.buffers.now c.args.queue.now) c.loop-number.number 64 _
    c.loop-number-test.false
    c.loop-number.invariant
