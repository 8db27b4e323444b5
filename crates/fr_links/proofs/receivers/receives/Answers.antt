use Rattle.std.proofs.Common.{sym, ◌∙◌}
use Rattle.fr_slots.proofs.FaultLemmas.{any-goes_on, any-found, any-ended}
use Rattle.fr_links.specs.Receivers.{receives_in}
use Rattle.fr_links.proofs.receivers.receives.Goals as goal

pub returns-then-receives_in : goal.returns-then-receives_in
returns-then-receives_in c =
    any-found (receives_in c.args.link.now c.args.buffer.now) c.loop-number.number 64 _ c.loop-number-test.true
    (rw (← c.from_bits.ensures) (sym c.receives_in.ensures ∙ c.if-receives_in.true))
    c.loop-number.invariant

pub loop-number-preserved : goal.loop-number-preserved
loop-number-preserved c =
    any-goes_on (receives_in c.args.link.now c.args.buffer.now) c.loop-number.number 64 _ c.loop-number-test.true
    (rw (← c.from_bits.ensures) (sym c.receives_in.ensures ∙ c.if-receives_in.false))
    c.loop-number.invariant

pub returns : goal.returns
returns c = any-ended (receives_in c.args.link.now c.args.buffer.now) c.loop-number.number 64 _
    c.loop-number-test.false
    c.loop-number.invariant
