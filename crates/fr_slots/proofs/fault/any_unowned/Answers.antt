use Rattle.std.proofs.Common.{sym, ◌∙◌}
use Rattle.fr_slots.specs.Faults.{is_unowned_in}
use Rattle.fr_slots.proofs.FaultLemmas.{any-goes_on, any-found, any-ended, none_unowned}
use Rattle.fr_slots.proofs.fault.any_unowned.Goals as goal

pub returns-then-is_owned_always : goal.returns-then-is_owned_always
returns-then-is_owned_always c =
    sym (none_unowned c.args.owned.now c.args.filter.now c.args.channel
    (sym c.is_owned_always.ensures ∙ c.if-is_owned_always.true))

pub returns-then-is_unowned_in : goal.returns-then-is_unowned_in
returns-then-is_unowned_in c =
    any-found (is_unowned_in c.args.owned.now c.args.filter.now c.args.channel) c.loop-number.number 64 _
    c.loop-number-test.true
    (rw (← c.from_bits.ensures) (sym c.is_unowned_in.ensures ∙ c.if-is_unowned_in.true))
    c.loop-number.invariant

pub loop-number-preserved : goal.loop-number-preserved
loop-number-preserved c =
    any-goes_on (is_unowned_in c.args.owned.now c.args.filter.now c.args.channel) c.loop-number.number 64 _
    c.loop-number-test.true
    (rw (← c.from_bits.ensures) (sym c.is_unowned_in.ensures ∙ c.if-is_unowned_in.false))
    c.loop-number.invariant

pub returns : goal.returns
returns c =
    any-ended (is_unowned_in c.args.owned.now c.args.filter.now c.args.channel) c.loop-number.number 64 _
    c.loop-number-test.false
    c.loop-number.invariant
