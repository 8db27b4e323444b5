use Rattle.std.proofs.Common.{ℕ, Option, Some, None, ap, sym, ◌∙◌, cond}
use Rattle.fr_slots.specs.Faults.{common_in}
use Rattle.fr_slots.proofs.FaultLemmas.{first-goes_on, first-found, first-ended}
use Rattle.fr_slots.proofs.filter.CycleFilter.first_common.Goals as goal

pub returns-then-both_admit : goal.returns-then-both_admit
returns-then-both_admit c =
    ap Some c.from_bits-cycle.ensures
    ∙ first-found (common_in c.args.self.now c.args.other.now) c.loop-number.number 64 _ _ c.loop-number-test.true
    (rw (← c.from_bits-cycle.ensures)
    (ap (λ b. let r : Option ℕ = cond b (Some c.from_bits-cycle.result) None in r)
    (sym c.both_admit.ensures ∙ c.if-both_admit.true)))
    c.loop-number.invariant

pub loop-number-preserved : goal.loop-number-preserved
loop-number-preserved c =
    first-goes_on (common_in c.args.self.now c.args.other.now) c.loop-number.number 64 _ c.loop-number-test.true
    (rw (← c.from_bits-cycle.ensures)
    (ap (λ b. let r : Option ℕ = cond b (Some c.from_bits-cycle.result) None in r)
    (sym c.both_admit.ensures ∙ c.if-both_admit.false)))
    c.loop-number.invariant

pub returns : goal.returns
returns c = first-ended
    (common_in c.args.self.now c.args.other.now) c.loop-number.number 64 _ c.loop-number-test.false
    c.loop-number.invariant
