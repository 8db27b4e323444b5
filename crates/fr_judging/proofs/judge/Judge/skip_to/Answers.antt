use Rattle.std.proofs.Common.{◌≡◌, ◌-◌, ◌∙◌, ap, rules, arith}
use Rattle.fr_judging.specs.Judging.{skipped, skip_to}
use Rattle.fr_judging.proofs.LoopLemmas.{skip_none, skip_more}
use Rattle.fr_judging.proofs.judge.Judge.skip_to.Goals as goal

pub loop-slot-init : goal.loop-slot-init
loop-slot-init c = skip_none _ _ _ _ _ (omega arith)

pub loop-slot-preserved : goal.loop-slot-preserved
loop-slot-preserved c =
    skip_more _ c.loop-slot.self _ c.args.at.now c.args.cycle c.args.from c.loop-slot.slot (search rules)
    c.loop-slot.invariant c.miss.ensures

pub returns : goal.returns
unfolding skip_to
returns c =
    let count : c.loop-slot.slot - c.args.from ≡ c.args.end - c.args.from = omega (arith, c.max-slot-end.ensures) in
    c.loop-slot.invariant ∙ ap (skipped c.args.self.now c.args.at.now c.args.cycle c.args.from) count
