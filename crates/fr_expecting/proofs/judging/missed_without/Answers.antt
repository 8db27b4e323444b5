use Rattle.std.proofs.Common.{◌≡◌, true, false, rules, arith}
use Rattle.fr_expecting.proofs.MissLemmas.{named, room, unnamed}
use Rattle.fr_expecting.specs.declared.missed.Found.TheVariants.{NoBuffer}
use Rattle.fr_runs.specs.Cycles.{names_cycle}
use Rattle.fr_expecting.proofs.judging.missed_without.Goals as goal

pub loop-cycle-preserved-then-not-names : goal.loop-cycle-preserved-then-not-names
loop-cycle-preserved-then-not-names c =
    let other : names_cycle c.args.expectation.now.cycles c.loop-cycle.cycle ≡ false = search rules in
    unnamed c.args.expectation.now (λ cycle. NoBuffer) c.loop-cycle.cycle c.loop-cycle.missed other
    c.loop-cycle.invariant

pub judge-requires : goal.judge-requires
judge-requires c =
    room c.args.expectation.now (λ cycle. NoBuffer) c.loop-cycle.missed c.loop-cycle.cycle c.args.cycles
    c.loop-cycle.invariant c.loop-cycle-test.true (omega (arith, c.ranges.cycles.fits))

pub loop-cycle-preserved : goal.loop-cycle-preserved
loop-cycle-preserved c =
    let here : names_cycle c.args.expectation.now.cycles c.loop-cycle.cycle ≡ true = search rules in
    named c.args.expectation.now (λ cycle. NoBuffer) c.loop-cycle.cycle c.loop-cycle.missed c.judge.new.missed here
    c.loop-cycle.invariant c.judge.ensures
