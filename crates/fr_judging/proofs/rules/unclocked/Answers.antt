use Rattle.std.proofs.Common.{◌≡◌, ℕ, true, false, Some, ap, ◌∙◌, rules, arith, subst}
use Rattle.fr_judging.specs.Rules.{is_clocked}
use Rattle.fr_judging.proofs.ClockLemmas.{clocked_more, clocked_found, clocked_none}
use Rattle.fr_judging.proofs.rules.unclocked.Goals as goal

pub returns-then-not-is_clocked : goal.returns-then-not-is_clocked
returns-then-not-is_clocked c =
    let here : is_clocked c.args.cluster.now c.args.channel c.from_bits-cycle.result ≡ false = search rules in
    let at : is_clocked c.args.cluster.now c.args.channel c.loop-number.number ≡ false =
    subst (λ (n : ℕ). is_clocked c.args.cluster.now c.args.channel n ≡ false) c.from_bits-cycle.ensures here in
    ap Some c.from_bits-cycle.ensures
    ∙ clocked_found c.args.cluster.now c.args.channel c.loop-number.number c.loop-number-test.true at
    ∙ c.loop-number.invariant

pub loop-number-preserved : goal.loop-number-preserved
loop-number-preserved c =
    let here : is_clocked c.args.cluster.now c.args.channel c.from_bits-cycle.result ≡ true = search rules in
    let at : is_clocked c.args.cluster.now c.args.channel c.loop-number.number ≡ true =
    subst (λ (n : ℕ). is_clocked c.args.cluster.now c.args.channel n ≡ true) c.from_bits-cycle.ensures here in
    clocked_more c.args.cluster.now c.args.channel c.loop-number.number c.loop-number-test.true at
    ∙ c.loop-number.invariant

pub returns : goal.returns
returns c =
    clocked_none c.args.cluster.now c.args.channel c.loop-number.number (omega arith) ∙ c.loop-number.invariant
