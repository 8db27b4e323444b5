use Rattle.std.proofs.Common.{◌≡◌, ◌+◌, ◌-◌, ◌%◌, true, false, sym, ap, ◌∙◌, arith}
use Rattle.std.proofs.lemmas.Grind.{common_steps}
use Rattle.fr_latency.specs.Latencies.{first_from, is_after}
use Rattle.fr_latency.proofs.BelowLemmas.{first_here, first_later, first_none}
use Rattle.fr_latency.proofs.latency.distance.Goals as goal

pub returns-then-answers-cycle-clause-value : goal.returns-then-answers-cycle-clause-value
returns-then-answers-cycle-clause-value c = λ test are.
    let cycle = c.args.cycle in
    let later = c.loop-later.later in
    let answer = are ((cycle + later) % 64) (omega arith) in
    let passes : is_after test cycle later ≡ true = grind (arith, common_steps) in
    sym (c.loop-later.invariant test are ∙ first_here (is_after test cycle) later (64 - later) (omega arith) passes)

pub loop-later-preserved : goal.loop-later-preserved
loop-later-preserved c = λ test are.
    let cycle = c.args.cycle in
    let later = c.loop-later.later in
    let answer = are ((cycle + later) % 64) (omega arith) in
    let fails : is_after test cycle later ≡ false = grind (arith, common_steps) in
    let less : 64 - later - 1 ≡ 64 - (later + 1) = omega arith in
    c.loop-later.invariant test are ∙ first_later (is_after test cycle) later (64 - later) (omega arith) fails
    ∙ ap (first_from (is_after test cycle) (later + 1)) less

pub returns-clause-value : goal.returns-clause-value
returns-clause-value c = λ test are.
    let cycle = c.args.cycle in
    let later = c.loop-later.later in
    let last : later ≡ 64 = omega arith in
    sym (c.loop-later.invariant test are ∙ ap (λ n. first_from (is_after test cycle) n (64 - n)) last
    ∙ first_none (is_after test cycle) 64)
