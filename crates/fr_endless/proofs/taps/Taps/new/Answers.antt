use Rattle.std.proofs.Common.{arith, refl, ◌≤◌}
use Rattle.std.proofs.lemmas.Nat.{mul-le}
use Rattle.fr_endless.proofs.TapLemmas.{scenario_none}
use Rattle.fr_endless.proofs.taps.Taps.new.Goals as goal

pub invariant_of-result : goal.invariant_of-result
invariant_of-result g c = scenario_none _ c.in-Ok.scenario refl c.in-Ok.ensures.only

pub overflow_mul-from : goal.overflow_mul-from
overflow_mul-from g c =
    let is = c.from.ensures in
    let range = c.ranges.keep in
    let less = c.opportunities.ensures.few in
    let kept : c.from.result ≤ 255 = omega (arith, is, range) in
    let few : c.opportunities.result ≤ 131071 = omega (arith, less) in
    let product = mul-le c.from.result c.opportunities.result 255 131071 kept few in
    omega (arith, product)
