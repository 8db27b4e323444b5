use Rattle.std.proofs.Common.{◌*◌, ◌<◌, ◌^◌, arith}
use Rattle.std.proofs.lemmas.Int.{ints}
use Rattle.std.proofs.lemmas.Nat.{mul-lt}
use Rattle.fr_judging.proofs.distance.time_between.Goals as goal

pub returns-clause-low : goal.returns-clause-low
returns-clause-low c =
    let from_fits : c.from.result < 2 ^ 16 = omega (arith, c.from.ensures) in
    let to_fits : c.from-2.result < 2 ^ 16 = omega (arith, c.from-2.ensures) in
    let from : c.from.result * c.args.slot_ns < 2 ^ 16 * 2 ^ 48 =
    mul-lt c.from.result c.args.slot_ns (2 ^ 16) (2 ^ 48) from_fits c.requires in
    let to : c.from-2.result * c.args.slot_ns < 2 ^ 16 * 2 ^ 48 =
    mul-lt c.from-2.result c.args.slot_ns (2 ^ 16) (2 ^ 48) to_fits c.requires in
    omega (arith, ints)

pub returns-clause-high : goal.returns-clause-high
returns-clause-high c =
    let from_fits : c.from.result < 2 ^ 16 = omega (arith, c.from.ensures) in
    let to_fits : c.from-2.result < 2 ^ 16 = omega (arith, c.from-2.ensures) in
    let from : c.from.result * c.args.slot_ns < 2 ^ 16 * 2 ^ 48 =
    mul-lt c.from.result c.args.slot_ns (2 ^ 16) (2 ^ 48) from_fits c.requires in
    let to : c.from-2.result * c.args.slot_ns < 2 ^ 16 * 2 ^ 48 =
    mul-lt c.from-2.result c.args.slot_ns (2 ^ 16) (2 ^ 48) to_fits c.requires in
    omega (arith, ints)
