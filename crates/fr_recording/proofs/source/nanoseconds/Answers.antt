use Rattle.std.proofs.Common.{◌≡◌, refl, ◌≤◌, ◌<◌, ◌*◌, ◌^◌, false, nat_le, sym, arith, lit<, rules}
use Rattle.std.proofs.lemmas.Bool.Decides.{nat_tests}
use Rattle.std.proofs.Math.Nat.{pow-le-pow_right, div-eq_of_lt}
use Rattle.fr_recording.specs.Times.{units_of}
use Rattle.fr_recording.proofs.source.nanoseconds.Goals as goal

pub pow-requires : goal.pow-requires
pow-requires c =
    let few : c.from-in-0-to-37.result ≤ 37 = search rules in
    let most : 10 ^ c.from-in-0-to-37.result ≤ 10 ^ 37 = pow-le-pow_right {n = 10} (lit< tt) few in
    omega arith

pub nonzero_div-result : goal.nonzero_div-result
nonzero_div-result c =
    let least : 0 ≤ c.from-in-0-to-37.result = omega arith in
    let some : 10 ^ 0 ≤ 10 ^ c.from-in-0-to-37.result = pow-le-pow_right {n = 10} (lit< tt) least in
    search rules

pub returns-in-38-to-127-clause-value : goal.returns-in-38-to-127-clause-value
returns-in-38-to-127-clause-value c =
    let within : 38 ≤ c.args.resolution = search rules in
    let power : nat_le 128 c.args.resolution ≡ false = grind (arith, nat_tests) in
    let units : units_of c.args.resolution ≡ 10 ^ c.args.resolution = rw power refl in
    let most : 10 ^ 38 ≤ 10 ^ c.args.resolution = pow-le-pow_right {n = 10} (lit< tt) within in
    let few : c.args.units * 1000000000 < units_of c.args.resolution = rw units (omega arith) in
    sym (div-eq_of_lt few)
