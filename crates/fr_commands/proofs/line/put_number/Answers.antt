use Rattle.std.proofs.Common.{◌≡◌, ◌+◌, ◌-◌, ◌≤◌, ◌<◌, ◌^◌, ℕ, length, arith}
use Rattle.std.specs.Fmt.{decimal}
use Rattle.std.proofs.lemmas.Fmt.{length-decimal-le}
use Rattle.std.proofs.lemmas.List.{drop-set}
use Rattle.fr_commands.proofs.line.put_number.Goals as goal

-- a number of 64 bits has no more than twenty digits
short : (n : ℕ) → n < 2 ^ 64 → length (decimal n) ≤ 20
short n fits = length-decimal-le 20 n (omega arith) (omega arith) fits

pub write_digits-start-requires : goal.write_digits-start-requires
write_digits-start-requires c = omega (arith, short c.args.number (omega arith))

pub overflow_sub-line : goal.overflow_sub-line
overflow_sub-line c = omega (arith, short c.args.number (omega arith))

pub overflow_sub-result : goal.overflow_sub-result
overflow_sub-result c = omega (arith, short c.args.number (omega arith))

pub returns-clause-start : goal.returns-clause-start
returns-clause-start c = omega (arith, short c.args.number (omega arith))

pub returns-clause-put : goal.returns-clause-put
returns-clause-put c =
    let few = short c.args.number (omega arith) in
    let start = c.write_digits-start.result in
    let next : start - 1 + 1 ≡ start = omega arith in
    rw (drop-set c.write_digits-start.new.buf (start - 1) 32 (omega arith), next, c.write_digits-start.ensures.written)
