use Rattle.std.proofs.Common.{◌≡◌, ℕ, Bool, true, false, sym, ap, ◌∙◌, arith, get_or, rules}
use Rattle.fr_latency.specs.Cells.{has_bit}
use Rattle.fr_latency.specs.Openings.{greatest}
use Rattle.fr_latency.proofs.GreatestLemmas.{greatest_here, greatest_down, greatest_zero}
use Rattle.fr_latency.proofs.cells.greatest.Goals as goal

pub loop-place-preserved : goal.loop-place-preserved
loop-place-preserved c =
    let test : ℕ → Bool = λ index. has_bit (get_or c.args.cells.now index 0) c.args.cycle in
    let fails : test c.loop-place.place ≡ false = search rules in
    record {
      few = omega arith;
      same = c.loop-place.invariant.same ∙ greatest_down test c.loop-place.place (omega arith) fails;
    }

pub returns-else-not-has_bit-clause-value : goal.returns-else-not-has_bit-clause-value
returns-else-not-has_bit-clause-value c =
    let test : ℕ → Bool = λ index. has_bit (get_or c.args.cells.now index 0) c.args.cycle in
    let passes : test c.loop-place.place ≡ true = search rules in
    sym (c.loop-place.invariant.same ∙ greatest_here test c.loop-place.place (omega arith) passes)

pub returns-after-loop-place-clause-value : goal.returns-after-loop-place-clause-value
returns-after-loop-place-clause-value c =
    let test : ℕ → Bool = λ index. has_bit (get_or c.args.cells.now index 0) c.args.cycle in
    let none : c.loop-place.place ≡ 0 = omega arith in
    none ∙ sym (c.loop-place.invariant.same ∙ ap (greatest test) none ∙ greatest_zero test)
