use Rattle.std.proofs.Common.{◌≡◌, ◌-◌, ℕ, ap, ◌∙◌, arith, get_or}
use Rattle.fr_latency.specs.Cells.{has_bit}
use Rattle.fr_latency.specs.Openings.{greatest}
use Rattle.fr_latency.proofs.RowLemmas.{last_moved, last_none}
use Rattle.fr_latency.proofs.openings.last_up_to.Goals as goal

pub returns-then-most-earlier : goal.returns-then-most-earlier
returns-then-most-earlier c = λ test right bits.
    last_none c.args.earlier c.args.cycle c.args.most test c.if-most-earlier.true right

pub returns : goal.returns
returns c =
    let near = λ (index : ℕ). has_bit (get_or c.args.cells.now index 0) c.args.cycle in
    let distance : c.from.result ≡ c.args.most - c.args.earlier - 1 = omega arith in
    λ test right bits.
    last_moved c.args.earlier c.args.cycle c.args.most c.greatest-place.result c.args.cells.now test (omega arith)
    c.requires.room c.requires.cycle right bits (c.greatest-place.ensures.value ∙ ap (greatest near) distance)
