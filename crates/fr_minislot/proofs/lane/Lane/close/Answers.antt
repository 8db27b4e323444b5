use Rattle.std.proofs.Common.{rules, ◌≡◌, ◌+◌, true, subst, sym, ℕ}
use Rattle.fr_minislot.proofs.RowLemmas.{closed_stands}
use Rattle.fr_minislot.specs.Lanes.{IsStanding}
use Rattle.fr_minislot.specs.LaneFields.{standing_in}
use Rattle.fr_minislot.specs.DynamicRows.{is_row}
use Rattle.fr_minislot.proofs.lane.Lane.close.Goals as goal

pub invariant_of-self : goal.invariant_of-self
invariant_of-self c =
    let s = standing_in c.self.inside in
    let opened : is_row s.params s.slot s.begins ≡ true = search rules in
    subst (λ (n : ℕ). IsStanding (record { params = s.params; slot = s.slot + 1; begins = s.begins + n }))
    (sym c.row_length-length.ensures.value)
    (closed_stands s c.args.bytes opened c.self.invariant)
