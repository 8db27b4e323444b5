use Rattle.std.proofs.Common.{◌≡◌, ◌%◌, Some, length, refl, sym, subst, ◌∙◌, arith, slice_get}
use Rattle.std.proofs.lemmas.Nat.{mod_below}
use Rattle.std.proofs.lemmas.Option.{slice_get_read}
use Rattle.fr_guardian.proofs.guardian.row_at.Goals as goal

pub returns : goal.returns
returns c =
    let rows = c.args.rows.now in
    let cycle : c.from.result ≡ c.args.cycle = c.from.ensures ∙ c.number.ensures.value in
    record {
      row = c.index-rows-from.result;
      at = subst (λ n. slice_get rows (n % length rows) ≡ Some c.index-rows-from.result) cycle
          (slice_get_read rows (length rows) (c.from.result % length rows) c.index-rows-from.result refl
          (mod_below c.from.result (length rows) (omega (arith, c.requires))) c.index-rows-from.is);
      spans_are = sym c.as_slice.ensures.value;
    }
