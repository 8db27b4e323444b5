use Rattle.std.proofs.Common.{◌≡◌, ◌==◌, ◌-◌, true, false, length, arith, ◌∙◌}
use Rattle.std.proofs.lemmas.Grind.{common_steps}
use Rattle.toml_parser.specs.Lexical.{first}
use Rattle.toml.proofs.Turns.{val_atom, val_open_table}
use Rattle.toml.proofs.Views.{view-Table}
use Rattle.fr_reader.proofs.value.element.Goals as goal

pub returns-in_ok-table-clause-read : goal.returns-in_ok-table-clause-read
returns-in_ok-table-clause-read c depth some =
    let s = c.args.text.now in
    let no_array : (first s == 91) ≡ false = grind (arith, common_steps) in
    let opens : (first s == 123) ≡ true = grind (arith, common_steps) in
    val_open_table depth s some no_array opens
    ∙ rw (
      ← c.skip.ensures.rest,
      c.in_ok-table.ensures.read (depth - 1) (length s) c.skip.ensures.shorter,
      view-Table c.in_ok-table.table,
    )

pub returns-in_ok-value-clause-read : goal.returns-in_ok-value-clause-read
returns-in_ok-value-clause-read c depth some =
    let s = c.args.text.now in
    let no_array : (first s == 91) ≡ false = grind (arith, common_steps) in
    let no_table : (first s == 123) ≡ false = grind (arith, common_steps) in
    val_atom depth s no_array no_table ∙ c.in_ok-value.ensures.read
