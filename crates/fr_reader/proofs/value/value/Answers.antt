use Rattle.std.proofs.Common.{◌≡◌, ◌==◌, true, length, arith, ◌∙◌}
use Rattle.std.proofs.lemmas.Grind.{common_steps}
use Rattle.fr_reader.specs.UsualText.{inner_depth}
use Rattle.toml_parser.specs.Lexical.{first}
use Rattle.toml_parser.specs.Strings.{recursion_limit}
use Rattle.toml.proofs.Turns.{val_array}
use Rattle.toml.proofs.Views.{view-Array}
use Rattle.fr_reader.proofs.value.value.Goals as goal

pub returns-in_ok-values-clause-read : goal.returns-in_ok-values-clause-read
returns-in_ok-values-clause-read c =
    let s = c.args.text.now in
    let opens : (first s == 91) ≡ true = grind (arith, common_steps) in
    val_array inner_depth s opens
    ∙ rw (
      ← c.skip.ensures.rest,
      c.in_ok-values.ensures.read (length s) c.skip.ensures.shorter,
      view-Array c.in_ok-values.values,
    )

pub returns-in_ok-value-clause-read : goal.returns-in_ok-value-clause-read
returns-in_ok-value-clause-read c = c.in_ok-value.ensures.read recursion_limit (omega arith)
