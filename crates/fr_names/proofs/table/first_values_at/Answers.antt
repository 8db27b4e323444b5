use Rattle.std.proofs.Common.{map, take, sym, ap, ◌∙◌}
use Rattle.std.proofs.lemmas.List.{take-map}
use Rattle.toml.specs.View.{view}
use Rattle.fr_names.proofs.table.first_values_at.Goals as goal

pub returns-clause-value : goal.returns-clause-value
returns-clause-value c =
    ap (map view) c.first_of.ensures.value
    ∙ sym (take-map view c.args.most c.values_at-values.result.now)
    ∙ ap (take c.args.most) c.values_at-values.ensures
