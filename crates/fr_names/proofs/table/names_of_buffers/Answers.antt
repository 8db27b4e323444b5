use Rattle.std.proofs.Common.{◌≡◌, ℕ, List, [], ◌∷◌, ◌++◌, Option, rules, arith, ap, ◌∙◌}
use Rattle.fr_names.proofs.MapLemmas.{mapped_more, mapped_all, length-mapped}
use Rattle.fr_names.specs.FileNames.{name_of}
use Rattle.toml.specs.View.{view}
use Rattle.fr_names.proofs.table.names_of_buffers.Goals as goal

pub loop-value-preserved : goal.loop-value-preserved
loop-value-preserved c =
    let pushed : c.push.new.self.items ≡ c.loop-value.names.items ++ c.in_ok-name.name ∷ [] = search rules in
    pushed
    ∙ ap (λ (name : Option (List ℕ)). c.loop-value.names.items ++ name ∷ []) c.in_ok-name.ensures
    ∙ mapped_more name_of view c.args.values.now c.loop-value.value-index c.value-item.result c.loop-value.names.items
    c.loop-value-test.true c.value-item.is c.loop-value.invariant

pub returns-clause-names : goal.returns-clause-names
returns-clause-names c =
    mapped_all name_of view c.args.values.now c.loop-value.value-index c.loop-value.names.items
    (omega (arith, c.loop-value-test.false)) c.loop-value.invariant

pub returns-clause-len : goal.returns-clause-len
returns-clause-len c =
    length-mapped name_of view c.args.values.now c.loop-value.names.items
    (mapped_all name_of view c.args.values.now c.loop-value.value-index c.loop-value.names.items
    (omega (arith, c.loop-value-test.false)) c.loop-value.invariant)
