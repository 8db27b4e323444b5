use Rattle.std.proofs.Common.{◌≡◌, [], ◌∷◌, ◌++◌, rules, arith, ap, ◌∙◌}
use Rattle.fr_names.proofs.MapLemmas.{mapped_more, mapped_all, length-mapped}
use Rattle.fr_names.specs.FileNames.{names_of_node}
use Rattle.fr_names.specs.Names.{NamesOfNode}
use Rattle.toml.specs.View.{view}
use Rattle.fr_names.proofs.names.names_of_nodes.Goals as goal

pub loop-value-preserved : goal.loop-value-preserved
loop-value-preserved c =
    let pushed : c.push.new.self.items ≡ c.loop-value.nodes.items ++ c.in_ok-node.node ∷ [] = search rules in
    pushed
    ∙ ap (λ (node : NamesOfNode). c.loop-value.nodes.items ++ node ∷ []) c.in_ok-node.ensures
    ∙ mapped_more names_of_node view c.args.values.now c.loop-value.value-index c.value-item.result
    c.loop-value.nodes.items c.loop-value-test.true c.value-item.is c.loop-value.invariant

pub returns-clause-names : goal.returns-clause-names
returns-clause-names c =
    mapped_all names_of_node view c.args.values.now c.loop-value.value-index c.loop-value.nodes.items
    (omega (arith, c.loop-value-test.false)) c.loop-value.invariant

pub returns-clause-len : goal.returns-clause-len
returns-clause-len c =
    length-mapped names_of_node view c.args.values.now c.loop-value.nodes.items
    (mapped_all names_of_node view c.args.values.now c.loop-value.value-index c.loop-value.nodes.items
    (omega (arith, c.loop-value-test.false)) c.loop-value.invariant)
