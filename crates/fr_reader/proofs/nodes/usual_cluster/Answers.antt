use Rattle.std.proofs.Common.{◌≡◌, ◌==◌, suc, length, false, [], None, Ok, refl, rules, arith, sym, ◌∙◌}
use Rattle.std.proofs.lemmas.Grind.{common_steps}
use Rattle.fr_reader.proofs.NodeLemmas.{usual_described}
use Rattle.fr_reader.specs.UsualText.{node_key}
use Rattle.fr_schedule.specs.Files.{described_by, params_in, guard_in}
use Rattle.fr_schedule.specs.TableReading.{values_of}
use Rattle.toml_parser.specs.Lexical.{first}
use Rattle.toml.specs.Data.{get_member}
use Rattle.toml.specs.Tables.{no_nodes}
use Rattle.toml.specs.View.{table_view}
use Rattle.fr_reader.proofs.nodes.usual_cluster.Goals as goal

pub from_plans-requires-clause-read : goal.from_plans-requires-clause-read
from_plans-requires-clause-read c =
    let text = c.in_ok-root.rest.now in
    let reached = c.in_ok-plans.ensures.read no_nodes [] refl (suc (length text)) (omega arith) in
    (values_of reached.done, reached.plans_are)

pub returns-in-Ok-clause-told : goal.returns-in-Ok-clause-told
returns-in-Ok-clause-told c =
    let text = c.args.text.now in
    let root = table_view c.in_ok-root.root in
    let params = c.in_ok-params.params in
    let guard = c.in_ok-guard.guard in
    let plans = c.in_ok-plans.plans.items in
    let no_mark : (first text == 0xEF) ≡ false = grind (arith, common_steps) in
    let no_node : get_member node_key root ≡ None = search rules in
    let params_are : params_in root ≡ Ok params = search rules in
    let guard_is : guard_in root ≡ Ok guard = search rules in
    let told : c.from_plans.result ≡ described_by params guard plans =
    c.from_plans.ensures.told (λ memory. cc (sym memory ∙ c.in-Ok.is)) in
    usual_described text c.in_ok-root.rest.now c.in_ok-plans.field-0-1.now root params guard plans no_mark
    c.in_ok-root.ensures c.in_ok-plans.ensures.read c.in_ok-plans.ensures.ends no_node params_are guard_is
    c.in_ok-plans.ensures.some c.in_ok-plans.ensures.few
    ∙ sym told ∙ c.in-Ok.is
