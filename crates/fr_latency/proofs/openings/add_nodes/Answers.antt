use Rattle.std.proofs.Common.{◌≡◌, ◌<◌, ◌≤◌, List, length, get_or, slice_get, Some, sym, subst, refl}
use Rattle.std.proofs.lemmas.Option.{slice_get_read}
use Rattle.fr_slots.specs.Faults.{latest_on}
use Rattle.fr_slots.specs.Parameters.{Parameters}
use Rattle.fr_slots.specs.Plans.{Plan}
use Rattle.fr_latency.specs.Cells.{AddsTo}
use Rattle.fr_latency.specs.Openings.{follows_node}
use Rattle.fr_latency.proofs.CellLemmas.{adds_item, adds_items}
use Rattle.fr_latency.proofs.StepLemmas.{latest_fits}
use Rattle.fr_latency.proofs.openings.add_nodes.Goals as goal

pub add_node-requires-clause-latest : goal.add_node-requires-clause-latest
add_node-requires-clause-latest c =
    let d = c.args.cluster.now in
    let index = c.loop-plan.plan-index in
    let here = slice_get_read c.plans-plan-items.result.now _ index c.plan-item.result refl c.loop-plan-test.true
    c.plan-item.is in
    let at : slice_get d.plans index ≡ Some c.plan-item.result =
    subst (λ (plans : List Plan). slice_get plans index ≡ Some c.plan-item.result) c.plans-plan-items.ensures.value
    here in
    subst (λ (p : Parameters). latest_on c.plan-item.result c.args.channel ≤ p.minislots) (sym c.params.ensures.value)
    (latest_fits d c.requires.lawful index c.plan-item.result at c.args.channel)

pub loop-plan-preserved : goal.loop-plan-preserved
loop-plan-preserved c =
    let d = c.args.cluster.now in
    let index = c.loop-plan.plan-index in
    let item = c.plan-item.result in
    let same : c.plans-plan-items.result.now ≡ d.plans = c.plans-plan-items.ensures.value in
    let within : index < length d.plans =
    subst (λ (plans : List Plan). index < length plans) same c.loop-plan-test.true in
    let is : item ≡ get_or d.plans index item =
    subst (λ (plans : List Plan). item ≡ get_or plans index item) same c.plan-item.is in
    let here = subst (λ (p : Parameters). AddsTo c.args.earlier
    (λ test cycle minislot. follows_node p c.args.slot c.args.channel cycle (test cycle) minislot item)
    c.args.before.now c.loop-plan.after c.add_node.new.after) c.params.ensures.value c.add_node.ensures in
    adds_item c.args.earlier
    (λ plan test cycle minislot. follows_node d.params c.args.slot c.args.channel cycle (test cycle) minislot plan)
    c.args.before.now c.args.after.now c.loop-plan.after c.add_node.new.after d.plans index item within is
    c.loop-plan.invariant here

pub returns : goal.returns
returns c =
    let d = c.args.cluster.now in
    let same : c.plans-plan-items.result.now ≡ d.plans = c.plans-plan-items.ensures.value in
    let all : length d.plans ≤ c.loop-plan.plan-index =
    subst (λ (plans : List Plan). length plans ≤ c.loop-plan.plan-index) same c.loop-plan-test.false in
    adds_items c.args.earlier
    (λ plan test cycle minislot. follows_node d.params c.args.slot c.args.channel cycle (test cycle) minislot plan)
    c.args.before.now c.args.after.now c.loop-plan.after d.plans c.loop-plan.plan-index all c.loop-plan.invariant
