use Rattle.std.proofs.Common.{◌≡◌, false, sym, ap, ◌∙◌, ◌&&◌, not}
use Rattle.std.proofs.lemmas.Bool.{and_left, cond-false}
use Rattle.fr_slots.specs.Admission.{cycle_admitted, includes}
use Rattle.fr_slots.specs.Faults.{transmits}
use Rattle.fr_slots.specs.Parameters.{Parameters, is_static_slot}
use Rattle.fr_latency.specs.Loads.{spare_in}
use Rattle.fr_latency.proofs.UsedLemmas.{least_same}
use Rattle.fr_latency.proofs.load.spare_for.Goals as goal

pub returns-then-not-transmits : goal.returns-then-not-transmits
returns-then-not-transmits c =
    let d = c.args.cluster.now in
    let plan = c.args.plan.now in
    let b = c.args.buffer.now in
    let silent : transmits b ≡ false = sym c.transmits.ensures ∙ c.if-not-transmits.true in
    ap (λ (p : Parameters). p.minislots) (c.behind-cluster.view_is ∙ c.params.ensures.value)
    ∙ sym (least_same d.params.minislots (spare_in d c.args.channel plan b) 64
    (λ cycle. cond-false _ _ d.params.minislots
    (and_left _ (includes b.filter.channels c.args.channel && cycle_admitted b.filter.cycles cycle)
    (and_left (transmits b) (not (is_static_slot d.params b.filter.slot)) silent))))
