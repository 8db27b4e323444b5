use Rattle.std.proofs.Common.{sym, ◌∙◌, arith, leb, not, ◌||◌}
use Rattle.std.proofs.lemmas.Bool.{le-leb}
use Rattle.fr_slots.specs.Admission.{cycle_admitted}
use Rattle.fr_latency.specs.Below.{all_below, any_below}
use Rattle.fr_latency.specs.Latencies.{is_guaranteed, is_possible}
use Rattle.fr_latency.proofs.StateLemmas.{by_all, by_ever, by_never}
use Rattle.fr_latency.proofs.latency.state_of.Goals as goal

pub returns-then-are_all : goal.returns-then-are_all
returns-then-are_all c =
    let d = c.args.cluster.now in
    let plan = c.args.plan.now in
    let b = c.args.buffer.now in
    let all = sym (c.are_all.ensures (is_guaranteed d plan b) c.requires) ∙ c.if-are_all.true in
    by_all (leb 1 plan.tasks)
    (all_below (λ cycle. not (cycle_admitted b.filter.cycles cycle) || is_guaranteed d plan b cycle) 64)
    (any_below (is_possible d plan b) 64)
    (le-leb 1 plan.tasks (omega arith)) all

pub returns-then-is_ever : goal.returns-then-is_ever
returns-then-is_ever c =
    let d = c.args.cluster.now in
    let plan = c.args.plan.now in
    let b = c.args.buffer.now in
    let all = sym (c.are_all.ensures (is_guaranteed d plan b) c.requires) ∙ c.if-are_all.false in
    by_ever (leb 1 plan.tasks)
    (all_below (λ cycle. not (cycle_admitted b.filter.cycles cycle) || is_guaranteed d plan b cycle) 64)
    (any_below (is_possible d plan b) 64)
    (le-leb 1 plan.tasks (omega arith)) all (sym c.is_ever.ensures ∙ c.if-is_ever.true)

pub returns-else-is_ever : goal.returns-else-is_ever
returns-else-is_ever c =
    let d = c.args.cluster.now in
    let plan = c.args.plan.now in
    let b = c.args.buffer.now in
    let all = sym (c.are_all.ensures (is_guaranteed d plan b) c.requires) ∙ c.if-are_all.false in
    by_never (leb 1 plan.tasks)
    (all_below (λ cycle. not (cycle_admitted b.filter.cycles cycle) || is_guaranteed d plan b cycle) 64)
    (any_below (is_possible d plan b) 64)
    (le-leb 1 plan.tasks (omega arith)) all (sym c.is_ever.ensures ∙ c.if-is_ever.false)
