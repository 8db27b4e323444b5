use Rattle.std.proofs.Common.{◌≡◌, ℕ, ◌+◌, ◌-◌, true, sym, ap, ◌∙◌, subst, arith, get_or}
use Rattle.fr_latency.specs.Openings.{can_begin, last_begin}
use Rattle.fr_latency.proofs.WayLemmas.{begins_last}
use Rattle.fr_latency.proofs.way.way_to.Goals as goal

pub way_in-requires-clause-begins : goal.way_in-requires-clause-begins
way_in-requires-clause-begins c =
    let d = c.args.cluster.now in
    let on = c.args.channel in
    let cycle = c.worst_cycle-cycle.result in
    let count = c.number.result - (c.behind-cluster-2.inside.static_slots + 1) in
    let starts = c.starts_of-starts.result in
    let at : c.from.result ≡ cycle = c.from.ensures ∙ c.number-2.ensures.value in
    let start : get_or starts c.from.result 0 ≡ last_begin d on cycle count =
    c.starts_of-starts.ensures c.from.result (omega (arith, at, c.number-2.ensures.fits))
    ∙ ap (λ (n : ℕ). last_begin d on n count) at in
    subst (λ (m : ℕ). can_begin d on cycle count m ≡ true) (sym start) (begins_last d on cycle count)
