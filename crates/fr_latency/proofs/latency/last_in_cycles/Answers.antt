use Rattle.std.proofs.Common.{◌≡◌, ℕ, sym, ap, ◌∙◌, arith}
use Rattle.std.proofs.lemmas.Grind.{common_steps}
use Rattle.std.specs.Prelude.{if◌then◌else◌, slice_index}
use Rattle.fr_slots.specs.Admission.{cycle_admitted}
use Rattle.fr_latency.specs.Below.{most_below}
use Rattle.fr_latency.specs.Latencies.{last_opening_of}
use Rattle.fr_latency.proofs.BelowLemmas.{most_none, most_more}
use Rattle.fr_latency.proofs.latency.last_in_cycles.Goals as goal
use Rattle.fr_latency.proofs.latency.last_in_cycles.Goals.{then-admits, else-admits}

pub loop-number-init : goal.loop-number-init
loop-number-init c = sym (most_none (λ cycle. if cycle_admitted c.args.buffer.now.filter.cycles cycle
    then last_opening_of c.args.cluster.now c.args.buffer.now cycle else 0))

pub loop-number-preserved : goal.loop-number-preserved
loop-number-preserved c =
    let number = c.loop-number.number in
    let b = c.args.buffer.now in
    let cycles = b.filter.cycles in
    let value = λ (cycle : ℕ). if cycle_admitted cycles cycle then last_opening_of c.args.cluster.now b cycle else 0 in
    let admits : c.admits.result ≡ cycle_admitted cycles number =
    c.admits.ensures ∙ ap (cycle_admitted cycles) c.from_bits.ensures in
    let opening : slice_index c.args.row.now.opening number ≡ last_opening_of c.args.cluster.now b number =
    (c.requires.row c.requires.dynamic).openings number (omega arith) in
    let so_far : c.loop-number.most ≡ most_below value number = c.loop-number.invariant in
    let more = most_more value number in
    elim c.if-admits.branch [
      | then-admits w ↦ grind (arith, common_steps)
      | else-admits w ↦ grind (arith, common_steps)
    ]
