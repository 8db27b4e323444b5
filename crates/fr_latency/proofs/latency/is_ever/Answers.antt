use Rattle.std.proofs.Common.{◌≡◌, ◌+◌, sym, ap, ◌∙◌, arith, ◌||◌, ◌&&◌}
use Rattle.fr_slots.specs.Admission.{cycle_admitted}
use Rattle.fr_latency.specs.Below.{any_below}
use Rattle.fr_latency.specs.Latencies.{is_possible}
use Rattle.fr_latency.proofs.BelowLemmas.{any_none_below, any_more}
use Rattle.fr_latency.proofs.latency.is_ever.Goals as goal
use Rattle.fr_latency.proofs.latency.is_ever.Goals.{then-ever, else-ever+then-admitted, else-ever+else-admitted}

pub loop-number-init : goal.loop-number-init
loop-number-init c = sym (any_none_below (is_possible c.args.cluster.now c.args.plan.now c.args.buffer.now))

pub loop-number-preserved : goal.loop-number-preserved
loop-number-preserved c =
    let number = c.loop-number.number in
    let d = c.args.cluster.now in
    let plan = c.args.plan.now in
    let b = c.args.buffer.now in
    let admits : c.admits-admitted.result ≡ cycle_admitted b.filter.cycles number =
    c.admits-admitted.ensures ∙ ap (cycle_admitted b.filter.cycles) c.from_bits.ensures in
    let in_time = c.is_ever_in_time-in_time.ensures number in
    let so_far : c.loop-number.ever ≡ any_below (is_possible d plan b) number = c.loop-number.invariant in
    let here : is_possible d plan b number ≡ (c.admits-admitted.result && c.is_ever_in_time-in_time.result) =
    sym (ap (λ x. x && c.is_ever_in_time-in_time.result) admits
    ∙ ap (λ x. cycle_admitted b.filter.cycles number && x) in_time) in
    let more : any_below (is_possible d plan b) (number + 1)
    ≡ (c.loop-number.ever || (c.admits-admitted.result && c.is_ever_in_time-in_time.result)) =
    any_more (is_possible d plan b) number ∙ ap (λ x. x || is_possible d plan b number) (sym so_far)
    ∙ ap (λ x. c.loop-number.ever || x) here in
    elim c.if-ever.branch [
      | then-ever w ↦
          w.ever-is ∙ w.if-ever.true
          ∙ sym (more ∙ ap (λ x. x || (c.admits-admitted.result && c.is_ever_in_time-in_time.result)) w.if-ever.true)
      | else-ever+then-admitted w ↦
          w.ever-is ∙ sym (more ∙ ap (λ x. x || (c.admits-admitted.result && c.is_ever_in_time-in_time.result))
          w.if-ever.false
          ∙ ap (λ x. x && c.is_ever_in_time-in_time.result) w.if-admitted.true)
      | else-ever+else-admitted w ↦
          w.ever-is ∙ w.if-admitted.false
          ∙ sym (more ∙ ap (λ x. x || (c.admits-admitted.result && c.is_ever_in_time-in_time.result)) w.if-ever.false
          ∙ ap (λ x. x && c.is_ever_in_time-in_time.result) w.if-admitted.false)
    ]

pub returns : goal.returns
returns c =
    let all : c.loop-number.number ≡ 64 = omega arith in
    c.loop-number.invariant ∙ ap (any_below (is_possible c.args.cluster.now c.args.plan.now c.args.buffer.now)) all
