use Rattle.std.proofs.Common.{◌≡◌, false, ltb, sym, ap, ◌∙◌, ◌||◌}
use Rattle.fr_slots.specs.declared.channel.Channel.{Channel}
use Rattle.fr_slots.specs.Faults.{latest_on}
use Rattle.fr_slots.specs.Parameters.{Parameters, is_static_slot}
use Rattle.fr_latency.specs.Latencies.{before_slot, channel_of, is_ever_in_time, latest_for}
use Rattle.fr_latency.proofs.RowLemmas.{begins_in_time}
use Rattle.fr_latency.proofs.latency.is_ever_in_time.Goals as goal

pub returns-else-is_static : goal.returns-else-is_static
returns-else-is_static c = λ cycle.
    let d = c.args.cluster.now in
    let plan = c.args.plan.now in
    let b = c.args.buffer.now in
    let static : is_static_slot d.params b.filter.slot ≡ false =
    ap (λ (p : Parameters). is_static_slot p b.filter.slot) (sym c.params.ensures.value) ∙ sym c.is_static.ensures
    ∙ c.if-is_static.false in
    let latest : c.latest.result ≡ latest_for plan b =
    c.latest.ensures.value ∙ ap (λ (channel : Channel). latest_on plan channel) c.channel_of.ensures in
    ap (λ n. ltb n c.latest.result) c.before_slot.ensures.value
    ∙ ap (λ n. ltb (before_slot d b) n) latest
    ∙ begins_in_time d (channel_of b.filter.channels) cycle (before_slot d b) (latest_for plan b)
    c.params.ensures.lawful
    ∙ ap (λ x. x || is_ever_in_time d plan b cycle) (sym static)
