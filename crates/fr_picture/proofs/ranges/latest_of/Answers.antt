use Rattle.std.proofs.Common.{◌≡◌, ◌+◌, ◌<◌, ℕ, true, length, rules, arith, ap, subst, sym, ◌∙◌, []}
use Rattle.std.proofs.lemmas.Option.{slice_get-get_or}
use Rattle.std.specs.Prelude.{slice_index, slice_index_or}
use Rattle.fr_latency.specs.declared.openings.Row.{Row}
use Rattle.fr_latency.specs.Openings.{is_used, last_opening, slot_after, slots_before}
use Rattle.fr_picture.proofs.RangeLemmas.{slot_again}
use Rattle.fr_slots.specs.Numbers.{last_slot}
use Rattle.fr_picture.proofs.ranges.latest_of.Goals as goal

pub bounds-rows-from : goal.bounds-rows-from
bounds-rows-from c =
    let d = c.args.cluster.now in
    let are = c.rows_of-rows.ensures d c.requires.openings in
    let within : d.params.static_slots + c.from.result < last_slot = search rules in
    omega (arith, are.size, within)

pub returns : goal.returns
returns c =
    let d = c.args.cluster.now in
    let p = d.params in
    let rows = c.rows_of-rows.result.now in
    let earlier = c.from.result in
    let none : Row = record { begin = []; opening = [] } in
    let are = c.rows_of-rows.ensures d c.requires.openings in
    let within : p.static_slots + earlier < last_slot = search rules in
    let inside : earlier < length rows = omega (arith, are.size, within) in
    let before_is : earlier ≡ slots_before p c.args.slot = search rules in
    let cycle_is : c.from-2.result ≡ c.args.cycle = search rules in
    let fits : c.args.cycle < 64 = search rules in
    let slot_is : slot_after p earlier ≡ c.args.slot =
    ap (slot_after p) before_is ∙ slot_again p c.args.slot c.requires.dynamic in
    let used : is_used d.plans (slot_after p earlier) c.args.channel ≡ true =
    subst (λ (n : ℕ). is_used d.plans n c.args.channel ≡ true) (sym slot_is) c.requires.used in
    let row_is = are.each earlier (slice_index_or rows earlier none) (slice_get-get_or rows earlier none inside) used in
    let value : slice_index (slice_index_or rows earlier none).opening c.args.cycle
    ≡ last_opening d c.args.channel c.args.cycle earlier = row_is.openings c.args.cycle fits in
    ap (slice_index (slice_index_or rows earlier none).opening) cycle_is
    ∙ (value ∙ ap (last_opening d c.args.channel c.args.cycle) before_is)
