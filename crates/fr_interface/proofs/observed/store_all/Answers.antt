use Rattle.std.proofs.Common.{◌≡◌, ℕ, ◌+◌, ◌<◌, suc, ap, ◌∙◌, sym, List, length, take, set, get_or, Option, arith}
use Rattle.std.specs.Option.{option_or}
use Rattle.fr_interface.specs.declared.index.LineRange.{LineRange}
use Rattle.fr_interface.specs.Known.{stored_all, taken_by}
use Rattle.fr_interface.specs.Ranges.{joined}
use Rattle.fr_interface.proofs.RangeLemmas.{joined-ends, stored-before, stored-within}
use Rattle.fr_interface.proofs.ReceiveLemmas.{stored_all-more}
use Rattle.fr_journal.specs.declared.entry.Arrival.{Arrival}
use Rattle.fr_slots.specs.Plans.{Plan}
use Rattle.fr_interface.proofs.observed.store_all.Goals as goal

pub loop-place-init : goal.loop-place-init
loop-place-init c =
    let n = c.args.moment in
    let w = c.args.window.now in
    let a = c.args.a.now in
    let b = c.args.b.now in
    let old = c.args.buffers.now in
    let lines : c.buffers-lines.result.now ≡ c.args.plan.now.buffers =
    c.buffers-lines.ensures.value ∙ ap (λ (p : Plan). p.buffers) c.as_plan.ensures in
    let first : c.from-place.result ≡ (joined c.taking_range-range_a.result c.taking_range-range_b.result).first =
    c.from-place.ensures ∙ ap (λ (r : LineRange). r.first) c.joined-range.ensures in
    sym ((λ i. stored_all n w a b (take (first i) (lines i)) old)
    ∙ stored-before n w a b c.args.plan.now.buffers c.taking_range-range_a.result c.taking_range-range_b.result
    c.taking_range-range_a.ensures c.taking_range-range_b.ensures old)

pub loop-place-preserved : goal.loop-place-preserved
loop-place-preserved c =
    let n = c.args.moment in
    let w = c.args.window.now in
    let a = c.args.a.now in
    let b = c.args.b.now in
    let lines = c.buffers-lines.result.now in
    let old = c.args.buffers.now in
    let place = c.loop-place.place in
    let line = c.index-lines-place.result in
    let held = c.index-buffers-place.result in
    let so_far = stored_all n w a b (take place lines) old in
    let lines_are : length lines ≡ length c.args.plan.now.buffers =
    ap length (c.buffers-lines.ensures.value ∙ ap (λ (p : Plan). p.buffers) c.as_plan.ensures) in
    let range_a = c.taking_range-range_a.ensures in
    let range_b = c.taking_range-range_b.ensures in
    let ends = joined-ends (length c.args.plan.now.buffers) c.taking_range-range_a.result c.taking_range-range_b.result
    (range_a.ordered, range_a.ends) (range_b.ordered, range_b.ends) in
    let end : c.from-place-end.result ≡ (joined c.taking_range-range_a.result c.taking_range-range_b.result).end =
    c.from-place-end.ensures ∙ ap (λ (r : LineRange). r.end) c.joined-range.ensures in
    let below : place < length lines = omega (arith, c.loop-place-test.true, end, ends.1, lines_are) in
    let same : length old ≡ length lines = omega (arith, c.requires, lines_are) in
    let new : c.store_in.new.buffer ≡ option_or (taken_by n w a b line) held =
    c.store_in.ensures ∙ (λ i. option_or (taken_by n w a b line) (sym c.index-buffers-place.is i)) in
    let next : suc place ≡ place + 1 = omega arith in
    (λ i. set (c.loop-place.invariant i) place (new i))
    ∙ stored_all-more n w a b lines old place line held below same c.index-lines-place.is
    (c.index-buffers-place.is ∙ ap (λ (l : List (Option Arrival)). get_or l place held) c.loop-place.invariant)
    ∙ ap (λ (m : ℕ). stored_all n w a b (take m lines) old) next

pub returns : goal.returns
returns c =
    let n = c.args.moment in
    let w = c.args.window.now in
    let a = c.args.a.now in
    let b = c.args.b.now in
    let old = c.args.buffers.now in
    let range_a = c.taking_range-range_a.result in
    let range_b = c.taking_range-range_b.result in
    let lines : c.buffers-lines.result.now ≡ c.args.plan.now.buffers =
    c.buffers-lines.ensures.value ∙ ap (λ (p : Plan). p.buffers) c.as_plan.ensures in
    let end : c.from-place-end.result ≡ (joined range_a range_b).end =
    c.from-place-end.ensures ∙ ap (λ (r : LineRange). r.end) c.joined-range.ensures in
    let first : c.from-place.result ≡ (joined range_a range_b).first =
    c.from-place.ensures ∙ ap (λ (r : LineRange). r.first) c.joined-range.ensures in
    let of_a = c.taking_range-range_a.ensures in
    let of_b = c.taking_range-range_b.ensures in
    let ends = joined-ends (length c.args.plan.now.buffers) range_a range_b (of_a.ordered, of_a.ends)
    (of_b.ordered, of_b.ends) in
    let place : c.loop-place.place ≡ (joined range_a range_b).end =
    omega (arith, first, end, ends.0, c.loop-place-test.false, c.loop-place.auto.place-end) in
    c.loop-place.invariant
    ∙ (λ i. stored_all n w a b (take (place i) (lines i)) old)
    ∙ stored-within n w a b c.args.plan.now.buffers range_a range_b c.taking_range-range_a.ensures
    c.taking_range-range_b.ensures old
