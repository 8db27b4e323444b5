use Rattle.std.proofs.Common.{◌≡◌, ◌≤◌, ◌||◌, ℕ, ◌+◌, false, List, length, drop, ap, subst, ◌∙◌, arith}
use Rattle.std.specs.Io.KnownBytes.{Appends}
use Rattle.fr_showing.proofs.GoingLemmas.{left_here, nothing_left}
use Rattle.fr_capture.proofs.TakerLemmas.{goes_on, ends_text}
use Rattle.fr_capture.specs.declared.takers.Taker.{Taker}
use Rattle.fr_capture.specs.Takers.{after_commas}
use Rattle.fr_showing.specs.Takers.{takers_by_plans, takers_at}
use Rattle.fr_capture.specs.TakerSteps.{is_any}
use Rattle.fr_slots.specs.Plans.{Plan}
use Rattle.fr_showing.proofs.takers.write_planned.Goals as goal

pub loop-number-preserved : goal.loop-number-preserved
loop-number-preserved g c =
    let sent = c.args.sent.now in
    let p = sent.params.now in
    let r = sent.sealed.now in
    let n : ℕ = c.loop-number.number in
    let plan = c.index-plans-number.result in
    let now = g.W.Write.contents c.loop-number.writer in
    let mid = g.W.Write.contents c.write_more.new.writer in
    let part : List Taker = takers_at p plan r sent.channel n in
    let same : c.takers_at-takers.result ≡ part =
    c.takers_at-takers.ensures
    ∙ ap (takers_at p plan r sent.channel) c.from_number-node.ensures in
    goes_on false (takers_by_plans p r sent.channel 0 c.args.plans.now)
    (g.W.Write.contents c.args.writer.now) now mid c.loop-number.any c.in_ok-any.any
    (takers_by_plans p r sent.channel n (drop n c.args.plans.now)) part
    (takers_by_plans p r sent.channel (n + 1) (drop (n + 1) c.args.plans.now))
    (ap (λ (l : List Plan). takers_by_plans p r sent.channel n l)
    (left_here c.args.plans.now n plan c.loop-number-test.true c.index-plans-number.is))
    (subst (λ (ts : List Taker). Appends now mid (after_commas c.loop-number.any ts)) same c.in_ok-any.ensures.text)
    (c.in_ok-any.ensures.any ∙ ap (λ (ts : List Taker). c.loop-number.any || is_any ts) same)
    c.loop-number.invariant

pub returns-clause-text : goal.returns-clause-text
returns-clause-text g c =
    let sent = c.args.sent.now in
    let p = sent.params.now in
    let r = sent.sealed.now in
    let n : ℕ = c.loop-number.number in
    let le : length c.args.plans.now ≤ n = omega (arith, c.loop-number-test.false) in
    ends_text false (takers_by_plans p r sent.channel 0 c.args.plans.now) (g.W.Write.contents c.args.writer.now)
    (g.W.Write.contents c.loop-number.writer)
    c.loop-number.any (takers_by_plans p r sent.channel n (drop n c.args.plans.now))
    (ap (λ (l : List Plan). takers_by_plans p r sent.channel n l) (nothing_left c.args.plans.now n le))
    c.loop-number.invariant
