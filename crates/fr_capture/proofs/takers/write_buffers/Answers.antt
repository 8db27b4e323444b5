use Rattle.std.proofs.Common.{◌≤◌, ◌||◌, Some, ℕ, ◌+◌, Bool, List, ◌∷◌, length, drop, ap, sym, subst, ◌∙◌, arith}
use Rattle.std.specs.Io.KnownBytes.{Appends}
use Rattle.fr_capture.proofs.TakerLemmas.{goes_on, ends_text}
use Rattle.std.proofs.lemmas.List.{drop_all, drop_more}
use Rattle.fr_capture.specs.declared.takers.Taker.{Taker}
use Rattle.fr_capture.specs.Takers.{after_commas, taker_if}
use Rattle.fr_capture.specs.TakerSteps.{buffers_by, is_any}
use Rattle.fr_capture.specs.TakingSteps.{takes_by}
use Rattle.fr_slots.specs.declared.plan.Buffer.{Buffer}
use Rattle.fr_capture.proofs.takers.write_buffers.Goals as goal

pub loop-number-preserved : goal.loop-number-preserved
loop-number-preserved g c =
    let o = c.args.observed.now in
    let w = o.window.now in
    let n : ℕ = c.loop-number.number in
    let line = c.index-lines-number.result in
    let now = g.W.Write.contents c.loop-number.writer in
    let mid = g.W.Write.contents c.write_if.new.writer in
    let all : List Taker = buffers_by w o.came.a o.came.b o.channel o.node 0 c.args.lines.now in
    let left : List Taker = buffers_by w o.came.a o.came.b o.channel o.node n (drop n c.args.lines.now) in
    let rest : List Taker = buffers_by w o.came.a o.came.b o.channel o.node (n + 1) (drop (n + 1) c.args.lines.now) in
    let part : List Taker = taker_if (takes_by w o.came.a o.came.b o.channel line) o.node (Some n) in
    goes_on c.args.any all (g.W.Write.contents c.args.writer.now) now mid c.loop-number.any c.in_ok-any.any left part
    rest
    (ap (λ (l : List Buffer). buffers_by w o.came.a o.came.b o.channel o.node n l)
    (drop_more c.args.lines.now n line c.loop-number-test.true ∙ ap
    (λ (b : Buffer). b ∷ drop (n + 1) c.args.lines.now) (sym c.index-lines-number.is)))
    (subst (λ (t : Bool). Appends now mid (after_commas c.loop-number.any (taker_if t o.node (Some n))))
    {y = takes_by w o.came.a o.came.b o.channel line} c.takes-takes.ensures c.in_ok-any.ensures.text)
    (c.in_ok-any.ensures.any ∙ ap (λ (t : Bool). c.loop-number.any || is_any (taker_if t o.node (Some n)))
    {y = takes_by w o.came.a o.came.b o.channel line} c.takes-takes.ensures)
    c.loop-number.invariant

pub returns-clause-text : goal.returns-clause-text
returns-clause-text g c =
    let o = c.args.observed.now in
    let w = o.window.now in
    let n : ℕ = c.loop-number.number in
    let le : length c.args.lines.now ≤ n = omega (arith, c.loop-number-test.false) in
    ends_text c.args.any (buffers_by w o.came.a o.came.b o.channel o.node 0 c.args.lines.now)
    (g.W.Write.contents c.args.writer.now)
    (g.W.Write.contents c.loop-number.writer) c.loop-number.any
    (buffers_by w o.came.a o.came.b o.channel o.node n (drop n c.args.lines.now))
    (ap (λ (l : List Buffer). buffers_by w o.came.a o.came.b o.channel o.node n l)
    (drop_all n c.args.lines.now le)) c.loop-number.invariant
