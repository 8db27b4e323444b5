use Rattle.std.proofs.Common.{◌≡◌, ◌++◌, None, List, subst}
use Rattle.std.specs.Prelude.{OnOk}
use Rattle.std.specs.Io.KnownBytes.{Appends}
use Rattle.fr_capture.proofs.TakerLemmas.{after_both, any_answered}
use Rattle.fr_capture.specs.declared.takers.Taker.{Taker}
use Rattle.fr_capture.specs.Takers.{after_commas, taker_if}
use Rattle.fr_capture.specs.TakerSteps.{buffers_by, takers_by}
use Rattle.fr_capture.proofs.takers.write_any.Goals as goal

pub returns-clause-text : goal.returns-clause-text
returns-clause-text g c =
    let o = c.args.observed.now in
    let w = o.window.now in
    let old = g.W.Write.contents c.args.writer.now in
    let new = g.W.Write.contents c.write_if.new.writer in
    let xs : List Taker = buffers_by w o.came.a o.came.b o.channel o.node 0 c.buffers.result.now in
    let ys : List Taker = taker_if c.queue_takes-takes.result o.node None in
    let all : xs ++ ys ≡ takers_by c.args.plan.now w o.came.a o.came.b o.channel o.node =
    (λ i. buffers_by w o.came.a o.came.b o.channel o.node 0 (c.buffers.ensures.value i) ++ taker_if
    (c.queue_takes-takes.ensures i) o.node None) in
    subst (λ (ts : List Taker). OnOk c.write_if.result (Appends old new (after_commas c.args.any ts))) all
    (after_both c.write_if.result c.args.any c.in_ok-any.any old (g.W.Write.contents c.write_buffers.new.writer) new
    xs ys c.in_ok-any.ensures.text c.in_ok-any.ensures.any
    c.write_if.ensures.text)

pub returns-clause-any : goal.returns-clause-any
returns-clause-any g c =
    let o = c.args.observed.now in
    let w = o.window.now in
    let xs : List Taker = buffers_by w o.came.a o.came.b o.channel o.node 0 c.buffers.result.now in
    let ys : List Taker = taker_if c.queue_takes-takes.result o.node None in
    let all : xs ++ ys ≡ takers_by c.args.plan.now w o.came.a o.came.b o.channel o.node =
    (λ i. buffers_by w o.came.a o.came.b o.channel o.node 0 (c.buffers.ensures.value i) ++ taker_if
    (c.queue_takes-takes.ensures i) o.node None) in
    any_answered c.write_if.result c.args.any c.in_ok-any.any xs ys _ c.in_ok-any.ensures.any all
    c.write_if.ensures.any
