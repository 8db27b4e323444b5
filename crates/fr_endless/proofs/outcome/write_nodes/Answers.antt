use Rattle.std.proofs.Common.{◌≡◌, ℕ, ◌<◌, ◌∙◌, List, length, get_or, sym, ap, subst, arith}
use Rattle.fr_interface.specs.Standing.{Standing}
use Rattle.fr_endless.proofs.OutcomeLemmas.{none_kept, one_kept, all_kept}
use Rattle.fr_endless.proofs.outcome.write_nodes.Goals as goal

pub loop-node-init : goal.loop-node-init
loop-node-init g c = none_kept c.args.world.now (g.W.Write.contents c.args.writer.now)

pub loop-node-preserved : goal.loop-node-preserved
loop-node-preserved g c =
    let l = c.args.world.now in
    let n : ℕ = c.loop-node.node in
    let h = c.index-interfaces-node.result in
    let same = c.interfaces-interfaces.ensures in
    one_kept l n h c.in-Some.count c.buffers-buffers.result.now (g.W.Write.contents c.args.writer.now)
    (g.W.Write.contents c.loop-node.writer) (g.W.Write.contents c.write_node.new.writer)
    (subst (λ (hs : List Standing). n < length hs) same c.loop-node-test.true)
    (subst (λ (hs : List Standing). h ≡ get_or hs n h) same c.index-interfaces-node.is) c.buffers-buffers.ensures
    (sym c.count_at.ensures ∙ c.in-Some.is) c.loop-node.invariant c.in_ok-write_node.ensures

pub returns : goal.returns
returns g c =
    let many : length c.interfaces-interfaces.result.now ≡ length c.args.world.now.interfaces =
    ap (length {A = Standing}) c.interfaces-interfaces.ensures in
    all_kept c.args.world.now c.loop-node.node (g.W.Write.contents c.args.writer.now)
    (g.W.Write.contents c.loop-node.writer) c.loop-node.invariant
    (omega (arith, c.loop-node-test.false, c.loop-node.auto.node-end, many))
