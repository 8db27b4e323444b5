use Rattle.std.proofs.Common.{ℕ, refl, subst}
use Rattle.std.proofs.lemmas.Option.{slice_get_read}
use Rattle.std.specs.Io.KnownBytes.{Appends}
use Rattle.fr_files.proofs.NodeTextLemmas.{no_node, one_node}
use Rattle.fr_streaming.specs.Received.{node_text}
use Rattle.fr_streaming.proofs.received.write_nodes.Goals as goal

pub loop-number-init : goal.loop-number-init
loop-number-init g c =
    no_node (node_text c.args.params.now c.args.cycle c.args.sealed.now) c.args.plans.now
    (g.W.Write.contents c.args.writer.now)

pub loop-number-preserved : goal.loop-number-preserved
loop-number-preserved g c =
    let p = c.args.params.now in
    let r = c.args.sealed.now in
    let number : ℕ = c.loop-number.number in
    let plan = c.index-plans-number.result in
    let before = g.W.Write.contents c.loop-number.writer in
    let after = g.W.Write.contents c.write_node.new.writer in
    one_node (node_text p c.args.cycle r) c.args.plans.now number plan (g.W.Write.contents c.args.writer.now) before
    after
    (slice_get_read c.args.plans.now _ number plan refl c.loop-number-test.true c.index-plans-number.is)
    c.loop-number.invariant
    (subst (λ (node : ℕ). Appends before after (node_text p c.args.cycle r node plan)) c.from_number-node.ensures
    c.in_ok-write_node.ensures)
