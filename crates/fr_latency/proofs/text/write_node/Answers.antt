use Rattle.std.proofs.Common.{◌≡◌, List, Some, slice_get, refl, subst}
use Rattle.std.proofs.lemmas.Option.{slice_get_read}
use Rattle.fr_files.proofs.NodeTextLemmas.{no_node, one_node}
use Rattle.fr_slots.specs.declared.plan.Buffer.{Buffer}
use Rattle.fr_latency.specs.LatencyText.{buffer_text}
use Rattle.fr_latency.proofs.UsedLemmas.{used_of}
use Rattle.fr_latency.proofs.text.write_node.Goals as goal

pub loop-number-init : goal.loop-number-init
loop-number-init g c = no_node (buffer_text c.args.cluster.now c.args.node c.args.plan.now) c.args.plan.now.buffers
    (g.W.Write.contents c.args.writer.now)

pub write_buffer-requires-clause-used : goal.write_buffer-requires-clause-used
write_buffer-requires-clause-used g c =
    let index = c.loop-number.number in
    let here = slice_get_read c.buffers-buffer-items.result.now _ index c.buffer-item.result refl
    c.loop-number-test.true
    c.buffer-item.is in
    let there = subst (λ (bs : List Buffer). slice_get bs index ≡ Some c.buffer-item.result)
    c.buffers-buffer-items.ensures.value here in
    used_of c.args.cluster.now c.requires.lawful c.args.node c.args.plan.now c.requires.node index c.buffer-item.result
    there

pub loop-number-preserved : goal.loop-number-preserved
loop-number-preserved g c =
    let d = c.args.cluster.now in
    let plan = c.args.plan.now in
    let index = c.loop-number.number in
    let here = slice_get_read c.buffers-buffer-items.result.now _ index c.buffer-item.result refl
    c.loop-number-test.true
    c.buffer-item.is in
    let there = subst (λ (bs : List Buffer). slice_get bs index ≡ Some c.buffer-item.result)
    c.buffers-buffer-items.ensures.value here in
    one_node (buffer_text d c.args.node plan) plan.buffers index c.buffer-item.result
    (g.W.Write.contents c.args.writer.now) (g.W.Write.contents c.loop-number.writer)
    (g.W.Write.contents c.write_buffer.new.writer) there c.loop-number.invariant c.in_ok-write_buffer.ensures
