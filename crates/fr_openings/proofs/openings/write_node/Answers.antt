use Rattle.std.proofs.Common.{◌≡◌, List, Some, slice_get, refl, subst}
use Rattle.std.proofs.lemmas.Option.{slice_get_read}
use Rattle.fr_files.proofs.NodeTextLemmas.{no_node, one_node}
use Rattle.fr_openings.specs.Openings.{buffer_text}
use Rattle.fr_slots.specs.declared.plan.Buffer.{Buffer}
use Rattle.fr_openings.proofs.openings.write_node.Goals as goal

pub loop-number-init : goal.loop-number-init
loop-number-init g c =
    no_node (buffer_text c.args.params.now c.args.cycle c.args.window.now c.args.last c.args.plan.now c.args.node)
    c.args.plan.now.buffers (g.W.Write.contents c.args.writer.now)

pub loop-number-preserved : goal.loop-number-preserved
loop-number-preserved g c =
    let number = c.loop-number.number in
    one_node (buffer_text c.args.params.now c.args.cycle c.args.window.now c.args.last c.args.plan.now c.args.node)
    c.args.plan.now.buffers number c.buffer-item.result (g.W.Write.contents c.args.writer.now)
    (g.W.Write.contents c.loop-number.writer) (g.W.Write.contents c.write_buffer.new.writer)
    (subst (λ (bs : List Buffer). slice_get bs number ≡ Some c.buffer-item.result)
    c.buffers-buffer-items.ensures.value
    (slice_get_read c.buffers-buffer-items.result.now _ number c.buffer-item.result refl c.loop-number-test.true
    c.buffer-item.is))
    c.loop-number.invariant c.in_ok-write_buffer.ensures
