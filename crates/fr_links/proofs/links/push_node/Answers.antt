use Rattle.std.proofs.Common.{◌≡◌, List, Some, slice_get, refl, subst}
use Rattle.std.proofs.lemmas.Option.{slice_get_read}
use Rattle.fr_slots.specs.declared.plan.Buffer.{Buffer}
use Rattle.fr_links.specs.Links.{buffer_links}
use Rattle.fr_links.proofs.NumberedLemmas.{no_item, one_item}
use Rattle.fr_links.proofs.links.push_node.Goals as goal

pub loop-number-init : goal.loop-number-init
loop-number-init c =
    no_item (buffer_links c.args.params.now c.args.node) c.args.plan.now.buffers c.args.links.now.items

pub loop-number-preserved : goal.loop-number-preserved
loop-number-preserved c =
    let number = c.loop-number.number in
    let buffer = c.buffer-item.result in
    let here = slice_get_read c.buffers-buffer-items.result.now _ number buffer refl c.loop-number-test.true
    c.buffer-item.is in
    let at = subst (λ (buffers : List Buffer). slice_get buffers number ≡ Some buffer)
    c.buffers-buffer-items.ensures.value here in
    one_item (buffer_links c.args.params.now c.args.node) c.args.plan.now.buffers number buffer c.args.links.now.items
    c.loop-number.links.items c.push_buffer.new.links.items at c.loop-number.invariant c.in_ok-push_buffer.ensures
