use Rattle.std.proofs.Common.{refl}
use Rattle.std.proofs.lemmas.Option.{slice_get_read}
use Rattle.fr_links.specs.Links.{filled_links}
use Rattle.fr_links.proofs.NumberedLemmas.{no_item, one_item}
use Rattle.fr_links.proofs.links.push_buffers.Goals as goal

pub loop-number-init : goal.loop-number-init
loop-number-init c =
    no_item (filled_links c.args.params.now c.args.place.now.slot c.args.place.now.channel c.args.owner.now)
    c.args.buffers.now c.args.links.now.items

pub loop-number-preserved : goal.loop-number-preserved
loop-number-preserved c =
    let number = c.loop-number.number in
    let buffer = c.index-buffers-number.result in
    let at = slice_get_read c.args.buffers.now _ number buffer refl c.loop-number-test.true c.index-buffers-number.is in
    one_item (filled_links c.args.params.now c.args.place.now.slot c.args.place.now.channel c.args.owner.now)
    c.args.buffers.now number buffer c.args.links.now.items c.loop-number.links.items c.push_filled.new.links.items at
    c.loop-number.invariant c.in_ok-push_filled.ensures
