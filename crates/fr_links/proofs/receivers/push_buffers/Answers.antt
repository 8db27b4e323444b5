use Rattle.std.proofs.Common.{◌≡◌, ◌++◌, Bool, Some, refl, subst}
use Rattle.std.proofs.lemmas.Option.{slice_get_read}
use Rattle.fr_links.specs.Receivers.{buffer_receiver, receiver_if}
use Rattle.fr_links.proofs.NumberedLemmas.{no_item, one_item}
use Rattle.fr_links.proofs.receivers.push_buffers.Goals as goal

pub loop-number-init : goal.loop-number-init
loop-number-init c =
    no_item (buffer_receiver c.args.link.now c.args.node) c.args.buffers.now c.args.receivers.now.items

pub loop-number-preserved : goal.loop-number-preserved
loop-number-preserved c =
    let node = c.args.node in
    let number = c.loop-number.number in
    let buffer = c.index-buffers-number.result in
    let mid = c.loop-number.receivers.items in
    let new = c.push_if.new.receivers.items in
    let at = slice_get_read c.args.buffers.now _ number buffer refl c.loop-number-test.true c.index-buffers-number.is in
    one_item (buffer_receiver c.args.link.now node) c.args.buffers.now number buffer c.args.receivers.now.items mid new
    at c.loop-number.invariant
    (subst (λ (is_one : Bool). new ≡ mid ++ receiver_if is_one node (Some number)) c.receives.ensures
    c.in_ok-push_if.ensures)
