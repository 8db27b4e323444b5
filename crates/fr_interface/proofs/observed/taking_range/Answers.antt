use Rattle.std.proofs.Common.{◌≡◌, Some, sym, ◌∙◌}
use Rattle.fr_interface.proofs.RangeLemmas.{taking-of}
use Rattle.fr_slots.specs.Windows.{slot_of}
use Rattle.fr_interface.proofs.observed.taking_range.Goals as goal

pub returns-in-Some : goal.returns-in-Some
returns-in-Some c =
    let there : slot_of c.args.window.now c.args.channel ≡ Some c.in-Some.slot = sym c.slot.ensures ∙ c.in-Some.is in
    taking-of c.args.window.now c.args.channel c.args.plan.now.buffers c.args.frame.now c.in-Some.slot
    c.buffer_range.result there c.buffer_range.ensures
