use Rattle.std.proofs.Common.{◌≡◌, ℕ, Bool, true, not, ◌&&◌, Some, List, slice_range, ap, sym, ◌∙◌}
use Rattle.std.specs.List.{list_any}
use Rattle.fr_interface.proofs.RangeLemmas.{taken-in}
use Rattle.fr_journal.specs.Arrivals.{takes_window, queue_admits_slot}
use Rattle.fr_slots.specs.declared.plan.Buffer.{Buffer}
use Rattle.fr_slots.specs.Plans.{Plan, queue_admits}
use Rattle.fr_slots.specs.Windows.{Opportunity, slot_of}
use Rattle.fr_interface.proofs.observed.is_for_queue.Goals as goal

pub returns-then-admits : goal.returns-then-admits
returns-then-admits c =
    let plan = c.args.plan.now in
    let window = c.args.window.now in
    let channel = c.args.channel in
    let queue = c.args.queue.now in
    let slot = c.in-Some.slot in
    let range = c.buffer_range.result in
    let there : slot_of window channel ≡ Some slot = sym c.slot.ensures ∙ c.in-Some.is in
    let cycle : c.window.inside.cycle ≡ window.cycle = ap (λ (w : Opportunity). w.cycle) c.window.view_is in
    let admits : queue_admits_slot queue window.cycle channel (slot_of window channel) ≡ true =
    ap (queue_admits_slot queue window.cycle channel) there ∙ ap (λ (n : ℕ). queue_admits queue n slot channel)
    (sym cycle) ∙ sym c.admits.ensures ∙ c.if-admits.true in
    let part : c.of-buffers.result.now ≡ slice_range plan.buffers range.first range.end =
    c.of-buffers.ensures ∙ ap (λ (l : List Buffer). slice_range l range.first range.end)
    (c.buffers.ensures.value ∙ ap (λ (p : Plan). p.buffers) c.as_plan.ensures) in
    let taken : c.is_taken.result ≡ list_any (takes_window window channel) plan.buffers =
    c.is_taken.ensures ∙ ap (list_any (takes_window window channel)) part ∙ sym
    (taken-in plan window channel slot range there c.buffer_range.ensures) in
    ap not taken ∙ ap (λ (t : Bool). t && not (list_any (takes_window window channel) plan.buffers)) (sym admits)
