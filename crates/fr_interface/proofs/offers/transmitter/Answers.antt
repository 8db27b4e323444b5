use Rattle.std.proofs.Common.{◌≡◌, ◌+◌, Some, None, List, option_map, slice_range, ap, sym, ◌∙◌}
use Rattle.std.specs.List.{position}
use Rattle.fr_interface.proofs.RangeLemmas.{transmitter-none, transmitter-in}
use Rattle.fr_journal.specs.Offers.{is_admitting}
use Rattle.fr_slots.specs.declared.plan.Buffer.{Buffer}
use Rattle.fr_slots.specs.Plans.{Plan}
use Rattle.fr_slots.specs.Windows.{slot_of}
use Rattle.fr_interface.proofs.offers.transmitter.Goals as goal

pub returns-in_err-slot : goal.returns-in_err-slot
returns-in_err-slot c =
    let none : slot_of c.args.window.now c.args.channel ≡ None = sym c.slot.ensures ∙ c.in_err-slot.was in
    c.from_residual.ensures ∙ sym (transmitter-none c.args.plan.now c.args.window.now c.args.channel none)

pub returns-in_err-place : goal.returns-in_err-place
returns-in_err-place c =
    let plan = c.args.plan.now in
    let window = c.args.window.now in
    let channel = c.args.channel in
    let range = c.sending_range-range.result in
    let there : slot_of window channel ≡ Some c.in_ok-slot.slot = sym c.slot.ensures ∙ c.in_ok-slot.was in
    let part : c.of-buffers.result.now ≡ slice_range plan.buffers range.first range.end =
    c.of-buffers.ensures ∙ ap (λ (l : List Buffer). slice_range l range.first range.end)
    (c.buffers.ensures.value ∙ ap (λ (p : Plan). p.buffers) c.as_plan.ensures) in
    let found : position (is_admitting window channel) (slice_range plan.buffers range.first range.end) ≡ None =
    sym (ap (position (is_admitting window channel)) part) ∙ sym c.first_admitting.ensures.value ∙ c.in_err-place.was in
    c.from_residual-in_err-place.ensures
    ∙ sym (transmitter-in plan window channel c.in_ok-slot.slot range there c.sending_range-range.ensures ∙ ap
    (option_map (λ p. range.first + p)) found)

pub returns : goal.returns
returns c =
    let plan = c.args.plan.now in
    let window = c.args.window.now in
    let channel = c.args.channel in
    let range = c.sending_range-range.result in
    let there : slot_of window channel ≡ Some c.in_ok-slot.slot = sym c.slot.ensures ∙ c.in_ok-slot.was in
    let part : c.of-buffers.result.now ≡ slice_range plan.buffers range.first range.end =
    c.of-buffers.ensures ∙ ap (λ (l : List Buffer). slice_range l range.first range.end)
    (c.buffers.ensures.value ∙ ap (λ (p : Plan). p.buffers) c.as_plan.ensures) in
    let found : position (is_admitting window channel) (slice_range plan.buffers range.first range.end)
    ≡ Some c.in_ok-place.place =
    sym (ap (position (is_admitting window channel)) part) ∙ sym c.first_admitting.ensures.value ∙ c.in_ok-place.was in
    sym (transmitter-in plan window channel c.in_ok-slot.slot range there c.sending_range-range.ensures ∙ ap
    (option_map (λ p. range.first + p)) found)
