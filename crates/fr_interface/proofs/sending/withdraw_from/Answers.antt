use Rattle.std.proofs.Common.{◌≡◌, ℕ, set, ap, sym, ◌∙◌}
use Rattle.std.specs.Option.{option_and_then}
use Rattle.fr_buffers.specs.Transmitting.{Transmitter, pending_of, after_withdraw}
use Rattle.fr_interface.specs.Known.{change_at}
use Rattle.fr_interface.specs.Sending.{pending_at}
use Rattle.fr_interface.proofs.ChangeLemmas.{change_at-set, change_at-past, get-at}
use Rattle.fr_interface.proofs.sending.withdraw_from.Goals as goal

pub returns-then-place-buffers-clause-buffers : goal.returns-then-place-buffers-clause-buffers
returns-then-place-buffers-clause-buffers c =
    let buffers = c.args.buffers.now in
    sym (change_at-past after_withdraw buffers c.from-place.result c.if-place-buffers.true)
    ∙ ap (λ (n : ℕ). change_at after_withdraw buffers n) c.from-place.ensures

pub returns-clause-answer : goal.returns-clause-answer
returns-clause-answer c =
    let buffers = c.args.buffers.now in
    let held = c.index-buffers-place.result in
    let there = get-at buffers c.from-place.result held c.if-place-buffers.false c.index-buffers-place.is in
    c.withdraw.ensures.answer
    ∙ ap pending_of (sym c.index-buffers-place.is)
    ∙ sym (ap (option_and_then pending_of) there)
    ∙ ap (pending_at buffers) c.from-place.ensures

pub returns-clause-buffers : goal.returns-clause-buffers
returns-clause-buffers c =
    let buffers = c.args.buffers.now in
    let place = c.from-place.result in
    let new : c.withdraw.new.self ≡ after_withdraw c.index-buffers-place.result =
    c.withdraw.ensures.buffer ∙ ap after_withdraw (sym c.index-buffers-place.is) in
    ap (λ (t : Transmitter). set buffers place t) new
    ∙ change_at-set after_withdraw buffers place c.index-buffers-place.result c.if-place-buffers.false
    c.index-buffers-place.is
    ∙ ap (λ (n : ℕ). change_at after_withdraw buffers n) c.from-place.ensures
