use Rattle.std.proofs.Common.{◌≡◌, ℕ, set, ap, sym, ◌∙◌}
use Rattle.fr_buffers.specs.Transmitting.{Transmitter}
use Rattle.fr_interface.specs.Known.{change_at}
use Rattle.fr_interface.specs.Sending.{send_offered, after_sender}
use Rattle.fr_interface.proofs.ChangeLemmas.{change_at-set, change_at-past}
use Rattle.fr_interface.proofs.sending.send_from.Goals as goal

pub returns-then-place-buffers : goal.returns-then-place-buffers
returns-then-place-buffers c =
    let buffers = c.args.buffers.now in
    let place = c.from-place.result in
    let new : c.send_offered.new.buffer ≡ send_offered c.index-buffers-place.result =
    c.send_offered.ensures ∙ ap send_offered (sym c.index-buffers-place.is) in
    ap (λ (t : Transmitter). set buffers place t) new
    ∙ change_at-set send_offered buffers place c.index-buffers-place.result c.if-place-buffers.true
    c.index-buffers-place.is
    ∙ ap (λ (n : ℕ). change_at send_offered buffers n) c.from-place.ensures
    ∙ ap (after_sender buffers) (sym c.in-Some.is)

pub returns-else-place-buffers : goal.returns-else-place-buffers
returns-else-place-buffers c =
    let buffers = c.args.buffers.now in
    sym (change_at-past send_offered buffers c.from-place.result c.if-place-buffers.false)
    ∙ ap (λ (n : ℕ). change_at send_offered buffers n) c.from-place.ensures
    ∙ ap (after_sender buffers) (sym c.in-Some.is)
