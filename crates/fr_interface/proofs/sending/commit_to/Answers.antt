use Rattle.std.proofs.Common.{◌≡◌, ℕ, set, ap, sym, ◌∙◌, arith}
use Rattle.fr_buffers.specs.Transmitting.{Transmitter, with_commit}
use Rattle.fr_interface.specs.Known.{change_at}
use Rattle.fr_interface.proofs.ChangeLemmas.{change_at-set}
use Rattle.fr_interface.proofs.sending.commit_to.Goals as goal

pub returns : goal.returns
returns c =
    let buffers = c.args.buffers.now in
    let with_it : Transmitter → Transmitter = λ b. with_commit b
    (record { entry = c.args.entry; payload = c.args.payload.now }) in
    let new : c.commit.new.self ≡ with_it c.index-buffers-from.result =
    c.commit.ensures ∙ ap with_it (sym c.index-buffers-from.is) in
    ap (λ (t : Transmitter). set buffers c.from.result t) new
    ∙ change_at-set with_it buffers c.from.result c.index-buffers-from.result
    (omega (arith, c.from.ensures, c.requires.there)) c.index-buffers-from.is
    ∙ ap (λ (n : ℕ). change_at with_it buffers n) c.from.ensures
