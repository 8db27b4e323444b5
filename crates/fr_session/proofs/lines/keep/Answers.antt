use Rattle.std.proofs.Common.{rules, arith, ◌≡◌, ◌++◌, ◌∙◌, take}
use Rattle.fr_session.proofs.LineLemmas.{kept_front}
use Rattle.fr_session.proofs.lines.keep.Goals as goal

pub returns : goal.returns
returns c =
    let line = c.args.line.now.items in
    let fits = c.min-fits.result in
    let appended : c.try_extend_from_slice-outcome.new.self.items ≡ line ++ take fits c.args.more.now = search rules in
    let room = c.remaining_capacity-room.ensures in
    let least = c.min-fits.ensures in
    appended ∙ kept_front line c.args.more.now fits (omega (arith, room, least))
    (λ less. omega (arith, room, least, less))
