use Rattle.std.proofs.Common.{◌∙◌, ℕ, List, Option, ap}
use Rattle.std.specs.Option.{option_or}
use Rattle.fr_expecting.proofs.ContentLemmas.{passed}
use Rattle.fr_journal.specs.Lent.{whole}
use Rattle.fr_expecting.proofs.walk.pass.Goals as goal

pub returns-clause-place : goal.returns-clause-place
returns-clause-place c =
    passed c.args.interface.now c.args.filter.now c.args.place.now (whole c.args.entry.now)
    c.begun_with-place.result c.keep.new.held c.requires.here c.requires.place c.begun_with-place.ensures
    (c.keep.ensures ∙ ap (λ (o : Option (List ℕ)). option_or o c.args.place.now.held) c.payload_at-brought.ensures)
