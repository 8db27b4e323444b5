use Rattle.std.proofs.Common.{sym, subst}
use Rattle.fr_journal.specs.Forms.{LentEntry}
use Rattle.fr_journal.specs.Lent.{whole}
use Rattle.fr_showing.specs.CommitSteps.{entry_text}
use Rattle.fr_text.specs.Writing.{Writes}
use Rattle.fr_showing.proofs.commits.write_entry.Goals as goal

pub returns-in-Commit : goal.returns-in-Commit
returns-in-Commit g c =
    subst (λ (e : LentEntry). Writes g.W.Write.contents c.args.writer.now c.write_commit.new.writer
    c.write_commit.result
    (entry_text c.args.world.now c.args.place.node c.args.interface.now.entries c.args.place.begun c.args.place.entry
    (whole e)))
    (sym c.in-Commit.is) c.write_commit.ensures
