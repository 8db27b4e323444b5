use Rattle.fr_session.proofs.MarkLemmas.{added}
use Rattle.fr_session.proofs.marks.add.Goals as goal

pub returns : goal.returns
returns c = added c.args.marks.now c.insert.new.self c.args.mark c.in_ok-insert.ensures.updates.0
