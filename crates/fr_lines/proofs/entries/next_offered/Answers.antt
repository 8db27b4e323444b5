use Rattle.std.proofs.Common.{sym}
use Rattle.fr_lines.proofs.FirstLemmas.{first_data}
use Rattle.fr_lines.proofs.entries.next_offered.Goals as goal

pub returns-in-Ok-clause-offered : goal.returns-in-Ok-clause-offered
returns-in-Ok-clause-offered c =
    let read = rw c.in-Ok.is at c.in_ok-commit.ensures.number in
    let below = rw c.in-Ok.is at c.in_ok-commit.ensures.below in
    sym (first_data c.args.words.now c.in-Ok.commit below read)
