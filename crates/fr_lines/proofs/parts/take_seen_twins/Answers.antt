use Rattle.std.proofs.Common.{drop, sym}
use Rattle.fr_lines.proofs.FirstLemmas.{first_seen}
use Rattle.fr_lines.proofs.parts.take_seen_twins.Goals as goal

pub returns-in-Bytes-b-clause-a : goal.returns-in-Bytes-b-clause-a
returns-in-Bytes-b-clause-a c told =
    sym (first_seen c.args.words.now c.take_twins.new.first.items (c.take_twins.ensures.first told))

pub returns-in-Bytes-b-clause-b : goal.returns-in-Bytes-b-clause-b
returns-in-Bytes-b-clause-b c told =
    sym (first_seen (drop 1 c.args.words.now) c.take_twins.new.second.items (c.take_twins.ensures.second told))
