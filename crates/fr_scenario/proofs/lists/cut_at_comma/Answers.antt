use Rattle.std.proofs.Common.{sym}
use Rattle.std.proofs.lemmas.List.{take_rest}
use Rattle.fr_scenario.proofs.BlankLemmas.{cut_at, cut_none}
use Rattle.fr_scenario.specs.Lists.{is_comma}
use Rattle.fr_scenario.proofs.lists.cut_at_comma.Goals as goal

pub returns-in-Some : goal.returns-in-Some
returns-in-Some c = rw take_rest (cut_at is_comma c.args.bytes.now c.in-Some.at (sym c.in-Some.ensures))

pub returns-in-None : goal.returns-in-None
returns-in-None c = cut_none is_comma c.args.bytes.now (sym c.in-None.ensures)
