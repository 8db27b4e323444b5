use Rattle.memchr.specs.Find.{is_byte}
use Rattle.fr_scenario.proofs.CutLemmas.{first_byte}
use Rattle.fr_scenario.proofs.blanks.mark_in.Goals as goal

pub returns : goal.returns
returns c = first_byte (is_byte 35) c.args.line.now c.memchr.result c.memchr.ensures
