use Rattle.memchr.specs.Find.{is_byte2}
use Rattle.fr_scenario.proofs.CutLemmas.{first_byte}
use Rattle.fr_scenario.proofs.blanks.blank_in.Goals as goal

pub returns : goal.returns
returns c = first_byte (is_byte2 32 9) c.args.bytes.now c.memchr2.result c.memchr2.ensures
