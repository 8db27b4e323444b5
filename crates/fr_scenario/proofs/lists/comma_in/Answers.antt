use Rattle.memchr.specs.Find.{is_byte}
use Rattle.fr_scenario.proofs.CutLemmas.{first_byte}
use Rattle.fr_scenario.proofs.lists.comma_in.Goals as goal

pub returns : goal.returns
returns c = first_byte (is_byte 44) c.args.bytes.now c.memchr.result c.memchr.ensures
