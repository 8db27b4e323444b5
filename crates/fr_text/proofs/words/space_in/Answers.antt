use Rattle.fr_text.proofs.WordLemmas.{first_space}
use Rattle.fr_text.proofs.words.space_in.Goals as goal

pub returns : goal.returns
returns c = first_space c.args.line.now c.memchr.result c.memchr.ensures
