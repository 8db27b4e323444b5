use Rattle.std.proofs.Common.{◌∙◌}
use Rattle.fr_logged.proofs.ZeroLemmas.{all_zero}
use Rattle.fr_logged.proofs.rules.is_zero_word.Goals as goal

pub returns : goal.returns
returns c = c.eq.ensures ∙ all_zero c.args.word.now 8 c.told-word
