use Rattle.std.proofs.Common.{◌∙◌, rules}
use Rattle.fr_lines.specs.Reading.{withdraw_in}
use Rattle.fr_lines.proofs.entries.withdraw_of.Goals as goal

pub returns : goal.returns
unfolding withdraw_in
returns c bytes = c.told_withdraw_of.ensures bytes ∙ search rules
