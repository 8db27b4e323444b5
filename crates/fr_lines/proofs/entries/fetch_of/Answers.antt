use Rattle.std.proofs.Common.{ap, ◌∙◌}
use Rattle.fr_lines.specs.Reading.{fetch_in}
use Rattle.fr_lines.proofs.entries.fetch_of.Goals as goal

pub returns-in-None : goal.returns-in-None
returns-in-None c bytes = c.fetch_by_words.ensures bytes ∙ ap fetch_in c.new.ensures
