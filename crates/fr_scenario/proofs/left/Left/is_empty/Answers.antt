use Rattle.std.proofs.Common.{ap, ◌∙◌}
use Rattle.fr_scenario.proofs.CutLemmas.{at_end}
use Rattle.fr_scenario.specs.Reading.{is_at_end}
use Rattle.fr_scenario.proofs.left.Left.is_empty.Goals as goal

pub returns : goal.returns
returns c = c.is_empty.ensures ∙ at_end c.self.inside.rest.now ∙ ap is_at_end c.self.view_is
