use Rattle.fr_concord.proofs.DynamicRowLemmas.{dynamic_tables}
use Rattle.fr_concord.proofs.laws.dynamic_tables.Goals as goal

pub returns : goal.returns
returns c = dynamic_tables
