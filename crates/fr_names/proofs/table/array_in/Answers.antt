use Rattle.std.proofs.Common.{rules}
use Rattle.fr_schedule.proofs.TableLemmas.{values_of-items}
use Rattle.fr_schedule.specs.TableReading.{array_in}
use Rattle.fr_names.proofs.table.array_in.Goals as goal

pub returns : goal.returns
unfolding array_in
returns c = search (rules, values_of-items)
