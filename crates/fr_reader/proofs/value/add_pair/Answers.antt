use Rattle.std.proofs.Common.{rules, ap, ◌∙◌}
use Rattle.fr_reader.proofs.TableLemmas.{view-insert}
use Rattle.toml.specs.View.{members_view}
use Rattle.fr_reader.proofs.value.add_pair.Goals as goal

pub returns-in-Ok : goal.returns-in-Ok
returns-in-Ok c done_so = record {
  free = search rules;
  new_is = ap members_view c.in-Ok.ensures.entries ∙ view-insert c.args.table.now.entries c.args.key c.args.value;
}
