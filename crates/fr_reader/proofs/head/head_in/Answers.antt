use Rattle.std.proofs.Common.{rules, string_bytes, subst}
use Rattle.std.specs.Prelude.{IsTrue}
use Rattle.fr_reader.proofs.NodeLemmas.{head_begun, head_more}
use Rattle.fr_reader.specs.UsualText.{IsAdded}
use Rattle.toml.proofs.Views.{view-Table}
use Rattle.toml.specs.Data.{table}
use Rattle.toml.specs.View.{table_view}
use Rattle.fr_reader.proofs.head.head_in.Goals as goal

pub tables-init : goal.tables-init
tables-init c = (
  search rules,
  head_begun c.args.text.now _ _ (search rules),
)

pub tables-preserved : goal.tables-preserved
tables-preserved c =
    let l = c.tables in
    let name = string_bytes c.in-Some.name in
    let found = table_view c.in_ok-table.table in
    let done_so : IsTrue c.add_pair.result = search rules in
    let added : IsAdded name (table found) (table_view l.root) (table_view c.add_pair.new.table) =
    subst (λ d. IsAdded name d (table_view l.root) (table_view c.add_pair.new.table))
    (view-Table c.in_ok-table.table) (c.add_pair.ensures done_so) in (
      search rules,
      head_more c.args.text.now l.rest.now c.in-Some.after.now c.in_ok-table.next.now name (table_view l.root) found
          (table_view c.add_pair.new.table) l.invariant.1 c.in-Some.ensures.read c.in-Some.ensures.shorter
          c.in_ok-table.ensures.read added,
    )
