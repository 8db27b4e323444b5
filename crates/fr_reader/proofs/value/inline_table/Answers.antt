use Rattle.std.proofs.Common.{◌≡◌, ◌==◌, ◌-◌, true, false, [], Some, string_bytes, le_refl, refl}
use Rattle.std.proofs.Common.{rules, arith, ◌∙◌}
use Rattle.std.proofs.lemmas.Grind.{common_steps}
use Rattle.std.specs.Prelude.{IsTrue}
use Rattle.fr_reader.proofs.TableLemmas.{pair_put}
use Rattle.fr_reader.specs.UsualText.{IsAdded}
use Rattle.toml_parser.specs.Lexical.{first, skip_blank}
use Rattle.toml.proofs.Turns.{members_end, members_more, keyval_ok, val_atom}
use Rattle.toml.specs.Parse.{val, key_equals}
use Rattle.toml.specs.Tables.{no_nodes}
use Rattle.toml.specs.View.{view, table_view}
use Rattle.fr_reader.proofs.value.inline_table.Goals as goal

pub members-init : goal.members-init
members-init c = (search rules, le_refl _, λ depth n h. (n, no_nodes, h, rw c.new-table.ensures.empty refl, refl))

pub returns-then-first-eq125-clause-read : goal.returns-then-first-eq125-clause-read
returns-then-first-eq125-clause-read c depth n h =
    let l = c.members in
    let start_is = c.skip_blank-start.ensures.rest in
    let (m, nodes, room, same, loop) = l.invariant.2 depth n h in
    let closing : (first (skip_blank l.rest.now) == 125) ≡ true = grind (arith, common_steps) in
    loop
    ∙ members_end (val depth) m nodes l.rest.now (omega arith) closing
    ∙ rw (c.skip.ensures.rest, c.skip_blank-start.ensures.rest, same) refl

pub members-preserved : goal.members-preserved
members-preserved c =
    let l = c.members in
    let start_is = c.skip_blank-start.ensures.rest in
    let other : (first (skip_blank l.rest.now) == 125) ≡ false = grind (arith, common_steps) in
    let k = string_bytes c.in_ok-key.key in
    let d = view c.in_ok-value.value in
    let at_value = c.in_ok-key.at_value.now in
    let after = c.in_ok-value.after.now in
    let key_is : key_equals (skip_blank l.rest.now) ≡ Some (([], k), at_value) =
    rw start_is at c.in_ok-key.ensures.read in
    let no_array : (first at_value == 91) ≡ false = grind (arith, common_steps) in
    let no_table : (first at_value == 123) ≡ false = grind (arith, common_steps) in
    let done_so : IsTrue c.add_pair.result = search rules in
    let added : IsAdded k d (table_view l.table) (table_view c.add_pair.new.table) = c.add_pair.ensures done_so in
    let before = c.skip_blank-start.ensures.within in
    let shorter = c.in_ok-key.ensures.shorter in
    let shorter_again = c.in_ok-value.ensures.shorter in
    let within = c.in_ok-rest.ensures.within in (
      search rules,
      omega (arith, l.invariant.1),
      λ depth n h.
          let (m, nodes, room, same, loop) = l.invariant.2 depth n h in
          let (more, put_is, same_more) =
          pair_put k d (table_view l.table) (table_view c.add_pair.new.table) added nodes same in
          let value_is = val_atom depth at_value no_array no_table ∙ c.in_ok-value.ensures.read in
          let read = keyval_ok (val depth) (skip_blank l.rest.now) at_value after ([], k) d key_is value_is in (
            m - 1,
            more,
            omega arith,
            same_more,
            loop
                ∙ members_more (val depth) m nodes more l.rest.now ([], k) d after _ (omega arith) other read put_is
                c.in_ok-rest.ensures.read,
          ),
    )
