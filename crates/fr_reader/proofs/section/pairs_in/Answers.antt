use Rattle.std.proofs.Common.{◌≡◌, ◌==◌, ◌<◌, true, false, [], Some, length, string_bytes, le_refl, refl}
use Rattle.std.proofs.Common.{rules, arith}
use Rattle.std.proofs.lemmas.Grind.{common_steps}
use Rattle.std.specs.Prelude.{IsTrue}
use Rattle.fr_reader.proofs.LineLemmas.{same_place, one_line, pair_line, pair_defined}
use Rattle.fr_reader.proofs.TableLemmas.{pair_put}
use Rattle.fr_reader.specs.UsualText.{IsAdded}
use Rattle.toml_parser.specs.Lexical.{first, skip_ws, skip_blank}
use Rattle.toml.specs.Parse.{key_equals, ends_line}
use Rattle.toml.specs.Tables.{no_nodes}
use Rattle.toml.specs.View.{view, table_view}
use Rattle.fr_reader.proofs.section.pairs_in.Goals as goal

pub pairs-init : goal.pairs-init
pairs-init c = (
  search rules,
  le_refl _,
  λ section frame framed n h.
      (no_nodes, rw c.new-table.ensures.empty refl, same_place n (frame no_nodes, section) c.args.text.now h),
)

pub pairs-preserved : goal.pairs-preserved
pairs-preserved c =
    let l = c.pairs in
    let text = c.args.text.now in
    let start_is = c.skip_blank-start.ensures.rest in
    let start = skip_blank l.rest.now in
    let some : (length start == 0) ≡ false = grind (arith, common_steps) in
    let other : (first start == 91) ≡ false = grind (arith, common_steps) in
    let k = string_bytes c.in_ok-key.key in
    let d = view c.in_ok-value.value in
    let at_value = c.in_ok-key.at_value.now in
    let after = c.in_ok-value.after.now in
    let key_is : key_equals start ≡ Some (([], k), at_value) = rw start_is at c.in_ok-key.ensures.read in
    let ends : ends_line (skip_ws after) ≡ true = grind (arith, common_steps) in
    let done_so : IsTrue c.add_pair.result = search rules in
    let added : IsAdded k d (table_view l.table) (table_view c.add_pair.new.table) = c.add_pair.ensures done_so in
    let before = c.skip_blank-start.ensures.within in
    let shorter = c.in_ok-key.ensures.shorter in
    let shorter_again = c.in_ok-value.ensures.shorter in
    let less : length after < length l.rest.now = omega arith in (
      search rules,
      omega (arith, l.invariant.1),
      λ section frame framed n h.
          let (nodes, same, so_far) = l.invariant.2 section frame framed n h in
          let (more, put_is, same_more) =
          pair_put k d (table_view l.table) (table_view c.add_pair.new.table) added nodes same in
          let read = pair_line start k d at_value after other key_is c.in_ok-value.ensures.read ends in
          let defined = pair_defined section frame framed k d nodes more put_is in (
            more,
            same_more,
            one_line n (frame no_nodes, section) (frame nodes, section) (frame more, section) text l.rest.now after _
                so_far some read defined less,
          ),
    )
