use Rattle.std.proofs.Common.{◌≡◌, ◌==◌, true, false, [], Some, drop, slice_index, string_bytes, arith}
use Rattle.std.proofs.lemmas.Grind.{common_steps}
use Rattle.fr_reader.proofs.LineLemmas.{some_text, table_line}
use Rattle.toml.specs.Parse.{header_key, ends_line}
use Rattle.toml_parser.specs.Lexical.{first, skip_ws, skip_blank}
use Rattle.fr_reader.proofs.section.table_header.Goals as goal

pub returns-then-ends_line-clause-read : goal.returns-then-ends_line-clause-read
returns-then-ends_line-clause-read c =
    let start = skip_blank c.args.text.now in
    let name = string_bytes c.in_ok-name.name in
    let rest = c.in_ok-name.rest.now in
    let start_is = c.skip_blank-start.ensures.rest in
    let opens : (first start == 91) ≡ true = grind (arith, common_steps) in
    let other : (slice_index start 1 == 91) ≡ false = grind (arith, common_steps) in
    let key_is : header_key (drop 1 start) ≡ Some (([], name), rest) =
    rw (c.skip.ensures.rest, start_is) at c.in_ok-name.ensures.read in
    let ends : ends_line (skip_ws rest) ≡ true = grind (arith, common_steps) in
    record { some = some_text start opens; read = table_line start name rest opens other key_is ends }
