use Rattle.std.proofs.Common.{◌≡◌, ◌==◌, true, [], Some, drop, slice_index, string_bytes, rules, arith}
use Rattle.std.proofs.lemmas.Grind.{common_steps}
use Rattle.fr_reader.proofs.LineLemmas.{some_text, array_line}
use Rattle.toml.specs.Parse.{header_key, ends_line}
use Rattle.toml_parser.specs.Lexical.{first, skip_ws, skip_blank}
use Rattle.fr_reader.proofs.section.after_array_header.Goals as goal

pub returns-then-ends_line-clause-read : goal.returns-then-ends_line-clause-read
returns-then-ends_line-clause-read c =
    let start = skip_blank c.args.text.now in
    let name = c.args.name.now in
    let rest = c.in_ok-key.rest.now in
    let start_is = c.skip_blank-start.ensures.rest in
    let opens : (first start == 91) ≡ true = grind (arith, common_steps) in
    let again : (slice_index start 1 == 91) ≡ true = grind (arith, common_steps) in
    let same : string_bytes c.in_ok-key.key ≡ name = search rules in
    let key_is : header_key (drop 2 start) ≡ Some (([], name), rest) =
    rw (c.skip.ensures.rest, start_is, same) at c.in_ok-key.ensures.read in
    let closes : (first rest == 93) ≡ true = grind (arith, common_steps) in
    let ends : ends_line (skip_ws c.skip-rest.result.now) ≡ true = grind (arith, common_steps) in
    record {
      some = some_text start opens;
      read = rw (c.skip-rest.ensures.rest)
          (array_line start name rest opens again key_is closes (rw c.skip-rest.ensures.rest at ends));
    }
