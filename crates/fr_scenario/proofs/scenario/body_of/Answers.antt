use Rattle.std.proofs.Common.{◌≡◌, ◌≤◌, ◌∙◌, false, Ok, rules, sym, arith}
use Rattle.std.specs.Str.{bytes_eq}
use Rattle.fr_lines.specs.Spelling.{end_line}
use Rattle.fr_scenario.proofs.TextLemmas.{body_more}
use Rattle.fr_scenario.specs.Reading.{next_line}
use Rattle.fr_scenario.proofs.scenario.body_of.Goals as goal

pub loop-number-preserved : goal.loop-number-preserved
loop-number-preserved c =
    let n = c.loop-number.number in
    let line = c.in_ok-line.line.now in
    let few : n ≤ 4096 = omega (arith, c.loop-number-test.true) in
    let next : next_line n c.loop-number.left ≡ Ok line = c.in_ok-line.ensures.line in
    let other : bytes_eq line end_line ≡ false = search rules in
    body_more c.args.version n c.loop-number.gathered c.add.new.self c.loop-number.left c.next_line.new.self line
    c.in-Some.line few next c.in_ok-line.ensures.left other (sym c.line_of.ensures ∙ c.in-Some.is) c.in_ok-add.ensures
    ∙ c.loop-number.invariant
