use Rattle.std.proofs.Common.{◌≡◌, ◌≤◌, ◌<◌, ◌∙◌, Ok, length, map, rules, sym, arith}
use Rattle.fr_scenario.proofs.ListLemmas.{many_line, nothing_said}
use Rattle.fr_scenario.proofs.StatementLemmas.{many_not_end}
use Rattle.fr_scenario.specs.BlankWords.{blank_words}
use Rattle.fr_scenario.specs.Reading.{next_line}
use Rattle.fr_scenario.proofs.scenario.statements_in.Goals as goal

pub returns-in_default-clause-refused : goal.returns-in_default-clause-refused
returns-in_default-clause-refused c =
    let names = c.args.names.now in
    let n = c.loop-number.number in
    let line = c.in_ok-line.line.now in
    let few : n ≤ 4096 = omega (arith, c.loop-number-test.true) in
    let next : next_line n c.loop-number.left ≡ Ok line = c.in_ok-line.ensures.line in
    let many : 6 < length (blank_words line) = search rules in
    λ other.
    sym c.loop-number.invariant.read
    ∙ nothing_said names (map (λ line. line.items) c.loop-number.lines.items) n c.loop-number.left line few next
    (many_not_end (blank_words line) many) (many_line names (blank_words line) many)
