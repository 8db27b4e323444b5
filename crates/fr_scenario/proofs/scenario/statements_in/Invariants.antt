use Rattle.std.proofs.Common.{◌≡◌, ◌+◌, length, map}
use Rattle.fr_scenario.proofs.StatementLemmas.{put_all}
use Rattle.fr_scenario.specs.Lists.{line_statements}
use Rattle.fr_scenario.specs.Reading.{read_from, statements_in}
use Rattle.fr_scenario.specs.Statements.{is_last}
use Rattle.fr_scenario.proofs.scenario.statements_in.Given as goal

-- the statements of the lines so far, with those of the lines that are left
abbrev pub invariant-loop-number : goal.invariant-loop-number
invariant-loop-number l = record {
  count : length l.lines.items + 2 ≡ l.number;
  read : put_all (map (λ line. line.items) l.lines.items)
      (read_from is_last (line_statements l.names) l.number l.left) ≡ statements_in l.names l.text;
}
