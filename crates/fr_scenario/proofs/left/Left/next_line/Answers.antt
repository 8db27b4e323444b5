use Rattle.std.proofs.Common.{sym, ap, drop, ◌∙◌}
use Rattle.std.proofs.lemmas.List.{take_rest}
use Rattle.fr_scenario.proofs.CutLemmas.{next_long, next_whole, next_left, next_last_long, next_last}
use Rattle.fr_scenario.specs.Reading.{next_line}
use Rattle.fr_scenario.proofs.left.Left.next_line.Goals as goal

pub returns-then-at-gt-LONGEST_LINE-clause-refused : goal.returns-then-at-gt-LONGEST_LINE-clause-refused
returns-then-at-gt-LONGEST_LINE-clause-refused c =
    ap (next_line c.args.number) (sym c.self.view_is)
    ∙ next_long c.args.number c.self.inside.rest.now c.in-Some.at (sym c.in-Some.ensures) c.if-at-gt-LONGEST_LINE.true

pub returns-then-rest-gt-LONGEST_LINE-clause-refused : goal.returns-then-rest-gt-LONGEST_LINE-clause-refused
returns-then-rest-gt-LONGEST_LINE-clause-refused c =
    ap (next_line c.args.number) (sym c.self.view_is)
    ∙ next_last_long c.args.number c.self.inside.rest.now (sym c.in-None.ensures) c.if-rest-gt-LONGEST_LINE.true

pub returns-else-at-gt-LONGEST_LINE-clause-line : goal.returns-else-at-gt-LONGEST_LINE-clause-line
returns-else-at-gt-LONGEST_LINE-clause-line c =
    ap (next_line c.args.number) (sym c.self.view_is)
    ∙ next_whole c.args.number c.self.inside.rest.now c.in-Some.at (sym c.in-Some.ensures)
    c.if-at-gt-LONGEST_LINE.false

pub returns-else-at-gt-LONGEST_LINE-clause-left : goal.returns-else-at-gt-LONGEST_LINE-clause-left
returns-else-at-gt-LONGEST_LINE-clause-left c =
    rw take_rest (next_left c.self.inside.rest.now c.in-Some.at (sym c.in-Some.ensures)
    ∙ ap (drop 1) c.self.view_is)

pub returns-else-rest-gt-LONGEST_LINE-clause-refused : goal.returns-else-rest-gt-LONGEST_LINE-clause-refused
returns-else-rest-gt-LONGEST_LINE-clause-refused c =
    ap (next_line c.args.number) (sym c.self.view_is)
    ∙ next_last c.args.number c.self.inside.rest.now (sym c.in-None.ensures) c.if-rest-gt-LONGEST_LINE.false
