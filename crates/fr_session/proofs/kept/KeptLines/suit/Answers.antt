use Rattle.std.proofs.Common.{◌≡◌, ◌∙◌, sym, subst, true, Some}
use Rattle.std.specs.List.{list_any}
use Rattle.fr_runs.specs.Suiting.{line_fits, lines_meet}
use Rattle.fr_session.proofs.MeetLemmas.{met, suits_by}
use Rattle.fr_session.specs.Marks.{plain_mark_of, AreMarksOf}
use Rattle.fr_session.proofs.kept.KeptLines.suit.Goals as goal

pub returns-then-suits_after : goal.returns-then-suits_after
returns-then-suits_after c =
    let fits : line_fits c.args.cluster.now c.args.cycles c.args.line.now ≡ true =
    (c.suits_after.ensures.0 c.if-suits_after.true).fits in
    let marks = c.in-Some-Some.marks in
    let marked : AreMarksOf c.args.self.now marks =
    subst (λ lines. AreMarksOf lines marks) c.self.view_is (c.self.inside.marked marks c.in-Some-Some.is-0) in
    let own : plain_mark_of c.args.line.now ≡ Some c.in-Some-Some.own =
    sym c.plain_mark_of.ensures ∙ c.in-Some-Some.is-1 in
    let is : c.is_met.result ≡ list_any (lines_meet c.args.line.now) c.args.self.now =
    c.is_met.ensures ∙ met marks c.args.self.now c.args.line.now c.in-Some-Some.own marked own in
    suits_by c.args.cluster.now c.args.cycles c.args.self.now c.args.line.now c.is_met.result is fits
