use Rattle.std.proofs.Common.{sym, subst}
use Rattle.std.specs.Option.{ForSome}
use Rattle.fr_session.specs.Marks.{AreMarksOf}
use Rattle.fr_session.proofs.kept.KeptLines.push.Goals as goal

pub invariant_of-self-inside-2 : goal.invariant_of-self-inside-2
invariant_of-self-inside-2 c =
    let lines = c.self.inside.lines.items in
    let had : ForSome c.take.result (AreMarksOf lines) =
    subst (λ marks. ForSome marks (AreMarksOf lines)) (sym c.take.ensures.value) c.self.inside.marked in (
      λ set is. subst (λ kept. AreMarksOf kept set) (sym c.in_ok-push.ensures.items)
          (c.marks_with.ensures lines c.args.line c.plain_mark_of-own.ensures had set is),
      tt,
    )
