use Rattle.std.proofs.Common.{◌≡◌, ◌++◌, ◌∷◌, [], rules, sym, subst}
use Rattle.std.specs.Option.{ForSome}
use Rattle.fr_session.specs.Marks.{AreMarksOf}
use Rattle.fr_session.proofs.kept.KeptLines.push_both.Goals as goal

pub invariant_of-self-inside-2 : goal.invariant_of-self-inside-2
invariant_of-self-inside-2 c =
    let lines = c.self.inside.lines.items in
    let had : ForSome c.take.result (AreMarksOf lines) =
    subst (λ marks. ForSome marks (AreMarksOf lines)) (sym c.take.ensures.value) c.self.inside.marked in
    let one : ForSome c.marks_with.result (AreMarksOf (lines ++ c.args.a ∷ [])) =
    c.marks_with.ensures lines c.args.a c.plain_mark_of-first.ensures had in
    let items : c.push-2.new.self.items ≡ (lines ++ c.args.a ∷ []) ++ c.args.b ∷ [] = search rules in (
      λ set is. subst (λ kept. AreMarksOf kept set) (sym items)
          (c.marks_with-2.ensures (lines ++ c.args.a ∷ []) c.args.b c.plain_mark_of-second.ensures one set is),
      tt,
    )
