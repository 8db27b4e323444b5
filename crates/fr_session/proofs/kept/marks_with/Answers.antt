use Rattle.std.proofs.Common.{◌≡◌, ◌++◌, ◌∷◌, [], sym, ◌∙◌, subst}
use Rattle.fr_session.proofs.MeetLemmas.{marked_by}
use Rattle.fr_session.specs.Marks.{AreMarksOf}
use Rattle.fr_session.proofs.kept.marks_with.Goals as goal

pub returns-in-Ok : goal.returns-in-Ok
returns-in-Ok c = λ lines line is had set same.
    let e : c.add_all.new.marks ≡ set = cc same in
    let own = sym is ∙ c.in_ok-own.was in
    subst (AreMarksOf (lines ++ line ∷ [])) e
    (marked_by c.in_ok-marks.marks c.add_all.new.marks c.in_ok-own.own lines line own
    (had _ c.in_ok-marks.was) c.in-Ok.ensures)
