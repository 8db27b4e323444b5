use Rattle.std.proofs.Common.{◌≡◌, ◌==◌, [], ◌∷◌, List, ℕ, true, length, sym, refl, subst, ◌∙◌}
use Rattle.std.proofs.KnownBytes.{Appends-nil}
use Rattle.std.proofs.lemmas.Bool.{eqb-true}
use Rattle.std.specs.Io.KnownBytes.{Appends}
use Rattle.fr_judging.specs.declared.line.Line.{Line}
use Rattle.fr_monitoring.specs.LineText.{lines_text}
use Rattle.fr_monitoring.proofs.line.write_lines.Goals as goal

no_text : (lines : List Line) → (length lines == 0) ≡ true → [] ≡ lines_text lines
no_text [] none = refl
no_text (l ∷ lines) none = absurd (let more : ⊥ = cc (eqb-true (length (l ∷ lines)) 0 none) in more)

pub returns-then-is_empty : goal.returns-then-is_empty
returns-then-is_empty g c =
    subst (λ (t : List ℕ). Appends (g.W.Write.contents c.args.writer.now) (g.W.Write.contents c.args.writer.now) t)
    (no_text c.args.lines.now (sym c.is_empty.ensures ∙ c.if-is_empty.true))
    (Appends-nil (g.W.Write.contents c.args.writer.now))
