use Rattle.std.proofs.Common.{rules, ◌≡◌}
use Rattle.std.specs.Io.KnownBytes.{Keeps}
use Rattle.fr_session.proofs.LineLemmas.{front_kept, front_last, front_over, front_part}
use Rattle.fr_session.specs.Lines.{TakesPiece}
use Rattle.fr_session.specs.declared.lines.Piece.TheVariants.{Last, Part, Nothing}
use Rattle.fr_session.proofs.lines.next_line.Goals.{in-Ok-Part, in-Err}
use Rattle.fr_session.proofs.lines.next_line.Goals as goal

pub returns-in-Ok-Last-clause-comes : goal.returns-in-Ok-Last-clause-comes
returns-in-Ok-Last-clause-comes g c =
    let taken : TakesPiece Last (g.R.Read.remaining c.loop.reader)
    (g.R.Read.remaining c.take_piece.new.reader) c.loop.line.items c.take_piece.new.line.items = search rules in
    front_last _ _ _ _ _ c.loop.invariant taken

pub returns-in-Ok-Nothing-clause-comes : goal.returns-in-Ok-Nothing-clause-comes
returns-in-Ok-Nothing-clause-comes g c =
    let taken : TakesPiece Nothing (g.R.Read.remaining c.loop.reader)
    (g.R.Read.remaining c.take_piece.new.reader) c.loop.line.items c.take_piece.new.line.items = search rules in
    front_over _ _ (g.R.Read.remaining c.take_piece.new.reader) _ c.take_piece.new.line.items c.loop.invariant taken

pub loop-preserved : goal.loop-preserved
loop-preserved g c =
    elim c.match-take_piece.branch [
      | in-Ok-Part w ↦
          let taken : TakesPiece Part (g.R.Read.remaining c.loop.reader)
          (g.R.Read.remaining c.take_piece.new.reader) c.loop.line.items c.take_piece.new.line.items =
          search rules in
          front_part _ _ _ _ _ c.loop.invariant taken
      | in-Err w ↦
          let kept : Keeps (g.R.Read.remaining c.loop.reader) (g.R.Read.remaining c.take_piece.new.reader) =
          search rules in
          let same : c.take_piece.new.line.items ≡ c.loop.line.items = search rules in
          front_kept _ _ _ _ _ c.loop.invariant kept same
    ]
