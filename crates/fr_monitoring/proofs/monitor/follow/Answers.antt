use Rattle.std.proofs.Common.{rules, sym, ◌∙◌}
use Rattle.fr_monitoring.proofs.FollowLemmas.{none_read, piece_read, stops_here, on_ok}
use Rattle.fr_monitoring.proofs.monitor.follow.Goals as goal

pub pieces-init : goal.pieces-init
pieces-init g c = (none_read c.args.frames c.args.capture.now c.args.judge.now _ _, c.requires)

pub returns-then-is_refused : goal.returns-then-is_refused
returns-then-is_refused g c =
    let read =
    piece_read c.args.frames c.args.capture.now c.pieces.capture c.take_piece.new.capture c.args.judge.now
    c.pieces.judge
    c.take_piece.new.judge (g.R.Read.remaining c.args.reader.now) (g.R.Read.remaining c.pieces.reader)
    (g.R.Read.remaining c.read.new.self) (g.W.Write.contents c.args.writer.now) (g.W.Write.contents c.pieces.writer)
    (g.W.Write.contents c.flush.new.self) (g.W.Write.contents c.take_piece.new.writer) _ c.pieces.invariant.0
    c.flush.ensures.bytes c.in-Ok.ensures.bytes.0
    (on_ok c.take_piece.result c.is_err-in-pieces.result c.is_err-in-pieces.ensures.value c.if-is_err-2.false
    c.take_piece.ensures.capture)
    (on_ok c.take_piece.result c.is_err-in-pieces.result c.is_err-in-pieces.ensures.value c.if-is_err-2.false
    c.take_piece.ensures.judge)
    (on_ok c.take_piece.result c.is_err-in-pieces.result c.is_err-in-pieces.ensures.value c.if-is_err-2.false
    c.take_piece.ensures.text) in
    stops_here c.args.frames c.args.capture.now c.take_piece.new.capture c.args.judge.now c.take_piece.new.judge
    (g.R.Read.remaining c.args.reader.now) (g.R.Read.remaining c.read.new.self) (g.W.Write.contents c.args.writer.now)
    (g.W.Write.contents c.take_piece.new.writer) read (sym c.is_refused.ensures ∙ c.if-is_refused.true)

pub pieces-preserved : goal.pieces-preserved
pieces-preserved g c = (
  piece_read c.args.frames c.args.capture.now c.pieces.capture c.take_piece.new.capture c.args.judge.now c.pieces.judge
      c.take_piece.new.judge (g.R.Read.remaining c.args.reader.now) (g.R.Read.remaining c.pieces.reader)
      (g.R.Read.remaining c.read.new.self) (g.W.Write.contents c.args.writer.now) (g.W.Write.contents c.pieces.writer)
      (g.W.Write.contents c.flush.new.self) (g.W.Write.contents c.take_piece.new.writer) _ c.pieces.invariant.0
      c.flush.ensures.bytes c.in-Ok.ensures.bytes.0
      (on_ok c.take_piece.result c.is_err-in-pieces.result c.is_err-in-pieces.ensures.value c.if-is_err-2.false
      c.take_piece.ensures.capture)
      (on_ok c.take_piece.result c.is_err-in-pieces.result c.is_err-in-pieces.ensures.value c.if-is_err-2.false
      c.take_piece.ensures.judge)
      (on_ok c.take_piece.result c.is_err-in-pieces.result c.is_err-in-pieces.ensures.value c.if-is_err-2.false
      c.take_piece.ensures.text),
  search rules,
)
