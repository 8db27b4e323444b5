use Rattle.std.proofs.Common.{refl, arith}
use Rattle.fr_fifo.specs.FifoSteps.{line_by}
use Rattle.fr_fifo.proofs.TextLemmas.{lines_all, no_number, one_number}
use Rattle.fr_fifo.proofs.frames.write_numbers.Goals as goal

pub loop-number-init : goal.loop-number-init
loop-number-init g c = record {
  written = no_number (line_by c.args.left.now) c.args.first (g.W.Write.contents c.args.writer.now);
  still = λ none. refl;
}

pub loop-number-preserved : goal.loop-number-preserved
loop-number-preserved g c = record {
  written =
      one_number (line_by c.args.left.now) c.args.first c.loop-number.number (g.W.Write.contents c.args.writer.now)
      (g.W.Write.contents c.loop-number.writer) (g.W.Write.contents c.write_number.new.writer)
      c.loop-number.auto.number c.loop-number.invariant.written c.in_ok-write_number.ensures;
  still = λ none. omega arith;
}

pub returns : goal.returns
returns g c =
    lines_all (line_by c.args.left.now) c.args.first c.loop-number.number c.args.end
    (g.W.Write.contents c.args.writer.now) (g.W.Write.contents c.loop-number.writer) c.loop-number.auto.number
    c.loop-number-test.false c.loop-number.auto.number-end c.loop-number.invariant.still
    c.loop-number.invariant.written
