use Rattle.std.proofs.KnownBytes.{Appends-nil}
use Rattle.fr_lines.specs.declared.versions.Version.TheVariants.{Three}
use Rattle.fr_trace.specs.TraceText.{own_line}
use Rattle.fr_trace.proofs.WritingLemmas.{written-more}
use Rattle.fr_trace.proofs.trace.write_owned.Goals as goal

pub loop-own-init : goal.loop-own-init
loop-own-init g c = Appends-nil (g.W.Write.contents c.args.writer.now)

pub loop-own-preserved : goal.loop-own-preserved
loop-own-preserved g c =
    written-more (own_line Three) c.args.owned.now c.loop-own.own-index c.own-item.result
    (g.W.Write.contents c.args.writer.now) (g.W.Write.contents c.loop-own.writer)
    (g.W.Write.contents c.write_own.new.writer)
    c.loop-own-test.true c.own-item.is c.loop-own.invariant c.in_ok-write_own.ensures
