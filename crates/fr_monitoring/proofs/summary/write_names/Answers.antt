use Rattle.std.proofs.lemmas.List.{get_or_default}
use Rattle.fr_monitoring.specs.SummaryText.{found_line}
use Rattle.fr_monitoring.proofs.LineLemmas.{written-more}
use Rattle.fr_monitoring.proofs.summary.write_names.Goals as goal

pub loop-name-preserved : goal.loop-name-preserved
loop-name-preserved g c =
    written-more (found_line c.args.judge.now) c.as_slice-names.result.now c.loop-name.name-index _
    (g.W.Write.contents c.args.writer.now) (g.W.Write.contents c.loop-name.writer)
    (g.W.Write.contents c.write_found.new.writer) c.loop-name-test.true
    (get_or_default _ _ _ _ c.loop-name-test.true) c.loop-name.invariant
    c.in_ok-write_found.ensures
