use Rattle.std.proofs.Common.{◌≡◌, ℕ, [], take, sym, ap, ◌∙◌, subst}
use Rattle.fr_judging.specs.Judging.{State}
use Rattle.fr_recording.specs.Stream.{records_from}
use Rattle.fr_monitoring.specs.Monitoring.{IsFollowed, judged}
use Rattle.fr_monitoring.proofs.TextLemmas.{followed_none}
use Rattle.fr_monitoring.proofs.monitor.take_whole.Goals as goal

pub returns-then-frames-clause-followed : goal.returns-then-frames-clause-followed
returns-then-frames-clause-followed g c =
    followed_none c.args.frames c.args.capture.now c.args.judge.now (g.W.Write.contents c.args.writer.now)

pub returns-then-taken-eq0-clause-followed : goal.returns-then-taken-eq0-clause-followed
returns-then-taken-eq0-clause-followed g c =
    let p = c.args.capture.now in
    let s = c.args.judge.now in
    let w = g.W.Write.contents c.args.writer.now in
    let same : c.judge_whole-taken.new.judge ≡ s =
    c.judge_whole-taken.ensures.judge
    ∙ ap (λ (n : ℕ). judged s (records_from p (take n c.args.piece.now))) c.if-taken-eq0.true in
    subst (λ (t : State). IsFollowed c.args.frames p s p t w w []) (sym same) (followed_none c.args.frames p s w)
