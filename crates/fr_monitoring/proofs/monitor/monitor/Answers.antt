use Rattle.std.proofs.Common.{◌≡◌, sym, ◌∙◌, subst}
use Rattle.fr_judging.specs.Judging.{State, fresh as fresh_state}
use Rattle.fr_recording.specs.Stream.{Progress, fresh}
use Rattle.fr_monitoring.specs.Monitoring.{Follows}
use Rattle.fr_monitoring.proofs.FollowLemmas.{monitors, unclocked}
use Rattle.fr_monitoring.proofs.monitor.monitor.Goals as goal

pub returns-in-Some-clause-text : goal.returns-in-Some-clause-text
returns-in-Some-clause-text g c =
    unclocked c.args.frames c.args.rules c.in-Some.error (g.R.Read.remaining c.args.reader.now)
    (g.W.Write.contents c.args.writer.now)
    (sym c.clock_refusal.ensures ∙ c.in-Some.is)

pub returns-clause-text : goal.returns-clause-text
returns-clause-text g c =
    let text = g.R.Read.remaining c.args.reader.now in
    let rest = g.R.Read.remaining c.follow-followed.new.reader in
    let old = g.W.Write.contents c.args.writer.now in
    let mid = g.W.Write.contents c.follow-followed.new.writer in
    let q = c.follow-followed.new.capture in
    let t = c.follow-followed.new.judge in
    let capture_is : c.in-Ok.capture ≡ fresh = c.in-Ok.ensures in
    let judge_is : c.in-Ok-new.judge ≡ fresh_state c.args.rules = c.in-Ok-new.ensures in
    let from_fresh : Follows c.args.frames fresh c.in-Ok-new.judge text rest q t old mid c.follow-followed.result =
    subst (λ (p : Progress). Follows c.args.frames p c.in-Ok-new.judge text rest q t old mid c.follow-followed.result)
    capture_is
    c.follow-followed.ensures in
    let follows : Follows c.args.frames fresh (fresh_state c.args.rules) text rest q t old mid
    c.follow-followed.result =
    subst (λ (s : State). Follows c.args.frames fresh s text rest q t old mid c.follow-followed.result) judge_is
    from_fresh in
    monitors c.args.frames c.args.rules q t text rest old mid (g.W.Write.contents c.end.new.writer)
    c.follow-followed.result
    c.end.result follows c.end.ensures
