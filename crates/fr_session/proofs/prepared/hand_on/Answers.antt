use Rattle.std.proofs.Common.{◌≤◌, length, take, subst, rules, sym}
use Rattle.std.specs.Io.KnownBytes.{Appends, Keeps}
use Rattle.fr_session.proofs.CutLemmas.{rest_fits, some_of, wrote_more, wrote_none}
use Rattle.fr_session.proofs.SessionLemmas.{appends_kept}
use Rattle.fr_session.proofs.prepared.hand_on.Goals.{in-Ok, in-Err}
use Rattle.fr_session.proofs.prepared.hand_on.Goals as goal

pub returns-in-Ok-eq0 : goal.returns-in-Ok-eq0
returns-in-Ok-eq0 g c =
    let text = c.args.text.now in
    let kept = wrote_none (g.W.Write.contents c.loop.writer) (g.W.Write.contents c.write.new.self) c.write.result _ _
    c.in-Ok-eq0.is c.in-Ok-eq0.field-0-test c.write.ensures.bytes in (
      take c.loop.count text,
      some_of c.loop.count text,
      appends_kept _ _ _ (take c.loop.count text) c.loop.invariant.1 kept,
    )

pub returns-in-Err-2 : goal.returns-in-Err-2
returns-in-Err-2 g c =
    let text = c.args.text.now in
    let kept : Keeps (g.W.Write.contents c.loop.writer) (g.W.Write.contents c.write.new.self) = search rules in (
      take c.loop.count text,
      some_of c.loop.count text,
      appends_kept _ _ _ (take c.loop.count text) c.loop.invariant.1 kept,
    )

pub returns : goal.returns
returns g c =
    let text = c.args.text.now in
    (take c.loop.count text, some_of c.loop.count text, c.loop.invariant.1)

pub loop-preserved : goal.loop-preserved
loop-preserved g c =
    let text = c.args.text.now in
    let count = c.loop.count in
    let start = g.W.Write.contents c.args.writer.now in
    let mid = g.W.Write.contents c.loop.writer in
    let end = g.W.Write.contents c.write.new.self in
    elim c.match-write.branch [
      | in-Ok w ↦
          let fits = rest_fits text count w.in-Ok.more w.in-Ok.ensures.bound c.loop.invariant.0 in (
            subst (λ k. k ≤ length text) (sym w.count-is) fits,
            subst (λ k. Appends start end (take k text)) (sym w.count-is)
                (wrote_more start mid end text count w.in-Ok.more c.loop.invariant.1 w.in-Ok.ensures.bytes),
          )
      | in-Err w ↦ (
        subst (λ k. k ≤ length text) (sym w.count-is) c.loop.invariant.0,
        subst (λ k. Appends start end (take k text)) (sym w.count-is)
            (appends_kept start mid end (take count text) c.loop.invariant.1 w.in-Err.ensures.bytes),
      )
    ]
