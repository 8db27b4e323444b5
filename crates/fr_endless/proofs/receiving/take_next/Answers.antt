use Rattle.std.proofs.Common.{Err, Ok, subst, true}
use Rattle.fr_core.specs.Runs.{Answer}
use Rattle.fr_core.specs.Steps.{Steps}
use Rattle.fr_core.specs.declared.event.Event.TheVariants.{Pop}
use Rattle.fr_endless.proofs.ReceivingLemmas.{next_so}
use Rattle.fr_endless.proofs.ReplyLemmas.{replied}
use Rattle.fr_endless.specs.Serving.{TakesNextAlike}
use Rattle.fr_endless.specs.Taps.{ToldAlike, ToldState, with_taps}
use Rattle.fr_lines.specs.Spelling.{line_text}
use Rattle.fr_session.specs.declared.noted.Noted.{Noted}
use Rattle.fr_session.specs.Replies.{received_words, refusal_words}
use Rattle.fr_endless.proofs.receiving.take_next.Goals as goal

pub returns-in-Ok : goal.returns-in-Ok
returns-in-Ok g c =
    let old : ToldState = with_taps c.args.world.now c.args.taps.now in
    let new : ToldState = with_taps c.step_told.new.world c.step_told.new.taps in
    let noted : Noted = c.args.noted.now in
    let arrival = c.oldest_at-arrival.result in
    let answer : Answer = Ok c.in-Ok.field-0 in
    let steps : ToldAlike old (λ w v. Steps w (Pop c.args.node c.args.task) answer v) new =
    subst (λ (a : Answer). ToldAlike old (λ w v. Steps w (Pop c.args.node c.args.task) a v) new) c.in-Ok.is
    c.step_told.ensures in
    replied g.W.Write.contents c.args.writer.now c.write_received.new.writer c.write_received.result
    (line_text (received_words true arrival))
    (λ reply. TakesNextAlike old noted c.args.node c.args.task reply new noted)
    (next_so old new noted c.args.node c.args.task arrival answer c.oldest_at-arrival.ensures steps)
    c.write_received.ensures

pub returns-in-Err : goal.returns-in-Err
returns-in-Err g c =
    let old : ToldState = with_taps c.args.world.now c.args.taps.now in
    let new : ToldState = with_taps c.step_told.new.world c.step_told.new.taps in
    let noted : Noted = c.args.noted.now in
    let arrival = c.oldest_at-arrival.result in
    let answer : Answer = Err c.in-Err.error in
    let steps : ToldAlike old (λ w v. Steps w (Pop c.args.node c.args.task) answer v) new =
    subst (λ (a : Answer). ToldAlike old (λ w v. Steps w (Pop c.args.node c.args.task) a v) new) c.in-Err.is
    c.step_told.ensures in
    replied g.W.Write.contents c.args.writer.now c.write_refusal.new.writer c.write_refusal.result
    (line_text (refusal_words c.in-Err.error))
    (λ reply. TakesNextAlike old noted c.args.node c.args.task reply new noted)
    (next_so old new noted c.args.node c.args.task arrival answer c.oldest_at-arrival.ensures steps)
    c.write_refusal.ensures
