use Rattle.std.proofs.Common.{Bool, Err, List, Ok, Option, ap, refl, subst, sym, ℕ, ◌≡◌}
use Rattle.fr_core.specs.Runs.{Answer}
use Rattle.fr_core.specs.Steps.{Steps}
use Rattle.fr_core.specs.declared.event.Event.TheVariants.{Read}
use Rattle.fr_endless.proofs.ReceivingLemmas.{received_so}
use Rattle.fr_endless.proofs.ReplyLemmas.{replied}
use Rattle.fr_endless.specs.Serving.{ReceivesAlike}
use Rattle.fr_endless.specs.Taps.{ToldAlike, ToldState, with_taps}
use Rattle.fr_lines.specs.Spelling.{line_text}
use Rattle.fr_session.specs.declared.noted.Noted.{Noted}
use Rattle.fr_session.specs.Latest.{place_of}
use Rattle.fr_session.specs.Replies.{receipt_text, received_words, refusal_words}
use Rattle.fr_session.specs.Sessions.{after_receipt}
use Rattle.fr_endless.proofs.receiving.receive.Goals as goal

pub returns-in-Ok : goal.returns-in-Ok
returns-in-Ok g c =
    let old : ToldState = with_taps c.args.world.now c.args.taps.now in
    let new : ToldState = with_taps c.step_told.new.world c.step_told.new.taps in
    let noted : Noted = c.args.noted.now in
    let notes : Noted = record { faults = noted.faults; latest = c.note-fresh.new.self } in
    let place = place_of c.args.node c.args.buffer in
    let arrival = c.held_at-arrival.result in
    let answer : Answer = Ok c.in-Ok.field-0 in
    let steps : ToldAlike old (λ w v. Steps w (Read c.args.node c.args.task c.args.buffer) answer v) new =
    subst (λ (a : Answer). ToldAlike old (λ w v. Steps w (Read c.args.node c.args.task c.args.buffer) a v) new)
    c.in-Ok.is c.step_told.ensures in
    let are : notes ≡ after_receipt noted place arrival answer =
    ap (λ (l : List (Option ℕ)). record { faults = noted.faults; latest = l }) c.note-fresh.ensures.noted in
    let does = received_so old new noted c.args.node c.args.task arrival answer c.args.buffer notes
    c.held_at-arrival.ensures steps are in
    replied g.W.Write.contents c.args.writer.now c.write_received.new.writer c.write_received.result
    (line_text (received_words c.note-fresh.result arrival))
    (λ reply. ReceivesAlike old noted c.args.node c.args.task c.args.buffer reply new notes)
    (subst (λ (fresh : Bool). ReceivesAlike old noted c.args.node c.args.task c.args.buffer
    (receipt_text fresh arrival answer) new notes) (sym c.note-fresh.ensures.fresh) does) c.write_received.ensures

pub returns-in-Err : goal.returns-in-Err
returns-in-Err g c =
    let old : ToldState = with_taps c.args.world.now c.args.taps.now in
    let new : ToldState = with_taps c.step_told.new.world c.step_told.new.taps in
    let noted : Noted = c.args.noted.now in
    let arrival = c.held_at-arrival.result in
    let answer : Answer = Err c.in-Err.error in
    let steps : ToldAlike old (λ w v. Steps w (Read c.args.node c.args.task c.args.buffer) answer v) new =
    subst (λ (a : Answer). ToldAlike old (λ w v. Steps w (Read c.args.node c.args.task c.args.buffer) a v) new)
    c.in-Err.is c.step_told.ensures in
    let does = received_so old new noted c.args.node c.args.task arrival answer c.args.buffer noted
    c.held_at-arrival.ensures steps refl in
    replied g.W.Write.contents c.args.writer.now c.write_refusal.new.writer c.write_refusal.result
    (line_text (refusal_words c.in-Err.error))
    (λ reply. ReceivesAlike old noted c.args.node c.args.task c.args.buffer reply new noted) does
    c.write_refusal.ensures
