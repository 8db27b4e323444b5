use Rattle.std.proofs.Common.{◌≡◌, true, ap, sym, ◌∙◌}
use Rattle.fr_slots.specs.Windows.{slot_of}
use Rattle.fr_status.specs.Forms.{Seen}
use Rattle.fr_status.specs.declared.seen.Seen.TheVariants.{Bytes}
use Rattle.fr_streaming.specs.Received.{bytes_word, is_frame, seen_word, status_at, status_on}
use Rattle.fr_streaming.proofs.ReceivedLemmas.{spells_frame}
use Rattle.fr_streaming.proofs.received.seen_word.Goals as goal

pub returns-in-Bytes : goal.returns-in-Bytes
returns-in-Bytes c =
    let p = c.args.params.now in
    let w = c.args.window.now in
    let channel = c.args.channel in
    let bytes = c.in-Bytes.field-0 in
    let has : is_frame (status_at p w channel (Bytes bytes) (slot_of w channel)) ≡ true =
    ap (λ (s : Seen). is_frame (status_on p w channel s)) (sym c.in-Bytes.is) ∙ ap is_frame (sym c.requires)
    ∙ sym c.is_frame.ensures ∙ c.if-is_frame.true in
    sym (ap (seen_word channel) c.in-Bytes.is ∙ ap bytes_word (spells_frame p w channel bytes (slot_of w channel) has))
