use Rattle.std.proofs.Common.{◌≡◌, ℕ, List, ap, ◌∙◌, subst}
use Rattle.std.specs.Prelude.{Some, None, option_map, option_to_list}
use Rattle.std.specs.Io.KnownBytes.{Appends}
use Rattle.std.proofs.KnownBytes.{Appends-nil}
use Rattle.fr_text.specs.Writing.{Writes}
use Rattle.fr_recording.specs.Records.{Record}
use Rattle.fr_recording.specs.Stream.{told_of, record_of}
use Rattle.fr_monitoring.specs.Monitoring.{record_text, told}
use Rattle.fr_monitoring.proofs.TextLemmas.{told_some, told_none}
use Rattle.fr_monitoring.proofs.monitor.take_record.Goals as goal

pub returns-in-Some-clause-text : goal.returns-in-Some-clause-text
returns-in-Some-clause-text g c =
    let p = c.args.capture.now in
    let s = c.args.judge.now in
    let is : told_of p ≡ Some (record_of p.state c.in-Some.head) =
    c.told.ensures ∙ ap (option_map (record_of p.state)) c.in-Some.is in
    let given : Record = record (record_of p.state c.in-Some.head) { bytes = c.captured.result.now } in
    let given_is : given ≡ record_of p.state c.in-Some.head =
    ap (λ (b : List ℕ). record (record_of p.state c.in-Some.head) { bytes = b }) c.captured.ensures in
    let text : record_text c.args.frames s given ≡ told c.args.frames s (option_to_list (told_of p)) =
    ap (record_text c.args.frames s) given_is
    ∙ told_some c.args.frames s (told_of p) (record_of p.state c.in-Some.head) is in
    subst (λ (t : List ℕ). Writes g.W.Write.contents c.args.writer.now c.judge_record.new.writer
    c.judge_record.result t) text c.judge_record.ensures.text

pub returns-in-None-clause-text : goal.returns-in-None-clause-text
returns-in-None-clause-text g c =
    let p = c.args.capture.now in
    let is : told_of p ≡ None = c.told.ensures ∙ ap (option_map (record_of p.state)) c.in-None.is in
    subst (λ (t : List ℕ). Appends (g.W.Write.contents c.args.writer.now) (g.W.Write.contents c.args.writer.now) t)
    (told_none c.args.frames c.args.judge.now (told_of p) is) (Appends-nil (g.W.Write.contents c.args.writer.now))
