use Rattle.std.proofs.Common.{◌≡◌, ◌∙◌, List, ℕ, Option, ap, subst}
use Rattle.std.specs.Io.KnownBytes.{Appends}
use Rattle.std.specs.Prelude.{is_some, OnOk}
use Rattle.std.specs.Option.{option_and_then}
use Rattle.fr_capture.proofs.ReadLemmas.{frame_on, line_same}
use Rattle.fr_capture.specs.Clocks.{sighting_at}
use Rattle.fr_capture.specs.Table.{line_if_told, seen_word}
use Rattle.fr_frame.specs.Fields.{Fields}
use Rattle.fr_interface.specs.State.{State}
use Rattle.fr_journal.specs.Held.{data_frame_seen, with_data}
use Rattle.fr_slots.specs.declared.channel.Channel.TheVariants.{A, B}
use Rattle.fr_slots.specs.Parameters.{Parameters}
use Rattle.fr_slots.specs.Windows.{slot_of}
use Rattle.fr_trace.proofs.WritingLemmas.{appends-last}
use Rattle.fr_capture.proofs.lines.write_lines.Goals as goal

pub returns : goal.returns
returns g c =
    let s : State = c.args.interface.now in
    let m = c.args.moment.now in
    let a = c.args.a.now in
    let b = c.args.b.now in
    let told_a = c.told_of-told_a.result in
    let told_b = c.told_of-told_b.result in
    let came_a = c.is_data.result in
    let came_b = c.is_data-2.result in
    let old = g.W.Write.contents c.args.writer.now in
    let mid = g.W.Write.contents c.write_line.new.writer in
    let new = g.W.Write.contents c.write_line-2.new.writer in
    let frame_a : told_a.frame ≡ frame_on s.params m.window A a =
    subst (λ (p : Parameters). told_a.frame ≡ frame_on p m.window A a) c.params-params.ensures.value
    c.told_of-told_a.ensures.frame in
    let frame_b : told_b.frame ≡ frame_on s.params m.window B b =
    subst (λ (p : Parameters). told_b.frame ≡ frame_on p m.window B b) c.params-params.ensures.value
    c.told_of-told_b.ensures.frame in
    let word_a : told_a.word.now ≡ seen_word s.params m.window.cycle (slot_of m.window A) A a =
    subst (λ (p : Parameters). told_a.word.now ≡ seen_word p m.window.cycle (slot_of m.window A) A a)
    c.params-params.ensures.value c.told_of-told_a.ensures.word in
    let word_b : told_b.word.now ≡ seen_word s.params m.window.cycle (slot_of m.window B) B b =
    subst (λ (p : Parameters). told_b.word.now ≡ seen_word p m.window.cycle (slot_of m.window B) B b)
    c.params-params.ensures.value c.told_of-told_b.ensures.word in
    let is_a : came_a ≡ is_some (data_frame_seen s.params m.window A a) =
    c.is_data.ensures ∙ ap (λ (f : Option Fields). is_some (option_and_then with_data f)) frame_a in
    let is_b : came_b ≡ is_some (data_frame_seen s.params m.window B b) =
    c.is_data-2.ensures ∙ ap (λ (f : Option Fields). is_some (option_and_then with_data f)) frame_b in
    let line_a : List ℕ = line_if_told c.args.all s.params (sighting_at s m a b A) in
    let line_b : List ℕ = line_if_told c.args.all s.params (sighting_at s m a b B) in
    let first : Appends old mid line_a =
    subst (λ (t : List ℕ). Appends old mid t)
    (line_same c.args.all s m a b A came_a came_b told_a.channel told_a.seen.now told_a.word.now told_a.frame is_a is_b
    c.told_of-told_a.ensures.channel c.told_of-told_a.ensures.seen word_a frame_a)
    c.in_ok-write_line.ensures in
    let last : OnOk c.write_line-2.result (Appends mid new line_b) =
    subst (λ (t : List ℕ). OnOk c.write_line-2.result (Appends mid new t))
    (line_same c.args.all s m a b B came_a came_b told_b.channel told_b.seen.now told_b.word.now told_b.frame is_a is_b
    c.told_of-told_b.ensures.channel c.told_of-told_b.ensures.seen word_b frame_b)
    c.write_line-2.ensures in
    appends-last c.write_line-2.result old mid new line_a line_b first last
