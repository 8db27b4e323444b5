-- The valid frame in a slot is the one that the bytes spell, and its receivers are those of the window.
use Rattle.std.proofs.Common.{◌≡◌, ℕ, ◌++◌, List, [], Option, Some, None, Bool, true, false, if◌then◌else◌, ap, refl}
use Rattle.std.proofs.Common.{◌∙◌}
use Rattle.std.specs.Option.{option_and_then, option_or}
use Rattle.std.specs.Prelude.{is_some}
use Rattle.arrayvec.specs.ArrayVec.{ArrayVec}
use Rattle.fr_capture.proofs.TakerLemmas.{takers_is}
use Rattle.fr_capture.specs.Clocks.{sighting_at, time_at}
use Rattle.fr_capture.specs.declared.moment.Moment.{Moment}
use Rattle.fr_capture.specs.declared.takers.Taker.{Taker}
use Rattle.fr_capture.specs.LineSteps.{line_by, seen_by}
use Rattle.fr_capture.specs.Sightings.{handed_by}
use Rattle.fr_capture.specs.Table.{content_text, first_text, is_told, line_if_told, seen_text, seen_word}
use Rattle.fr_capture.specs.Takers.{takers_of}
use Rattle.fr_frame.specs.Decoding.{decoded}
use Rattle.fr_frame.specs.Fields.{Fields}
use Rattle.fr_frame.specs.Refusal.{refusal}
use Rattle.fr_interface.specs.State.{State}
use Rattle.fr_journal.specs.Counts.{seen_on}
use Rattle.fr_journal.specs.Held.{data_frame_seen}
use Rattle.fr_slots.specs.declared.channel.Channel.{Channel}
use Rattle.fr_slots.specs.declared.channel.Channel.TheVariants.{A, B}
use Rattle.fr_slots.specs.Parameters.{Parameters}
use Rattle.fr_slots.specs.Windows.{Opportunity, slot_of}
use Rattle.fr_status.specs.Forms.{Seen}
use Rattle.fr_status.specs.declared.seen.Seen.TheVariants.{Silence, Own, Conflict, Noise, Overrun, Bytes}
use Rattle.fr_status.specs.Status.{frame_in, passed, passes}

-- a frame that is right for a slot, if one came
right : (b : Bool) (f : Fields) → option_or (if b then Some f else None) (Some f) ≡ Some f
right true f = refl
right false f = refl

valid_read : (p : Parameters) (cycle : ℕ) (slot : Option ℕ) (read : Option Fields)
    → option_or (option_and_then (λ s. passed p cycle s read) slot) read ≡ read
valid_read p cycle None read = refl
valid_read p cycle (Some s) None = refl
valid_read p cycle (Some s) (Some f) = right (passes p cycle s f) f

-- the frame that came, if the slot is right for it
abbrev pub frame_on : Parameters → Opportunity → Channel → Seen → Option Fields
frame_on p w channel seen = option_and_then (λ s. frame_in p w.cycle s channel seen) (slot_of w channel)

seen_read : (p : Parameters) (w : Opportunity) (channel : Channel) (takers : List Taker) (seen : Seen)
    (handed : Option (ArrayVec ℕ))
    → seen_by channel takers seen handed (frame_on p w channel seen) ≡ seen_text channel takers seen handed
unfolding Rattle.fr_status.specs.Status.frame_in
seen_read p w channel takers Silence handed = refl
seen_read p w channel takers Own handed = refl
seen_read p w channel takers Conflict handed = refl
seen_read p w channel takers Noise handed = refl
seen_read p w channel takers Overrun handed = refl
seen_read p w channel takers (Bytes bytes) handed =
    ap (λ (f : Option Fields). content_text (refusal channel bytes.items) f takers bytes.items)
    (valid_read p w.cycle (slot_of w channel) (decoded channel bytes.items))

module _ (all : Bool) (s : State) (m : Moment) (a b : Seen) where
  -- the line that the code writes is that of the observation
  pub line_same : (channel : Channel) (came_a came_b : Bool) (told : Channel) (seen : Seen) (word : List ℕ)
      (frame : Option Fields)
      → came_a ≡ is_some (data_frame_seen s.params m.window A a)
      → came_b ≡ is_some (data_frame_seen s.params m.window B b)
      → told ≡ channel → seen ≡ seen_on channel a b
      → word ≡ seen_word s.params m.window.cycle (slot_of m.window channel) channel (seen_on channel a b)
      → frame ≡ frame_on s.params m.window channel (seen_on channel a b)
      → line_by all s m came_a came_b told seen word frame ≡ line_if_told all s.params (sighting_at s m a b channel)
  line_same channel came_a came_b told seen word frame a_is b_is told_is seen_is word_is frame_is =
      let on = seen_on channel a b in
      let handed = handed_by s (Some m.entry) channel in
      let front = first_text (time_at s.params m) m.window.cycle (slot_of m.window channel) channel
      (seen_word s.params m.window.cycle (slot_of m.window channel) channel on) in
      (λ i. line_by all s m came_a came_b (told_is i) (seen_is i) (word_is i) (frame_is i))
      ∙ ap (λ (takers : List Taker). if is_told all (slot_of m.window channel) on then
      front ++ seen_by channel takers on handed (frame_on s.params m.window channel on) else [])
      (takers_is s.params s.plan m.window a b came_a came_b a_is b_is channel None)
      ∙ ap (λ (t : List ℕ). if is_told all (slot_of m.window channel) on then front ++ t else [])
      (seen_read s.params m.window channel (takers_of s.params s.plan m.window a b channel None) on handed)
