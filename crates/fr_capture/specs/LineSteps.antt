-- A line as the code writes it, if the valid frame and the data frames may be known. The proofs show that it agrees
-- with `Table`.
use Rattle.std.specs.Prelude.{ℕ, Bool, List, [], ◌++◌, Option, Some, None, if◌then◌else◌}
use Rattle.std.specs.Option.{option_or}
use Rattle.arrayvec.specs.ArrayVec.{ArrayVec}
use Rattle.fr_capture.specs.Clocks.{time_at}
use Rattle.fr_capture.specs.declared.moment.Moment.{Moment}
use Rattle.fr_capture.specs.declared.takers.Taker.{Taker}
use Rattle.fr_capture.specs.Sightings.{handed_by}
use Rattle.fr_capture.specs.Table.{content_text, first_text, is_told, no_words, own_text}
use Rattle.fr_capture.specs.TakerSteps.{takers_by}
use Rattle.fr_frame.specs.Decoding.{decoded}
use Rattle.fr_frame.specs.Fields.{Fields}
use Rattle.fr_frame.specs.Refusal.{refusal}
use Rattle.fr_interface.specs.State.{State}
use Rattle.fr_lines.specs.Spelling.{line_text}
use Rattle.fr_slots.specs.declared.channel.Channel.{Channel}
use Rattle.fr_slots.specs.Windows.{slot_of}
use Rattle.fr_status.specs.Forms.{Seen}
use Rattle.fr_status.specs.declared.seen.Seen.TheVariants.{Silence, Own, Conflict, Noise, Overrun, Bytes}

-- the end of the line, if the frame that the bytes spell may be known
abbrev pub seen_by : Channel → List Taker → Seen → Option (ArrayVec ℕ) → Option Fields → List ℕ
seen_by channel takers Silence handed known = line_text (no_words takers)
seen_by channel takers Own handed known = own_text channel takers handed
seen_by channel takers Conflict handed known = line_text (no_words takers)
seen_by channel takers Noise handed known = line_text (no_words takers)
seen_by channel takers Overrun handed known = line_text (no_words takers)
seen_by channel takers (Bytes bytes) handed known =
    content_text (refusal channel bytes.items) (option_or known (decoded channel bytes.items)) takers bytes.items

-- the line, if it is known whether data frames came on A and on B, and the word is known
abbrev pub line_by : Bool → State → Moment → Bool → Bool → Channel → Seen → List ℕ → Option Fields → List ℕ
line_by all s m a b channel seen word known =
    if is_told all (slot_of m.window channel) seen
    then first_text (time_at s.params m) m.window.cycle (slot_of m.window channel) channel word
    ++ seen_by channel (takers_by s.plan m.window a b channel None) seen (handed_by s (Some m.entry) channel) known
    else []
