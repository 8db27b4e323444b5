-- The table of observations: the names of the columns, and a line for each observation that is listed
-- (project-defined).
use Rattle.std.specs.Prelude.{ℕ, Bool, true, ◌&&◌, List, [], ◌∷◌, ◌++◌, codes, Option, Some, None, is_some}
use Rattle.std.specs.Prelude.{option_map, if◌then◌else◌}
use Rattle.std.specs.Fmt.{decimal}
use Rattle.fr_frame.specs.declared.decode.DecodeError.{DecodeError}
use Rattle.fr_frame.specs.declared.decode.DecodeError.TheVariants.{TooShort, LengthMismatch, HeaderCrc, FrameCrc}
use Rattle.fr_frame.specs.Fields.{Fields}
use Rattle.fr_frame.specs.Refusal.{refusal}
use Rattle.fr_lines.specs.Parts.{absent, indicators, optional_number}
use Rattle.fr_lines.specs.Spelling.{line_text}
use Rattle.fr_slots.specs.Admission.{letter_of}
use Rattle.fr_slots.specs.Parameters.{Parameters}
use Rattle.fr_status.specs.declared.status.SlotStatus.{SlotStatus}
use Rattle.fr_status.specs.Status.{judged}
use Rattle.fr_frame.specs.Decoding.{decoded}
use Rattle.fr_text.specs.Spaces.{line_of as words_joined}
use Rattle.fr_text.specs.Spelling.{hex_text}
use Rattle.fr_capture.specs.declared.takers.Taker.{Taker}
use Rattle.fr_capture.specs.Sightings.{Sighting}
use Rattle.fr_capture.specs.Takers.{takers_word}
use Rattle.fr_slots.specs.declared.channel.Channel.{Channel}
use Rattle.fr_status.specs.Forms.{Seen}
use Rattle.fr_status.specs.declared.seen.Seen.TheVariants.{Silence, Own, Conflict, Noise, Overrun, Bytes}
use Rattle.arrayvec.specs.ArrayVec.{ArrayVec}

-- ---- words

-- the bit of the slot's status that is set
abbrev pub bit_word : SlotStatus → List ℕ
bit_word status =
    if status.valid then codes "valid" else if status.content then codes "content"
    else if status.syntax then codes "syntax" else absent

-- the word is a dash if the channel had no slot
abbrev pub status_word : Option SlotStatus → List ℕ
status_word None = absent
status_word (Some status) = bit_word status

-- the reason why the bytes are no frame
abbrev pub error_word : DecodeError → List ℕ
error_word TooShort = codes "short"
error_word LengthMismatch = codes "length"
error_word HeaderCrc = codes "header"
error_word FrameCrc = codes "frame"

-- for bytes the word of the slot's status, and for all other observations their own word
abbrev pub seen_word : Parameters → ℕ → Option ℕ → Channel → Seen → List ℕ
seen_word p cycle slot channel Silence = codes "silence"
seen_word p cycle slot channel Own = codes "own"
seen_word p cycle slot channel Conflict = codes "conflict"
seen_word p cycle slot channel Noise = codes "noise"
seen_word p cycle slot channel Overrun = codes "overrun"
seen_word p cycle slot channel (Bytes bytes) =
    status_word (option_map (λ k. judged p cycle k (decoded channel bytes.items)) slot)

-- ---- the end of a line

-- the fields of a frame, and its receivers
abbrev pub frame_words : Fields → List Taker → List (List ℕ)
frame_words f takers = absent ∷ decimal f.id ∷ indicators f ∷ takers_word takers ∷ hex_text f.payload ∷ []

-- the reason why bytes are no frame, and the bytes as they came
abbrev pub bytes_words : DecodeError → List Taker → List ℕ → List (List ℕ)
bytes_words error takers bytes = error_word error ∷ absent ∷ absent ∷ takers_word takers ∷ hex_text bytes ∷ []

-- the words of a line without bytes
abbrev pub no_words : List Taker → List (List ℕ)
no_words takers = absent ∷ absent ∷ absent ∷ takers_word takers ∷ absent ∷ []

-- the bytes are a frame, or there is a reason why they are none
unfoldable pub content_text : Option DecodeError → Option Fields → List Taker → List ℕ → List ℕ
content_text error (Some f) takers bytes = line_text (frame_words f takers)
content_text (Some error) None takers bytes = line_text (bytes_words error takers bytes)
content_text None None takers bytes = []

abbrev pub bytes_text : Channel → List Taker → List ℕ → List ℕ
bytes_text channel takers bytes = content_text (refusal channel bytes) (decoded channel bytes) takers bytes

-- the controller's own frame, if its fetch handed one to the bus
abbrev pub own_text : Channel → List Taker → Option (ArrayVec ℕ) → List ℕ
own_text channel takers None = line_text (no_words takers)
own_text channel takers (Some bytes) = bytes_text channel takers bytes.items

-- the bytes that came, or the frame that the controller sent, if either was alone on the channel
abbrev pub seen_text : Channel → List Taker → Seen → Option (ArrayVec ℕ) → List ℕ
seen_text channel takers Silence handed = line_text (no_words takers)
seen_text channel takers Own handed = own_text channel takers handed
seen_text channel takers Conflict handed = line_text (no_words takers)
seen_text channel takers Noise handed = line_text (no_words takers)
seen_text channel takers Overrun handed = line_text (no_words takers)
seen_text channel takers (Bytes bytes) handed = bytes_text channel takers bytes.items

-- ---- lines

abbrev pub first_words : ℕ → ℕ → Option ℕ → Channel → List ℕ → List (List ℕ)
first_words time cycle slot channel word =
    decimal time ∷ decimal cycle ∷ optional_number slot ∷ letter_of channel ∷ word ∷ []

-- the part of a line before its end
abbrev pub first_text : ℕ → ℕ → Option ℕ → Channel → List ℕ → List ℕ
first_text time cycle slot channel word = words_joined (first_words time cycle slot channel word) ++ (32 ∷ [])

abbrev pub line_of : Parameters → Sighting → List ℕ
line_of p s =
    first_text s.time s.cycle s.slot s.channel (seen_word p s.cycle s.slot s.channel s.seen)
    ++ seen_text s.channel s.takers s.seen s.handed

-- Received bytes have a line. With `all` each other observation has one too, except silence on a channel that had no
-- slot.
abbrev pub is_told : Bool → Option ℕ → Seen → Bool
is_told all slot Silence = all && is_some slot
is_told all slot Own = all
is_told all slot Conflict = all
is_told all slot Noise = all
is_told all slot Overrun = all
is_told all slot (Bytes bytes) = true

abbrev pub line_if_told : Bool → Parameters → Sighting → List ℕ
line_if_told all p s = if is_told all s.slot s.seen then line_of p s else []

-- the names of the columns
abbrev pub head_line : List ℕ
head_line = codes "time cycle slot channel status error id flags taker bytes" ++ (10 ∷ [])
