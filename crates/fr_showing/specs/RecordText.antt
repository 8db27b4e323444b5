-- The bus's record, a line for each transmission and each flipped bit, with the line of the scenario from which it
-- comes (project-defined).
use Rattle.std.specs.Prelude.{ℕ, List, [], ◌∷◌, ◌++◌, codes, Option, Some, None, if◌then◌else◌}
use Rattle.std.specs.Fmt.{decimal}
use Rattle.std.specs.List.{flat_map}
use Rattle.fr_bus.specs.declared.outcome.Sent.{Sent}
use Rattle.fr_bus.specs.Record.{Recorded, corrupt_on}
use Rattle.fr_frame.specs.Decoding.{decoded}
use Rattle.fr_frame.specs.Fields.{Fields}
use Rattle.fr_lines.specs.Parts.{absent, indicators, optional_number}
use Rattle.fr_lines.specs.Spelling.{line_text}
use Rattle.fr_scenario.specs.Contents.{Contents}
use Rattle.fr_session.specs.RecordWords.{fate_word, kind_word}
use Rattle.fr_showing.specs.EachWindow.{each_window}
use Rattle.fr_showing.specs.Ends.{end_of, end_word}
use Rattle.fr_showing.specs.Origins.{origin_of_bit, origin_of_sent}
use Rattle.fr_slots.specs.Admission.{letter_of}
use Rattle.fr_slots.specs.declared.channel.Channel.{Channel}
use Rattle.fr_slots.specs.declared.channel.Channel.TheVariants.{A, B}
use Rattle.fr_slots.specs.Parameters.{Parameters}
use Rattle.fr_slots.specs.Windows.{Opportunity, slot_of, is_static}
use Rattle.fr_text.specs.Spaces.{line_of}
use Rattle.fr_text.specs.Spelling.{hex_text}

-- ---- words

-- a static window has no minislot
abbrev pub minislot_word : Opportunity → List ℕ
minislot_word w = if is_static w then absent else decimal w.minislot

-- the number of the window, the cycle of the run, the minislot, the slot and the channel
abbrev pub place_words : ℕ → Opportunity → Channel → List (List ℕ)
place_words cycle w channel =
    decimal w.number ∷ decimal cycle ∷ minislot_word w ∷ optional_number (slot_of w channel) ∷ letter_of channel ∷ []

-- the ID and the flags of a frame, or neither
abbrev pub frame_words : Option Fields → List (List ℕ)
frame_words None = absent ∷ absent ∷ []
frame_words (Some f) = decimal f.id ∷ indicators f ∷ []

-- the node, the kind, the fate and the end of a transmission
abbrev pub sent_words : Parameters → Recorded → Sent → List (List ℕ)
sent_words p r t = decimal t.node ∷ kind_word t.babble ∷ fate_word t.fate ∷ end_word (end_of p r t) ∷ []

-- ---- parts of a line

unfoldable pub place_text : ℕ → Opportunity → Channel → List ℕ
place_text cycle w channel = line_of (place_words cycle w channel)

unfoldable pub fate_text : Parameters → Recorded → Sent → List ℕ
fate_text p r t = line_of (sent_words p r t)

-- the frame that the bytes spell, if they spell one
unfoldable pub frame_text : Channel → List ℕ → List ℕ
frame_text channel bytes = line_of (frame_words (decoded channel bytes))

-- ---- lines

-- the frame, its bytes as they were sent, and the number of the scenario's line from which it comes, if there is one
unfoldable pub bytes_line : Option ℕ → Sent → List ℕ
bytes_line number t =
    line_text (frame_text t.channel t.bytes.items ∷ hex_text t.bytes.items ∷ optional_number number ∷ [])

-- its place, its fate, and the rest
abbrev pub sent_line : Contents → Parameters → ℕ → Recorded → Sent → List ℕ
sent_line s p cycle r t =
    line_of (place_text cycle r.window t.channel ∷ fate_text p r t ∷ []) ++ (32 ∷ [])
    ++ bytes_line (origin_of_sent s cycle r.window t) t

-- the bit that was to be flipped, counted from the most significant bit of the first byte, and the number of the
-- scenario's line from which it comes
unfoldable pub turned_line : Option ℕ → ℕ → List ℕ
turned_line number bit = line_text (absent ∷ codes "corrupt" ∷ decimal bit ∷ optional_number number ∷ [])

-- the place where it was to be flipped, and the rest
abbrev pub bit_lines : Contents → ℕ → Recorded → Channel → Option ℕ → List ℕ
bit_lines s cycle r channel None = []
bit_lines s cycle r channel (Some bit) =
    place_text cycle r.window channel ++ (32 ∷ []) ++ turned_line (origin_of_bit s cycle r.window channel) bit

-- the transmissions of a window in their order, and then the bits, channel A before B
abbrev pub window_text : Contents → Parameters → ℕ → Recorded → List ℕ
window_text s p cycle r =
    flat_map (sent_line s p cycle r) r.sent ++ bit_lines s cycle r A (corrupt_on r A)
    ++ bit_lines s cycle r B (corrupt_on r B)

-- all windows of the record of a run with a scenario, in their order
abbrev pub record_text : Contents → Parameters → List Recorded → List ℕ
record_text s p rs = each_window (window_text s p) rs
