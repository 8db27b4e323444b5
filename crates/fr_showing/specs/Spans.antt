-- The windows of a run: when each begins, and how long the slot of each channel lasts (chapter 5; the lines are
-- project-defined).
use Rattle.std.specs.Prelude.{ℕ, ◌+◌, ◌-◌, ◌*◌, min, List, [], ◌∷◌, ◌++◌, Option, Some, None, if◌then◌else◌}
use Rattle.std.specs.Fmt.{decimal}
use Rattle.fr_bus.specs.Outcome.{longest}
use Rattle.fr_bus.specs.Record.{Recorded}
use Rattle.fr_lines.specs.Parts.{absent}
use Rattle.fr_minislot.specs.DynamicRows.{row_length}
use Rattle.fr_showing.specs.EachWindow.{each_window}
use Rattle.fr_showing.specs.Listening.{begins_at}
use Rattle.fr_showing.specs.RecordText.{minislot_word}
use Rattle.fr_slots.specs.declared.channel.Channel.{Channel}
use Rattle.fr_slots.specs.declared.channel.Channel.TheVariants.{A, B}
use Rattle.fr_slots.specs.Parameters.{Parameters}
use Rattle.fr_slots.specs.Windows.{Opportunity, slot_of, is_static}
use Rattle.fr_text.specs.Spaces.{line_of}

-- The macroticks of the slot that a channel opens in a window. A dynamic slot lasts as many minislots as its longest
-- transmission takes, or to the end of the segment.
abbrev pub length_on : Parameters → Recorded → Channel → ℕ
length_on p r channel =
    if is_static r.window then p.static_mt
    else min (row_length p (longest channel r.sent)) (p.minislots + 1 - r.window.minislot) * p.minislot_mt

-- the slot of a channel and its length, if it opens one
abbrev pub span_words : Parameters → Recorded → Channel → Option ℕ → List (List ℕ)
span_words p r channel None = absent ∷ absent ∷ []
span_words p r channel (Some slot) = decimal slot ∷ decimal (length_on p r channel) ∷ []

-- the same after a space
unfoldable pub span_text : Parameters → Recorded → Channel → List ℕ
span_text p r channel = 32 ∷ line_of (span_words p r channel (slot_of r.window channel))

-- the number of a window, the cycle of the run, the minislot, and the macrotick of the run at which it begins
unfoldable pub begin_text : Parameters → ℕ → Opportunity → List ℕ
begin_text p cycle w =
    line_of (decimal w.number ∷ decimal cycle ∷ minislot_word w ∷ decimal (begins_at p cycle w) ∷ [])

-- the line of a window of this cycle of the run
abbrev pub span_line : Parameters → ℕ → Recorded → List ℕ
span_line p cycle r = begin_text p cycle r.window ++ span_text p r A ++ span_text p r B ++ 10 ∷ []

-- all windows of a record, in their order
abbrev pub spans_text : Parameters → List Recorded → List ℕ
spans_text p rs = each_window (span_line p) rs
