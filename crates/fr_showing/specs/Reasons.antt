-- The facts for which the commits of a run weren't sent or weren't received, window by window: the transmit buffers of
-- the dynamic segment that are due, whether and when their slots open, the faults that had an effect on the bus, and
-- the babbles that a bus guardian stopped (project-defined).
use Rattle.std.specs.Prelude.{ℕ, ◌+◌, ◌-◌, nat_le, Bool, List, [], ◌∷◌, ◌++◌, codes, Option, Some, None}
use Rattle.std.specs.Prelude.{if◌then◌else◌}
use Rattle.std.specs.Fmt.{decimal}
use Rattle.std.specs.List.{flat_map}
use Rattle.fr_bus.specs.declared.outcome.Sent.{Sent}
use Rattle.fr_bus.specs.Outcome.{longest}
use Rattle.fr_bus.specs.Record.{Recorded}
use Rattle.fr_lines.specs.Parts.{optional_number}
use Rattle.fr_lines.specs.Spelling.{line_text}
use Rattle.fr_minislot.specs.DynamicRows.{row_length}
use Rattle.fr_openings.specs.declared.openings.LastSlots.{LastSlots}
use Rattle.fr_openings.specs.Openings.{openings_text}
use Rattle.fr_runs.specs.Effects.{is_flipped}
use Rattle.fr_scenario.specs.Contents.{Contents}
use Rattle.fr_schedule.specs.Descriptions.{Description}
use Rattle.fr_showing.specs.declared.ends.End.{End}
use Rattle.fr_showing.specs.declared.ends.End.TheVariants.{Alone, Turned, Overrun, Collided, Muted, Blocked}
use Rattle.fr_showing.specs.EachWindow.{each_window}
use Rattle.fr_showing.specs.Ends.{end_of, end_word}
use Rattle.fr_showing.specs.Origins.{origin_of_bit, origin_of_sent}
use Rattle.fr_slots.specs.Admission.{letter_of}
use Rattle.fr_slots.specs.declared.channel.Channel.{Channel}
use Rattle.fr_slots.specs.declared.channel.Channel.TheVariants.{A, B}
use Rattle.fr_slots.specs.Parameters.{Parameters}
use Rattle.fr_slots.specs.Windows.{slot_of}

-- ---- the effects of faults on the bus

-- A babble that a bus guardian stops has no effect on the bus.
abbrev pub effect_word : End → List ℕ
effect_word Alone = codes "effect"
effect_word Turned = codes "effect"
effect_word Overrun = codes "effect"
effect_word Collided = codes "effect"
effect_word Muted = codes "effect"
effect_word Blocked = codes "stopped"

-- the line that flips a bit of the transmission
abbrev pub flipped_by : Contents → ℕ → Recorded → Sent → Option ℕ
flipped_by s cycle r t = if is_flipped r t then origin_of_bit s cycle r.window t.channel else None

-- ---- lines

-- The word, the cycle of the run, the slot, the channel, the end of the transmission, its node, and the line of the
-- scenario. A babble that collides has the end of the frame with which it collides.
unfoldable pub effect_line : Parameters → ℕ → Recorded → Sent → ℕ → List ℕ
effect_line p cycle r t number =
    line_text (effect_word (end_of p r t) ∷ decimal cycle ∷ optional_number (slot_of r.window t.channel)
    ∷ letter_of t.channel ∷ end_word (end_of p r t) ∷ decimal t.node ∷ decimal number ∷ [])

abbrev pub effect_if : Parameters → ℕ → Recorded → Sent → Option ℕ → List ℕ
effect_if p cycle r t None = []
effect_if p cycle r t (Some number) = effect_line p cycle r t number

-- The lines that the transmission of a window has: of the line of the scenario that babbles it or mutes it, and of the
-- one that flips one of its bits.
abbrev pub effects_of : Contents → Parameters → ℕ → Recorded → Sent → List ℕ
effects_of s p cycle r t =
    effect_if p cycle r t (origin_of_sent s cycle r.window t) ++ effect_if p cycle r t (flipped_by s cycle r t)

-- ---- a window, and all of them

-- The slot that the channel opens in the window takes the rest of the dynamic segment, so no slot follows in the cycle.
abbrev pub is_last_on : Parameters → Recorded → Channel → Bool
is_last_on p r channel = nat_le (p.minislots + 1 - r.window.minislot) (row_length p (longest channel r.sent))

abbrev pub last_in : Parameters → Recorded → LastSlots
last_in p r = record { a = is_last_on p r A; b = is_last_on p r B }

-- the buffers, and then the effects that its transmissions show
abbrev pub reasons_in : Contents → Description → ℕ → Recorded → List ℕ
reasons_in s d cycle r =
    openings_text d cycle r.window (last_in d.params r) ++ flat_map (effects_of s d.params cycle r) r.sent

-- all windows of the record of a run with a scenario, in their order
abbrev pub reasons_text : Contents → Description → List Recorded → List ℕ
reasons_text s d rs = each_window (reasons_in s d) rs
