-- The text of a way to the latest start of a slot (project-defined).
use Rattle.std.specs.Prelude.{◌≡◌, ℕ, true, List, [], ◌∷◌, ◌++◌, Option, Result, Bool, false}
use Rattle.std.specs.Fmt.{decimal}
use Rattle.std.specs.Io.KnownBytes.{Appends}
use Rattle.std.specs.List.{flat_map}
use Rattle.fr_files.specs.ClusterFiles.{Tells}
use Rattle.fr_files.specs.declared.error.BenchError.{BenchError}
use Rattle.fr_lines.specs.Spelling.{line_text}
use Rattle.fr_slots.specs.declared.channel.Channel.{Channel}
use Rattle.fr_slots.specs.Numbers.{cycle_count}
use Rattle.fr_slots.specs.Parameters.{is_static_slot}
use Rattle.fr_schedule.specs.Descriptions.{Description}
use Rattle.fr_latency.specs.declared.way.Frame.{Frame}
use Rattle.fr_latency.specs.Marks.{place_of_most, start_in}
use Rattle.fr_latency.specs.Openings.{last_begin, slots_before}
use Rattle.fr_latency.specs.Ways.{IsWay}

-- the cycle of the latest start
abbrev pub worst_cycle : Description → ℕ → Channel → ℕ
worst_cycle d slot channel = place_of_most (start_in d slot channel (slots_before d.params slot)) cycle_count

abbrev pub frame_line : Frame → List ℕ
frame_line frame =
    line_text
    (decimal frame.node ∷ decimal frame.buffer ∷ decimal frame.slot ∷ decimal frame.minislot ∷ [])

-- the cycle of the latest start and its minislot, and the frames of a way to it
pub record IsWayText (d : Description) (slot : ℕ) (channel : Channel) (cycle minislot : ℕ) (text : List ℕ) : Type 0
  where
    pub frames : List Frame
    pub is_way : IsWay d channel cycle (slots_before d.params slot) minislot frames
    pub text_is : text ≡ line_text (decimal cycle ∷ decimal minislot ∷ []) ++ flat_map frame_line frames

-- there is none for a static slot
abbrev pub IsTextBy : Bool → Description → ℕ → Channel → List ℕ → Type 0
IsTextBy true d slot channel text = text ≡ []
IsTextBy false d slot channel text =
    IsWayText d slot channel (worst_cycle d slot channel)
    (last_begin d channel (worst_cycle d slot channel) (slots_before d.params slot)) text

-- the text has been written
abbrev pub HasWay : ℕ → Channel → Description → Option (List ℕ) → Option (List ℕ) → Type 0
HasWay slot channel d old new =
    (text : List ℕ) × IsTextBy (is_static_slot d.params slot) d slot channel text × Appends old new text

abbrev pub ShowsWay : ℕ → Channel → List ℕ → Option (List ℕ) → Option (List ℕ) → Result (Unit {0}) BenchError → Type 0
ShowsWay slot channel = Tells (HasWay slot channel)
