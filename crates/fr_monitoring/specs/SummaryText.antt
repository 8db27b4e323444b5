-- The text of the summary of a recording (project-defined).
use Rattle.std.specs.Prelude.{ℕ, zero, suc, ◌+◌, ◌==◌, ◌&&◌, ◌||◌, not, Bool, true, false, List, [], ◌∷◌, ◌++◌, codes}
use Rattle.std.specs.Prelude.{Option, Some, None, if◌then◌else◌}
use Rattle.std.specs.Fmt.{decimal, signed_decimal}
use Rattle.std.specs.List.{flat_map, list_any}
use Rattle.fr_schedule.specs.Descriptions.{Description}
use Rattle.fr_slots.specs.Admission.{letter_of, includes}
use Rattle.fr_slots.specs.Faults.{transmits}
use Rattle.fr_slots.specs.Parameters.{Parameters, is_static_slot}
use Rattle.fr_slots.specs.Plans.{Plan}
use Rattle.fr_slots.specs.declared.channel.Channel.{Channel}
use Rattle.fr_slots.specs.declared.channel.Channel.TheVariants.{A, B}
use Rattle.fr_slots.specs.declared.plan.Buffer.{Buffer}
use Rattle.fr_slots.specs.declared.plan.Own.{Own}
use Rattle.fr_logged.specs.declared.finding.Name.{Name}
use Rattle.fr_logged.specs.declared.finding.Name.TheVariants as name
use Rattle.fr_judging.specs.Judging.{State, lane_on, tally_at, found_of}
use Rattle.fr_judging.specs.Rules.{judges}
use Rattle.fr_judging.specs.declared.lane.Lane.{Lane}
use Rattle.fr_judging.specs.declared.tally.SlotTally.{SlotTally}
use Rattle.fr_judging.specs.declared.tally.Span.{Span}
use Rattle.fr_monitoring.specs.LineText.{name_word}

unfoldable pub span_text : Option Span → List ℕ
span_text None = codes "shortest - longest -"
span_text (Some s) = codes "shortest " ++ signed_decimal s.shortest ++ codes " longest " ++ signed_decimal s.longest

-- ---- records and channels

unfoldable pub records_text : State → ℕ → List ℕ
records_text s blocks =
    codes "records " ++ decimal s.records ++ codes " foreign " ++ decimal s.foreign ++ codes " symbols "
    ++ decimal s.symbols ++ codes " skipped " ++ decimal blocks ++ 10 ∷ []

unfoldable pub lane_counts : Lane → List ℕ
lane_counts l =
    codes " frames " ++ decimal l.frames ++ codes " cycles " ++ decimal l.cycles ++ codes " gaps " ++ decimal l.gaps
    ++ codes " lost " ++ decimal l.lost ++ codes " "

unfoldable pub lane_text : Channel → Lane → List ℕ
lane_text channel l = codes "channel " ++ letter_of channel ++ lane_counts l ++ span_text l.span ++ 10 ∷ []

-- a channel that is judged has a line
unfoldable pub channel_text : State → Channel → List ℕ
channel_text s channel = if judges s.rules channel then lane_text channel (lane_on s channel) else []

-- ---- slots

abbrev pub is_own_of : ℕ → Channel → Own → Bool
is_own_of slot channel own = own.slot == slot && includes own.channels channel

abbrev pub is_buffer_of : Parameters → ℕ → Channel → Buffer → Bool
is_buffer_of p slot channel b =
    transmits b && not (is_static_slot p b.filter.slot) && (b.filter.slot == slot && includes b.filter.channels channel)

-- the node sends in the slot on the channel in some cycle
abbrev pub sends_in : Parameters → ℕ → Channel → Plan → Bool
sends_in p slot channel plan =
    list_any (is_own_of slot channel) plan.owned || list_any (is_buffer_of p slot channel) plan.buffers

abbrev pub comma_if : Bool → List ℕ
comma_if true = codes ","
comma_if false = []

abbrev pub dash_unless : Bool → List ℕ
dash_unless true = []
dash_unless false = codes "-"

-- the senders among the nodes, which are numbered from this number up; some were written before, or none
unfoldable pub nodes_from : Parameters → ℕ → Channel → Bool → ℕ → List Plan → List ℕ
nodes_from p slot channel some node [] = dash_unless some
nodes_from p slot channel some node (plan ∷ plans) =
    if sends_in p slot channel plan
    then (comma_if some ++ decimal node) ++ nodes_from p slot channel true (node + 1) plans
    else nodes_from p slot channel some (node + 1) plans

abbrev pub nodes_text : Description → ℕ → Channel → List ℕ
nodes_text d slot channel = nodes_from d.params slot channel false 0 d.plans

-- the slot has a sender on the channel in some cycle
abbrev pub is_slot_of : Description → ℕ → Channel → Bool
is_slot_of d slot channel = list_any (sends_in d.params slot channel) d.plans

-- it had a good frame
abbrev pub is_heard : SlotTally → Bool
is_heard t = t.odd || (not (t.data_frames == 0) || not (t.null_frames == 0))

unfoldable pub tally_counts : SlotTally → List ℕ
tally_counts t =
    codes " data " ++ decimal t.data_frames ++ codes " null " ++ decimal t.null_frames ++ codes " missing "
    ++ decimal t.missing ++ codes " other " ++ decimal t.other ++ codes " "

unfoldable pub tally_text : SlotTally → List ℕ
tally_text t = tally_counts t ++ span_text t.span ++ 10 ∷ []

unfoldable pub slot_line : State → ℕ → Channel → List ℕ
slot_line s slot channel =
    codes "slot " ++ decimal slot ++ codes " " ++ letter_of channel ++ codes " "
    ++ nodes_text s.rules.cluster slot channel ++ tally_text (tally_at s slot channel)

abbrev pub has_line : State → ℕ → Channel → Bool
has_line s slot channel = judges s.rules channel
    && (is_heard (tally_at s slot channel) || is_slot_of s.rules.cluster slot channel)

unfoldable pub slot_text : State → ℕ → Channel → List ℕ
slot_text s slot channel = if has_line s slot channel then slot_line s slot channel else []

-- the lines of so many slots, from slot 1 on
unfoldable pub slots_text : State → ℕ → List ℕ
slots_text s zero = []
slots_text s (suc n) = slots_text s n ++ (slot_text s (suc n) A ++ slot_text s (suc n) B)

-- ---- findings

abbrev pub all_names : List Name
all_names =
    name.Cut ∷ name.LoggedCoding ∷ name.LoggedStart ∷ name.LoggedHeader ∷ name.LoggedEnd ∷ name.LoggedFrame
    ∷ name.Length ∷ name.HeaderCrc ∷ name.FrameCrc ∷ name.Slot ∷ name.Cycle ∷ name.Order ∷ name.Nobody
    ∷ name.Words ∷ name.Bits ∷ name.NullFrame ∷ name.NoBuffer ∷ name.Preamble ∷ name.Channels ∷ name.Closed
    ∷ name.Late ∷ name.Missing ∷ name.Gap ∷ name.Clock ∷ name.Time ∷ name.Silent ∷ name.Symbol ∷ name.Nothing
    ∷ []

-- a name with findings has a line
unfoldable pub found_line : State → Name → List ℕ
found_line s n =
    if found_of s n == 0 then []
    else codes "found " ++ name_word n ++ codes " " ++ decimal (found_of s n) ++ 10 ∷ []

abbrev pub found_text : State → List ℕ
found_text s = flat_map (found_line s) all_names

-- ---- the summary

unfoldable pub summary_text : State → ℕ → List ℕ
summary_text s blocks =
    records_text s blocks ++ channel_text s A ++ channel_text s B ++ slots_text s 2047 ++ found_text s
