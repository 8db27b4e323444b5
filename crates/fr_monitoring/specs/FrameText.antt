-- The lines of the frames in a recording: what each frame record has, and where in the cycle its slot is
-- (project-defined; slots and minislots by chapter 5).
use Rattle.std.specs.Prelude.{ℕ, ◌+◌, ◌-◌, ◌*◌, ◌%◌, ◌^◌, min, nat_le, nat_lt, ◌==◌, ◌&&◌, Bool, true, false, List, []}
use Rattle.std.specs.Prelude.{◌∷◌, ◌++◌, codes, Option, Some, None, Result, Ok, Err, if◌then◌else◌, length, ◌/◌}
use Rattle.std.specs.Fmt.{decimal}
use Rattle.std.specs.Option.{option_map, option_or}
use Rattle.fr_frame.specs.Fields.{Fields}
use Rattle.fr_judging.specs.Judging.{State, lane_on, is_lawless}
use Rattle.fr_judging.specs.Lanes.{same_open}
use Rattle.fr_judging.specs.Rules.{due_at, judges}
use Rattle.fr_judging.specs.declared.lane.Held.{Held}
use Rattle.fr_judging.specs.declared.lane.Lane.{Lane}
use Rattle.fr_judging.specs.declared.line.At.{At}
use Rattle.fr_logged.specs.Logged.{kind_of, spelled, place_in}
use Rattle.fr_logged.specs.Rules.{letters_of}
use Rattle.fr_logged.specs.declared.due.Due.{Due}
use Rattle.fr_logged.specs.declared.finding.Finding.{Finding}
use Rattle.fr_logged.specs.declared.finding.Place.{Place}
use Rattle.fr_logged.specs.declared.record.Kind.{Kind}
use Rattle.fr_logged.specs.declared.record.Kind.TheVariants.{Foreign, Symbol, Frame}
use Rattle.fr_recording.specs.Numbers.{counted}
use Rattle.fr_recording.specs.Records.{Record}
use Rattle.fr_schedule.specs.Descriptions.{Description}
use Rattle.fr_slots.specs.Faults.{minislots_filled}
use Rattle.fr_slots.specs.Parameters.{Parameters, is_static_slot}
use Rattle.fr_slots.specs.declared.channel.Channel.{Channel}
use Rattle.fr_slots.specs.declared.channel.Channel.TheVariants.{A, B}
use Rattle.fr_text.specs.Spelling.{hex_text}
use Rattle.fr_monitoring.specs.LineText.{at_text, place_text, letters_text, optional_text}
use Rattle.fr_monitoring.specs.declared.frames.CountedCycle.{CountedCycle}
use Rattle.fr_monitoring.specs.declared.frames.Waiting.{Waiting}

-- ---- a frame that waits

-- The frame of a channel that waits for the next good one: its record, its cycle count, and the cycles opened before.
abbrev pub waiting_by : ℕ → Option Held → Option Waiting
waiting_by cycles None = None
waiting_by cycles (Some h) = Some (record { number = h.at.number; cycle = h.frame.cycle; cycles = cycles })

abbrev pub waiting_on : Lane → Option Waiting
waiting_on l = waiting_by l.cycles l.held

-- the frame of this record waits
abbrev pub is_held : Option Held → ℕ → Bool
is_held None number = false
is_held (Some h) number = h.at.number == number

abbrev pub is_waiting : Lane → ℕ → Bool
is_waiting l number = is_held l.held number

-- ---- the place of a slot in its cycle

-- The minislot at which the frame's slot opens, if the recording has every frame before it in the dynamic segment; in
-- any case the slot doesn't open before. A frame that waits is the first of its cycle. Zero stands for none.
abbrev pub minislot_of : Parameters → Lane → Bool → Fields → ℕ
minislot_of p l waits f =
    if waits then f.id - p.static_slots
    else if l.slot == f.id + 1 then l.minislot - (minislots_filled p (length f.payload / 2) + p.idle)
    else 0

-- the first macrotick of a minislot, counted from the start of the cycle
abbrev pub minislot_start : Parameters → ℕ → Option ℕ
minislot_start p m =
    if nat_le 1 m && nat_le m p.minislots
    then Some (p.static_slots * p.static_mt + (m - 1) * p.minislot_mt)
    else None

-- the first macrotick of the frame's slot
abbrev pub begin_of : Parameters → Lane → Bool → Fields → Option ℕ
begin_of p l waits f =
    if is_static_slot p f.id then Some ((f.id - 1) * p.static_mt) else minislot_start p (minislot_of p l waits f)

-- the macroticks of the frame's slot
abbrev pub length_of : Parameters → Fields → ℕ
length_of p f =
    if is_static_slot p f.id then p.static_mt else minislots_filled p (length f.payload / 2) * p.minislot_mt

-- the first macrotick and the macroticks of the slot that a header names, if it is a static one
unfoldable pub static_text : Parameters → ℕ → List ℕ
static_text p slot = codes " " ++ decimal ((slot - 1) * p.static_mt) ++ codes " " ++ decimal p.static_mt

unfoldable pub named_text : Parameters → Option ℕ → List ℕ
named_text p None = codes " - -"
named_text p (Some slot) =
    if nat_le 1 slot && nat_le slot p.static_slots then static_text p slot else codes " - -"

-- ---- the sender

abbrev pub node_of : Option Due → Option ℕ
node_of due = option_map (λ (d : Due). d.node) due

abbrev pub sender_of : Description → Channel → Option ℕ → Option ℕ → Option ℕ
sender_of d channel None slot = None
sender_of d channel (Some cycle) None = None
sender_of d channel (Some cycle) (Some slot) = node_of (due_at d slot channel cycle)

-- the node that may send at a place: the owner of a static slot, or the sender of a dynamic one
abbrev pub sender_at : Description → Place → Option ℕ
sender_at d p = sender_of d p.channel p.cycle p.slot

unfoldable pub node_text : Description → Place → List ℕ
node_text d place = codes " " ++ optional_text (sender_at d place)

-- ---- the cycle with a count

-- the open cycle of the channel
abbrev pub open_on : Lane → Option CountedCycle
open_on l = option_map (λ c. record { number = l.number; count = c }) l.current

abbrev pub first_by : Option Held → Option CountedCycle
first_by None = None
first_by (Some h) = Some (record { number = 0; count = h.frame.cycle })

-- the open cycle, or before the first one the cycle that the frame opens which waits for the next good one
abbrev pub known_on : Lane → Option CountedCycle
known_on l = option_or (open_on l) (first_by l.held)

-- A number of cycles before this one. There may be fewer.
abbrev pub before_text : ℕ → ℕ → List ℕ
before_text n cycles = if nat_le cycles n then decimal (n - cycles) else 45 ∷ decimal (cycles - n)

-- how many counts another is ahead, modulo 64, and 32 more
abbrev pub steps_to : ℕ → ℕ → ℕ
steps_to from to = (to + 96 - from) % 64

abbrev pub stepped_text : ℕ → ℕ → List ℕ
stepped_text n steps =
    if nat_lt steps 32 then before_text n (32 - steps) else decimal (min (n + (steps - 32)) (2 ^ 128 - 1))

-- The number of the nearest cycle with this count: one of the 32 before the known one, this one, or one of the 31 after
-- it. The cycles before the first one have numbers below 0.
abbrev pub nearest_text : Option CountedCycle → Option ℕ → List ℕ
nearest_text None count = codes "-"
nearest_text (Some c) None = codes "-"
nearest_text (Some c) (Some count) = stepped_text c.number (steps_to c.count count)

abbrev pub other_than : Channel → Channel
other_than A = B
other_than B = A

-- the number that the nearest cycle with this count has on the other channel, if a cycle is open there
unfoldable pub beside_text : State → Channel → ℕ → List ℕ
beside_text s channel count =
    codes " " ++ nearest_text (open_on (lane_on s (other_than channel))) (Some count)

-- ---- the line of a frame

-- the number of the open cycle on its channel, counted from 0
unfoldable pub cycle_text : Lane → Bool → List ℕ
cycle_text l true = codes "-"
cycle_text l false = decimal l.number

unfoldable pub slot_text : Parameters → Lane → Bool → Fields → List ℕ
slot_text p l waits f =
    cycle_text l waits ++ codes " " ++ optional_text (begin_of p l waits f) ++ codes " " ++ decimal (length_of p f)

unfoldable pub content_text : Fields → List ℕ
content_text f = codes " " ++ letters_text (letters_of f) ++ codes " " ++ hex_text f.payload

unfoldable pub good_text : Description → Lane → Bool → Place → Fields → List ℕ
good_text d l waits place f = slot_text d.params l waits f ++ node_text d place ++ content_text f

-- A record without a frame of the cluster: the nearest cycle with the count that its header names, and the static slot
-- and the sender that it names.
unfoldable pub broken_text : Description → Lane → Place → List ℕ
broken_text d l place =
    nearest_text (known_on l) place.cycle ++ named_text d.params place.slot ++ node_text d place ++ codes " - - -"

abbrev pub placed_text : State → Channel → Bool → Place → Fields → List ℕ
placed_text s channel waits place f =
    good_text s.rules.cluster (lane_on s channel) waits place f ++ beside_text s channel f.cycle

-- what a record spells on the channel, after the judgement of the record; a frame of no slot has no place
unfoldable pub spelled_text : State → Channel → ℕ → Place → Result Fields Finding → List ℕ
spelled_text s channel number place (Err finding) = broken_text s.rules.cluster (lane_on s channel) place
spelled_text s channel number place (Ok f) =
    if is_lawless s f.id then broken_text s.rules.cluster (lane_on s channel) place
    else placed_text s channel (is_waiting (lane_on s channel) number) place f

-- the record, and the place that its header names
unfoldable pub front_text : At → Place → List ℕ
front_text at place = codes "frame " ++ at_text (Some at) ++ codes " " ++ place_text place ++ codes " "

unfoldable pub frame_line : State → Channel → Record → List ℕ
frame_line s channel r =
    front_text (record { number = s.records; time = r.time }) (place_in channel r.bytes)
    ++ spelled_text s channel s.records (place_in channel r.bytes) (spelled channel r.original r.bytes) ++ 10 ∷ []

-- ---- the cycle of a frame that waited

-- Of two cycles that one record opens, the number of the first isn't told.
abbrev pub opened_text : Waiting → Lane → List ℕ
opened_text w l = if l.cycles == counted w.cycles 1 then decimal l.number else codes "-"

unfoldable pub opens_line : State → Channel → Waiting → List ℕ
opens_line s channel w =
    codes "opens " ++ decimal w.number ++ codes " " ++ opened_text w (lane_on s channel)
    ++ beside_text s channel w.cycle ++ 10 ∷ []

-- it waits no longer, and opened its cycle
abbrev pub has_opened : Waiting → Lane → Bool
has_opened w l = if is_waiting l w.number then false else same_open (Some w.cycle) l.current

unfoldable pub opens_text : State → Channel → Option Waiting → List ℕ
opens_text s channel None = []
opens_text s channel (Some w) = if has_opened w (lane_on s channel) then opens_line s channel w else []

-- ---- a record

-- the frame that waits on the channel of a record
abbrev pub waiting_at : State → Kind → Option Waiting
waiting_at s Foreign = None
waiting_at s (Symbol channel) = None
waiting_at s (Frame channel) = waiting_on (lane_on s channel)

-- the lines of a record, in the state after it
unfoldable pub frame_text : Option Waiting → State → Record → Kind → List ℕ
frame_text w s r Foreign = []
frame_text w s r (Symbol channel) = []
frame_text w s r (Frame channel) =
    if judges s.rules channel then opens_text s channel w ++ frame_line s channel r else []

abbrev pub frames_text : State → State → Record → List ℕ
frames_text before after r =
    frame_text (waiting_at before (kind_of r.link r.bytes)) after r (kind_of r.link r.bytes)

-- ---- the end of the input

-- the frames that waited up to the end
unfoldable pub last_text : Option Waiting → Option Waiting → State → List ℕ
last_text a b s = opens_text s A a ++ opens_text s B b

abbrev pub ends_text : State → State → List ℕ
ends_text before after = last_text (waiting_on (lane_on before A)) (waiting_on (lane_on before B)) after
