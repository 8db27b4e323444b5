-- The judgement of a recording, record by record (project-defined). Each channel is judged by itself; the channel of
-- the record stands first in the state.
use Rattle.std.specs.Prelude.{ℕ, zero, suc, ◌+◌, ◌-◌, ◌/◌, ◌==◌, nat_lt, nat_le, ◌&&◌, ◌||◌, not, Bool, true, false}
use Rattle.std.specs.Prelude.{if◌then◌else◌, List, [], ◌∷◌, ◌++◌, length, min, Option, Some, None, Result, Ok, Err}
use Rattle.std.specs.Prelude.{slice_index, slice_index_or, slice_set, replicate, ◌%◌, pos}
use Rattle.std.specs.List.{list_any}
use Rattle.std.specs.Option.{is_some, is_none, option_or}
use Rattle.fr_frame.specs.Fields.{Fields}
use Rattle.fr_logged.specs.Findings.{bare, with_numbers, number_word}
use Rattle.fr_logged.specs.Logged.{kind_of, spelled, cut, place_in, place_of as frame_place}
use Rattle.fr_logged.specs.Rules.{same, static_rules, static_finding, dynamic_finding, minislot_finding}
use Rattle.fr_logged.specs.declared.due.Due.{Due}
use Rattle.fr_logged.specs.declared.finding.Finding.{Finding}
use Rattle.fr_logged.specs.declared.finding.Name.{Name}
use Rattle.fr_logged.specs.declared.finding.Name.TheVariants as name
use Rattle.fr_logged.specs.declared.finding.Place.{Place}
use Rattle.fr_logged.specs.declared.finding.Word.{Word}
use Rattle.fr_logged.specs.declared.finding.Word.TheVariants.{Absent, Number}
use Rattle.fr_logged.specs.declared.record.Kind.{Kind}
use Rattle.fr_logged.specs.declared.record.Kind.TheVariants.{Foreign, Symbol, Frame}
use Rattle.fr_recording.specs.Numbers.{counted}
use Rattle.fr_recording.specs.Records.{Record}
use Rattle.fr_slots.specs.Admission.{is_channel}
use Rattle.fr_slots.specs.declared.channel.Channel.{Channel}
use Rattle.fr_slots.specs.declared.channel.Channel.TheVariants.{A, B}
use Rattle.fr_judging.specs.Distances.{distance_to, is_anew, time_finding, fixed_after}
use Rattle.fr_judging.specs.Lanes.{fresh_lane, disturbed, opens, same_open, begun, passed, opens_at, after_dynamic}
use Rattle.fr_judging.specs.Names.{index_of, is_missing}
use Rattle.fr_judging.specs.Rules.{other_channel, judges, has_sender_in, are_both, due_at, is_sent}
use Rattle.fr_judging.specs.Tallies.{fresh_tally, place_of, static_place, away_place, span_between}
use Rattle.fr_judging.specs.declared.distance.Distance.{Distance}
use Rattle.fr_judging.specs.declared.judge.Shown.{Shown}
use Rattle.fr_judging.specs.declared.lane.Held.{Held}
use Rattle.fr_judging.specs.declared.lane.Lane.{Lane}
use Rattle.fr_judging.specs.declared.lane.Next.{Next}
use Rattle.fr_judging.specs.declared.line.At.{At}
use Rattle.fr_judging.specs.declared.line.Line.{Line}
use Rattle.fr_judging.specs.declared.line.Line.TheVariants as line
use Rattle.fr_judging.specs.declared.rules.Rules.{Rules}
use Rattle.fr_judging.specs.declared.tally.Came.{Came}
use Rattle.fr_judging.specs.declared.tally.SlotTally.{SlotTally}
use Rattle.fr_judging.specs.declared.tally.Span.{Span}

-- The channel of the record and the other one. The counts of slots, and how often a static slot was missing since its
-- owner's last frame there. The last frame of each slot that a buffer for both channels sends in. The lines that the
-- record shows. The findings of each name, the slots that came back, and the records of each kind.
pub record State : Type 0 where
  pub rules : Rules
  pub mine : Lane
  pub other : Lane
  pub channel : Channel
  pub slots : List SlotTally
  pub away : List ℕ
  pub shown : List Shown
  pub lines : List Line
  pub found : List ℕ
  pub backs : ℕ
  pub records : ℕ
  pub foreign : ℕ
  pub symbols : ℕ

-- the other channel comes first
abbrev pub turned : State → State
turned s = record s { mine = s.other; other = s.mine; channel = other_channel s.channel }

abbrev pub turn : State → Channel → State
turn s channel = if is_channel s.channel channel then s else turned s

-- ---- lines

-- so many lines are kept of a record, which are more than it can show
abbrev pub most_lines : ℕ
most_lines = 4096

abbrev pub with_line : List Line → Line → List Line
with_line lines l = if nat_lt (length lines) most_lines then lines ++ l ∷ [] else lines

unfoldable pub add_line : State → Line → State
add_line s l = record s { lines = with_line s.lines l }

abbrev pub count_name : State → Name → State
count_name s n = record s { found = slice_set s.found (index_of n) (counted (slice_index s.found (index_of n)) 1) }

abbrev pub tally_at : State → ℕ → Channel → SlotTally
tally_at s slot channel = slice_index_or s.slots (place_of slot channel) fresh_tally

abbrev pub with_tally : State → ℕ → Channel → SlotTally → State
with_tally s slot channel t = record s { slots = slice_set s.slots (place_of slot channel) t }

abbrev pub count_other : State → Channel → ℕ → State
count_other s channel slot = with_tally s slot channel
    (record (tally_at s slot channel) { other = counted (tally_at s slot channel).other 1 })

unfoldable pub count_place : State → Name → Place → Option ℕ → State
count_place s n place None = s
count_place s n place (Some slot) = if is_missing n then s else count_other s place.channel slot

unfoldable pub tell_line : State → Name → Line → State
tell_line s n l = if nat_le (slice_index s.found (index_of n)) s.rules.most then add_line s l else s

-- A finding is counted, and told if not too many of its name were.
unfoldable pub find : State → Option At → Place → Finding → State
find s at place f =
    tell_line (count_place (count_name s f.name) f.name place place.slot) f.name (line.Finding at place f)

unfoldable pub find_some : State → Option At → Place → Option Finding → State
find_some s at place None = s
find_some s at place (Some f) = find s at place f

-- ---- missing frames

abbrev pub slot_place : State → ℕ → ℕ → Place
slot_place s cycle slot = record { cycle = Some cycle; channel = s.channel; slot = Some slot }

abbrev pub count_missing : State → ℕ → State
count_missing s slot = with_tally s slot s.channel
    (record (tally_at s slot s.channel) { missing = counted (tally_at s slot s.channel).missing 1 })

abbrev pub away_at : State → ℕ → ℕ → ℕ
away_at s slot node = slice_index s.away (away_place slot s.channel node)

abbrev pub with_away : State → ℕ → ℕ → ℕ → State
with_away s slot node n = record s { away = slice_set s.away (away_place slot s.channel node) n }

-- it is told once, until the owner's frame comes back
unfoldable pub tell_missing : State → Option At → ℕ → ℕ → ℕ → State
tell_missing s at cycle slot node =
    if away_at s slot node == 1
    then find s at (slot_place s cycle slot) (with_numbers name.Missing node s.mine.ill)
    else s

unfoldable pub miss_of : State → Option At → ℕ → ℕ → ℕ → State
miss_of s at cycle slot node =
    tell_missing (with_away s slot node (counted (away_at s slot node) 1)) at cycle slot node

unfoldable pub miss_due : State → Option At → ℕ → ℕ → Option Due → State
miss_due s at cycle slot None = s
miss_due s at cycle slot (Some d) = miss_of (count_missing s slot) at cycle slot d.node

-- the static slot had no frame in the open cycle
unfoldable pub miss : State → Option At → ℕ → ℕ → State
miss s at cycle slot = miss_due s at cycle slot (due_at s.rules.cluster slot s.channel cycle)

-- so many static slots from one on had none
unfoldable pub skipped : State → Option At → ℕ → ℕ → ℕ → State
skipped s at cycle from zero = s
skipped s at cycle from (suc n) = miss (skipped s at cycle from n) at cycle (from + n)

-- those from one on, and before another
unfoldable pub skip_to : State → Option At → ℕ → ℕ → ℕ → State
skip_to s at cycle from end = skipped s at cycle from (end - from)

abbrev pub static_end : State → ℕ
static_end s = s.rules.cluster.params.static_slots + 1

-- those before the frame
unfoldable pub skip_before : State → Fields → At → State
skip_before s f at = skip_to s (Some at) f.cycle (s.mine.last + 1) (min f.id (static_end s))

-- those up to the end of the open cycle
abbrev pub end_in : State → Option At → Option ℕ → State
end_in s at None = s
end_in s at (Some cycle) = skip_to s at cycle (s.mine.last + 1) (static_end s)

unfoldable pub end_cycle : State → Option At → State
end_cycle s at = end_in s at s.mine.current

-- ---- a slot's frame

abbrev pub back_line : State → Line → State
back_line s l = if nat_le s.backs s.rules.most then add_line s l else s

unfoldable pub add_back : State → Line → State
add_back s l = back_line (record s { backs = counted s.backs 1 }) l

abbrev pub back_of : State → Fields → At → ℕ → ℕ → State
back_of s f at node times =
    if times == 0 then s
    else add_back (with_away s f.id node 0) (line.Back at (frame_place s.channel f) node times)

-- the slot was missing for its owner before
unfoldable pub back : State → Fields → At → Option Due → State
back s f at None = s
back s f at (Some d) = back_of s f at d.node (away_at s f.id d.node)

-- the frame that the other channel had, if it is of the same cycle
abbrev pub shown_in : Lane → Shown → Option Fields
shown_in other shown = if shown.opened == other.cycles then Some shown.frame else None

abbrev pub silence : ℕ
silence = 3

abbrev pub no_frame : Fields
no_frame = record {
  preamble = false;
  has_data = false;
  sync = false;
  startup = false;
  id = 0;
  payload = [];
  cycle = 0;
}

abbrev pub shown_at : State → ℕ → Channel → Shown
shown_at s slot channel =
    slice_index_or s.shown (static_place slot channel) (record { opened = 0; frame = no_frame })

abbrev pub is_beside : State → Fields → Bool
is_beside s f = same_open s.other.current (Some f.cycle) && not (s.other.left || nat_le silence s.other.alone)

abbrev pub beside : State → Fields → Option Fields
beside s f =
    if is_beside s f then shown_in s.other (shown_at s f.id (other_channel s.channel)) else None

abbrev pub are_equal : List ℕ → List ℕ → Bool
are_equal [] [] = true
are_equal [] (y ∷ ys) = false
are_equal (x ∷ xs) [] = false
are_equal (x ∷ xs) (y ∷ ys) = x == y && are_equal xs ys

abbrev pub differ : Fields → Option Fields → Option Finding
differ f None = None
differ f (Some g) =
    if same f.has_data g.has_data && are_equal f.payload g.payload then None else Some (bare name.Channels)

abbrev pub both_finding : State → Fields → Due → Option Finding
both_finding s f d = if d.both then differ f (beside s f) else None

unfoldable pub channels_finding : State → Fields → Option Due → Option Finding
channels_finding s f None = None
channels_finding s f (Some d) = both_finding s f d

abbrev pub show_frame : State → Fields → State
show_frame s f = record s {
  shown = slice_set s.shown (static_place f.id s.channel) (record { opened = s.mine.cycles; frame = f });
}

unfoldable pub show : State → Fields → Option Due → State
show s f None = s
show s f (Some d) = if d.both then show_frame s f else s

-- ---- the counts of a slot

-- none of so many cycles after one has a sender in the slot
unfoldable pub quiet : State → ℕ → ℕ → ℕ → Bool
quiet s slot from zero = true
quiet s slot from (suc n) = quiet s slot from n && not (is_sent s.rules slot s.channel ((from + suc n) % 64))

-- the frame before it was of the due cycle before
unfoldable pub span_since : State → Fields → At → SlotTally → Option Came → Option Span
span_since s f at t None = t.span
span_since s f at t (Some c) =
    if quiet s f.id c.cycle (min (s.mine.number - c.number) 65 - 1) then span_between t.span c.time at.time else t.span

unfoldable pub with_time : State → Fields → At → SlotTally → SlotTally
with_time s f at t =
    if is_sent s.rules f.id s.channel f.cycle then record t {
      latest = Some (record { number = s.mine.number; cycle = f.cycle; time = at.time });
      span = span_since s f at t t.latest;
    }
    else t

abbrev pub with_frame : Fields → SlotTally → SlotTally
with_frame f t =
    if f.has_data then record t { data_frames = counted t.data_frames 1 }
    else record t { null_frames = counted t.null_frames 1 }

unfoldable pub count_frame : State → Fields → At → State
count_frame s f at = with_tally s f.id s.channel (with_time s f at (with_frame f (tally_at s f.id s.channel)))

-- ---- the slot's frame

-- the frame counts
abbrev pub keep_plain : State → Fields → At → State
keep_plain s f at = count_frame (record s { mine = record s.mine { last = f.id; ill = 0 } }) f at

-- and has this finding
unfoldable pub keep_frame : State → Fields → At → Option Finding → State
keep_frame s f at finding = find_some (keep_plain s f at) (Some at) (frame_place s.channel f) finding

abbrev pub fix : State → Fields → At → Option Finding → State
fix s f at wrong = record s {
  mine = record s.mine { fixed = fixed_after s.rules s.mine f.id at.time wrong };
}

abbrev pub static_with : State → Fields → At → Option Due → Option Finding → Option Finding → State
static_with s f at due finding wrong =
    keep_frame (fix (show (back s f at due) f due) f at wrong) f at (option_or finding wrong)

abbrev pub static_found : State → Fields → At → Option Due → Option Finding → State
static_found s f at due finding = static_with s f at due finding (time_finding s.rules s.mine f.id at.time finding)

-- a frame of a static slot
unfoldable pub static_came : State → Fields → At → Option Due → State
static_came s f at due = static_found s f at due (option_or (static_finding due f) (channels_finding s f due))

-- a frame of a static slot has no finding
abbrev pub is_fine : State → Fields → At → Option Due → Bool
is_fine s f at None = false
is_fine s f at (Some d) =
    is_none (static_rules d f) && (is_none (both_finding s f d)
    && is_none (time_finding s.rules s.mine f.id at.time None))

-- and then this comes of it
unfoldable pub plain_came : State → Fields → At → Option Due → State
plain_came s f at due = keep_plain (fix (show (back s f at due) f due) f at None) f at

-- the minislot at which the slot opens is known
abbrev pub is_placed : State → Bool
is_placed s = s.rules.whole || nat_lt 1 s.mine.cycles

unfoldable pub placed_finding : State → Fields → Option Due → Option Finding
placed_finding s f None = None
placed_finding s f (Some d) =
    if is_placed s then minislot_finding s.rules.cluster.params.minislots d.latest (opens_at s.mine f) else None

-- a frame of a dynamic slot
unfoldable pub dynamic_came : State → Fields → At → Option Due → State
dynamic_came s f at due =
    keep_frame (record s { mine = after_dynamic s.rules.cluster.params s.mine f (length f.payload / 2) }) f at
    (option_or (dynamic_finding due f) (placed_finding s f due))

abbrev pub came_with : State → Fields → At → Option Due → State
came_with s f at due =
    if nat_le f.id s.rules.cluster.params.static_slots then static_came s f at due else dynamic_came s f at due

unfoldable pub came : State → Fields → At → State
came s f at = came_with s f at (due_at s.rules.cluster f.id s.channel f.cycle)

-- ---- a frame that opens a cycle

-- where the other channel has the same cycle open, it is behind
unfoldable pub leave : State → State
leave s = record s {
  mine = record s.mine { left = false };
  other = record s.other { left = s.other.left || (same_open s.mine.current s.other.current && not s.mine.left) };
}

abbrev pub silent_place : State → Place
silent_place s = record { cycle = None; channel = other_channel s.channel; slot = None }

abbrev pub count_word : Option ℕ → Word
count_word None = Absent
count_word (Some cycle) = number_word cycle

unfoldable pub tell_silent : State → Fields → At → State
tell_silent s f at =
    if s.other.alone == silence
    then find s (Some at) (silent_place s) (record {
      name = name.Silent;
      expected = number_word f.cycle;
      found = count_word s.other.current;
    })
    else s

abbrev pub with_alone : State → State
with_alone s = record s { other = record s.other { alone = counted s.other.alone 1 } }

-- the other channel may have fallen silent
unfoldable pub listen : State → Fields → At → State
listen s f at =
    if are_both s.rules && nat_lt s.other.spoke at.number then tell_silent (with_alone s) f at else s

unfoldable pub open_first : State → Fields → At → State
open_first s f at =
    let begun_s : State = record s { mine = begun s.rules.cluster.params s.mine f at } in
    came (listen (if s.rules.whole then skip_before begun_s f at else begun_s) f at) f at

unfoldable pub tell_gap : State → Fields → At → ℕ → State
tell_gap s f at past =
    if past == 1 then s
    else find s (Some at) (frame_place s.channel f) (record {
      name = name.Gap;
      expected = Absent;
      found = Number (pos (past - 1));
    })

abbrev pub enter : State → Fields → At → ℕ → State
enter s f at past = record s { mine = begun s.rules.cluster.params (passed s.mine at past) f at }

unfoldable pub open_after : State → Fields → At → Distance → State
open_after s f at d =
    came (listen (find_some (tell_gap (skip_before (enter (leave s) f at d.past) f at) f at d.past) (Some at)
    (frame_place s.channel f) d.clock) f at) f at

abbrev pub open_closed : State → Fields → At → State
open_closed s f at = open_after s f at (distance_to s.rules s.mine f at.time)

abbrev pub open_next : State → Fields → At → State
open_next s f at = open_closed (end_cycle s (Some at)) f at

-- the frame opens its cycle, which closes the one before
unfoldable pub open_cycle : State → Fields → At → State
open_cycle s f at = if is_none s.mine.current then open_first s f at else open_next s f at

-- ---- a good frame

abbrev pub disturb : State → State
disturb s = record s { mine = disturbed s.mine }

abbrev pub mark_odd : State → ℕ → State
mark_odd s slot = with_tally s slot s.channel (record (tally_at s slot s.channel) { odd = true })

-- a frame of the open cycle
unfoldable pub member : State → Fields → At → State
member s f at =
    if nat_le f.id s.mine.last
    then find (mark_odd (disturb s) f.id) (Some at) (frame_place s.channel f)
    (with_numbers name.Order s.mine.last f.id)
    else came (skip_before s f at) f at

abbrev pub add_ill : State → ℕ → State
add_ill s n = record s { mine = record s.mine { ill = counted s.mine.ill n } }

unfoldable pub wrong_count : State → Fields → At → State
wrong_count s f at =
    find (mark_odd (disturb s) f.id) (Some at) (frame_place s.channel f) (record {
      name = name.Cycle;
      expected = count_word s.mine.current;
      found = number_word f.cycle;
    })

abbrev pub next_of : Fields → Next
next_of f = record { cycle = f.cycle; slot = f.id }

unfoldable pub decide : State → Fields → At → Option Next → State
decide s f at next = if opens s.mine.current (next_of f) next then open_cycle s f at else wrong_count s f at

abbrev pub settle_with : State → Option Next → Option Held → State
settle_with s next None = s
settle_with s next (Some h) = add_ill
    (decide (record s { mine = record s.mine { held = None; ill_held = 0 } }) h.frame h.at next) s.mine.ill_held

-- the frame that waits is decided by the next good one
unfoldable pub settle : State → Option Next → State
settle s next = settle_with s next s.mine.held

unfoldable pub hold : State → Fields → At → State
hold s f at = record s { mine = record s.mine { held = Some (record { at = at; frame = f }) } }

unfoldable pub place_frame : State → Fields → At → State
place_frame s f at =
    if same_open s.mine.current (Some f.cycle)
    then if is_anew s.rules s.mine at.time then open_cycle s f at else member s f at
    else hold s f at

abbrev pub speak : State → At → State
speak s at = record s { mine = record s.mine { heard = true; spoke = at.number; alone = 0 } }

unfoldable pub good : State → Fields → At → State
good s f at = place_frame (settle (speak s at) (Some (next_of f))) f at

-- ---- a record

unfoldable pub ill : State → At → Place → Finding → State
ill s at place f = find (disturb s) (Some at) place f

-- no slot of the cluster has the frame ID
abbrev pub is_lawless : State → ℕ → Bool
is_lawless s id =
    if id == 0 then true
    else nat_lt s.rules.cluster.params.static_slots id && s.rules.cluster.params.minislots == 0

unfoldable pub spelled_frame : State → At → Fields → State
spelled_frame s at f =
    if is_lawless s f.id
    then ill s at (frame_place s.channel f) (record {
      name = name.Slot;
      expected = Absent;
      found = number_word f.id;
    })
    else good s f at

abbrev pub take_frame : State → At → List ℕ → Result Fields Finding → State
take_frame s at bytes (Err f) = ill s at (place_in s.channel bytes) f
take_frame s at bytes (Ok f) = spelled_frame s at f

abbrev pub count_record : State → State
count_record s = record s { mine = record s.mine { frames = counted s.mine.frames 1 } }

unfoldable pub frame_on : State → At → ℕ → List ℕ → State
frame_on s at original bytes = take_frame (count_record s) at bytes (spelled s.channel original bytes)

abbrev pub symbol_place : State → Place
symbol_place s = record { cycle = None; channel = s.channel; slot = None }

unfoldable pub symbol_on : State → At → ℕ → List ℕ → State
symbol_on s at original bytes =
    if nat_lt (length bytes) original then ill s at (symbol_place s) (cut original (length bytes))
    else if s.rules.cluster.params.symbol_mt == 0 then find s (Some at) (symbol_place s) (bare name.Symbol)
    else s

abbrev pub count_symbol : State → State
count_symbol s = record s { symbols = counted s.symbols 1 }

unfoldable pub take_kind : State → At → ℕ → List ℕ → Kind → State
take_kind s at original bytes Foreign = record s { foreign = counted s.foreign 1 }
take_kind s at original bytes (Symbol channel) =
    if judges s.rules channel then symbol_on (count_symbol (turn s channel)) at original bytes else s
take_kind s at original bytes (Frame channel) =
    if judges s.rules channel then frame_on (turn s channel) at original bytes else s

abbrev pub next_record : State → State
next_record s = record s { records = counted s.records 1; lines = [] }

-- the state after a record, with the lines that it shows
unfoldable pub judge : State → Record → State
judge s r =
    take_kind (next_record s) (record { number = (next_record s).records; time = r.time }) r.original r.bytes
    (kind_of r.link r.bytes)

-- ---- the end of the input

abbrev pub says_nothing : State → Bool
says_nothing s = not s.mine.heard
    && (nat_le silence (s.other.cycles + (if is_some s.other.held then 1 else 0)) || not s.other.heard)

unfoldable pub tell_nothing : State → State
tell_nothing s =
    if has_sender_in s.rules s.channel && says_nothing s
    then find s None (symbol_place s) (bare name.Nothing)
    else s

unfoldable pub tell_end : State → State
tell_end s = tell_nothing (if s.rules.whole then end_cycle s None else s)

-- the end of a channel; after a refusal nothing is told of the end
abbrev pub finish_channel : State → Bool → State
finish_channel s over = if over then tell_end (settle s None) else settle s None

unfoldable pub finish_on : State → Channel → Bool → State
finish_on s channel over = if judges s.rules channel then finish_channel (turn s channel) over else s

unfoldable pub finish : State → Bool → State
finish s over = finish_on (finish_on (record s { lines = [] }) A over) B over

-- ---- counts

abbrev pub lane_on : State → Channel → Lane
lane_on s channel = if is_channel s.channel channel then s.mine else s.other

abbrev pub found_of : State → Name → ℕ
found_of s n = slice_index s.found (index_of n)

abbrev pub is_some_number : ℕ → Bool
is_some_number n = not (n == 0)

abbrev pub has_finding : State → Bool
has_finding s = list_any is_some_number s.found

-- ---- the start

unfoldable pub no_counts : List SlotTally
no_counts = replicate 4096 fresh_tally

unfoldable pub none_away : List ℕ
none_away = replicate 32768 0

abbrev pub not_shown : Shown
not_shown = record { opened = 0; frame = no_frame }

unfoldable pub none_shown : List Shown
none_shown = replicate 2048 not_shown

unfoldable pub none_found : List ℕ
none_found = replicate 28 0

unfoldable pub fresh : Rules → State
fresh r = record {
  rules = r;
  mine = fresh_lane;
  other = fresh_lane;
  channel = A;
  slots = no_counts;
  away = none_away;
  shown = none_shown;
  lines = [];
  found = none_found;
  backs = 0;
  records = 0;
  foreign = 0;
  symbols = 0;
}
