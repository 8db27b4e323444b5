-- A finding stays: no step of the judgement takes one back.
use Rattle.std.proofs.Common.{◌≡◌, ℕ, zero, suc, ◌+◌, ◌-◌, ◌/◌, ◌<◌, ◌≤◌, Bool, true, false, cond, List, [], ◌∷◌}
use Rattle.std.proofs.Common.{length, refl, ap, ◌∙◌, arith, inl, inr}
use Rattle.std.proofs.lemmas.Bool.{or_left, or_right, or_cases, ne_eqb, not_from_false}
use Rattle.std.proofs.lemmas.List.{length-set, get_or-set_same, length-replicate}
use Rattle.std.proofs.lemmas.List.Folds.{list_any_at}
use Rattle.std.specs.Prelude.{Option, Some, None, Result, Ok, Err, min, nat_le, nat_lt, ◌==◌, ◌&&◌, slice_index}
use Rattle.std.specs.Prelude.{slice_set}
use Rattle.std.specs.List.{list_any}
use Rattle.std.specs.Option.{is_none, option_or}
use Rattle.fr_frame.specs.Fields.{Fields}
use Rattle.fr_hearing.specs.Alarms.{judged}
use Rattle.fr_judging.specs.declared.distance.Distance.{Distance}
use Rattle.fr_judging.specs.declared.lane.Held.{Held}
use Rattle.fr_judging.specs.declared.lane.Next.{Next}
use Rattle.fr_judging.specs.declared.line.At.{At}
use Rattle.fr_judging.specs.declared.line.Line.{Line}
use Rattle.fr_judging.specs.declared.line.Line.TheVariants as line
use Rattle.fr_judging.specs.Distances.{distance_to, is_anew, time_finding}
use Rattle.fr_judging.specs.Judging.{State, turn, turned, add_line, count_name, count_other, count_place, tell_line}
use Rattle.fr_judging.specs.Judging.{find, find_some, tell_missing, miss_of, miss_due, miss, skipped, skip_to, away_at}
use Rattle.fr_judging.specs.Judging.{skip_before, end_in, end_cycle, static_end, slot_place, count_missing, with_away}
use Rattle.fr_judging.specs.Judging.{back_line, add_back, back_of, back, show, show_frame, fix, keep_plain, keep_frame}
use Rattle.fr_judging.specs.Judging.{count_frame, static_came, dynamic_came, came_with, came, channels_finding}
use Rattle.fr_judging.specs.Judging.{placed_finding, leave, tell_silent, with_alone, listen, open_first, tell_gap}
use Rattle.fr_judging.specs.Judging.{enter, open_after, open_closed, open_next, open_cycle, disturb, mark_odd, member}
use Rattle.fr_judging.specs.Judging.{wrong_count, next_of, decide, settle_with, settle, hold, place_frame, speak, good}
use Rattle.fr_judging.specs.Judging.{ill, is_lawless, spelled_frame, take_frame, count_record, frame_on, symbol_on}
use Rattle.fr_judging.specs.Judging.{symbol_place, count_symbol, take_kind, next_record, judge, says_nothing}
use Rattle.fr_judging.specs.Judging.{tell_nothing, tell_end, finish_channel, finish_on, finish, has_finding}
use Rattle.fr_judging.specs.Judging.{is_some_number, none_found, silent_place, count_word, silence}
use Rattle.fr_judging.specs.Lanes.{opens, begun, same_open, after_dynamic}
use Rattle.fr_judging.specs.Names.{index_of, is_missing}
use Rattle.fr_judging.specs.Rules.{due_at, judges, are_both, has_sender_in}
use Rattle.fr_logged.specs.declared.due.Due.{Due}
use Rattle.fr_logged.specs.declared.finding.Finding.{Finding}
use Rattle.fr_logged.specs.declared.finding.Name.{Name}
use Rattle.fr_logged.specs.declared.finding.Name.TheVariants as name
use Rattle.fr_logged.specs.declared.finding.Place.{Place}
use Rattle.fr_logged.specs.declared.record.Kind.{Kind}
use Rattle.fr_logged.specs.declared.record.Kind.TheVariants.{Foreign, Symbol, Frame}
use Rattle.fr_logged.specs.Findings.{bare, with_numbers, number_word}
use Rattle.fr_logged.specs.Logged.{cut, place_in, place_of as frame_place, spelled}
use Rattle.fr_logged.specs.Rules.{static_finding, dynamic_finding}
use Rattle.fr_recording.specs.Numbers.{counted, most_counted}
use Rattle.fr_recording.specs.Records.{Record}
use Rattle.fr_slots.specs.Admission.{is_channel}
use Rattle.fr_slots.specs.declared.channel.Channel.{Channel}
use Rattle.fr_slots.specs.declared.channel.Channel.TheVariants.{A, B}

-- there is a finding
abbrev pub Told : State → Type 0
Told s = has_finding s ≡ true

-- what the first state tells, the second one tells, too
abbrev pub Keeps : State → State → Type 0
Keeps s t = Told s → Told t

same_keeps : (s t : State) → t.found ≡ s.found → Keeps s t
same_keeps s t e told = ap (list_any is_some_number) e ∙ told

either_keeps : (s x y : State) (b : Bool) → Keeps s x → Keeps s y → Keeps s (cond b x y)
either_keeps s x y true first second = first
either_keeps s x y false first second = second

-- ---- a count that goes up

any_set : (xs : List ℕ) (i n : ℕ) → is_some_number n ≡ true → list_any is_some_number xs ≡ true
    → list_any is_some_number (slice_set xs i n) ≡ true
any_set [] i n some e = e
any_set (x ∷ xs) zero n some e = or_left (is_some_number n) (list_any is_some_number xs) some
any_set (x ∷ xs) (suc i) n some e = elim (or_cases (is_some_number x) (list_any is_some_number xs) e) [
  | inl here ↦ or_left (is_some_number x) (list_any is_some_number (slice_set xs i n)) here
  | inr later ↦ or_right (is_some_number x) (list_any is_some_number (slice_set xs i n)) (any_set xs i n some later)
]

any_now : (xs : List ℕ) (i n : ℕ) → i < length xs → is_some_number n ≡ true
    → list_any is_some_number (slice_set xs i n) ≡ true
any_now xs i n within some =
    list_any_at is_some_number (slice_set xs i n) i 0 (omega (arith, length-set xs i n, within))
    (ap is_some_number (get_or-set_same xs i n 0 within) ∙ some)

least_some : (a m : ℕ) → 1 ≤ m → min (a + 1) m ≡ 0 → ⊥
least_some a m some e = omega (arith, some, e)

counted_some : (n : ℕ) → is_some_number (counted n 1) ≡ true
counted_some n =
    not_from_false (counted n 1 == 0) (ne_eqb (counted n 1) 0 (least_some n most_counted (omega arith)))

index_within : (n : Name) → index_of n < 28
index_within name.Cut = omega arith
index_within name.LoggedCoding = omega arith
index_within name.LoggedStart = omega arith
index_within name.LoggedHeader = omega arith
index_within name.LoggedEnd = omega arith
index_within name.LoggedFrame = omega arith
index_within name.Length = omega arith
index_within name.HeaderCrc = omega arith
index_within name.FrameCrc = omega arith
index_within name.Slot = omega arith
index_within name.Cycle = omega arith
index_within name.Order = omega arith
index_within name.Nobody = omega arith
index_within name.Words = omega arith
index_within name.Bits = omega arith
index_within name.NullFrame = omega arith
index_within name.NoBuffer = omega arith
index_within name.Preamble = omega arith
index_within name.Channels = omega arith
index_within name.Closed = omega arith
index_within name.Late = omega arith
index_within name.Missing = omega arith
index_within name.Gap = omega arith
index_within name.Clock = omega arith
index_within name.Time = omega arith
index_within name.Silent = omega arith
index_within name.Symbol = omega arith
index_within name.Nothing = omega arith

-- ---- a finding

line_found : (s : State) (l : Line) → (add_line s l).found ≡ s.found
unfolding add_line
line_found s l = refl

tell_found : (s : State) (n : Name) (l : Line) → (tell_line s n l).found ≡ s.found
unfolding tell_line
tell_found s n l = by (nat_le (slice_index s.found (index_of n)) s.rules.most)
  where
    by : (b : Bool) → (let t : State = cond b (add_line s l) s in t).found ≡ s.found
    by true = line_found s l
    by false = refl

place_found : (s : State) (n : Name) (place : Place) (slot : Option ℕ) → (count_place s n place slot).found ≡ s.found
unfolding count_place
place_found s n place None = refl
place_found s n place (Some slot) = by (is_missing n)
  where
    by : (b : Bool) → (let t : State = cond b s (count_other s place.channel slot) in t).found ≡ s.found
    by true = refl
    by false = refl

abbrev counted_at : State → Name → List ℕ
counted_at s n = slice_set s.found (index_of n) (counted (slice_index s.found (index_of n)) 1)

find_found : (s : State) (at : Option At) (place : Place) (f : Finding)
    → (find s at place f).found ≡ counted_at s f.name
unfolding find
find_found s at place f =
    tell_found (count_place (count_name s f.name) f.name place place.slot) f.name (line.Finding at place f)
    ∙ place_found (count_name s f.name) f.name place place.slot

pub find_keeps : (s : State) (at : Option At) (place : Place) (f : Finding) → Keeps s (find s at place f)
find_keeps s at place f told =
    ap (list_any is_some_number) (find_found s at place f)
    ∙ any_set s.found (index_of f.name) (counted (slice_index s.found (index_of f.name)) 1)
    (counted_some (slice_index s.found (index_of f.name))) told

none_length : length none_found ≡ 28
unfolding none_found
none_length = length-replicate {A = ℕ} 28 0

-- the first finding is one
pub find_told : (s : State) (at : Option At) (place : Place) (f : Finding) → s.found ≡ none_found
    → Told (find s at place f)
find_told s at place f none =
    let within : index_of f.name < length s.found =
    omega (arith, index_within f.name, none_length, ap (λ (l : List ℕ). length l) none) in
    ap (list_any is_some_number) (find_found s at place f)
    ∙ any_now s.found (index_of f.name) (counted (slice_index s.found (index_of f.name)) 1) within
    (counted_some (slice_index s.found (index_of f.name)))

pub find_some_keeps : (s : State) (at : Option At) (place : Place) (o : Option Finding)
    → Keeps s (find_some s at place o)
unfolding find_some
find_some_keeps s at place None told = told
find_some_keeps s at place (Some f) told = find_keeps s at place f told

-- ---- missing frames

missing_keeps : (s : State) (at : Option At) (cycle slot node : ℕ) → Keeps s (tell_missing s at cycle slot node)
unfolding tell_missing
missing_keeps s at cycle slot node =
    either_keeps s (find s at (slot_place s cycle slot) (with_numbers name.Missing node s.mine.ill)) s
    (away_at s slot node == 1)
    (find_keeps s at (slot_place s cycle slot) (with_numbers name.Missing node s.mine.ill)) (λ told. told)

due_keeps : (s : State) (at : Option At) (cycle slot : ℕ) (d : Option Due) → Keeps s (miss_due s at cycle slot d)
unfolding miss_due miss_of
due_keeps s at cycle slot None told = told
due_keeps s at cycle slot (Some d) told =
    let t : State = count_missing s slot in
    missing_keeps (with_away t slot d.node (counted (away_at t slot d.node) 1)) at cycle slot d.node told

pub miss_keeps : (s : State) (at : Option At) (cycle slot : ℕ) → Keeps s (miss s at cycle slot)
unfolding miss
miss_keeps s at cycle slot = due_keeps s at cycle slot (due_at s.rules.cluster slot s.channel cycle)

skipped_keeps : (s : State) (at : Option At) (cycle from n : ℕ) → Keeps s (skipped s at cycle from n)
unfolding skipped
skipped_keeps s at cycle from zero told = told
skipped_keeps s at cycle from (suc n) told =
    miss_keeps (skipped s at cycle from n) at cycle (from + n) (skipped_keeps s at cycle from n told)

skip_keeps : (s : State) (at : Option At) (cycle from end : ℕ) → Keeps s (skip_to s at cycle from end)
unfolding skip_to
skip_keeps s at cycle from end = skipped_keeps s at cycle from (end - from)

pub before_keeps : (s : State) (f : Fields) (at : At) → Keeps s (skip_before s f at)
unfolding skip_before
before_keeps s f at = skip_keeps s (Some at) f.cycle (s.mine.last + 1) (min f.id (static_end s))

in_keeps : (s : State) (at : Option At) (o : Option ℕ) → Keeps s (end_in s at o)
in_keeps s at None told = told
in_keeps s at (Some cycle) told = skip_keeps s at cycle (s.mine.last + 1) (static_end s) told

pub end_keeps : (s : State) (at : Option At) → Keeps s (end_cycle s at)
unfolding end_cycle
end_keeps s at = in_keeps s at s.mine.current

-- ---- a slot's frame

back_line_found : (s : State) (l : Line) → (back_line s l).found ≡ s.found
back_line_found s l = by (nat_le s.backs s.rules.most)
  where
    by : (b : Bool) → (let t : State = cond b (add_line s l) s in t).found ≡ s.found
    by true = line_found s l
    by false = refl

add_back_found : (s : State) (l : Line) → (add_back s l).found ≡ s.found
unfolding add_back
add_back_found s l = back_line_found (record s { backs = counted s.backs 1 }) l

back_of_found : (s : State) (f : Fields) (at : At) (node times : ℕ) → (back_of s f at node times).found ≡ s.found
back_of_found s f at node times = by (times == 0)
  where
    by : (b : Bool) → (let t : State = cond b s (add_back (with_away s f.id node 0)
        (line.Back at (frame_place s.channel f) node times)) in t).found ≡ s.found
    by true = refl
    by false = add_back_found (with_away s f.id node 0) (line.Back at (frame_place s.channel f) node times)

back_found : (s : State) (f : Fields) (at : At) (d : Option Due) → (back s f at d).found ≡ s.found
unfolding back
back_found s f at None = refl
back_found s f at (Some d) = back_of_found s f at d.node (away_at s f.id d.node)

show_found : (s : State) (f : Fields) (d : Option Due) → (show s f d).found ≡ s.found
unfolding show
show_found s f None = refl
show_found s f (Some d) = by d.both
  where
    by : (b : Bool) → (let t : State = cond b (show_frame s f) s in t).found ≡ s.found
    by true = refl
    by false = refl

keep_keeps : (s : State) (f : Fields) (at : At) (o : Option Finding) → Keeps s (keep_frame s f at o)
unfolding keep_frame count_frame
keep_keeps s f at o told = find_some_keeps (keep_plain s f at) (Some at) (frame_place s.channel f) o told

-- a frame with a finding
pub keep_told : (s : State) (f : Fields) (at : At) (x : Finding) → s.found ≡ none_found
    → Told (keep_frame s f at (Some x))
unfolding keep_frame count_frame find_some
keep_told s f at x none = find_told (keep_plain s f at) (Some at) (frame_place s.channel f) x none

pub static_before : (s : State) (f : Fields) (at : At) (d : Option Due) (wrong : Option Finding)
    → (fix (show (back s f at d) f d) f at wrong).found ≡ s.found
static_before s f at d wrong = show_found (back s f at d) f d ∙ back_found s f at d

static_keeps : (s : State) (f : Fields) (at : At) (d : Option Due) → Keeps s (static_came s f at d)
unfolding static_came
static_keeps s f at d told =
    let o : Option Finding = option_or (static_finding d f) (channels_finding s f d) in
    let wrong : Option Finding = time_finding s.rules s.mine f.id at.time o in
    keep_keeps (fix (show (back s f at d) f d) f at wrong) f at (option_or o wrong)
    (same_keeps s (fix (show (back s f at d) f d) f at wrong) (static_before s f at d wrong) told)

dynamic_keeps : (s : State) (f : Fields) (at : At) (d : Option Due) → Keeps s (dynamic_came s f at d)
unfolding dynamic_came
dynamic_keeps s f at d told =
    keep_keeps (record s { mine = after_dynamic s.rules.cluster.params s.mine f (length f.payload / 2) }) f at
    (option_or (dynamic_finding d f) (placed_finding s f d)) told

with_keeps : (s : State) (f : Fields) (at : At) (d : Option Due) → Keeps s (came_with s f at d)
with_keeps s f at d =
    either_keeps s (static_came s f at d) (dynamic_came s f at d) (nat_le f.id s.rules.cluster.params.static_slots)
    (static_keeps s f at d) (dynamic_keeps s f at d)

pub came_keeps : (s : State) (f : Fields) (at : At) → Keeps s (came s f at)
unfolding came
came_keeps s f at = with_keeps s f at (due_at s.rules.cluster f.id s.channel f.cycle)

-- ---- a frame that opens a cycle

silent_keeps : (s : State) (f : Fields) (at : At) → Keeps s (tell_silent s f at)
unfolding tell_silent
silent_keeps s f at =
    let x : Finding = record {
      name = name.Silent;
      expected = number_word f.cycle;
      found = count_word s.other.current;
    } in
    either_keeps s (find s (Some at) (silent_place s) x) s (s.other.alone == silence)
    (find_keeps s (Some at) (silent_place s) x) (λ told. told)

pub listen_keeps : (s : State) (f : Fields) (at : At) → Keeps s (listen s f at)
unfolding listen
listen_keeps s f at =
    either_keeps s (tell_silent (with_alone s) f at) s (are_both s.rules && nat_lt s.other.spoke at.number)
    (silent_keeps (with_alone s) f at) (λ told. told)

abbrev pub begun_at : State → Fields → At → State
begun_at s f at = record s { mine = begun s.rules.cluster.params s.mine f at }

first_keeps : (s : State) (f : Fields) (at : At) → Keeps s (open_first s f at)
unfolding open_first
first_keeps s f at told =
    let t : State = cond s.rules.whole (skip_before (begun_at s f at) f at) (begun_at s f at) in
    came_keeps (listen t f at) f at (listen_keeps t f at
    (either_keeps (begun_at s f at) (skip_before (begun_at s f at) f at) (begun_at s f at) s.rules.whole
    (before_keeps (begun_at s f at) f at) (λ x. x) told))

gap_keeps : (s : State) (f : Fields) (at : At) (past : ℕ) → Keeps s (tell_gap s f at past)
unfolding tell_gap
gap_keeps s f at past =
    either_keeps s s _ (past == 1) (λ told. told) (find_keeps s (Some at) (frame_place s.channel f) _)

-- what follows the slots before the frame
pub gap_told : (t : State) (s : State) (f : Fields) (at : At) (d : Distance) → Told (tell_gap t f at d.past)
    → Told (came (listen (find_some (tell_gap t f at d.past) (Some at) (frame_place s.channel f) d.clock) f at) f at)
gap_told t s f at d told =
    let u : State = find_some (tell_gap t f at d.past) (Some at) (frame_place s.channel f) d.clock in
    came_keeps (listen u f at) f at (listen_keeps u f at
    (find_some_keeps (tell_gap t f at d.past) (Some at) (frame_place s.channel f) d.clock told))

-- the slots before the frame tell something
pub after_told : (s : State) (f : Fields) (at : At) (d : Distance)
    → Told (skip_before (enter (leave s) f at d.past) f at) → Told (open_after s f at d)
unfolding open_after
after_told s f at d told =
    gap_told (skip_before (enter (leave s) f at d.past) f at) s f at d
    (gap_keeps (skip_before (enter (leave s) f at d.past) f at) f at d.past told)

after_keeps : (s : State) (f : Fields) (at : At) (d : Distance) → Keeps s (open_after s f at d)
unfolding leave
after_keeps s f at d told =
    after_told s f at d (before_keeps (enter (leave s) f at d.past) f at told)

pub closed_keeps : (s : State) (f : Fields) (at : At) → Keeps s (open_closed s f at)
closed_keeps s f at = after_keeps s f at (distance_to s.rules s.mine f at.time)

next_keeps : (s : State) (f : Fields) (at : At) → Keeps s (open_next s f at)
next_keeps s f at told = closed_keeps (end_cycle s (Some at)) f at (end_keeps s (Some at) told)

cycle_keeps : (s : State) (f : Fields) (at : At) → Keeps s (open_cycle s f at)
unfolding open_cycle
cycle_keeps s f at =
    either_keeps s (open_first s f at) (open_next s f at) (is_none s.mine.current) (first_keeps s f at)
    (next_keeps s f at)

-- ---- a good frame

member_keeps : (s : State) (f : Fields) (at : At) → Keeps s (member s f at)
unfolding member
member_keeps s f at =
    either_keeps s _ (came (skip_before s f at) f at) (nat_le f.id s.mine.last)
    (find_keeps (mark_odd (disturb s) f.id) (Some at) (frame_place s.channel f)
    (with_numbers name.Order s.mine.last f.id))
    (λ told. came_keeps (skip_before s f at) f at (before_keeps s f at told))

wrong_keeps : (s : State) (f : Fields) (at : At) → Keeps s (wrong_count s f at)
unfolding wrong_count
wrong_keeps s f at = find_keeps (mark_odd (disturb s) f.id) (Some at) (frame_place s.channel f) _

decide_keeps : (s : State) (f : Fields) (at : At) (next : Option Next) → Keeps s (decide s f at next)
unfolding decide
decide_keeps s f at next =
    either_keeps s (open_cycle s f at) (wrong_count s f at) (opens s.mine.current (next_of f) next)
    (cycle_keeps s f at) (wrong_keeps s f at)

settled_keeps : (s : State) (next : Option Next) (o : Option Held) → Keeps s (settle_with s next o)
settled_keeps s next None told = told
settled_keeps s next (Some h) told =
    decide_keeps (record s { mine = record s.mine { held = None; ill_held = 0 } }) h.frame h.at next told

settle_keeps : (s : State) (next : Option Next) → Keeps s (settle s next)
unfolding settle
settle_keeps s next = settled_keeps s next s.mine.held

pub place_keeps : (s : State) (f : Fields) (at : At) → Keeps s (place_frame s f at)
unfolding place_frame hold
place_keeps s f at =
    either_keeps s (cond (is_anew s.rules s.mine at.time) (open_cycle s f at) (member s f at)) (hold s f at)
    (same_open s.mine.current (Some f.cycle))
    (either_keeps s (open_cycle s f at) (member s f at) (is_anew s.rules s.mine at.time) (cycle_keeps s f at)
    (member_keeps s f at))
    (λ told. told)

good_keeps : (s : State) (f : Fields) (at : At) → Keeps s (good s f at)
unfolding good
good_keeps s f at told =
    place_keeps (settle (speak s at) (Some (next_of f))) f at (settle_keeps (speak s at) (Some (next_of f)) told)

-- ---- a record

ill_keeps : (s : State) (at : At) (place : Place) (f : Finding) → Keeps s (ill s at place f)
unfolding ill
ill_keeps s at place f = find_keeps (disturb s) (Some at) place f

pub ill_told : (s : State) (at : At) (place : Place) (f : Finding) → s.found ≡ none_found → Told (ill s at place f)
unfolding ill
ill_told s at place f none = find_told (disturb s) (Some at) place f none

spelled_keeps : (s : State) (at : At) (f : Fields) → Keeps s (spelled_frame s at f)
unfolding spelled_frame
spelled_keeps s at f =
    either_keeps s _ (good s f at) (is_lawless s f.id) (ill_keeps s at (frame_place s.channel f) _)
    (good_keeps s f at)

take_keeps : (s : State) (at : At) (bytes : List ℕ) (x : Result Fields Finding) → Keeps s (take_frame s at bytes x)
take_keeps s at bytes (Err f) = ill_keeps s at (place_in s.channel bytes) f
take_keeps s at bytes (Ok f) = spelled_keeps s at f

frame_keeps : (s : State) (at : At) (original : ℕ) (bytes : List ℕ) → Keeps s (frame_on s at original bytes)
unfolding frame_on
frame_keeps s at original bytes told =
    take_keeps (count_record s) at bytes (spelled s.channel original bytes) told

symbol_keeps : (s : State) (at : At) (original : ℕ) (bytes : List ℕ) → Keeps s (symbol_on s at original bytes)
unfolding symbol_on
symbol_keeps s at original bytes =
    either_keeps s (ill s at (symbol_place s) (cut original (length bytes)))
    (cond (s.rules.cluster.params.symbol_mt == 0) (find s (Some at) (symbol_place s) (bare name.Symbol)) s)
    (nat_lt (length bytes) original) (ill_keeps s at (symbol_place s) (cut original (length bytes)))
    (either_keeps s (find s (Some at) (symbol_place s) (bare name.Symbol)) s
    (s.rules.cluster.params.symbol_mt == 0) (find_keeps s (Some at) (symbol_place s) (bare name.Symbol))
    (λ told. told))

turn_keeps : (s : State) (channel : Channel) → Keeps s (turn s channel)
turn_keeps s channel = either_keeps s s (turned s) (is_channel s.channel channel) (λ told. told) (λ told. told)

kind_keeps : (s : State) (at : At) (original : ℕ) (bytes : List ℕ) (k : Kind)
    → Keeps s (take_kind s at original bytes k)
unfolding take_kind
kind_keeps s at original bytes Foreign = λ told. told
kind_keeps s at original bytes (Symbol channel) =
    either_keeps s (symbol_on (count_symbol (turn s channel)) at original bytes) s (judges s.rules channel)
    (λ told. symbol_keeps (count_symbol (turn s channel)) at original bytes (turn_keeps s channel told))
    (λ told. told)
kind_keeps s at original bytes (Frame channel) =
    either_keeps s (frame_on (turn s channel) at original bytes) s (judges s.rules channel)
    (λ told. frame_keeps (turn s channel) at original bytes (turn_keeps s channel told)) (λ told. told)

judge_keeps : (s : State) (r : Record) → Keeps s (judge s r)
unfolding judge
judge_keeps s r told = kind_keeps (next_record s) _ r.original r.bytes _ told

pub judged_keeps : (s : State) (rs : List Record) → Keeps s (judged s rs)
judged_keeps s [] told = told
judged_keeps s (r ∷ rs) told = judged_keeps (judge s r) rs (judge_keeps s r told)

-- ---- the end

pub nothing_keeps : (s : State) → Keeps s (tell_nothing s)
unfolding tell_nothing
nothing_keeps s =
    either_keeps s (find s None (symbol_place s) (bare name.Nothing)) s
    (has_sender_in s.rules s.channel && says_nothing s)
    (find_keeps s None (symbol_place s) (bare name.Nothing)) (λ told. told)

pub tell_end_keeps : (s : State) → Keeps s (tell_end s)
unfolding tell_end
tell_end_keeps s told =
    nothing_keeps (cond s.rules.whole (end_cycle s None) s)
    (either_keeps s (end_cycle s None) s s.rules.whole (end_keeps s None) (λ x. x) told)

pub channel_keeps : (s : State) → Keeps s (finish_channel s true)
channel_keeps s told = tell_end_keeps (settle s None) (settle_keeps s None told)

pub finish_on_keeps : (s : State) (channel : Channel) → Keeps s (finish_on s channel true)
unfolding finish_on
finish_on_keeps s channel =
    either_keeps s (finish_channel (turn s channel) true) s (judges s.rules channel)
    (λ told. channel_keeps (turn s channel) (turn_keeps s channel told)) (λ told. told)

pub finish_keeps : (s : State) → Keeps s (finish s true)
unfolding finish
finish_keeps s told =
    let t : State = record s { lines = [] } in
    finish_on_keeps (finish_on t A true) B (finish_on_keeps t A told)
