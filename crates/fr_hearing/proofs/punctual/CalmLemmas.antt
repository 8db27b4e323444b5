-- The steps of the judgement that don't look at times: they are the same without times, and leave alone what later
-- steps know of times.
use Rattle.std.proofs.Common.{◌≡◌, ℕ, zero, suc, ◌+◌, ◌-◌, ◌%◌, Bool, true, false, cond, refl, ap, ◌∙◌}
use Rattle.std.specs.Prelude.{Option, Some, None, ℤ, min, nat_le, nat_lt, ◌==◌, ◌&&◌, slice_index, not}
use Rattle.std.specs.Option.{is_some}
use Rattle.fr_frame.specs.Fields.{Fields}
use Rattle.fr_hearing.specs.Untimed.{untimed}
use Rattle.fr_judging.specs.declared.lane.Fixed.{Fixed}
use Rattle.fr_judging.specs.declared.lane.Held.{Held}
use Rattle.fr_judging.specs.declared.lane.Lane.{Lane}
use Rattle.fr_judging.specs.declared.line.At.{At}
use Rattle.fr_judging.specs.declared.line.Line.{Line}
use Rattle.fr_judging.specs.declared.line.Line.TheVariants as line
use Rattle.fr_judging.specs.declared.rules.Rules.{Rules}
use Rattle.fr_judging.specs.declared.tally.Came.{Came}
use Rattle.fr_judging.specs.declared.tally.SlotTally.{SlotTally}
use Rattle.fr_judging.specs.declared.tally.Span.{Span}
use Rattle.fr_judging.specs.Judging.{State, add_line, count_name, count_place, tell_line, find, find_some, tell_missing}
use Rattle.fr_judging.specs.Judging.{miss_of, miss_due, miss, skipped, skip_to, away_at, skip_before, end_in, end_cycle}
use Rattle.fr_judging.specs.Judging.{static_end, slot_place, count_missing, with_away, back_line, add_back, back_of}
use Rattle.fr_judging.specs.Judging.{back, show, keep_frame, count_frame, with_time, with_frame, span_since, quiet}
use Rattle.fr_judging.specs.Judging.{tally_at, with_tally, leave, tell_silent, with_alone, listen, tell_gap, disturb}
use Rattle.fr_judging.specs.Judging.{mark_odd, says_nothing, tell_nothing, tell_end, symbol_place, silent_place}
use Rattle.fr_judging.specs.Judging.{count_word, silence}
use Rattle.fr_judging.specs.Names.{index_of, is_missing}
use Rattle.fr_judging.specs.Rules.{due_at, are_both, has_sender_in, is_sent}
use Rattle.fr_judging.specs.Tallies.{span_between}
use Rattle.fr_logged.specs.declared.due.Due.{Due}
use Rattle.fr_logged.specs.declared.finding.Finding.{Finding}
use Rattle.fr_logged.specs.declared.finding.Name.{Name}
use Rattle.fr_logged.specs.declared.finding.Name.TheVariants as name
use Rattle.fr_logged.specs.declared.finding.Place.{Place}
use Rattle.fr_logged.specs.Findings.{bare, with_numbers, number_word}
use Rattle.fr_logged.specs.Logged.{place_of as frame_place}
use Rattle.fr_recording.specs.Numbers.{counted}
use Rattle.fr_slots.specs.declared.channel.Channel.{Channel}

-- ---- what later steps know of times

pub record Hand : Type 0 where
  pub held : Option Held
  pub current : Option ℕ
  pub began : Option ℤ
  pub first : ℕ
  pub fixed : Option Fixed

abbrev pub hand : Lane → Hand
hand l = record { held = l.held; current = l.current; began = l.began; first = l.first; fixed = l.fixed }

pub record Watch : Type 0 where
  pub rules : Rules
  pub channel : Channel
  pub mine : Hand
  pub other : Hand

abbrev pub watch : State → Watch
watch s = record { rules = s.rules; channel = s.channel; mine = hand s.mine; other = hand s.other }

-- ---- steps that don't look at times

-- a step leads from a state to the second one, and from the same without times to the first one
pub record IsCalm (s x y : State) : Type 0 where
  pub same : x ≡ untimed y
  pub still : watch y ≡ watch s

pub calm_none : (s : State) → IsCalm s (untimed s) s
calm_none s = record { same = refl; still = refl }

pub calm_if : {s x y u v : State} (b : Bool) → IsCalm s x y → IsCalm s u v → IsCalm s (cond b x u) (cond b y v)
calm_if true c d = c
calm_if false c d = d

pub calm_then : {s x y : State} (step : State → State) → IsCalm s x y → IsCalm y (step (untimed y)) (step y)
    → IsCalm s (step x) (step y)
calm_then step c d = record { same = ap step c.same ∙ d.same; still = d.still ∙ c.still }

-- ---- findings

line_calm : (s : State) (l : Line) → IsCalm s (add_line (untimed s) l) (add_line s l)
unfolding add_line
line_calm s l = record { same = refl; still = refl }

place_calm : (s : State) (n : Name) (place : Place) (slot : Option ℕ)
    → IsCalm s (count_place (untimed s) n place slot) (count_place s n place slot)
unfolding count_place
place_calm s n place None = calm_none s
place_calm s n place (Some slot) = calm_if (is_missing n) (calm_none s) (record { same = refl; still = refl })

tell_calm : (s : State) (n : Name) (l : Line) → IsCalm s (tell_line (untimed s) n l) (tell_line s n l)
unfolding tell_line
tell_calm s n l =
    calm_if (nat_le (slice_index s.found (index_of n)) s.rules.most) (line_calm s l) (calm_none s)

pub find_calm : (s : State) (at : Option At) (place : Place) (f : Finding)
    → IsCalm s (find (untimed s) at place f) (find s at place f)
unfolding find
find_calm s at place f =
    let t : State = count_name s f.name in
    let named : IsCalm s (count_name (untimed s) f.name) t = record { same = refl; still = refl } in
    calm_then (λ (u : State). tell_line u f.name (line.Finding at place f))
    (calm_then (λ (u : State). count_place u f.name place place.slot) named (place_calm t f.name place place.slot))
    (tell_calm (count_place t f.name place place.slot) f.name (line.Finding at place f))

pub find_some_calm : (s : State) (at : Option At) (place : Place) (o : Option Finding)
    → IsCalm s (find_some (untimed s) at place o) (find_some s at place o)
unfolding find_some
find_some_calm s at place None = calm_none s
find_some_calm s at place (Some f) = find_calm s at place f

-- ---- missing frames

missing_calm : (s : State) (at : Option At) (cycle slot node : ℕ)
    → IsCalm s (tell_missing (untimed s) at cycle slot node) (tell_missing s at cycle slot node)
unfolding tell_missing
missing_calm s at cycle slot node =
    calm_if (away_at s slot node == 1)
    (find_calm s at (slot_place s cycle slot) (with_numbers name.Missing node s.mine.ill)) (calm_none s)

due_calm : (s : State) (at : Option At) (cycle slot : ℕ) (d : Option Due)
    → IsCalm s (miss_due (untimed s) at cycle slot d) (miss_due s at cycle slot d)
unfolding miss_due miss_of
due_calm s at cycle slot None = calm_none s
due_calm s at cycle slot (Some d) =
    let t : State = count_missing s slot in
    let u : State = with_away t slot d.node (counted (away_at t slot d.node) 1) in
    let away : IsCalm s (untimed u) u = record { same = refl; still = refl } in
    calm_then (λ (v : State). tell_missing v at cycle slot d.node) away (missing_calm u at cycle slot d.node)

pub miss_calm : (s : State) (at : Option At) (cycle slot : ℕ)
    → IsCalm s (miss (untimed s) at cycle slot) (miss s at cycle slot)
unfolding miss
miss_calm s at cycle slot = due_calm s at cycle slot (due_at s.rules.cluster slot s.channel cycle)

skipped_calm : (s : State) (at : Option At) (cycle from n : ℕ)
    → IsCalm s (skipped (untimed s) at cycle from n) (skipped s at cycle from n)
unfolding skipped
skipped_calm s at cycle from zero = calm_none s
skipped_calm s at cycle from (suc n) =
    calm_then (λ (t : State). miss t at cycle (from + n)) (skipped_calm s at cycle from n)
    (miss_calm (skipped s at cycle from n) at cycle (from + n))

skip_calm : (s : State) (at : Option At) (cycle from end : ℕ)
    → IsCalm s (skip_to (untimed s) at cycle from end) (skip_to s at cycle from end)
unfolding skip_to
skip_calm s at cycle from end = skipped_calm s at cycle from (end - from)

pub before_calm : (s : State) (f : Fields) (at : At) → IsCalm s (skip_before (untimed s) f at) (skip_before s f at)
unfolding skip_before
before_calm s f at = skip_calm s (Some at) f.cycle (s.mine.last + 1) (min f.id (static_end s))

in_calm : (s : State) (at : Option At) (o : Option ℕ) → IsCalm s (end_in (untimed s) at o) (end_in s at o)
in_calm s at None = calm_none s
in_calm s at (Some cycle) = skip_calm s at cycle (s.mine.last + 1) (static_end s)

pub end_calm : (s : State) (at : Option At) → IsCalm s (end_cycle (untimed s) at) (end_cycle s at)
unfolding end_cycle
end_calm s at = in_calm s at s.mine.current

-- ---- a slot's frame

back_line_calm : (s : State) (l : Line) → IsCalm s (back_line (untimed s) l) (back_line s l)
back_line_calm s l = calm_if (nat_le s.backs s.rules.most) (line_calm s l) (calm_none s)

add_back_calm : (s : State) (l : Line) → IsCalm s (add_back (untimed s) l) (add_back s l)
unfolding add_back
add_back_calm s l =
    let t : State = record s { backs = counted s.backs 1 } in
    let once : IsCalm s (untimed t) t = record { same = refl; still = refl } in
    calm_then (λ (u : State). back_line u l) once (back_line_calm t l)

back_of_calm : (s : State) (f : Fields) (at : At) (node times : ℕ)
    → IsCalm s (back_of (untimed s) f at node times) (back_of s f at node times)
back_of_calm s f at node times =
    let t : State = with_away s f.id node 0 in
    let here : IsCalm s (untimed t) t = record { same = refl; still = refl } in
    calm_if (times == 0) (calm_none s)
    (calm_then (λ (u : State). add_back u (line.Back at (frame_place s.channel f) node times)) here
    (add_back_calm t (line.Back at (frame_place s.channel f) node times)))

pub back_calm : (s : State) (f : Fields) (at : At) (d : Option Due) → IsCalm s (back (untimed s) f at d) (back s f at d)
unfolding back
back_calm s f at None = calm_none s
back_calm s f at (Some d) = back_of_calm s f at d.node (away_at s f.id d.node)

pub show_calm : (s : State) (f : Fields) (d : Option Due) → IsCalm s (show (untimed s) f d) (show s f d)
unfolding show
show_calm s f None = calm_none s
show_calm s f (Some d) = calm_if d.both (record { same = refl; still = refl }) (calm_none s)

quiet_same : (s : State) (slot from n : ℕ) → quiet (untimed s) slot from n ≡ quiet s slot from n
unfolding quiet
quiet_same s slot from zero = refl
quiet_same s slot from (suc n) =
    ap (λ (b : Bool). b && not (is_sent s.rules slot s.channel ((from + suc n) % 64))) (quiet_same s slot from n)

span_same : (s : State) (f : Fields) (at : At) (t : SlotTally) (o : Option Came)
    → span_since (untimed s) f at t o ≡ span_since s f at t o
unfolding span_since
span_same s f at t None = refl
span_same s f at t (Some c) =
    ap (λ (b : Bool). let x : Option Span = cond b (span_between t.span c.time at.time) t.span in x)
    (quiet_same s f.id c.cycle (min (s.mine.number - c.number) 65 - 1))

time_same : (s : State) (f : Fields) (at : At) (t : SlotTally) → with_time (untimed s) f at t ≡ with_time s f at t
unfolding with_time
time_same s f at t =
    ap (λ (span : Option Span). let x : SlotTally = cond (is_sent s.rules f.id s.channel f.cycle) (record t {
      latest = Some (record { number = s.mine.number; cycle = f.cycle; time = at.time });
      span = span;
    }) t in x) (span_same s f at t t.latest)

count_calm : (s : State) (f : Fields) (at : At) → IsCalm s (count_frame (untimed s) f at) (count_frame s f at)
unfolding count_frame
count_calm s f at = record {
  same = ap (λ (t : SlotTally). with_tally (untimed s) f.id s.channel t)
      (time_same s f at (with_frame f (tally_at s f.id s.channel)));
  still = refl;
}

pub keep_calm : (s : State) (f : Fields) (at : At) (o : Option Finding)
    → IsCalm s (keep_frame (untimed s) f at o) (keep_frame s f at o)
unfolding keep_frame
keep_calm s f at o =
    let t : State = record s { mine = record s.mine { last = f.id; ill = 0 } } in
    let here : IsCalm s (untimed t) t = record { same = refl; still = refl } in
    calm_then (λ (u : State). find_some u (Some at) (frame_place s.channel f) o)
    (calm_then (λ (u : State). count_frame u f at) here (count_calm t f at))
    (find_some_calm (count_frame t f at) (Some at) (frame_place s.channel f) o)

-- ---- a frame that opens a cycle

pub leave_calm : (s : State) → IsCalm s (leave (untimed s)) (leave s)
unfolding leave
leave_calm s = record { same = refl; still = refl }

silent_calm : (s : State) (f : Fields) (at : At) → IsCalm s (tell_silent (untimed s) f at) (tell_silent s f at)
unfolding tell_silent
silent_calm s f at =
    calm_if (s.other.alone == silence) (find_calm s (Some at) (silent_place s) (record {
      name = name.Silent;
      expected = number_word f.cycle;
      found = count_word s.other.current;
    })) (calm_none s)

pub listen_calm : (s : State) (f : Fields) (at : At) → IsCalm s (listen (untimed s) f at) (listen s f at)
unfolding listen
listen_calm s f at =
    let alone : IsCalm s (untimed (with_alone s)) (with_alone s) = record { same = refl; still = refl } in
    calm_if (are_both s.rules && nat_lt s.other.spoke at.number)
    (calm_then (λ (t : State). tell_silent t f at) alone (silent_calm (with_alone s) f at)) (calm_none s)

pub gap_calm : (s : State) (f : Fields) (at : At) (past : ℕ)
    → IsCalm s (tell_gap (untimed s) f at past) (tell_gap s f at past)
unfolding tell_gap
gap_calm s f at past = calm_if (past == 1) (calm_none s) (find_calm s (Some at) (frame_place s.channel f) _)

-- ---- a frame in a wrong order

disturb_calm : (s : State) → IsCalm s (disturb (untimed s)) (disturb s)
disturb_calm s = by (is_some s.mine.held)
  where
    by : (b : Bool) → IsCalm s
        (record (untimed s) {
          mine = cond b (record (untimed s).mine { ill_held = counted s.mine.ill_held 1 })
              (record (untimed s).mine { ill = counted s.mine.ill 1 });
        })
        (record s {
          mine = cond b (record s.mine { ill_held = counted s.mine.ill_held 1 })
              (record s.mine { ill = counted s.mine.ill 1 });
        })
    by true = record { same = refl; still = refl }
    by false = record { same = refl; still = refl }

pub order_calm : (s : State) (slot : ℕ) (at : Option At) (place : Place) (f : Finding)
    → IsCalm s (find (mark_odd (disturb (untimed s)) slot) at place f) (find (mark_odd (disturb s) slot) at place f)
order_calm s slot at place f =
    let odd : IsCalm (disturb s) (untimed (mark_odd (disturb s) slot)) (mark_odd (disturb s) slot) =
    record { same = refl; still = refl } in
    calm_then (λ (t : State). find t at place f)
    (calm_then (λ (t : State). mark_odd t slot) (disturb_calm s) odd)
    (find_calm (mark_odd (disturb s) slot) at place f)

-- ---- the end

nothing_calm : (s : State) → IsCalm s (tell_nothing (untimed s)) (tell_nothing s)
unfolding tell_nothing
nothing_calm s = by s.channel refl
  where
    by : (c : Channel) → s.channel ≡ c → IsCalm s (tell_nothing (untimed s)) (tell_nothing s)
    by c e = calm_if (has_sender_in s.rules s.channel && says_nothing s)
        (find_calm s None (symbol_place s) (bare name.Nothing)) (calm_none s)

pub tell_end_calm : (s : State) → IsCalm s (tell_end (untimed s)) (tell_end s)
unfolding tell_end
tell_end_calm s =
    let t : State = cond s.rules.whole (end_cycle s None) s in
    calm_then tell_nothing (calm_if s.rules.whole (end_calm s None) (calm_none s)) (nothing_calm t)
