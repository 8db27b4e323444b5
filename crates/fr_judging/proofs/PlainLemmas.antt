-- A frame without a finding, and the counts of a slot that stay in their place.
use Rattle.std.proofs.Common.{◌≡◌, Bool, true, false, cond, refl, sym, ap, ◌∙◌}
use Rattle.std.proofs.lemmas.Bool.{cond-true, cond-false, and_parts}
use Rattle.std.specs.Prelude.{Option, Some, None, ◌&&◌, nat_le}
use Rattle.std.specs.Option.{is_none, option_or}
use Rattle.fr_frame.specs.Fields.{Fields}
use Rattle.fr_logged.specs.Rules.{static_rules, static_finding}
use Rattle.fr_logged.specs.declared.due.Due.{Due}
use Rattle.fr_logged.specs.declared.finding.Finding.{Finding}
use Rattle.fr_judging.specs.Distances.{time_finding}
use Rattle.fr_judging.specs.Judging.{State, is_fine, plain_came, both_finding, channels_finding, static_came}
use Rattle.fr_judging.specs.Judging.{static_found, static_with}
use Rattle.fr_judging.specs.Judging.{add_back, add_line, keep_frame, find_some}
use Rattle.fr_judging.specs.Counting.{follows, time_of, timed}
use Rattle.fr_judging.specs.Judging.{with_time, with_frame, span_since}
use Rattle.fr_recording.specs.Numbers.{counted}
use Rattle.fr_judging.specs.Tallies.{span_between}
use Rattle.fr_judging.specs.Rules.{is_sent}
use Rattle.fr_judging.specs.declared.line.At.{At}
use Rattle.fr_judging.specs.declared.line.Line.{Line}
use Rattle.fr_judging.specs.declared.tally.Came.{Came}
use Rattle.fr_judging.specs.declared.tally.SlotTally.{SlotTally}
use Rattle.fr_judging.specs.declared.tally.Span.{Span}

none_is : (o : Option Finding) → is_none o ≡ true → o ≡ None
none_is None e = refl
none_is (Some x) e = absurd (let none : ⊥ = cc in none)

static_plain : (s : State) (f : Fields) (at : At) (due : Option Due) → static_finding due f ≡ None
    → channels_finding s f due ≡ None → time_finding s.rules s.mine f.id at.time None ≡ None
    → plain_came s f at due ≡ static_came s f at due
unfolding plain_came static_came keep_frame find_some
static_plain s f at due fits beside timely = sym (
    ap (λ (o : Option Finding). static_found s f at due (option_or o (channels_finding s f due))) fits
    ∙ ap (λ (o : Option Finding). static_found s f at due o) beside
    ∙ ap (λ (o : Option Finding). static_with s f at due None o) timely)

beside_is : (s : State) (f : Fields) (d : Due) → is_none (both_finding s f d) ≡ true
    → channels_finding s f (Some d) ≡ None
unfolding channels_finding
beside_is s f d none = none_is (both_finding s f d) none

-- the frame counts, and nothing is told
pub plain_is : (s : State) (f : Fields) (at : At) (due : Option Due) → is_fine s f at due ≡ true
    → plain_came s f at due ≡ static_came s f at due
plain_is s f at None is = absurd (let none : ⊥ = cc is in none)
plain_is s f at (Some d) is =
    let parts = and_parts (is_none (static_rules d f)) (is_none (both_finding s f d)
    && is_none (time_finding s.rules s.mine f.id at.time None)) is in
    let more = and_parts (is_none (both_finding s f d)) (is_none (time_finding s.rules s.mine f.id at.time None))
    parts.1 in
    static_plain s f at (Some d) (none_is (static_rules d f) parts.0) (beside_is s f d more.0)
    (none_is (time_finding s.rules s.mine f.id at.time None) more.1)

-- ---- counts in their place

kept_latest : (f : Fields) (t : SlotTally) → (with_frame f t).latest ≡ t.latest
kept_latest f t = by f.has_data
  where
    by : (b : Bool) → (cond b (record t { data_frames = counted t.data_frames 1 })
        (record t { null_frames = counted t.null_frames 1 })).latest ≡ t.latest
    by true = refl
    by false = refl

-- the counts as they change in their place
pub timed_is : (s : State) (f : Fields) (at : At) (t : SlotTally) (following : Bool)
    → is_sent s.rules f.id s.channel f.cycle ≡ true → following ≡ follows s f t.latest
    → timed (with_frame f t) following (record { number = s.mine.number; cycle = f.cycle; time = at.time })
    ≡ with_time s f at (with_frame f t)
unfolding with_time span_since
timed_is s f at t following sent is =
    let u = with_frame f t in
    let came : Came = record { number = s.mine.number; cycle = f.cycle; time = at.time } in
    let of_latest : following ≡ follows s f u.latest = is ∙ ap (follows s f) (sym (kept_latest f t)) in
    ap (λ (b : Bool). timed u b came) of_latest
    ∙ ap (λ (o : Option Span). record u { latest = Some came; span = o }) (by u u.latest)
    ∙ sym (cond-true (is_sent s.rules f.id s.channel f.cycle)
    (record u { latest = Some came; span = span_since s f at u u.latest }) u sent)
  where
    by : (u : SlotTally) (o : Option Came)
        → cond (follows s f o) (span_between u.span (time_of o) at.time) u.span ≡ span_since s f at u o
    by u None = refl
    by u (Some c) = refl

pub untimed_is : (s : State) (f : Fields) (at : At) (t : SlotTally) → is_sent s.rules f.id s.channel f.cycle ≡ false
    → with_frame f t ≡ with_time s f at (with_frame f t)
unfolding with_time
untimed_is s f at t silent =
    sym (cond-false (is_sent s.rules f.id s.channel f.cycle) (record (with_frame f t) {
      latest = Some (record { number = s.mine.number; cycle = f.cycle; time = at.time });
      span = span_since s f at (with_frame f t) (with_frame f t).latest;
    }) (with_frame f t) silent)

-- ---- a slot that comes back changes neither the rules nor the channel

pub back_rules : (s : State) (l : Line) → (add_back s l).rules ≡ s.rules
unfolding add_back add_line
back_rules s l = by (nat_le (counted s.backs 1) s.rules.most)
  where
    by : (b : Bool) → (cond b (add_line (record s { backs = counted s.backs 1 }) l)
        (record s { backs = counted s.backs 1 })).rules ≡ s.rules
    by true = refl
    by false = refl

pub back_channel : (s : State) (l : Line) → (add_back s l).channel ≡ s.channel
unfolding add_back add_line
back_channel s l = by (nat_le (counted s.backs 1) s.rules.most)
  where
    by : (b : Bool) → (cond b (add_line (record s { backs = counted s.backs 1 }) l)
        (record s { backs = counted s.backs 1 })).channel ≡ s.channel
    by true = refl
    by false = refl
