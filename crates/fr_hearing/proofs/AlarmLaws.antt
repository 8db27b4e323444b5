-- A recording of some whole cycles without faults has no finding on a channel.
use Rattle.std.proofs.Common.{◌≡◌, ℕ, Bool, true, false, cond, List, [], ◌∷◌, refl, sym, ap, subst, ◌∙◌, ◌⊎◌, inl, inr}
use Rattle.std.proofs.lemmas.Bool.{cond-true, cond-false, and_left, and_right}
use Rattle.std.specs.Prelude.{Some, None, not, ◌&&◌}
use Rattle.std.specs.List.{list_any}
use Rattle.fr_frame.specs.Fields.{Fields}
use Rattle.fr_guarantees.proofs.HeardLemmas.{same_channel}
use Rattle.fr_hearing.proofs.CameLemmas.{IsPlain, core_at}
use Rattle.fr_hearing.proofs.CoreLemmas.{Core, core}
use Rattle.fr_hearing.proofs.CourseLemmas.{IsOn, next_frame}
use Rattle.fr_hearing.proofs.OpenLemmas.{core_before, over_none, either_same}
use Rattle.fr_hearing.proofs.RecordLemmas.{turn_none, record_turn, other_record, at_record, own_frame}
use Rattle.fr_hearing.proofs.StepLemmas.{waiting, held_at, place_first, settle_none, good_is, spoken, settle_at}
use Rattle.fr_hearing.proofs.StepLemmas.{settle_first, settle_next}
use Rattle.fr_hearing.specs.Alarms.{is_on, Spells, AreOn, judged, NoFalseAlarm, NoFalseAlarmOfBoth}
use Rattle.fr_hearing.specs.Heard.{Spot, cycle_start, after_frame, IsAllowed, IsOver, AreHeard, FollowOn}
use Rattle.fr_judging.specs.declared.lane.Lane.{Lane}
use Rattle.fr_judging.specs.declared.line.At.{At}
use Rattle.fr_judging.specs.declared.rules.Rules.{Rules}
use Rattle.fr_judging.specs.Judging.{State, turn, turned, judge, take_kind, next_record, frame_on, good, count_record}
use Rattle.fr_judging.specs.Judging.{fresh, finish, finish_on, finish_channel, tell_end, tell_nothing, says_nothing}
use Rattle.fr_judging.specs.Judging.{settle, end_cycle, end_in, has_finding, is_some_number, none_found, find}
use Rattle.fr_judging.specs.Judging.{symbol_place, place_frame, speak, next_of}
use Rattle.fr_judging.specs.Rules.{judges, other_channel, rules_of, has_sender_in, has_sender}
use Rattle.fr_logged.specs.declared.finding.Name.TheVariants as name
use Rattle.fr_logged.specs.Findings.{bare}
use Rattle.fr_logged.specs.Logged.{kind_of}
use Rattle.fr_recording.specs.Records.{Record}
use Rattle.fr_schedule.specs.Descriptions.{Description}
use Rattle.fr_slots.specs.Admission.{is_channel}
use Rattle.fr_slots.specs.declared.channel.Channel.{Channel}
use Rattle.fr_slots.specs.declared.channel.Channel.TheVariants.{A, B}

-- ---- one channel alone

-- the rules judge the channel, and without times; the other one isn't judged, or has no sender
pub record IsAlone (r : Rules) (channel : Channel) : Type 0 where
  pub plain : IsPlain r
  pub mine : judges r channel ≡ true
  pub others : (judges r (other_channel channel) ≡ false) ⊎ (has_sender_in r (other_channel channel) ≡ false)

-- then it has no record, either
abbrev pub AreAside : Rules → Channel → List Record → Type 0
AreAside r channel rs = (judges r (other_channel channel) ≡ false) ⊎ AreOn (other_channel channel) rs []

one_alone : (a b : Bool) (c : Channel) → ((is_channel c A && a) && (is_channel c B && b)) ≡ false
one_alone a b A = and_right a false refl
one_alone a b B = refl

not_other : (c : Channel) → is_channel c (other_channel c) ≡ false
not_other A = refl
not_other B = refl

pub alone : (d : Description) (most : ℕ) (whole : Bool) (channel : Channel)
    → IsAlone (rules_of d most whole (Some channel) 0) channel
unfolding rules_of
alone d most whole channel = record {
  plain = record { untimed = refl; one = one_alone (has_sender d A) (has_sender d B) channel };
  mine = same_channel channel;
  others = inl (not_other channel);
}

-- both channels are judged, but only one has a sender
pub alone_of_both : (d : Description) (most : ℕ) (whole : Bool) (channel : Channel)
    → has_sender d (other_channel channel) ≡ false → IsAlone (rules_of d most whole None 0) channel
unfolding rules_of
alone_of_both d most whole A none = record {
  plain = record { untimed = refl; one = and_right (true && has_sender d A) (true && has_sender d B) none };
  mine = refl;
  others = inr none;
}
alone_of_both d most whole B none = record {
  plain = record { untimed = refl; one = and_left (true && has_sender d A) (true && has_sender d B) none };
  mine = refl;
  others = inr none;
}

head_aside : (r : Rules) (channel : Channel) (rec : Record) (rs : List Record) → AreAside r channel (rec ∷ rs)
    → (judges r (other_channel channel) ≡ false)
    ⊎ (is_on (other_channel channel) (kind_of rec.link rec.bytes) ≡ false)
head_aside r channel rec rs (inl none) = inl none
head_aside r channel rec rs (inr (inl other)) = inr other.0
head_aside r channel rec rs (inr (inr own)) =
    let no : ◌≡◌ {A = List Fields} [] (own.0 ∷ own.1) = own.2 in
    absurd (let none : ⊥ = cc in none)

tail_aside : (r : Rules) (channel : Channel) (rec : Record) (rs : List Record) → AreAside r channel (rec ∷ rs)
    → AreAside r channel rs
tail_aside r channel rec rs (inl none) = inl none
tail_aside r channel rec rs (inr (inl other)) = inr other.1
tail_aside r channel rec rs (inr (inr own)) =
    let no : ◌≡◌ {A = List Fields} [] (own.0 ∷ own.1) = own.2 in
    absurd (let none : ⊥ = cc in none)

-- a record aside leaves the channel as it is
pub aside_record : (r : Rules) (channel : Channel) (s : State) (rec : Record) (rs : List Record) → s.rules ≡ r
    → AreAside r channel (rec ∷ rs) → is_on channel (kind_of rec.link rec.bytes) ≡ false
    → core (turn (judge s rec) channel) ≡ core (turn s channel)
aside_record r channel s rec rs rules_are aside is_other =
    other_record channel s rec
    (subst (λ (q : Rules). (judges q (other_channel channel) ≡ false)
    ⊎ (is_on (other_channel channel) (kind_of rec.link rec.bytes) ≡ false)) (sym rules_are)
    (head_aside r channel rec rs aside)) is_other

pub not_judged_alone : (d : Description) (most : ℕ) (whole : Bool) (channel : Channel)
    → judges (rules_of d most whole (Some channel) 0) (other_channel channel) ≡ false
unfolding rules_of
not_judged_alone d most whole channel = not_other channel

cluster_of_both : (d : Description) (most : ℕ) (whole : Bool) → (rules_of d most whole None 0).cluster ≡ d
unfolding rules_of
cluster_of_both d most whole = refl

pub cluster_of : (d : Description) (most : ℕ) (whole : Bool) (channel : Channel)
    → (rules_of d most whole (Some channel) 0).cluster ≡ d
unfolding rules_of
cluster_of d most whole channel = refl

-- ---- the state with the channel first

same_on : (r : Rules) (channel : Channel) (s t : State) (fs : List Fields) → core t ≡ core s → IsOn r channel s fs
    → IsOn r channel t fs
same_on r channel s t fs e (inl o) = inl (record { spot = o.spot; here = e ∙ o.here; fits = o.fits; rest = o.rest })
same_on r channel s t fs e (inr (inl w)) = inr (inl (record {
  spot = w.spot;
  held = w.held;
  here = e ∙ w.here;
  fits = w.fits;
  next = w.next;
  rest = w.rest;
}))
same_on r channel s t fs e (inr (inr b)) = inr (inr (record {
  held = b.held;
  here = e ∙ b.here;
  first = b.first;
  rest = b.rest;
}))

rules_on : (r : Rules) (channel : Channel) (s : State) (fs : List Fields) → IsOn r channel s fs → s.rules ≡ r
rules_on r channel s fs (inl o) = ap (λ (c : Core). c.rules) o.here
rules_on r channel s fs (inr (inl w)) = ap (λ (c : Core). c.rules) w.here
rules_on r channel s fs (inr (inr b)) = ap (λ (c : Core). c.rules) b.here

channel_on : (r : Rules) (channel : Channel) (s : State) (fs : List Fields) → IsOn r channel s fs
    → s.channel ≡ channel
channel_on r channel s fs (inl o) = ap (λ (c : Core). c.channel) o.here
channel_on r channel s fs (inr (inl w)) = ap (λ (c : Core). c.channel) w.here
channel_on r channel s fs (inr (inr b)) = ap (λ (c : Core). c.channel) b.here

aside_held : (r : Rules) (channel : Channel) (s : State) (fs : List Fields) → IsOn r channel s fs
    → s.other.held ≡ None
aside_held r channel s fs (inl o) = ap (λ (c : Core). c.aside) o.here
aside_held r channel s fs (inr (inl w)) = ap (λ (c : Core). c.aside) w.here
aside_held r channel s fs (inr (inr b)) = ap (λ (c : Core). c.aside) b.here

aside_open : (r : Rules) (channel : Channel) (s : State) (fs : List Fields) → IsOn r channel s fs
    → s.other.current ≡ None
aside_open r channel s fs (inl o) = ap (λ (c : Core). c.opposite) o.here
aside_open r channel s fs (inr (inl w)) = ap (λ (c : Core). c.opposite) w.here
aside_open r channel s fs (inr (inr b)) = ap (λ (c : Core). c.opposite) b.here

pub turn_rules : (s : State) (channel : Channel) → (turn s channel).rules ≡ s.rules
turn_rules s channel = by (is_channel s.channel channel)
  where
    by : (b : Bool) → (let t : State = cond b s (turned s) in t).rules ≡ s.rules
    by true = refl
    by false = refl

-- the place that allows the next frame
pub record NextAllowed (r : Rules) (channel : Channel) (f : Fields) : Type 0 where
  pub spot : Spot
  pub allowed : IsAllowed r.cluster channel spot f

follow_allowed : (r : Rules) (channel : Channel) (spot : Spot) (f : Fields) (fs : List Fields)
    → FollowOn r.cluster channel spot (f ∷ fs) → NextAllowed r channel f
follow_allowed r channel spot f fs (inl further) = record { spot = spot; allowed = further.0.allowed }
follow_allowed r channel spot f fs (inr next) = record {
  spot = cycle_start r.cluster.params f.cycle;
  allowed = next.0.first.allowed;
}

next_allowed : (r : Rules) (channel : Channel) (s : State) (f : Fields) (fs : List Fields)
    → IsOn r channel s (f ∷ fs) → NextAllowed r channel f
next_allowed r channel s f fs (inl o) = follow_allowed r channel o.spot f fs o.rest
next_allowed r channel s f fs (inr (inl w)) =
    follow_allowed r channel (after_frame r.cluster.params (cycle_start r.cluster.params w.held.frame.cycle)
    w.held.frame)
    f fs w.rest
next_allowed r channel s f fs (inr (inr b)) =
    follow_allowed r channel (after_frame r.cluster.params (cycle_start r.cluster.params b.held.frame.cycle)
    b.held.frame)
    f fs b.rest

-- ---- a record of the channel

frame_record : (r : Rules) (channel : Channel) (s : State) (rec : Record) (f : Fields) → IsAlone r channel
    → s.rules ≡ r → (turn (next_record s) channel).channel ≡ channel → Spells channel rec f → NextAllowed r channel f
    → judge s rec ≡ good (count_record (turn (next_record s) channel)) f (at_record s rec)
unfolding judge take_kind
frame_record r channel s rec f is_alone rules_are channel_is spells next =
    ap (take_kind (next_record s) (at_record s rec) rec.original rec.bytes) spells.is_frame
    ∙ cond-true (judges s.rules channel)
    (frame_on (turn (next_record s) channel) (at_record s rec) rec.original rec.bytes) (next_record s)
    (ap (λ (q : Rules). judges q channel) rules_are ∙ is_alone.mine)
    ∙ own_frame r channel (turn (next_record s) channel) (at_record s rec) rec.original rec.bytes f next.spot
    (turn_rules (next_record s) channel ∙ rules_are) channel_is spells.spells next.allowed

turned_on : (r : Rules) (channel : Channel) (t u : State) (fs : List Fields) → t ≡ u → IsOn r channel u fs
    → IsOn r channel (turn t channel) fs
turned_on r channel t u fs e on =
    subst (λ (v : State). IsOn r channel v fs)
    (sym (turn_none t channel (ap (λ (v : State). v.channel) e ∙ channel_on r channel u fs on)))
    (subst (λ (v : State). IsOn r channel v fs) (sym e) on)

own_record : (r : Rules) (channel : Channel) (s : State) (rec : Record) (f : Fields) (fs : List Fields)
    → IsAlone r channel → Spells channel rec f → IsOn r channel (turn s channel) (f ∷ fs)
    → IsOn r channel (turn (judge s rec) channel) fs
own_record r channel s rec f fs is_alone spells on =
    let t : State = turn (next_record s) channel in
    let before : IsOn r channel t (f ∷ fs) =
    same_on r channel (turn s channel) t (f ∷ fs) (record_turn s channel) on in
    let counted_on : IsOn r channel (count_record t) (f ∷ fs) =
    same_on r channel t (count_record t) (f ∷ fs) refl before in
    let after : IsOn r channel (good (count_record t) f (at_record s rec)) fs =
    next_frame r channel (count_record t) (at_record s rec) f fs is_alone.plain counted_on in
    turned_on r channel (judge s rec) (good (count_record t) f (at_record s rec)) fs
    (frame_record r channel s rec f is_alone
    (sym (turn_rules s channel) ∙ rules_on r channel (turn s channel) (f ∷ fs) on)
    (channel_on r channel t (f ∷ fs) before) spells (next_allowed r channel t f fs before)) after

-- ---- all records

all_records : (r : Rules) (channel : Channel) (rs : List Record) (fs : List Fields) (s : State) → IsAlone r channel
    → AreAside r channel rs → AreOn channel rs fs → IsOn r channel (turn s channel) fs
    → IsOn r channel (turn (judged s rs) channel) []
all_records r channel [] fs s is_alone aside none on =
    subst (λ (gs : List Fields). IsOn r channel (turn s channel) gs) none on
all_records r channel (rec ∷ rs) fs s is_alone aside (inl other) on =
    all_records r channel rs fs (judge s rec) is_alone (tail_aside r channel rec rs aside) other.1
    (same_on r channel (turn s channel) (turn (judge s rec) channel) fs
    (aside_record r channel s rec rs
    (sym (turn_rules s channel) ∙ rules_on r channel (turn s channel) fs on) aside other.0) on)
all_records r channel (rec ∷ rs) fs s is_alone aside (inr own) on =
    all_records r channel rs own.1 (judge s rec) is_alone (tail_aside r channel rec rs aside) own.4
    (own_record r channel s rec own.0 own.1 is_alone own.3
    (subst (λ (gs : List Fields). IsOn r channel (turn s channel) gs) own.2 on))

-- ---- before the first frame

abbrev pub core_fresh : Rules → Channel → Core
core_fresh r channel = record (core_before r channel) { heard = false }

pub fresh_core : (r : Rules) (channel : Channel) → core (turn (fresh r) channel) ≡ core_fresh r channel
unfolding fresh
fresh_core r A = refl
fresh_core r B = refl

first_good : (r : Rules) (channel : Channel) (s : State) (at : At) (f : Fields) → core s ≡ core_fresh r channel
    → core (good s f at) ≡ waiting (core_before r channel) (held_at f at)
first_good r channel s at f e =
    let spoke : core (speak s at) ≡ core_before r channel = spoken (core_fresh r channel) s at e in
    let none : settle (speak s at) (Some (next_of f)) ≡ speak s at =
    settle_none (speak s at) (Some (next_of f)) (ap (λ (c : Core). c.held) spoke) in
    ap core (good_is s f at) ∙ ap (λ (t : State). core (place_frame t f at)) none
    ∙ place_first r channel (speak s at) f at spoke

first_record : (r : Rules) (channel : Channel) (s : State) (rec : Record) (f : Fields) (fs : List Fields)
    → IsAlone r channel → Spells channel rec f → core (turn s channel) ≡ core_fresh r channel
    → AreHeard r.cluster channel (f ∷ fs) → IsOn r channel (turn (judge s rec) channel) fs
first_record r channel s rec f fs is_alone spells e heard_are =
    let t : State = turn (next_record s) channel in
    let before : core t ≡ core_fresh r channel = record_turn s channel ∙ e in
    let after : IsOn r channel (good (count_record t) f (at_record s rec)) fs =
    inr (inr (record {
      held = held_at f (at_record s rec);
      here = first_good r channel (count_record t) (at_record s rec) f before;
      first = heard_are.0;
      rest = heard_are.1;
    })) in
    turned_on r channel (judge s rec) (good (count_record t) f (at_record s rec)) fs
    (frame_record r channel s rec f is_alone (sym (turn_rules s channel) ∙ ap (λ (c : Core). c.rules) e)
    (ap (λ (c : Core). c.channel) before) spells
    (record { spot = cycle_start r.cluster.params f.cycle; allowed = heard_are.0.allowed })) after

no_first : {X : Type 0} (f : Fields) (fs : List Fields) → ◌≡◌ {A = List Fields} (f ∷ fs) [] → X
no_first f fs e = absurd (let none : ⊥ = cc in none)

from_fresh : (r : Rules) (channel : Channel) (rs : List Record) (f : Fields) (fs : List Fields) (s : State)
    → IsAlone r channel → AreAside r channel rs → AreOn channel rs (f ∷ fs) → AreHeard r.cluster channel (f ∷ fs)
    → core (turn s channel) ≡ core_fresh r channel → IsOn r channel (turn (judged s rs) channel) []
from_fresh r channel [] f fs s is_alone aside none heard_are e = no_first f fs none
from_fresh r channel (rec ∷ rs) f fs s is_alone aside (inl other) heard_are e =
    from_fresh r channel rs f fs (judge s rec) is_alone (tail_aside r channel rec rs aside) other.1 heard_are
    (aside_record r channel s rec rs
    (sym (turn_rules s channel) ∙ ap (λ (c : Core). c.rules) e) aside other.0 ∙ e)
from_fresh r channel (rec ∷ rs) f fs s is_alone aside (inr own) heard_are e =
    all_records r channel rs own.1 (judge s rec) is_alone (tail_aside r channel rec rs aside) own.4
    (first_record r channel s rec own.0 own.1 is_alone own.3 e
    (subst (λ (gs : List Fields). AreHeard r.cluster channel gs) own.2 heard_are))

-- ---- the end

pub record IsEnd (r : Rules) (channel : Channel) (s : State) : Type 0 where
  pub spot : Spot
  pub here : core s ≡ core_at r channel spot
  pub over : IsOver r.cluster channel spot

at_end : (r : Rules) (channel : Channel) (s : State) → IsPlain r → IsOn r channel s []
    → IsEnd r channel (settle s None)
at_end r channel s plain (inl o) = record {
  spot = o.spot;
  here = settle_at r channel s o.spot None o.here;
  over = o.rest;
}
at_end r channel s plain (inr (inl w)) = record {
  spot = after_frame r.cluster.params (cycle_start r.cluster.params w.held.frame.cycle) w.held.frame;
  here = settle_next r channel s w.spot w.held None w.here plain w.fits w.next refl;
  over = w.rest;
}
at_end r channel s plain (inr (inr b)) = record {
  spot = after_frame r.cluster.params (cycle_start r.cluster.params b.held.frame.cycle) b.held.frame;
  here = settle_first r channel s b.held None b.here plain b.first refl;
  over = b.rest;
}

pub nothing_none : (s : State) → s.mine.heard ≡ true → tell_nothing s ≡ s
unfolding tell_nothing
nothing_none s heard_is =
    cond-false (has_sender_in s.rules s.channel && says_nothing s)
    (find s None (symbol_place s) (bare name.Nothing)) s
    (and_right (has_sender_in s.rules s.channel) (says_nothing s)
    (and_left (not s.mine.heard) _ (ap not heard_is)))

end_none : (r : Rules) (channel : Channel) (s : State) → IsEnd r channel s → tell_end s ≡ s
unfolding tell_end
end_none r channel s is =
    ap tell_nothing (either_same s.rules.whole (end_cycle s None) s
    (over_none r channel s None is.spot is.here is.over))
    ∙ nothing_none s (ap (λ (c : Core). c.heard) is.here)

-- the end of the channel's frames leaves no finding
finished : (r : Rules) (channel : Channel) (s : State) → IsPlain r → IsOn r channel (turn s channel) []
    → IsEnd r channel (finish_channel (turn s channel) true)
finished r channel s plain on =
    let is : IsEnd r channel (settle (turn s channel) None) = at_end r channel (turn s channel) plain on in
    subst (IsEnd r channel) (sym (end_none r channel (settle (turn s channel) None) is)) is

pub found_none : (s : State) → s.found ≡ none_found → has_finding s ≡ false
unfolding none_found
found_none s e = ap (list_any is_some_number) e

pub end_channel : (s : State) (channel : Channel) → judges s.rules channel ≡ true
    → finish_on s channel true ≡ finish_channel (turn s channel) true
unfolding finish_on
end_channel s channel mine =
    cond-true (judges s.rules channel) (finish_channel (turn s channel) true) s mine

no_cycle : (s : State) → s.mine.current ≡ None → end_cycle s None ≡ s
unfolding end_cycle
no_cycle s e = ap (end_in s None) e

none_told : (s : State) → has_sender_in s.rules s.channel ≡ false → tell_nothing s ≡ s
unfolding tell_nothing
none_told s none =
    cond-false (has_sender_in s.rules s.channel && says_nothing s)
    (find s None (symbol_place s) (bare name.Nothing)) s
    (and_left (has_sender_in s.rules s.channel) (says_nothing s) none)

-- nothing is told of a channel without a sender that had no frame
pub silent_end : (s : State) → has_sender_in s.rules s.channel ≡ false → s.mine.held ≡ None → s.mine.current ≡ None
    → finish_channel s true ≡ s
unfolding tell_end
silent_end s none held current =
    ap tell_end (settle_none s None held)
    ∙ ap tell_nothing (either_same s.rules.whole (end_cycle s None) s (no_cycle s current))
    ∙ none_told s none

-- ---- turned states

turn_found : (s : State) (channel : Channel) → (turn s channel).found ≡ s.found
turn_found s channel = by (is_channel s.channel channel)
  where
    by : (b : Bool) → (let t : State = cond b s (turned s) in t).found ≡ s.found
    by true = refl
    by false = refl

pub double : (c : Channel) → other_channel (other_channel c) ≡ c
double A = refl
double B = refl

turned_twice : (s : State) → turned (turned s) ≡ s
turned_twice s = ap (λ (c : Channel). record s { channel = c }) (double s.channel)

turn_other : (s : State) (channel : Channel) → s.channel ≡ other_channel channel → turn s channel ≡ turned s
turn_other s channel e =
    cond-false (is_channel s.channel channel) s (turned s)
    (ap (λ (c : Channel). is_channel c channel) e ∙ by channel)
  where
    by : (c : Channel) → is_channel (other_channel c) c ≡ false
    by A = refl
    by B = refl

pub turn_again : (s : State) (channel : Channel) → turn (turn s (other_channel channel)) channel ≡ turn s channel
turn_again s channel = by s.channel channel refl
  where
    by : (c on : Channel) → s.channel ≡ c → turn (turn s (other_channel on)) on ≡ turn s on
    by A A e = ap (λ (t : State). turn t A) (turn_other s B e)
        ∙ turn_other (turned s) A (ap other_channel e) ∙ turned_twice s ∙ sym (turn_none s A e)
    by A B e = ap (λ (t : State). turn t B) (turn_none s A e)
    by B A e = ap (λ (t : State). turn t A) (turn_none s B e)
    by B B e = ap (λ (t : State). turn t B) (turn_other s A e)
        ∙ turn_other (turned s) B (ap other_channel e) ∙ turned_twice s ∙ sym (turn_none s B e)

-- the other lane stands first once it is turned
pub lane_aside : (s : State) (channel : Channel) → (turn s (other_channel channel)).mine ≡ (turn s channel).other
lane_aside s channel = by s.channel channel
  where
    by : (c on : Channel) → (let t : State = cond (is_channel c (other_channel on)) s (turned s) in t).mine
        ≡ (let t : State = cond (is_channel c on) s (turned s) in t).other
    by A A = refl
    by A B = refl
    by B A = refl
    by B B = refl

turn_channel : (s : State) (channel : Channel) → (turn s channel).channel ≡ channel
turn_channel s channel = by s.channel channel refl
  where
    by : (c on : Channel) → s.channel ≡ c → (turn s on).channel ≡ on
    by A A e = ap (λ (t : State). t.channel) (turn_none s A e) ∙ e
    by A B e = ap (λ (t : State). t.channel) (turn_other s B e) ∙ ap other_channel e
    by B A e = ap (λ (t : State). t.channel) (turn_other s A e) ∙ ap other_channel e
    by B B e = ap (λ (t : State). t.channel) (turn_none s B e) ∙ e

-- the end of the other channel changes nothing, but it may come first
pub aside_end : (r : Rules) (other : Channel) (s : State) → s.rules ≡ r
    → ((judges r other ≡ false) ⊎ (has_sender_in r other ≡ false)) → (turn s other).mine.held ≡ None
    → (turn s other).mine.current ≡ None
    → (finish_on s other true ≡ s) ⊎ (finish_on s other true ≡ turn s other)
unfolding finish_on
aside_end r other s rules_are aside held current = by (judges s.rules other) refl aside
  where
    silent : has_sender_in r other ≡ false → has_sender_in (turn s other).rules (turn s other).channel ≡ false
    silent none = ap (λ (q : Rules). has_sender_in q (turn s other).channel) (turn_rules s other ∙ rules_are)
        ∙ ap (has_sender_in r) (turn_channel s other) ∙ none

    by : (b : Bool) → judges s.rules other ≡ b → ((judges r other ≡ false) ⊎ (has_sender_in r other ≡ false))
        → (cond b (finish_channel (turn s other) true) s ≡ s)
        ⊎ (cond b (finish_channel (turn s other) true) s ≡ turn s other)
    by false is e = inl refl
    by true is (inl none) = absurd (let no : judges r other ≡ true = ap (λ (q : Rules). judges q other) (sym rules_are)
        ∙ is in let none : ⊥ = cc in none)
    by true is (inr none) = inr (silent_end (turn s other) (silent none) held current)

abbrev pub cleared : State → State
cleared s = record s { lines = [] }

cleared_on : (r : Rules) (channel : Channel) (s : State) → IsOn r channel (turn s channel) []
    → IsOn r channel (turn (cleared s) channel) []
cleared_on r channel s on =
    same_on r channel (turn s channel) (turn (cleared s) channel) [] (by (is_channel s.channel channel)) on
  where
    by : (b : Bool) → core (cond b (cleared s) (turned (cleared s))) ≡ core (cond b s (turned s))
    by true = refl
    by false = refl

-- the end of both channels, of which the other one may come first
first_end : (r : Rules) (s : State) → IsAlone r A → IsEnd r A (finish_on s A true)
    → has_finding (finish_on (finish_on s A true) B true) ≡ false
first_end r s is_alone end =
    let channel_is : (finish_on s A true).channel ≡ A = ap (λ (c : Core). c.channel) end.here in
    let at_a : turn (finish_on s A true) A ≡ finish_on s A true = turn_none (finish_on s A true) A channel_is in
    let lane : (turn (finish_on s A true) B).mine ≡ (finish_on s A true).other =
    lane_aside (finish_on s A true) A ∙ ap (λ (t : State). t.other) at_a in
    let none : (finish_on s A true).found ≡ none_found = ap (λ (c : Core). c.found) end.here in
    elim (aside_end r B (finish_on s A true) (ap (λ (c : Core). c.rules) end.here) is_alone.others
    (ap (λ (l : Lane). l.held) lane ∙ ap (λ (c : Core). c.aside) end.here)
    (ap (λ (l : Lane). l.current) lane ∙ ap (λ (c : Core). c.opposite) end.here)) [
      | inl still ↦ ap has_finding still ∙ found_none (finish_on s A true) none
      | inr turned_is ↦ ap has_finding turned_is
          ∙ found_none (turn (finish_on s A true) B) (turn_found (finish_on s A true) B ∙ none)
    ]

whole_end : (r : Rules) (channel : Channel) (s : State) → IsAlone r channel → IsOn r channel (turn s channel) []
    → has_finding (finish s true) ≡ false
unfolding finish
whole_end r A s is_alone on =
    let is : IsEnd r A (finish_channel (turn (cleared s) A) true) =
    finished r A (cleared s) is_alone.plain (cleared_on r A s on) in
    let rules_are : s.rules ≡ r = sym (turn_rules s A) ∙ rules_on r A (turn s A) [] on in
    let mine : judges s.rules A ≡ true = ap (λ (q : Rules). judges q A) rules_are ∙ is_alone.mine in
    let last : finish_channel (turn (cleared s) A) true ≡ finish_on (cleared s) A true =
    sym (end_channel (cleared s) A mine) in
    first_end r (cleared s) is_alone (subst (IsEnd r A) last is)
whole_end r B s is_alone on =
    let is : IsEnd r B (finish_channel (turn (cleared s) B) true) = finished r B (cleared s) is_alone.plain
    (cleared_on r B s on) in
    let rules_are : s.rules ≡ r = sym (turn_rules s B) ∙ rules_on r B (turn s B) [] on in
    let lane : (turn (cleared s) A).mine ≡ (turn (cleared s) B).other = lane_aside (cleared s) B in
    let last : (t : State) → t.rules ≡ r → turn t B ≡ turn (cleared s) B
    → has_finding (finish_on t B true) ≡ false =
    λ t same turned_is. ap has_finding (end_channel t B (ap (λ (q : Rules). judges q B) same ∙ is_alone.mine)
    ∙ ap (λ (u : State). finish_channel u true) turned_is)
    ∙ found_none (finish_channel (turn (cleared s) B) true) (ap (λ (c : Core). c.found) is.here) in
    elim (aside_end r A (cleared s) rules_are is_alone.others
    (ap (λ (l : Lane). l.held) lane ∙ aside_held r B (turn (cleared s) B) [] (cleared_on r B s on))
    (ap (λ (l : Lane). l.current) lane ∙ aside_open r B (turn (cleared s) B) [] (cleared_on r B s on))) [
      | inl still ↦ ap (λ (t : State). has_finding (finish_on t B true)) still ∙ last (cleared s) rules_are refl
      | inr turned_is ↦ ap (λ (t : State). has_finding (finish_on t B true)) turned_is
          ∙ last (turn (cleared s) A) (turn_rules (cleared s) A ∙ rules_are) (turn_again (cleared s) B)
    ]

-- ---- no false alarm

pub no_false_alarm : NoFalseAlarm
no_false_alarm d most whole channel rs f fs on heard_are =
    let r : Rules = rules_of d most whole (Some channel) 0 in
    let is_alone : IsAlone r channel = alone d most whole channel in
    let same : r.cluster ≡ d = cluster_of d most whole channel in
    whole_end r channel (judged (fresh r) rs) is_alone
    (from_fresh r channel rs f fs (fresh r) is_alone (inl (not_judged_alone d most whole channel)) on
    (subst (λ (e : Description). AreHeard e channel (f ∷ fs)) (sym same) heard_are) (fresh_core r channel))

pub no_false_alarm_of_both : NoFalseAlarmOfBoth
no_false_alarm_of_both d most whole channel rs f fs on heard_are none aside =
    let r : Rules = rules_of d most whole None 0 in
    let is_alone : IsAlone r channel = alone_of_both d most whole channel none in
    let same : r.cluster ≡ d = cluster_of_both d most whole in
    whole_end r channel (judged (fresh r) rs) is_alone
    (from_fresh r channel rs f fs (fresh r) is_alone (inr aside) on
    (subst (λ (e : Description). AreHeard e channel (f ∷ fs)) (sym same) heard_are) (fresh_core r channel))
