-- A channel without a sender has no frame and no finding.
use Rattle.std.proofs.Common.{◌≡◌, ℕ, Bool, true, false, not, cond, ◌&&◌, ◌||◌, List, [], ◌∷◌, refl, sym, ap, ◌∙◌, inl}
use Rattle.std.proofs.Common.{inr, Some, None}
use Rattle.std.proofs.lemmas.Bool.{eqb-true, or_right}
use Rattle.std.specs.Prelude.{◌==◌}
use Rattle.std.specs.List.{list_any}
use Rattle.std.proofs.lemmas.Map.Keys.{any_passes_from_place}
use Rattle.fr_bus.specs.Record.{Recorded}
use Rattle.fr_core.proofs.CaseLemmas.{both, both_first, both_rest, differ}
use Rattle.fr_frame.specs.Fields.{Fields}
use Rattle.fr_hearing.proofs.AcceptedLaws.{quiet_other}
use Rattle.fr_hearing.proofs.AlarmLaws.{IsAlone, alone, core_fresh, fresh_core, turn_rules, found_none, silent_end}
use Rattle.fr_hearing.proofs.AlarmLaws.{end_channel, cleared, aside_record, not_judged_alone}
use Rattle.fr_hearing.proofs.CoreLemmas.{Core, core}
use Rattle.fr_hearing.proofs.PassageLemmas.{IsLoud}
use Rattle.fr_hearing.specs.Alarms.{AreOn, judged, NoAlarmInSilence}
use Rattle.fr_hearing.specs.Listening.{IsThere}
use Rattle.fr_judging.specs.declared.rules.Rules.{Rules}
use Rattle.fr_judging.specs.Judging.{State, turn, turned, judge, fresh, finish, finish_on, has_finding}
use Rattle.fr_judging.specs.Rules.{judges, other_channel, rules_of, has_sender, has_sender_in, sends_on, own_includes}
use Rattle.fr_judging.specs.Rules.{transmits_on}
use Rattle.fr_logged.proofs.SenderLemmas.{due_nobody}
use Rattle.fr_logged.specs.declared.due.Due.{Due}
use Rattle.fr_logged.specs.Dues.{due_of}
use Rattle.fr_recording.specs.Records.{Record}
use Rattle.fr_schedule.specs.Descriptions.{Description}
use Rattle.fr_schedule.specs.SenderTable.{IsSender}
use Rattle.fr_slots.specs.Admission.{is_channel, includes, cycle_admitted}
use Rattle.fr_slots.specs.declared.channel.Channel.{Channel}
use Rattle.fr_slots.specs.declared.channel.Channel.TheVariants.{A, B}
use Rattle.fr_slots.specs.declared.plan.Buffer.{Buffer}
use Rattle.fr_slots.specs.declared.plan.Own.{Own}
use Rattle.fr_slots.specs.Faults.{claims, is_owned, sends_at, transmits}
use Rattle.fr_slots.specs.Parameters.{is_static_slot}
use Rattle.fr_slots.specs.Plans.{filter_admits}
use Rattle.fr_slots.specs.Windows.{is_static}

-- ---- nothing is due

any_more : {X : Type 0} (p q : X → Bool) (xs : List X) → ((x : X) → p x ≡ true → q x ≡ true)
    → list_any p xs ≡ true → list_any q xs ≡ true
any_more p q [] more some = absurd (let none : ⊥ = cc in none)
any_more p q (x ∷ xs) more some = by (p x) refl some (any_more p q xs more)
  where
    or_true : (b : Bool) → (b || true) ≡ true
    or_true true = refl
    or_true false = refl

    by : (b : Bool) → p x ≡ b → (b || list_any p xs) ≡ true → (list_any p xs ≡ true → list_any q xs ≡ true)
        → (q x || list_any q xs) ≡ true
    by true is e rest = ap (λ (b : Bool). b || list_any q xs) (more x is)
    by false is e rest = ap (λ (b : Bool). q x || b) (rest e) ∙ or_true (q x)

module _ (d : Description) (channel : Channel) (slot cycle : ℕ) where
  owner_sends : (own : Own) → claims slot channel cycle own ≡ true → own_includes channel own ≡ true
  owner_sends own e =
      both_rest (own.slot == slot) (includes own.channels channel)
      (both_first (own.slot == slot && includes own.channels channel) (cycle_admitted own.cycles cycle) e)

  buffer_sends : is_static_slot d.params slot ≡ false → (b : Buffer) → sends_at slot channel cycle b ≡ true
      → transmits_on d.params channel b ≡ true
  buffer_sends dynamic b e =
      let admits = both_rest (transmits b) (filter_admits b.filter cycle slot channel) e in
      let front = both_first (b.filter.slot == slot && includes b.filter.channels channel)
      (cycle_admitted b.filter.cycles cycle) admits in
      let same = eqb-true b.filter.slot slot
      (both_first (b.filter.slot == slot) (includes b.filter.channels channel) front) in
      both (transmits b && not (is_static_slot d.params b.filter.slot)) (includes b.filter.channels channel)
      (both (transmits b) (not (is_static_slot d.params b.filter.slot))
      (both_first (transmits b) (filter_admits b.filter cycle slot channel) e)
      (ap not (ap (is_static_slot d.params) same ∙ dynamic)))
      (both_rest (b.filter.slot == slot) (includes b.filter.channels channel) front)

  some_sender : (node : ℕ) → IsSender d cycle slot channel node → has_sender d channel ≡ true
  some_sender node s =
      any_passes_from_place (sends_on d.params channel) d.plans node s.plan s.at
      (by (is_static_slot d.params slot) refl s.sends)
    where
      by : (b : Bool) → is_static_slot d.params slot ≡ b
          → cond b (is_owned s.plan.owned slot channel cycle) (list_any (sends_at slot channel cycle) s.plan.buffers)
          ≡ true → sends_on d.params channel s.plan ≡ true
      by true is e = ap (λ (b : Bool). b || list_any (transmits_on d.params channel) s.plan.buffers)
          (any_more (claims slot channel cycle) (own_includes channel) s.plan.owned owner_sends e)
      by false is e = or_right (list_any (own_includes channel) s.plan.owned)
          (list_any (transmits_on d.params channel) s.plan.buffers)
          (any_more (sends_at slot channel cycle) (transmits_on d.params channel) s.plan.buffers (buffer_sends is) e)

  none_due : has_sender d channel ≡ false → due_of d slot channel cycle ≡ None
  none_due none = due_nobody d slot channel cycle (λ node s. differ (some_sender node s) none)

pub nothing_due : (d : Description) (channel : Channel) (r : Recorded) → IsLoud d channel r
    → has_sender d channel ≡ false → ⊥
nothing_due d channel r l none = by (is_static r.window) l.is_there
  where
    nothing : (x : Due) → due_of d l.slot channel r.window.cycle ≡ Some x → ⊥
    nothing x e =
        let both_are : None ≡ Some x = sym (none_due d channel l.slot r.window.cycle none) ∙ e in
        let no : ⊥ = cc in no

    by : (b : Bool) → IsThere d r.window channel l.slot l.frame b → ⊥
    by true there = nothing there.due there.due_is
    by false there = nothing there.due there.due_is

-- ---- the judgement

all_others : (r : Rules) (channel : Channel) (rs : List Record) (s : State)
    → judges r (other_channel channel) ≡ false → AreOn channel rs []
    → core (turn s channel) ≡ core_fresh r channel → core (turn (judged s rs) channel) ≡ core_fresh r channel
all_others r channel [] s aside on e = e
all_others r channel (rec ∷ rs) s aside (inl other) e =
    all_others r channel rs (judge s rec) aside other.1
    (aside_record r channel s rec rs (sym (turn_rules s channel) ∙ ap (λ (c : Core). c.rules) e) (inl aside) other.0
    ∙ e)
all_others r channel (rec ∷ rs) s aside (inr own) e =
    let no : ◌≡◌ {A = List Fields} [] (own.0 ∷ own.1) = own.2 in
    absurd (let none : ⊥ = cc in none)

cleared_core : (s : State) (channel : Channel) → core (turn (cleared s) channel) ≡ core (turn s channel)
cleared_core s channel = by (is_channel s.channel channel)
  where
    by : (b : Bool) → core (cond b (cleared s) (turned (cleared s))) ≡ core (cond b s (turned s))
    by true = refl
    by false = refl

-- nothing is told of the channel
silent_here : (r : Rules) (channel : Channel) (s : State) → IsAlone r channel → has_sender_in r channel ≡ false
    → core (turn s channel) ≡ core_fresh r channel → finish_on s channel true ≡ turn s channel
silent_here r channel s is_alone none e =
    end_channel s channel
    (ap (λ (q : Rules). judges q channel) (sym (turn_rules s channel) ∙ ap (λ (c : Core). c.rules) e) ∙ is_alone.mine)
    ∙ silent_end (turn s channel) (ap (λ (c : Core). has_sender_in c.rules c.channel) e ∙ none)
    (ap (λ (c : Core). c.held) e) (ap (λ (c : Core). c.current) e)

silent_finish : (r : Rules) (channel : Channel) (s : State) → IsAlone r channel
    → judges r (other_channel channel) ≡ false → has_sender_in r channel ≡ false
    → core (turn s channel) ≡ core_fresh r channel → has_finding (finish s true) ≡ false
unfolding finish
silent_finish r A s is_alone aside none e =
    let here : core (turn (cleared s) A) ≡ core_fresh r A = cleared_core s A ∙ e in
    ap (λ (t : State). has_finding (finish_on t B true)) (silent_here r A (cleared s) is_alone none here)
    ∙ ap has_finding (quiet_other r (turn (cleared s) A) B (ap (λ (c : Core). c.rules) here) aside)
    ∙ found_none (turn (cleared s) A) (ap (λ (c : Core). c.found) here)
silent_finish r B s is_alone aside none e =
    let here : core (turn (cleared s) B) ≡ core_fresh r B = cleared_core s B ∙ e in
    let rules_are : s.rules ≡ r = sym (turn_rules s B) ∙ ap (λ (c : Core). c.rules) e in
    ap (λ (t : State). has_finding (finish_on t B true)) (quiet_other r (cleared s) A rules_are aside)
    ∙ ap has_finding (silent_here r B (cleared s) is_alone none here)
    ∙ found_none (turn (cleared s) B) (ap (λ (c : Core). c.found) here)

sends_in : (d : Description) (most : ℕ) (whole : Bool) (channel on : Channel) → has_sender d on ≡ false
    → has_sender_in (rules_of d most whole (Some channel) 0) on ≡ false
unfolding rules_of
sends_in d most whole channel A none = none
sends_in d most whole channel B none = none

pub no_alarm_in_silence : NoAlarmInSilence
no_alarm_in_silence d most whole channel rs on none =
    let r : Rules = rules_of d most whole (Some channel) 0 in
    let is_alone : IsAlone r channel = alone d most whole channel in
    let aside : judges r (other_channel channel) ≡ false = not_judged_alone d most whole channel in
    silent_finish r channel (judged (fresh r) rs) is_alone aside (sends_in d most whole channel channel none)
    (all_others r channel rs (fresh r) aside on (fresh_core r channel))
