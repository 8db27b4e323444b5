-- Channels without a sender: the records of both channels are those of the other one, or foreign ones alone.
use Rattle.std.proofs.Common.{◌≡◌, ℕ, Bool, true, false, cond, List, [], ◌∷◌, ◌++◌, refl, sym, ap, subst, ◌∙◌, inl, inr}
use Rattle.std.proofs.Common.{None}
use Rattle.fr_bus.specs.Record.{Recorded, heard}
use Rattle.fr_capture.specs.Pcap.{packet, link_type}
use Rattle.fr_frame.specs.Refusal.{refusal}
use Rattle.fr_hearing.proofs.AlarmLaws.{IsAlone, alone_of_both, core_fresh, fresh_core, turn_rules, aside_record}
use Rattle.fr_hearing.proofs.AlarmLaws.{cleared, end_channel, silent_end, aside_end, lane_aside, found_none}
use Rattle.fr_hearing.proofs.CoreLemmas.{Core, core}
use Rattle.fr_hearing.proofs.RecordLemmas.{turn_none}
use Rattle.fr_hearing.specs.Alarms.{is_on, AreOn, judged}
use Rattle.fr_hearing.specs.Pairs.{packets_of_both, AreInOrder}
use Rattle.fr_hearing.specs.Runs.{packets_seen, packets_of, AreLogged}
use Rattle.fr_judging.specs.declared.lane.Lane.{Lane}
use Rattle.fr_judging.specs.declared.rules.Rules.{Rules}
use Rattle.fr_judging.specs.Judging.{State, turn, turned, judge, fresh, finish, finish_on, has_finding}
use Rattle.fr_judging.specs.Rules.{other_channel, judges, rules_of, has_sender, has_sender_in}
use Rattle.fr_logged.specs.declared.record.Kind.TheVariants.{Frame}
use Rattle.fr_logged.specs.Logged.{kind_of}
use Rattle.fr_recording.specs.Records.{Record}
use Rattle.fr_schedule.specs.Descriptions.{Description}
use Rattle.fr_slots.specs.Admission.{is_channel}
use Rattle.fr_slots.specs.declared.channel.Channel.{Channel}
use Rattle.fr_slots.specs.declared.channel.Channel.TheVariants.{A, B}
use Rattle.fr_slots.specs.Parameters.{Parameters}
use Rattle.fr_status.specs.declared.seen.Seen.TheVariants.{Silence, Own, Conflict, Noise, Overrun, Bytes}
use Rattle.fr_status.specs.Forms.{Seen}

-- ---- the packets of one channel

no_more : (xs ys : List (List ℕ)) → xs ++ ys ≡ [] → (xs ≡ []) × (ys ≡ [])
no_more [] ys e = (refl, e)
no_more (x ∷ xs) ys e = absurd (let none : ⊥ = cc in none)

pub packets_of_one : (p : Parameters) (channel : Channel) (rs : List Recorded)
    → packets_of p (other_channel channel) rs ≡ [] → packets_of_both p rs ≡ packets_of p channel rs
packets_of_one p channel [] e = refl
packets_of_one p A (r ∷ rs) e =
    let none = no_more (packets_seen B (heard p r B)) (packets_of p B rs) e in
    ap (λ (l : List (List ℕ)). packets_seen A (heard p r A) ++ (l ++ packets_of_both p rs)) none.0
    ∙ ap (λ (l : List (List ℕ)). packets_seen A (heard p r A) ++ l) (packets_of_one p A rs none.1)
packets_of_one p B (r ∷ rs) e =
    let none = no_more (packets_seen A (heard p r A)) (packets_of p A rs) e in
    ap (λ (l : List (List ℕ)). l ++ (packets_seen B (heard p r B) ++ packets_of_both p rs)) none.0
    ∙ ap (λ (l : List (List ℕ)). packets_seen B (heard p r B) ++ l) (packets_of_one p B rs none.1)

-- each packet is a frame of the channel
abbrev pub AreOf : Channel → List (List ℕ) → Type 0
AreOf channel [] = Unit {0}
AreOf channel (bytes ∷ packets) = (kind_of link_type bytes ≡ Frame channel) × AreOf channel packets

pub packets_are_of : (p : Parameters) (channel : Channel) (rs : List Recorded)
    → AreOf channel (packets_of p channel rs)
packets_are_of p channel [] = tt
packets_are_of p channel (r ∷ rs) = by (heard p r channel) (packets_are_of p channel rs)
  where
    kind_is : (on : Channel) (bytes : List ℕ) → kind_of link_type (packet on (refusal on bytes) bytes) ≡ Frame on
    kind_is A bytes = refl
    kind_is B bytes = refl

    by : (o : Seen) → AreOf channel (packets_of p channel rs)
        → AreOf channel (packets_seen channel o ++ packets_of p channel rs)
    by Silence rest = rest
    by Own rest = rest
    by Conflict rest = rest
    by Noise rest = rest
    by Overrun rest = rest
    by (Bytes bytes) rest = (kind_is channel bytes.items, rest)

-- ---- the records of one channel

pub are_logged : (channel : Channel) (records : List Record) (packets : List (List ℕ)) → AreInOrder records packets
    → AreLogged channel records packets
are_logged channel [] packets e = e
are_logged channel (r ∷ rs) packets (inl foreign) =
    inl (ap (is_on channel) foreign.0, are_logged channel rs packets foreign.1)
are_logged channel (r ∷ rs) packets (inr own) =
    inr (own.0, own.1, own.2, own.3, own.4, are_logged channel rs own.2 own.5)

pub none_logged : (channel : Channel) (records : List Record) (packets : List (List ℕ)) → AreOf channel packets
    → AreInOrder records packets → AreLogged (other_channel channel) records []
none_logged channel [] packets each e = refl
none_logged channel (r ∷ rs) packets each (inl foreign) =
    inl (ap (is_on (other_channel channel)) foreign.0, none_logged channel rs packets each foreign.1)
none_logged channel (r ∷ rs) packets each (inr own) =
    let more : AreOf channel (own.1 ∷ own.2) = subst (AreOf channel) own.3 each in
    inl (
      ap (λ (q : Record). is_on (other_channel channel) (kind_of q.link q.bytes)) own.4
          ∙ ap (is_on (other_channel channel)) more.0 ∙ not_same channel,
      none_logged channel rs own.2 more.1 own.5,
    )
  where
    not_same : (on : Channel) → is_channel (other_channel on) on ≡ false
    not_same A = refl
    not_same B = refl

-- ---- neither channel has a sender

none_on : (channel : Channel) (rs : List Record) → AreInOrder rs [] → AreOn channel rs []
none_on channel [] e = refl
none_on channel (r ∷ rs) (inl foreign) = inl (ap (is_on channel) foreign.0, none_on channel rs foreign.1)
none_on channel (r ∷ rs) (inr own) =
    absurd (let no : ◌≡◌ {A = List (List ℕ)} [] (own.1 ∷ own.2) = own.3 in let wrong : ⊥ = cc in wrong)

-- foreign records leave the judge as it was
stays_fresh : (r : Rules) (rs : List Record) (s : State) → AreInOrder rs [] → core (turn s A) ≡ core_fresh r A
    → core (turn (judged s rs) A) ≡ core_fresh r A
stays_fresh r [] s in_order e = e
stays_fresh r (x ∷ rs) s (inl foreign) e =
    stays_fresh r rs (judge s x) foreign.1
    (aside_record r A s x rs (sym (turn_rules s A) ∙ ap (λ (c : Core). c.rules) e)
    (inr (none_on B (x ∷ rs) (inl foreign))) (ap (is_on A) foreign.0) ∙ e)
stays_fresh r (x ∷ rs) s (inr own) e =
    absurd (let no : ◌≡◌ {A = List (List ℕ)} [] (own.1 ∷ own.2) = own.3 in let wrong : ⊥ = cc in wrong)

cleared_core : (s : State) → core (turn (cleared s) A) ≡ core (turn s A)
cleared_core s = by (is_channel s.channel A)
  where
    by : (b : Bool) → core (cond b (cleared s) (turned (cleared s))) ≡ core (cond b s (turned s))
    by true = refl
    by false = refl

-- nothing is told of either channel
ends_silent : (r : Rules) (s : State) → IsAlone r A → has_sender_in r A ≡ false → core (turn s A) ≡ core_fresh r A
    → has_finding (finish s true) ≡ false
unfolding finish
ends_silent r s is_alone none e =
    let t : State = turn (cleared s) A in
    let here : core (turn (cleared s) A) ≡ core_fresh r A = cleared_core s ∙ e in
    let rules_are : (cleared s).rules ≡ r = sym (turn_rules (cleared s) A) ∙ ap (λ (c : Core). c.rules) here in
    let first : finish_on (cleared s) A true ≡ turn (cleared s) A =
    end_channel (cleared s) A (ap (λ (q : Rules). judges q A) rules_are ∙ is_alone.mine)
    ∙ silent_end t (ap (λ (c : Core). has_sender_in c.rules c.channel) here ∙ none)
    (ap (λ (c : Core). c.held) here) (ap (λ (c : Core). c.current) here) in
    let lane : (turn t B).mine ≡ t.other =
    lane_aside t A ∙ ap (λ (u : State). u.other) (turn_none t A (ap (λ (c : Core). c.channel) here)) in
    let quiet : has_finding t ≡ false = found_none t (ap (λ (c : Core). c.found) here) in
    ap (λ (u : State). has_finding (finish_on u B true)) first
    ∙ elim (aside_end r B t (ap (λ (c : Core). c.rules) here) is_alone.others
    (ap (λ (l : Lane). l.held) lane ∙ ap (λ (c : Core). c.aside) here)
    (ap (λ (l : Lane). l.current) lane ∙ ap (λ (c : Core). c.opposite) here)) [
      | inl still ↦ ap has_finding still ∙ quiet
      | inr turned_is ↦ ap has_finding turned_is ∙ turn_finding t ∙ quiet
    ]
  where
    turn_finding : (u : State) → has_finding (turn u B) ≡ has_finding u
    turn_finding u = by (is_channel u.channel B)
      where
        by : (b : Bool) → has_finding (cond b u (turned u)) ≡ has_finding u
        by true = refl
        by false = refl

pub no_alarm_of_none : (d : Description) (most : ℕ) (whole : Bool) (records : List Record) → has_sender d A ≡ false
    → has_sender d B ≡ false → AreInOrder records []
    → has_finding (finish (judged (fresh (rules_of d most whole None 0)) records) true) ≡ false
unfolding rules_of
no_alarm_of_none d most whole records none_a none_b in_order =
    let r : Rules = rules_of d most whole None 0 in
    ends_silent r (judged (fresh r) records) (alone_of_both d most whole A none_b) none_a
    (stays_fresh r records (fresh r) in_order (fresh_core r A))
