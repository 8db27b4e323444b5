-- In a run without faults on a channel the frames that a listener receives are those of whole cycles, and a recording
-- of them has no finding.
use Rattle.std.proofs.Common.{◌≡◌, ℕ, zero, suc, ◌+◌, ◌*◌, ◌%◌, ◌<◌, ◌≤◌, Bool, true, false, cond, List, [], ◌∷◌, ◌++◌}
use Rattle.std.proofs.Common.{length, map, Option, Some, None, refl, sym, ap, subst, ◌∙◌, arith, ◌⊎◌, inl, inr}
use Rattle.std.specs.Option.{option_or}
use Rattle.std.specs.Prelude.{nat_le, nat_lt, ◌-◌, ◌&&◌}
use Rattle.std.proofs.lemmas.Bool.{leb-true, leb-false, ltb-false, cond-true}
use Rattle.arrayvec.specs.ArrayVec.{ArrayVec}
use Rattle.fr_bus.specs.declared.error.Phase.{Phase}
use Rattle.fr_bus.specs.declared.error.Phase.TheVariants.{Finished}
use Rattle.fr_bus.specs.Record.{Recorded}
use Rattle.fr_bus.specs.States.{Stands}
use Rattle.fr_bus.specs.Windows.{following, this_cycle, statics_of, cycles_begun, next_dynamic, first_of_cycle}
use Rattle.fr_capture.specs.Pcap.{packet}
use Rattle.fr_core.proofs.CaseLemmas.{both_rest, both}
use Rattle.fr_core.specs.Headline.{Headline}
use Rattle.fr_core.specs.Worlds.{WorldState}
use Rattle.fr_frame.proofs.EncodingLemmas.{encoded_is_decoded}
use Rattle.fr_frame.specs.declared.decode.DecodeError.{DecodeError}
use Rattle.fr_frame.specs.Encoding.{encoded}
use Rattle.fr_frame.specs.Fields.{Fields, IsFrame}
use Rattle.fr_frame.specs.Refusal.{refusal}
use Rattle.fr_guarantees.proofs.HeardLemmas.{same_channel}
use Rattle.fr_hearing.proofs.AlarmLaws.{no_false_alarm, no_false_alarm_of_both}
use Rattle.fr_hearing.proofs.CaptureLaws.{read, reads_back}
use Rattle.fr_hearing.proofs.CycleLemmas.{AreHeardAt, frames_of, Begins, from_start, are_heard}
use Rattle.fr_hearing.proofs.HearingLemmas.{window_heard, each_heard}
use Rattle.fr_hearing.proofs.PassageLemmas.{IsHeardAt, with_frame}
use Rattle.fr_hearing.proofs.SilenceLaws.{no_alarm_in_silence, nothing_due}
use Rattle.fr_hearing.proofs.SizeLemmas.{static_words, dynamic_sized}
use Rattle.fr_hearing.specs.Alarms.{Spells, AreOn, judged}
use Rattle.fr_hearing.specs.Heard.{Spot, after_frame, cycle_start, IsAllowed, IsAllowedAs, FollowOn, AreHeard}
use Rattle.fr_hearing.specs.Runs.{AreReceived, CyclesAreHeard, packets_seen, packets_of, logged, AreLogged}
use Rattle.fr_hearing.specs.Runs.{NoAlarmInRun, NoAlarmOfBoth, IsComplete, FinishedIsComplete, ClockIsTold}
use Rattle.fr_judging.specs.Judging.{fresh, finish, has_finding}
use Rattle.fr_judging.specs.Rules.{other_channel, due_at, due_or, rules_of, judges, has_sender, has_sender_in}
use Rattle.fr_judging.specs.Rules.{is_clocked, unclocked}
use Rattle.fr_logged.specs.declared.due.Due.{Due}
use Rattle.fr_logged.specs.Dues.{due_of}
use Rattle.fr_recording.specs.Records.{Record}
use Rattle.fr_schedule.specs.Clusters.{IsCluster}
use Rattle.fr_schedule.specs.Descriptions.{Description}
use Rattle.fr_slots.specs.Admission.{is_channel}
use Rattle.fr_slots.specs.declared.channel.Channel.{Channel}
use Rattle.fr_slots.specs.declared.channel.Channel.TheVariants.{A, B}
use Rattle.fr_slots.specs.Numbers.{last_slot}
use Rattle.fr_slots.specs.Parameters.{Parameters}
use Rattle.fr_slots.specs.Plans.{Each}
use Rattle.fr_slots.specs.Windows.{static_window}
use Rattle.fr_status.specs.Forms.{Seen}

-- ---- the frames

received_are : (d : Description) (channel : Channel) (rs : List Recorded) (h : AreHeardAt d channel rs)
    → AreReceived d.params channel rs (frames_of d channel rs h)
received_are d channel [] h = refl
received_are d channel (r ∷ rs) h = by h.0 (received_are d channel rs h.1)
  where
    by : (x : IsHeardAt d channel r) → AreReceived d.params channel rs (frames_of d channel rs h.1)
        → AreReceived d.params channel (r ∷ rs) (with_frame d channel r x (frames_of d channel rs h.1))
    by (inl quiet) rest = inl (quiet.hears, rest)
    by (inr loud) rest =
        inr (loud.bytes, loud.frame, frames_of d channel rs h.1, refl, loud.hears, loud.spelled, rest)

pub cycles_are_heard : (w : WorldState) → Headline w → CyclesAreHeard w
cycles_are_heard w head channel some healthy =
    let d = w.bus.cluster in
    let h : AreHeardAt d channel w.bus.sealed = each_heard d channel w.bus.sealed (window_heard w head channel healthy)
    in
    let b : Begins d channel 0 (frames_of d channel w.bus.sealed h) =
    from_start d w.bus.cycles channel head.run.lawful (healthy.clocked some) w.bus.sealed h head.run.recorded
    healthy.complete.some_window healthy.complete.static_over in
    record {
      first = b.frame;
      rest = b.rest;
      received = subst (AreReceived d.params channel w.bus.sealed) b.is (received_are d channel w.bus.sealed h);
      cycles = are_heard d w.bus.cycles channel head.run.lawful (healthy.clocked some)
          (frames_of d channel w.bus.sealed h) b;
    }

-- ---- each of them is a frame

pub record IsDueAt (d : Description) (slot : ℕ) (channel : Channel) (cycle : ℕ) (x : Due) : Type 0 where
  pub few : slot ≤ 2047
  pub due_is : due_of d slot channel cycle ≡ Some x

pub due_in : (d : Description) (slot : ℕ) (channel : Channel) (cycle : ℕ) (x : Due)
    → due_at d slot channel cycle ≡ Some x
    → IsDueAt d slot channel cycle x
due_in d slot channel cycle x e = by (nat_le 1 slot && nat_le slot last_slot) refl e
  where
    by : (b : Bool) → (nat_le 1 slot && nat_le slot last_slot) ≡ b
        → due_or d channel cycle (cond b (Some slot) None) ≡ Some x → IsDueAt d slot channel cycle x
    by true is f = record {
      few = leb-true slot 2047
          (both_rest (nat_le 1 slot) (nat_le slot last_slot) is);
      due_is = f;
    }
    by false is f = absurd (let none : ⊥ = cc in none)

module _ (d : Description) (channel : Channel) (cluster : IsCluster d) where
  few_bytes : (s : Spot) (f : Fields) (x : Due) (b : Bool) → nat_le f.id d.params.static_slots ≡ b
      → due_of d f.id channel f.cycle ≡ Some x → IsAllowedAs d.params x s f b
      → (length f.payload ≡ 2 * x.words) × (x.words ≤ 127)
  few_bytes s f x true static due allowed =
      let most : d.params.static_words ≤ 127 = cluster.params_are.static_words_fit.at_most in
      let words = static_words d f.id channel f.cycle x static due in
      (allowed.words, omega (arith, most, words))
  few_bytes s f x false dynamic due allowed =
      (allowed.words, (dynamic_sized d f.id channel f.cycle x cluster dynamic due).words_fit)

  pub is_frame : (s : Spot) (f : Fields) → IsAllowed d channel s f → IsFrame f
  is_frame s f is =
      let due = due_in d f.id channel f.cycle is.due is.due_is in
      let few = due.few in
      let size = few_bytes s f is.due (nat_le f.id d.params.static_slots) refl due.due_is is.allowed in
      let words = size.0 in
      let most = size.1 in
      record {
        id_fits = omega (arith, few);
        cycle_fits = is.count_fits;
        payload_fits = record { short = omega (arith, words, most); even = omega (arith, words) };
      }

  pub follow_frames : (s : Spot) (fs : List Fields) → FollowOn d channel s fs → Each IsFrame fs
  follow_frames s [] over = tt
  follow_frames s (f ∷ fs) (inl further) =
      (is_frame s f further.0.allowed, follow_frames (after_frame d.params s f) fs further.1)
  follow_frames s (f ∷ fs) (inr next) = (
    is_frame (cycle_start d.params f.cycle) f next.0.first.allowed,
    follow_frames (after_frame d.params (cycle_start d.params f.cycle) f) fs next.1,
  )

  heard_frames : (f : Fields) (fs : List Fields) → AreHeard d channel (f ∷ fs) → Each IsFrame (f ∷ fs)
  heard_frames f fs is = (
    is_frame (cycle_start d.params f.cycle) f is.0.allowed,
    follow_frames (after_frame d.params (cycle_start d.params f.cycle) f) fs is.1,
  )

-- ---- their records

abbrev pub packet_for : Channel → Fields → List ℕ
packet_for channel f = packet channel None (encoded f channel)

pub packet_seen : (channel : Channel) (bytes : ArrayVec ℕ) (f : Fields) → IsFrame f → bytes.items ≡ encoded f channel
    → packet channel (refusal channel bytes.items) bytes.items ≡ packet_for channel f
packet_seen channel bytes f is_frame spelled =
    ap (λ (l : List ℕ). packet channel (refusal channel l) l) spelled
    ∙ ap (λ (e : Option DecodeError). packet channel e (encoded f channel))
    (read channel (encoded f channel) f (encoded_is_decoded f channel is_frame)).none

same_frames : (fs : List Fields) (f : Fields) (rest : List Fields) → fs ≡ f ∷ rest → Each IsFrame fs
    → IsFrame f × Each IsFrame rest
same_frames fs f rest e each = subst (Each IsFrame) e each

packets_are : (d : Description) (channel : Channel) (rs : List Recorded) (fs : List Fields)
    → AreReceived d.params channel rs fs → Each IsFrame fs
    → packets_of d.params channel rs ≡ map (packet_for channel) fs
packets_are d channel [] fs none each = ap (map (packet_for channel)) (sym none)
packets_are d channel (r ∷ rs) fs (inl silent) each =
    ap (λ (o : Seen). packets_seen channel o ++ packets_of d.params channel rs) silent.0
    ∙ packets_are d channel rs fs silent.1 each
packets_are d channel (r ∷ rs) fs (inr own) each =
    let frames = same_frames fs own.1 own.2 own.3 each in
    ap (λ (o : Seen). packets_seen channel o ++ packets_of d.params channel rs) own.4
    ∙ ap (λ (p : List ℕ). p ∷ packets_of d.params channel rs)
    (packet_seen channel own.0 own.1 frames.0 own.5)
    ∙ ap (λ (l : List (List ℕ)). packet_for channel own.1 ∷ l) (packets_are d channel rs own.2 own.6 frames.1)
    ∙ ap (map (packet_for channel)) (sym own.3)

-- the frame of the first packet
record IsFirstOf (channel : Channel) (fs : List Fields) (bytes : List ℕ) (rest : List (List ℕ)) : Type 0 where
  frame : Fields
  more : List Fields
  is : fs ≡ frame ∷ more
  bytes_are : bytes ≡ packet_for channel frame
  rest_are : rest ≡ map (packet_for channel) more

first_of : (channel : Channel) (fs : List Fields) (bytes : List ℕ) (rest : List (List ℕ))
    → map (packet_for channel) fs ≡ bytes ∷ rest → IsFirstOf channel fs bytes rest
first_of channel [] bytes rest e = absurd (let none : ⊥ = cc in none)
first_of channel (f ∷ fs) bytes rest e =
    record { frame = f; more = fs; is = refl; bytes_are = cc; rest_are = cc }

are_on : (channel : Channel) (records : List Record) (packets : List (List ℕ)) (fs : List Fields)
    → AreLogged channel records packets → packets ≡ map (packet_for channel) fs → Each IsFrame fs
    → AreOn channel records fs
are_on channel [] packets [] logged_are same each = refl
are_on channel [] packets (f ∷ fs) logged_are same each =
    absurd (let none : ⊥ = cc (sym logged_are ∙ same) in none)
are_on channel (r ∷ rs) packets fs (inl other) same each =
    inl (other.0, are_on channel rs packets fs other.1 same each)
are_on channel (r ∷ rs) packets fs (inr own) same each =
    let first = first_of channel fs own.1 own.2 (sym same ∙ own.3) in
    let frames = same_frames fs first.frame first.more first.is each in
    let spells : Spells channel (logged own.0 (packet_for channel first.frame)) first.frame =
    reads_back own.0 channel first.frame frames.0 in
    inr (
      first.frame,
      first.more,
      first.is,
      subst (λ (q : Record). Spells channel q first.frame)
          (sym (own.4 ∙ ap (logged own.0) first.bytes_are)) spells,
      are_on channel rs own.2 first.more own.5 first.rest_are frames.1,
    )

-- ---- a channel without a sender

-- no frame is due there
pub all_quiet : (d : Description) (channel : Channel) (rs : List Recorded) (h : AreHeardAt d channel rs)
    → has_sender d channel ≡ false → packets_of d.params channel rs ≡ []
all_quiet d channel [] h none = refl
all_quiet d channel (r ∷ rs) h none = by h.0 (all_quiet d channel rs h.1 none)
  where
    by : IsHeardAt d channel r → packets_of d.params channel rs ≡ [] → packets_of d.params channel (r ∷ rs) ≡ []
    by (inl quiet) rest = ap (λ (o : Seen). packets_seen channel o ++ packets_of d.params channel rs) quiet.hears ∙ rest
    by (inr loud) rest = absurd (nothing_due d channel r loud none)

none_on : (channel : Channel) (records : List Record) (packets : List (List ℕ)) → AreLogged channel records packets
    → packets ≡ [] → AreOn channel records []
none_on channel records packets logged_are none = are_on channel records packets [] logged_are none tt

pub no_alarm_in_run : (w : WorldState) → Headline w → NoAlarmInRun w
no_alarm_in_run w head most whole channel records healthy logged_are = by (has_sender w.bus.cluster channel) refl
  where
    packets : List (List ℕ)
    packets = packets_of w.bus.cluster.params channel w.bus.sealed

    by : (b : Bool) → has_sender w.bus.cluster channel ≡ b
        → has_finding (finish (judged (fresh (rules_of w.bus.cluster most whole (Some channel) 0)) records) true)
        ≡ false
    by true some =
        let d = w.bus.cluster in
        let h = cycles_are_heard w head channel some healthy in
        let frames = heard_frames d channel head.run.lawful h.first h.rest h.cycles in
        no_false_alarm d most whole channel records h.first h.rest
        (are_on channel records (packets_of d.params channel w.bus.sealed) (h.first ∷ h.rest) logged_are
        (packets_are d channel w.bus.sealed (h.first ∷ h.rest) h.received frames) frames) h.cycles
    by false none =
        let d = w.bus.cluster in
        no_alarm_in_silence d most whole channel records
        (none_on channel records (packets_of d.params channel w.bus.sealed) logged_are
        (all_quiet d channel w.bus.sealed
        (each_heard d channel w.bus.sealed (window_heard w head channel healthy)) none)) none

pub no_alarm_of_both : (w : WorldState) → Headline w → NoAlarmOfBoth w
no_alarm_of_both w head most whole channel records healthy some none logged_are aside =
    let d = w.bus.cluster in
    let h = cycles_are_heard w head channel some healthy in
    let frames = heard_frames d channel head.run.lawful h.first h.rest h.cycles in
    no_false_alarm_of_both d most whole channel records h.first h.rest
    (are_on channel records (packets_of d.params channel w.bus.sealed) (h.first ∷ h.rest) logged_are
    (packets_are d channel w.bus.sealed (h.first ∷ h.rest) h.received frames) frames) h.cycles none
    (none_on (other_channel channel) records [] aside refl)

-- ---- runs that are over, and clusters with a clock

over_statics : (p : Parameters) (cycles : ℕ) (rs : List Recorded) → 1 ≤ cycles → following p cycles rs ≡ None
    → IsComplete p rs
over_statics p cycles [] some e = by (nat_lt 0 cycles) refl e
  where
    by : (b : Bool) → nat_lt 0 cycles ≡ b → cond b (Some (static_window 0 0 1)) None ≡ None → IsComplete p []
    by true is f = absurd (let none : ⊥ = cc in none)
    by false is f = absurd (let few = ltb-false 0 cycles is in let none : ⊥ = omega (arith, few, some) in none)
over_statics p cycles (r ∷ rs) some e =
    by (nat_lt (statics_of (this_cycle (r ∷ rs))) p.static_slots) refl e
  where
    by : (b : Bool) → nat_lt (statics_of (this_cycle (r ∷ rs))) p.static_slots ≡ b
        → option_or (cond b (Some (static_window (length (r ∷ rs)) ((cycles_begun (r ∷ rs) - 1) % 64)
        (statics_of (this_cycle (r ∷ rs)) + 1)))
        (next_dynamic p (length (r ∷ rs)) ((cycles_begun (r ∷ rs) - 1) % 64) (this_cycle (r ∷ rs))))
        (first_of_cycle cycles (length (r ∷ rs)) (cycles_begun (r ∷ rs))) ≡ None → IsComplete p (r ∷ rs)
    by true is f = absurd (let none : ⊥ = cc in none)
    by false is f = record {
      some_window = omega arith;
      static_over = ltb-false (statics_of (this_cycle (r ∷ rs))) p.static_slots is;
    }

pub finished_is_complete : (w : WorldState) → Headline w → FinishedIsComplete w
finished_is_complete w head finished =
    let stands : Stands Finished w.bus = subst (λ (phase : Phase). Stands phase w.bus) finished head.run.stands in
    over_statics w.bus.cluster.params w.bus.cycles w.bus.sealed head.run.some_cycles stands.1

nat_split : (n k : ℕ) → n ≤ k → (k ≡ n) ⊎ (n + 1 ≤ k)
nat_split n k le = split (nat_le k n) refl
  where
    split : (b : Bool) → nat_le k n ≡ b → (k ≡ n) ⊎ (n + 1 ≤ k)
    split true is = inl (let few = leb-true k n is in omega (arith, few, le))
    split false is = inr (let most = leb-false k n is in omega (arith, most))

all_clocked : (d : Description) (channel : Channel) (from more : ℕ) → unclocked d channel from more ≡ None
    → (cycle : ℕ) → from ≤ cycle → cycle < from + more → is_clocked d channel cycle ≡ true
unfolding unclocked
all_clocked d channel from zero e cycle low high = absurd (let none : ⊥ = omega (arith, low, high) in none)
all_clocked d channel from (suc more) e cycle low high =
    by (is_clocked d channel from) refl e (all_clocked d channel (from + 1) more)
  where
    by : (b : Bool) → is_clocked d channel from ≡ b
        → cond b (unclocked d channel (from + 1) more) (Some from) ≡ None
        → (unclocked d channel (from + 1) more ≡ None → (k : ℕ) → from + 1 ≤ k → k < from + 1 + more
        → is_clocked d channel k ≡ true)
        → is_clocked d channel cycle ≡ true
    by false is f rest = absurd (let none : ⊥ = cc in none)
    by true is f rest = elim (nat_split from cycle low) [
      | inl same ↦ ap (is_clocked d channel) same ∙ is
      | inr above ↦ rest f cycle above (omega (arith, high))
    ]

pub clock_is_told : ClockIsTold
unfolding rules_of
clock_is_told d most whole channel macrotick e some cycle fits =
    all_clocked d channel 0 64
    (sym (cond-true (judges (rules_of d most whole (Some channel) macrotick) channel
    && has_sender_in (rules_of d most whole (Some channel) macrotick) channel) (unclocked d channel 0 64) None
    (judged_sender channel)) ∙ e) cycle (omega arith) (omega (arith, fits))
  where
    sends_in : (on : Channel) → has_sender d on ≡ true
        → has_sender_in (rules_of d most whole (Some channel) macrotick) on ≡ true
    sends_in A is = is
    sends_in B is = is

    judged_sender : (on : Channel) → (judges (rules_of d most whole (Some channel) macrotick) channel
        && has_sender_in (rules_of d most whole (Some channel) macrotick) channel) ≡ true
    judged_sender on = both (is_channel channel channel)
        (has_sender_in (rules_of d most whole (Some channel) macrotick) channel) (same_channel channel)
        (sends_in channel some)
