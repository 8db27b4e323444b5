-- Both channels of a run without faults at the times of its schedule have no finding, judged together and with times.
use Rattle.std.proofs.Common.{◌≡◌, ℕ, pos, Bool, true, false, cond, List, [], ◌∷◌, ◌++◌, map, Option, Some, None, refl}
use Rattle.std.proofs.Common.{sym, ap, subst, ◌∙◌, inl, inr}
use Rattle.std.proofs.lemmas.Bool.{cond-true, cond-false}
use Rattle.std.specs.List.{filter}
use Rattle.fr_bus.specs.Record.{Recorded, heard}
use Rattle.fr_capture.specs.Pcap.{packet, link_type}
use Rattle.fr_core.specs.Headline.{Headline}
use Rattle.fr_core.specs.Worlds.{WorldState}
use Rattle.fr_frame.specs.declared.decode.DecodeError.{DecodeError}
use Rattle.fr_frame.specs.Refusal.{refusal}
use Rattle.fr_hearing.proofs.pairing.PairLaws.{no_alarm_together, no_alarm_in_file_together, both_healthy}
use Rattle.fr_hearing.proofs.punctual.FileLaws.{times_add_nothing_in_file, windows_keep_time}
use Rattle.fr_hearing.proofs.punctual.RunLaws.{times_add_nothing, bytes_at}
use Rattle.fr_hearing.specs.Alarms.{is_on}
use Rattle.fr_hearing.specs.Pairs.{packets_of_both, AreInOrder}
use Rattle.fr_hearing.specs.Runs.{IsHealthy, packets_seen}
use Rattle.fr_hearing.specs.Schedule.{Timeline}
use Rattle.fr_hearing.specs.TimedRuns.{Bounds, bounds_of, Packet, packets_at, packets_after, AreLoggedAt, window_begins}
use Rattle.fr_hearing.specs.TimedRuns.{whole_microseconds}
use Rattle.fr_hearing.specs.Together.{packets_of_both_after, timely_packets, AreInOrderAt, NoAlarmTogetherInTime}
use Rattle.fr_hearing.specs.Together.{NoAlarmInTimelyFileTogether, NoAlarmInExactFileTogether}
use Rattle.fr_logged.specs.declared.record.Kind.TheVariants.{Frame}
use Rattle.fr_logged.specs.Logged.{kind_of}
use Rattle.fr_recording.specs.Records.{Record}
use Rattle.fr_slots.specs.Admission.{is_channel}
use Rattle.fr_slots.specs.declared.channel.Channel.{Channel}
use Rattle.fr_slots.specs.declared.channel.Channel.TheVariants.{A, B}
use Rattle.fr_slots.specs.Parameters.{Parameters}
use Rattle.fr_slots.specs.Plans.{Each}
use Rattle.fr_status.specs.declared.seen.Seen.TheVariants.{Silence, Own, Conflict, Noise, Overrun, Bytes}
use Rattle.fr_status.specs.Forms.{Seen}

-- ---- the packets of one channel

abbrev is_of : Channel → Packet → Bool
is_of channel x = is_channel channel x.channel

-- the bytes name their channel
abbrev IsMarked : Packet → Type 0
IsMarked x = kind_of link_type x.bytes ≡ Frame x.channel

marked : (channel : Channel) (error : Option DecodeError) (bytes : List ℕ)
    → kind_of link_type (packet channel error bytes) ≡ Frame channel
marked A error bytes = refl
marked B error bytes = refl

mark_each : (bounds : Bounds) (channel : Channel) (o : Seen) (l : List Packet) → Each IsMarked l
    → Each IsMarked (packets_at bounds channel o ++ l)
mark_each bounds channel Silence l each = each
mark_each bounds channel Own l each = each
mark_each bounds channel Conflict l each = each
mark_each bounds channel Noise l each = each
mark_each bounds channel Overrun l each = each
mark_each bounds channel (Bytes bytes) l each = (marked channel (refusal channel bytes.items) bytes.items, each)

all_marked : (p : Parameters) (t : Timeline) (before rs : List Recorded)
    → Each IsMarked (packets_of_both_after p t before rs)
all_marked p t before [] = tt
all_marked p t before (r ∷ rs) =
    mark_each (bounds_of p t before r) A (heard p r A) (packets_at (bounds_of p t before r) B (heard p r B)
    ++ packets_of_both_after p t (before ++ r ∷ []) rs)
    (mark_each (bounds_of p t before r) B (heard p r B) (packets_of_both_after p t (before ++ r ∷ []) rs)
    (all_marked p t (before ++ r ∷ []) rs))

kept_by : (channel on : Channel) (bounds : Bounds) (o : Seen) (l : List Packet) → is_channel channel on ≡ true
    → filter (is_of channel) (packets_at bounds on o ++ l) ≡ packets_at bounds on o ++ filter (is_of channel) l
kept_by channel on bounds Silence l e = refl
kept_by channel on bounds Own l e = refl
kept_by channel on bounds Conflict l e = refl
kept_by channel on bounds Noise l e = refl
kept_by channel on bounds Overrun l e = refl
kept_by channel on bounds (Bytes bytes) l e =
    cond-true (is_channel channel on) (packets_at bounds on (Bytes bytes) ++ filter (is_of channel) l)
    (filter (is_of channel) l) e

dropped_by : (channel on : Channel) (bounds : Bounds) (o : Seen) (l : List Packet) → is_channel channel on ≡ false
    → filter (is_of channel) (packets_at bounds on o ++ l) ≡ filter (is_of channel) l
dropped_by channel on bounds Silence l e = refl
dropped_by channel on bounds Own l e = refl
dropped_by channel on bounds Conflict l e = refl
dropped_by channel on bounds Noise l e = refl
dropped_by channel on bounds Overrun l e = refl
dropped_by channel on bounds (Bytes bytes) l e =
    cond-false (is_channel channel on) (packets_at bounds on (Bytes bytes) ++ filter (is_of channel) l)
    (filter (is_of channel) l) e

on_one : (p : Parameters) (t : Timeline) (channel : Channel) (before rs : List Recorded)
    → filter (is_of channel) (packets_of_both_after p t before rs) ≡ packets_after p t channel before rs
on_one p t channel before [] = refl
on_one p t A before (r ∷ rs) =
    let more : List Packet = packets_of_both_after p t (before ++ r ∷ []) rs in
    kept_by A A (bounds_of p t before r) (heard p r A) (packets_at (bounds_of p t before r) B (heard p r B)
    ++ packets_of_both_after p t (before ++ r ∷ []) rs) refl
    ∙ ap (λ (l : List Packet). packets_at (bounds_of p t before r) A (heard p r A) ++ l)
    (dropped_by A B (bounds_of p t before r) (heard p r B) (packets_of_both_after p t (before ++ r ∷ []) rs) refl
    ∙ on_one p t A (before ++ r ∷ []) rs)
on_one p t B before (r ∷ rs) =
    dropped_by B A (bounds_of p t before r) (heard p r A) (packets_at (bounds_of p t before r) B (heard p r B)
    ++ packets_of_both_after p t (before ++ r ∷ []) rs) refl
    ∙ kept_by B B (bounds_of p t before r) (heard p r B) (packets_of_both_after p t (before ++ r ∷ []) rs) refl
    ∙ ap (λ (l : List Packet). packets_at (bounds_of p t before r) B (heard p r B) ++ l)
    (on_one p t B (before ++ r ∷ []) rs)

-- ---- records in order

logged_one : (slack : ℕ) (channel : Channel) (records : List Record) (packets : List Packet)
    → AreInOrderAt slack records packets → Each IsMarked packets
    → AreLoggedAt slack channel records (filter (is_of channel) packets)
logged_one slack channel [] packets none each = ap (filter (is_of channel)) none
logged_one slack channel (r ∷ rs) packets (inl other) each =
    inl (ap (is_on channel) other.0, logged_one slack channel rs packets other.1 each)
logged_one slack channel (r ∷ rs) packets (inr own) each =
    let frames : IsMarked own.1 × Each IsMarked own.2 = subst (Each IsMarked) own.3 each in
    subst (λ (l : List Packet). AreLoggedAt slack channel (r ∷ rs) (filter (is_of channel) l)) (sym own.3)
    (by (is_channel channel own.1.channel) refl frames.0 (logged_one slack channel rs own.2 own.6 frames.1))
  where
    by : (b : Bool) → is_channel channel own.1.channel ≡ b → IsMarked own.1
        → AreLoggedAt slack channel rs (filter (is_of channel) own.2)
        → AreLoggedAt slack channel (r ∷ rs)
        (cond b (own.1 ∷ filter (is_of channel) own.2) (filter (is_of channel) own.2))
    by true e marked_is rest = inr (own.0, own.1, filter (is_of channel) own.2, refl, own.4, own.5, rest)
    by false e marked_is rest = inl (
      ap (λ (q : Record). is_on channel (kind_of q.link q.bytes)) own.5 ∙ ap (is_on channel) marked_is ∙ e,
      rest,
    )

bytes_of_both : (p : Parameters) (t : Timeline) (before rs : List Recorded)
    → map (λ (x : Packet). x.bytes) (packets_of_both_after p t before rs) ≡ packets_of_both p rs
bytes_of_both p t before [] = refl
bytes_of_both p t before (r ∷ rs) =
    bytes_at (bounds_of p t before r) A (heard p r A) (packets_at (bounds_of p t before r) B (heard p r B)
    ++ packets_of_both_after p t (before ++ r ∷ []) rs)
    ∙ ap (λ (l : List (List ℕ)). packets_seen A (heard p r A) ++ l)
    (bytes_at (bounds_of p t before r) B (heard p r B) (packets_of_both_after p t (before ++ r ∷ []) rs)
    ∙ ap (λ (l : List (List ℕ)). packets_seen B (heard p r B) ++ l) (bytes_of_both p t (before ++ r ∷ []) rs))

order_any : (slack : ℕ) (records : List Record) (packets : List Packet) → AreInOrderAt slack records packets
    → AreInOrder records (map (λ (x : Packet). x.bytes) packets)
order_any slack [] packets none = ap (map (λ (x : Packet). x.bytes)) none
order_any slack (r ∷ rs) packets (inl other) = inl (other.0, order_any slack rs packets other.1)
order_any slack (r ∷ rs) packets (inr own) = inr (
  Some (pos own.0),
  own.1.bytes,
  map (λ (x : Packet). x.bytes) own.2,
  ap (map (λ (x : Packet). x.bytes)) own.3,
  own.5,
  order_any slack rs own.2 own.6,
)

-- ---- the laws

pub no_alarm_together_in_time : (w : WorldState) → Headline w → NoAlarmTogetherInTime w
no_alarm_together_in_time w head most whole t records is healthy_a healthy_b order =
    times_add_nothing w head most whole None t records is (λ channel mine. both channel)
    ∙ no_alarm_together w head most whole records healthy_a healthy_b
    (subst (AreInOrder records) (bytes_of_both w.bus.cluster.params t [] w.bus.sealed)
    (order_any t.slack records (timely_packets w.bus.cluster.params t w.bus.sealed) order))
  where
    logged_on : (channel : Channel)
        → AreLoggedAt t.slack channel records (packets_after w.bus.cluster.params t channel [] w.bus.sealed)
    logged_on channel = subst (AreLoggedAt t.slack channel records)
        (on_one w.bus.cluster.params t channel [] w.bus.sealed)
        (logged_one t.slack channel records (timely_packets w.bus.cluster.params t w.bus.sealed) order
        (all_marked w.bus.cluster.params t [] w.bus.sealed))

    both : (channel : Channel) → IsHealthy w channel
        × AreLoggedAt t.slack channel records (packets_after w.bus.cluster.params t channel [] w.bus.sealed)
    both A = (healthy_a, logged_on A)
    both B = (healthy_b, logged_on B)

pub no_alarm_in_timely_file_together : (w : WorldState) → Headline w → NoAlarmInTimelyFileTogether w
no_alarm_in_timely_file_together w head most whole t time is healthy_a healthy_b keeps =
    times_add_nothing_in_file w head most whole None t time is (both_healthy w healthy_a healthy_b) keeps
    ∙ no_alarm_in_file_together w head most whole time healthy_a healthy_b

pub no_alarm_in_exact_file_together : (w : WorldState) → Headline w → NoAlarmInExactFileTogether w
no_alarm_in_exact_file_together w head most whole healthy_a healthy_b =
    let exact = windows_keep_time w head in
    no_alarm_in_timely_file_together w head most whole (whole_microseconds w.bus.cluster.params)
    (window_begins w.bus.cluster.params) exact.0 healthy_a healthy_b exact.1
