-- A capture of the bus of a run without faults is read as a recording without findings.
use Rattle.std.proofs.Common.{◌≡◌, ℕ, ◌+◌, ◌≤◌, false, List, [], ◌∷◌, ◌++◌, length, Option, Some, None, refl, sym, ap}
use Rattle.std.proofs.Common.{subst, ◌∙◌, arith, inl, inr}
use Rattle.std.proofs.lemmas.List.{append_assoc}
use Rattle.arrayvec.specs.ArrayVec.{ArrayVec}
use Rattle.fr_bus.specs.Record.{Recorded, heard}
use Rattle.fr_capture.specs.Pcap.{packet, link_type}
use Rattle.fr_core.specs.Headline.{Headline}
use Rattle.fr_core.specs.Worlds.{WorldState}
use Rattle.fr_frame.specs.declared.decode.DecodeError.{DecodeError}
use Rattle.fr_frame.specs.Refusal.{refusal}
use Rattle.fr_guarantees.proofs.OfferLemmas.{length-frame}
use Rattle.fr_hearing.proofs.HearingLemmas.{window_heard, each_heard}
use Rattle.fr_hearing.proofs.PassageLemmas.{IsHeardAt}
use Rattle.fr_hearing.proofs.ReadBackLaws.{is_read_back}
use Rattle.fr_hearing.proofs.RunLaws.{no_alarm_in_run, no_alarm_of_both, all_quiet}
use Rattle.fr_hearing.specs.Alarms.{is_on}
use Rattle.fr_hearing.specs.Files.{Clock, capture_of, NoAlarmInFile, NoAlarmInFileOfBoth}
use Rattle.fr_hearing.specs.ReadBack.{read_time, read_seen, read_window, AreShort}
use Rattle.fr_hearing.specs.Runs.{IsHealthy, packets_seen, packets_of, AreLogged}
use Rattle.fr_judging.specs.Rules.{has_sender, other_channel}
use Rattle.fr_logged.specs.Logged.{kind_of}
use Rattle.fr_recording.specs.Records.{Record}
use Rattle.fr_recording.specs.Stream.{refusal_in, records_in}
use Rattle.fr_slots.specs.Admission.{is_channel}
use Rattle.fr_slots.specs.declared.channel.Channel.{Channel}
use Rattle.fr_slots.specs.declared.channel.Channel.TheVariants.{A, B}
use Rattle.fr_slots.specs.History.{each_after}
use Rattle.fr_slots.specs.Parameters.{Parameters}
use Rattle.fr_status.specs.declared.seen.Seen.TheVariants.{Silence, Own, Conflict, Noise, Overrun, Bytes}
use Rattle.fr_status.specs.Forms.{Seen}

-- ---- the records of a channel

own_read : (time : ℕ) (channel : Channel) (o : Seen) (more : List Record) (packets : List (List ℕ))
    → AreLogged channel more packets
    → AreLogged channel (read_seen time channel o ++ more) (packets_seen channel o ++ packets)
own_read time channel Silence more packets rest = rest
own_read time channel Own more packets rest = rest
own_read time channel Conflict more packets rest = rest
own_read time channel Noise more packets rest = rest
own_read time channel Overrun more packets rest = rest
own_read time channel (Bytes bytes) more packets rest = inr (
  Some (read_time time),
  packet channel (refusal channel bytes.items) bytes.items,
  packets,
  refl,
  refl,
  rest,
)

pub not_on : (channel other : Channel) (error : Option DecodeError) (bytes : List ℕ) → is_channel channel other ≡ false
    → is_on channel (kind_of link_type (packet other error bytes)) ≡ false
not_on channel A error bytes is_other = is_other
not_on channel B error bytes is_other = is_other

other_read : (time : ℕ) (channel other : Channel) (o : Seen) (more : List Record) (packets : List (List ℕ))
    → is_channel channel other ≡ false → AreLogged channel more packets
    → AreLogged channel (read_seen time other o ++ more) packets
other_read time channel other Silence more packets is_other rest = rest
other_read time channel other Own more packets is_other rest = rest
other_read time channel other Conflict more packets is_other rest = rest
other_read time channel other Noise more packets is_other rest = rest
other_read time channel other Overrun more packets is_other rest = rest
other_read time channel other (Bytes bytes) more packets is_other rest =
    inl (not_on channel other (refusal other bytes.items) bytes.items is_other, rest)

module _ (p : Parameters) (time : Clock) where
  window_read : (channel : Channel) (t : ℕ) (r : Recorded) (more : List Record) (packets : List (List ℕ))
      → AreLogged channel more packets
      → AreLogged channel (read_seen t A (heard p r A) ++ (read_seen t B (heard p r B) ++ more))
      (packets_seen channel (heard p r channel) ++ packets)
  window_read A t r more packets rest =
      own_read t A (heard p r A) (read_seen t B (heard p r B) ++ more) packets
      (other_read t A B (heard p r B) more packets refl rest)
  window_read B t r more packets rest =
      other_read t B A (heard p r A) (read_seen t B (heard p r B) ++ more) (packets_seen B (heard p r B) ++ packets)
      refl (own_read t B (heard p r B) more packets rest)

  read_logged : (channel : Channel) (before rs : List Recorded)
      → AreLogged channel
      (each_after (λ (b : List Recorded) (r : Recorded). read_window p (time b r) r) before rs)
      (packets_of p channel rs)
  unfolding each_after
  read_logged channel before [] = refl
  read_logged channel before (r ∷ rs) =
      let a : List Record = read_seen (time before r) A (heard p r A) in
      let b : List Record = read_seen (time before r) B (heard p r B) in
      let more : List Record = each_after (λ (b : List Recorded) (r : Recorded). read_window p (time b r) r)
      (before ++ r ∷ []) rs in
      subst (λ (l : List Record). AreLogged channel l (packets_of p channel (r ∷ rs))) (sym (append_assoc a b more))
      (window_read channel (time before r) r more (packets_of p channel rs) (read_logged channel (before ++ r ∷ []) rs))

-- ---- the file

pub short_seen : (w : WorldState) → Headline w → ((on : Channel) → IsHealthy w on)
    → AreShort w.bus.cluster.params w.bus.sealed
short_seen w head healthy k r at channel bytes is = by (window_heard w head channel (healthy channel) k r at)
  where
    same_bytes : (x y : ArrayVec ℕ) → Bytes x ≡ Bytes y → x ≡ y
    same_bytes x y e = cc

    by : IsHeardAt w.bus.cluster channel r → length bytes.items ≤ 262
    by (inl quiet) = absurd (let both : Silence ≡ Bytes bytes = sym quiet.hears ∙ is in let none : ⊥ = cc in none)
    by (inr loud) =
        let same : loud.bytes ≡ bytes = same_bytes loud.bytes bytes (sym loud.hears ∙ is) in
        let size : length bytes.items ≡ 8 + length loud.frame.payload =
        ap (λ (b : ArrayVec ℕ). length b.items) (sym same) ∙ ap (λ (l : List ℕ). length l) loud.spelled
        ∙ length-frame loud.frame channel in
        let few = loud.few in
        omega (arith, size, few)

module _ (w : WorldState) (head : Headline w) (time : Clock) (healthy : (on : Channel) → IsHealthy w on) where
  read_whole : refusal_in (capture_of time w.bus.cluster.params w.bus.sealed) ≡ None
  read_whole = (is_read_back time w.bus.cluster.params w.bus.sealed (short_seen w head healthy)).0

  file_logged : (channel : Channel)
      → AreLogged channel (records_in (capture_of time w.bus.cluster.params w.bus.sealed))
      (packets_of w.bus.cluster.params channel w.bus.sealed)
  file_logged channel =
      subst (λ (l : List Record). AreLogged channel l (packets_of w.bus.cluster.params channel w.bus.sealed))
      (sym (is_read_back time w.bus.cluster.params w.bus.sealed (short_seen w head healthy)).1)
      (read_logged w.bus.cluster.params time channel [] w.bus.sealed)

  none_logged : (channel : Channel) → has_sender w.bus.cluster channel ≡ false
      → AreLogged channel (records_in (capture_of time w.bus.cluster.params w.bus.sealed)) []
  none_logged channel none =
      subst (AreLogged channel (records_in (capture_of time w.bus.cluster.params w.bus.sealed)))
      (all_quiet w.bus.cluster channel w.bus.sealed
      (each_heard w.bus.cluster channel w.bus.sealed (window_heard w head channel (healthy channel))) none)
      (file_logged channel)

pub no_alarm_in_file : (w : WorldState) → Headline w → NoAlarmInFile w
no_alarm_in_file w head most whole channel time healthy = (
  read_whole w head time healthy,
  no_alarm_in_run w head most whole channel (records_in (capture_of time w.bus.cluster.params w.bus.sealed))
      (healthy channel) (file_logged w head time healthy channel),
)

pub no_alarm_in_file_of_both : (w : WorldState) → Headline w → NoAlarmInFileOfBoth w
no_alarm_in_file_of_both w head most whole channel time healthy some none =
    no_alarm_of_both w head most whole channel (records_in (capture_of time w.bus.cluster.params w.bus.sealed))
    (healthy channel) some none (file_logged w head time healthy channel)
    (none_logged w head time healthy (other_channel channel) none)
