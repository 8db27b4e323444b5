-- Recordings of both channels of a run without faults have no finding.
use Rattle.std.proofs.Common.{◌≡◌, ℕ, zero, suc, ◌+◌, ◌*◌, ◌<◌, ◌≤◌, Bool, true, false, List, [], ◌∷◌, ◌++◌, Some, None}
use Rattle.std.proofs.Common.{refl, sym, subst, ◌∙◌, arith, inr}
use Rattle.std.proofs.lemmas.List.{append_assoc}
use Rattle.std.specs.Prelude.{◌^◌}
use Rattle.fr_bus.specs.Courses.{opportunities}
use Rattle.fr_bus.specs.Record.{Recorded, heard}
use Rattle.fr_capture.specs.Pcap.{packet}
use Rattle.fr_core.specs.Headline.{Headline}
use Rattle.fr_core.specs.Worlds.{WorldState}
use Rattle.fr_frame.specs.Refusal.{refusal}
use Rattle.fr_hearing.proofs.FileLaws.{short_seen}
use Rattle.fr_hearing.proofs.HearingLemmas.{window_heard, each_heard}
use Rattle.fr_hearing.proofs.pairing.QuietLemmas.{packets_of_one, packets_are_of, are_logged, none_logged}
use Rattle.fr_hearing.proofs.pairing.QuietLemmas.{no_alarm_of_none}
use Rattle.fr_hearing.proofs.pairing.TwinLemmas.{IsInRun, each_in_run, are_alike}
use Rattle.fr_hearing.proofs.pairing.WalkLemmas.{none_found_in}
use Rattle.fr_hearing.proofs.ReadBackLaws.{is_read_back}
use Rattle.fr_hearing.proofs.RunLaws.{all_quiet, no_alarm_of_both}
use Rattle.fr_hearing.specs.Alarms.{judged}
use Rattle.fr_hearing.specs.Files.{Clock, capture_of}
use Rattle.fr_hearing.specs.Pairs.{packets_of_both, AreInOrder, NoAlarmTogether, NoAlarmInFileTogether}
use Rattle.fr_hearing.specs.ReadBack.{read_time, read_seen, read_window}
use Rattle.fr_hearing.specs.Runs.{IsHealthy, packets_seen, packets_of}
use Rattle.fr_judging.specs.Judging.{fresh, finish, has_finding}
use Rattle.fr_judging.specs.Rules.{rules_of, judges, is_clocked, has_sender, other_channel}
use Rattle.fr_recording.specs.Numbers.{most_counted}
use Rattle.fr_recording.specs.Records.{Record}
use Rattle.fr_recording.specs.Stream.{records_in}
use Rattle.fr_schedule.specs.Descriptions.{Description}
use Rattle.fr_slots.specs.declared.channel.Channel.{Channel}
use Rattle.fr_slots.specs.declared.channel.Channel.TheVariants.{A, B}
use Rattle.fr_slots.specs.History.{each_after}
use Rattle.fr_slots.specs.Parameters.{Parameters}
use Rattle.fr_status.specs.declared.seen.Seen.TheVariants.{Silence, Own, Conflict, Noise, Overrun, Bytes}
use Rattle.fr_status.specs.Forms.{Seen}

-- ---- the records of a run

some_product : (cycles slots : ℕ) → 1 ≤ slots → cycles ≤ cycles * slots
some_product cycles zero some = absurd (let none : ⊥ = omega (arith, some) in none)
some_product cycles (suc slots) some = omega arith

few_cycles : (cycles slots product : ℕ) → cycles ≤ product → product < 2 ^ 32 → cycles + 2 ≤ most_counted
few_cycles cycles slots product low high = omega (arith, low, high)

pub both_healthy : (w : WorldState) → IsHealthy w A → IsHealthy w B → (channel : Channel) → IsHealthy w channel
both_healthy w healthy_a healthy_b A = healthy_a
both_healthy w healthy_a healthy_b B = healthy_b

-- both channels have a sender
both_send : (w : WorldState) → Headline w → (most : ℕ) (whole : Bool) (records : List Record) → IsHealthy w A
    → IsHealthy w B → has_sender w.bus.cluster A ≡ true → has_sender w.bus.cluster B ≡ true
    → AreInOrder records (packets_of_both w.bus.cluster.params w.bus.sealed)
    → has_finding (finish (judged (fresh (rules_of w.bus.cluster most whole None 0)) records) true) ≡ false
unfolding rules_of
both_send w head most whole records healthy_a healthy_b some_a some_b in_order =
    let d : Description = w.bus.cluster in
    let slots = head.run.lawful.params_are.static_slots_fit in
    let least : 2 ≤ d.params.static_slots = slots.from_least in
    let greatest : d.params.static_slots ≤ 1023 = slots.at_most in
    let product = some_product w.bus.cycles (opportunities d.params) (omega (arith, least)) in
    let few = few_cycles w.bus.cycles (opportunities d.params) (w.bus.cycles * opportunities d.params) product
    head.run.few_windows in
    none_found_in (rules_of w.bus.cluster most whole None 0) (record { untimed = refl }) greatest (IsInRun w)
    (are_alike w head (both_healthy w healthy_a healthy_b)) head.run.lawful all w.bus.cycles few clocked w.bus.sealed
    head.run.recorded
    (each_heard w.bus.cluster A w.bus.sealed (window_heard w head A healthy_a))
    (each_heard w.bus.cluster B w.bus.sealed (window_heard w head B healthy_b))
    (each_in_run w [] w.bus.sealed refl) healthy_a.complete.some_window healthy_a.complete.static_over
    head.run.some_cycles records in_order
  where
    all : (channel : Channel) → judges (rules_of w.bus.cluster most whole None 0) channel ≡ true
    all A = refl
    all B = refl

    clocked : (channel : Channel) (cycle : ℕ) → cycle < 64 → is_clocked w.bus.cluster channel cycle ≡ true
    clocked A = healthy_a.clocked some_a
    clocked B = healthy_b.clocked some_b

-- no packet is on a channel without a sender
silent_on : (w : WorldState) → Headline w → (channel : Channel) → IsHealthy w channel
    → has_sender w.bus.cluster channel ≡ false → packets_of w.bus.cluster.params channel w.bus.sealed ≡ []
silent_on w head channel healthy none =
    all_quiet w.bus.cluster channel w.bus.sealed
    (each_heard w.bus.cluster channel w.bus.sealed (window_heard w head channel healthy)) none

-- one channel alone has a sender
one_sends : (w : WorldState) → Headline w → (channel : Channel) (most : ℕ) (whole : Bool) (records : List Record)
    → IsHealthy w channel → has_sender w.bus.cluster channel ≡ true
    → has_sender w.bus.cluster (other_channel channel) ≡ false
    → packets_of w.bus.cluster.params (other_channel channel) w.bus.sealed ≡ []
    → AreInOrder records (packets_of_both w.bus.cluster.params w.bus.sealed)
    → has_finding (finish (judged (fresh (rules_of w.bus.cluster most whole None 0)) records) true) ≡ false
one_sends w head channel most whole records healthy some none silent in_order =
    let packets : List (List ℕ) = packets_of w.bus.cluster.params channel w.bus.sealed in
    let own : AreInOrder records packets =
    subst (AreInOrder records) (packets_of_one w.bus.cluster.params channel w.bus.sealed silent) in_order in
    no_alarm_of_both w head most whole channel records healthy some none (are_logged channel records packets own)
    (none_logged channel records packets (packets_are_of w.bus.cluster.params channel w.bus.sealed) own)

pub no_alarm_together : (w : WorldState) → Headline w → NoAlarmTogether w
no_alarm_together w head most whole records healthy_a healthy_b in_order =
    by (has_sender d A) (has_sender d B) refl refl
  where
    d : Description
    d = w.bus.cluster

    by : (a b : Bool) → has_sender d A ≡ a → has_sender d B ≡ b
        → has_finding (finish (judged (fresh (rules_of d most whole None 0)) records) true) ≡ false
    by true true some_a some_b = both_send w head most whole records healthy_a healthy_b some_a some_b in_order
    by true false some_a none_b = one_sends w head A most whole records healthy_a some_a none_b
        (silent_on w head B healthy_b none_b) in_order
    by false true none_a some_b = one_sends w head B most whole records healthy_b some_b none_a
        (silent_on w head A healthy_a none_a) in_order
    by false false none_a none_b = no_alarm_of_none d most whole records none_a none_b
        (subst (AreInOrder records) (packets_of_one d.params A w.bus.sealed (silent_on w head B healthy_b none_b)
        ∙ silent_on w head A healthy_a none_a) in_order)

-- ---- the file

seen_order : (time : ℕ) (channel : Channel) (o : Seen) (records : List Record) (packets : List (List ℕ))
    → AreInOrder records packets → AreInOrder (read_seen time channel o ++ records) (packets_seen channel o ++ packets)
seen_order time channel Silence records packets rest = rest
seen_order time channel Own records packets rest = rest
seen_order time channel Conflict records packets rest = rest
seen_order time channel Noise records packets rest = rest
seen_order time channel Overrun records packets rest = rest
seen_order time channel (Bytes bytes) records packets rest = inr (
  Some (read_time time),
  packet channel (refusal channel bytes.items) bytes.items,
  packets,
  refl,
  refl,
  rest,
)

read_order : (time : Clock) (p : Parameters) (before rs : List Recorded)
    → AreInOrder (each_after (λ (b : List Recorded) (r : Recorded). read_window p (time b r) r) before rs)
    (packets_of_both p rs)
unfolding each_after
read_order time p before [] = refl
read_order time p before (r ∷ rs) =
    let a : List Record = read_seen (time before r) A (heard p r A) in
    let b : List Record = read_seen (time before r) B (heard p r B) in
    let more : List Record = each_after (λ (b : List Recorded) (r : Recorded). read_window p (time b r) r)
    (before ++ r ∷ []) rs in
    subst (λ (l : List Record). AreInOrder l (packets_of_both p (r ∷ rs))) (sym (append_assoc a b more))
    (seen_order (time before r) A (heard p r A) (b ++ more) (packets_seen B (heard p r B) ++ packets_of_both p rs)
    (seen_order (time before r) B (heard p r B) more (packets_of_both p rs) (read_order time p (before ++ r ∷ []) rs)))

pub no_alarm_in_file_together : (w : WorldState) → Headline w → NoAlarmInFileTogether w
no_alarm_in_file_together w head most whole time healthy_a healthy_b =
    let read = (is_read_back time w.bus.cluster.params w.bus.sealed
    (short_seen w head (both_healthy w healthy_a healthy_b))).1 in
    no_alarm_together w head most whole (records_in (capture_of time w.bus.cluster.params w.bus.sealed)) healthy_a
    healthy_b (subst (λ (l : List Record). AreInOrder l (packets_of_both w.bus.cluster.params w.bus.sealed)) (sym read)
    (read_order time w.bus.cluster.params [] w.bus.sealed))
