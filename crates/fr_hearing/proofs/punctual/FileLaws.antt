-- A capture of the bus of a run without faults, with a clock that keeps the schedule, has no finding with times.
use Rattle.std.proofs.Common.{◌≡◌, ℕ, ◌+◌, ◌-◌, ◌*◌, ◌^◌, ◌<◌, ◌≤◌, false, List, [], ◌∷◌, ◌++◌, Some, refl, sym, ap}
use Rattle.std.proofs.Common.{subst, arith, inl, inr}
use Rattle.std.proofs.lemmas.List.{append_assoc, append-nil}
use Rattle.std.proofs.lemmas.Nat.{mul-le}
use Rattle.fr_bus.specs.Courses.{IsCourse, course_of, opportunities}
use Rattle.fr_bus.specs.Record.{Recorded, heard}
use Rattle.fr_bus.specs.States.{IsRecorded}
use Rattle.fr_bus.specs.Windows.{cycles_begun}
use Rattle.fr_capture.specs.Moments.{start_of}
use Rattle.fr_capture.specs.Pcap.{packet}
use Rattle.fr_core.specs.Headline.{Headline}
use Rattle.fr_core.specs.Worlds.{WorldState}
use Rattle.fr_frame.specs.Refusal.{refusal}
use Rattle.fr_guarantees.proofs.ProgressLemmas.{course_none, course_next}
use Rattle.fr_hearing.proofs.FileLaws.{not_on, short_seen}
use Rattle.fr_hearing.proofs.punctual.RunLaws.{times_add_nothing, no_alarm_in_time}
use Rattle.fr_hearing.proofs.punctual.TimeLemmas.{even_is_timeline}
use Rattle.fr_hearing.proofs.punctual.WindowLemmas.{start_within, near_is_within}
use Rattle.fr_hearing.proofs.ReadBackLaws.{is_read_back, time_is_kept}
use Rattle.fr_hearing.specs.Files.{Clock, capture_of}
use Rattle.fr_hearing.specs.ReadBack.{read_seen, read_window}
use Rattle.fr_hearing.specs.Runs.{IsHealthy, logged}
use Rattle.fr_hearing.specs.Schedule.{Timeline, AreNear}
use Rattle.fr_hearing.specs.TimedRuns.{Bounds, IsWithin, bounds_of, Packet, packets_at, packets_after, AreLoggedAt}
use Rattle.fr_hearing.specs.TimedRuns.{KeepsTime, NearKeepsTime, RoundedKeepsTime, WindowsKeepTime, NoAlarmInTimelyFile}
use Rattle.fr_hearing.specs.TimedRuns.{TimesAddNothingInFile, NoAlarmInExactFile, whole_microseconds, window_begins}
use Rattle.fr_hearing.specs.TimedRuns.{rounded_down}
use Rattle.fr_recording.specs.Records.{Record}
use Rattle.fr_recording.specs.Stream.{records_in}
use Rattle.fr_schedule.specs.Descriptions.{Description}
use Rattle.fr_slots.specs.Admission.{is_channel}
use Rattle.fr_slots.specs.declared.channel.Channel.{Channel}
use Rattle.fr_slots.specs.declared.channel.Channel.TheVariants.{A, B}
use Rattle.fr_slots.specs.History.{AllAfter, each_after}
use Rattle.fr_slots.specs.Parameters.{Parameters, IsParameters}
use Rattle.fr_status.specs.declared.seen.Seen.TheVariants.{Silence, Own, Conflict, Noise, Overrun, Bytes}
use Rattle.fr_status.specs.Forms.{Seen}

-- ---- the records of a capture

-- the time in microseconds fits, and is within the bounds
abbrev IsKept : ℕ → ℕ → Bounds → Type 0
IsKept slack time bounds = (time < 2 ^ 32 * 1000000) × IsWithin slack (time * 1000) bounds

own_read : (slack time : ℕ) (bounds : Bounds) (channel : Channel) (o : Seen) (more : List Record)
    (packets : List Packet) → IsKept slack time bounds → AreLoggedAt slack channel more packets
    → AreLoggedAt slack channel (read_seen time channel o ++ more) (packets_at bounds channel o ++ packets)
own_read slack time bounds channel Silence more packets kept rest = rest
own_read slack time bounds channel Own more packets kept rest = rest
own_read slack time bounds channel Conflict more packets kept rest = rest
own_read slack time bounds channel Noise more packets kept rest = rest
own_read slack time bounds channel Overrun more packets kept rest = rest
own_read slack time bounds channel (Bytes bytes) more packets kept rest = inr (
  time * 1000,
  record { channel = channel; bounds = bounds; bytes = packet channel (refusal channel bytes.items) bytes.items },
  packets,
  refl,
  kept.1,
  ap (λ z. logged (Some z) (packet channel (refusal channel bytes.items) bytes.items)) (time_is_kept time kept.0),
  rest,
)

other_read : (slack time : ℕ) (channel other : Channel) (o : Seen) (more : List Record) (packets : List Packet)
    → is_channel channel other ≡ false → AreLoggedAt slack channel more packets
    → AreLoggedAt slack channel (read_seen time other o ++ more) packets
other_read slack time channel other Silence more packets is_other rest = rest
other_read slack time channel other Own more packets is_other rest = rest
other_read slack time channel other Conflict more packets is_other rest = rest
other_read slack time channel other Noise more packets is_other rest = rest
other_read slack time channel other Overrun more packets is_other rest = rest
other_read slack time channel other (Bytes bytes) more packets is_other rest =
    inl (not_on channel other (refusal other bytes.items) bytes.items is_other, rest)

module _ (p : Parameters) (t : Timeline) (time : Clock) where
  -- the clock keeps the times of the windows that follow
  abbrev Keeps : List Recorded → List Recorded → Type 0
  Keeps before rs = (inner : List Recorded) (r : Recorded) (rest : List Recorded) → rs ≡ inner ++ r ∷ rest
      → IsKept t.slack (time (before ++ inner) r) (bounds_of p t (before ++ inner) r)

  window_read : (channel : Channel) (before : List Recorded) (r : Recorded) (more : List Record)
      (packets : List Packet) → IsKept t.slack (time before r) (bounds_of p t before r)
      → AreLoggedAt t.slack channel more packets
      → AreLoggedAt t.slack channel (read_seen (time before r) A (heard p r A)
      ++ (read_seen (time before r) B (heard p r B) ++ more))
      (packets_at (bounds_of p t before r) channel (heard p r channel) ++ packets)
  window_read A before r more packets kept rest =
      own_read t.slack (time before r) (bounds_of p t before r) A (heard p r A)
      (read_seen (time before r) B (heard p r B) ++ more) packets kept
      (other_read t.slack (time before r) A B (heard p r B) more packets refl rest)
  window_read B before r more packets kept rest =
      other_read t.slack (time before r) B A (heard p r A) (read_seen (time before r) B (heard p r B) ++ more)
      (packets_at (bounds_of p t before r) B (heard p r B) ++ packets) refl
      (own_read t.slack (time before r) (bounds_of p t before r) B (heard p r B) more packets kept rest)

  read_logged : (channel : Channel) (before rs : List Recorded)
      → ((inner : List Recorded) (r : Recorded) (rest : List Recorded) → rs ≡ inner ++ r ∷ rest
      → IsKept t.slack (time (before ++ inner) r) (bounds_of p t (before ++ inner) r))
      → AreLoggedAt t.slack channel
      (each_after (λ (b : List Recorded) (r : Recorded). read_window p (time b r) r) before rs)
      (packets_after p t channel before rs)
  unfolding each_after
  read_logged channel before [] keeps = refl
  read_logged channel before (r ∷ rs) keeps =
      let a : List Record = read_seen (time before r) A (heard p r A) in
      let b : List Record = read_seen (time before r) B (heard p r B) in
      let more : List Record = each_after (λ (b : List Recorded) (r : Recorded). read_window p (time b r) r)
      (before ++ r ∷ []) rs in
      let kept : IsKept t.slack (time before r) (bounds_of p t before r) =
      subst (λ (l : List Recorded). IsKept t.slack (time l r) (bounds_of p t l r)) (append-nil before)
      (keeps [] r rs refl) in
      subst (λ (l : List Record). AreLoggedAt t.slack channel l (packets_after p t channel before (r ∷ rs)))
      (sym (append_assoc a b more))
      (window_read channel before r more (packets_after p t channel (before ++ r ∷ []) rs) kept
      (read_logged channel (before ++ r ∷ []) rs
      (λ inner x rest e. subst (λ (l : List Recorded). IsKept t.slack (time l x) (bounds_of p t l x))
      (sym (append_assoc before (r ∷ []) inner)) (keeps (r ∷ inner) x rest (ap (λ (l : List Recorded). r ∷ l) e)))))

-- ---- the file

file_logged : (w : WorldState) → Headline w → (t : Timeline) (time : Clock) → ((on : Channel) → IsHealthy w on)
    → KeepsTime w.bus.cluster.params t time w.bus.sealed → (channel : Channel)
    → AreLoggedAt t.slack channel (records_in (capture_of time w.bus.cluster.params w.bus.sealed))
    (packets_after w.bus.cluster.params t channel [] w.bus.sealed)
file_logged w head t time healthy keeps channel =
    let read = (is_read_back time w.bus.cluster.params w.bus.sealed (short_seen w head healthy)).1 in
    subst (λ (l : List Record). AreLoggedAt t.slack channel l
    (packets_after w.bus.cluster.params t channel [] w.bus.sealed)) (sym read)
    (read_logged w.bus.cluster.params t time channel [] w.bus.sealed keeps)

pub no_alarm_in_timely_file : (w : WorldState) → Headline w → NoAlarmInTimelyFile w
no_alarm_in_timely_file w head most whole channel t time is healthy keeps =
    no_alarm_in_time w head most whole channel t (records_in (capture_of time w.bus.cluster.params w.bus.sealed)) is
    (healthy channel) (file_logged w head t time healthy keeps channel)

pub times_add_nothing_in_file : (w : WorldState) → Headline w → TimesAddNothingInFile w
times_add_nothing_in_file w head most whole only t time is healthy keeps =
    times_add_nothing w head most whole only t (records_in (capture_of time w.bus.cluster.params w.bus.sealed)) is
    (λ channel mine. (healthy channel, file_logged w head t time healthy keeps channel))

-- ---- exact times

-- the course up to a window of the record
course_at : (d : Description) (cycles : ℕ) (before inner : List Recorded) (r : Recorded) (rest : List Recorded)
    → IsCourse (course_of d.params cycles before) → AllAfter (IsRecorded d cycles) before (inner ++ r ∷ rest)
    → IsCourse (course_of d.params cycles ((before ++ inner) ++ r ∷ []))
unfolding AllAfter
course_at d cycles before [] r rest course all =
    subst (λ (l : List Recorded). IsCourse (course_of d.params cycles (l ++ r ∷ []))) (sym (append-nil before))
    (course_next d.params cycles before r course all.0.0)
course_at d cycles before (x ∷ inner) r rest course all =
    subst (λ (l : List Recorded). IsCourse (course_of d.params cycles (l ++ r ∷ [])))
    (append_assoc before (x ∷ []) inner)
    (course_at d cycles (before ++ x ∷ []) inner r rest (course_next d.params cycles before x course all.0.0) all.1)

few_microseconds : (begun cycles opportunities cycle_mt start : ℕ) → begun ≤ cycles → cycles * opportunities < 2 ^ 32
    → 2 ≤ opportunities → cycle_mt ≤ 20000 → start ≤ cycle_mt → (begun - 1) * cycle_mt + start < 2 ^ 32 * 1000000
few_microseconds begun cycles opportunities cycle_mt start fit few some most within =
    let many : cycles * 2 ≤ cycles * opportunities = mul-le cycles 2 cycles opportunities (omega arith) some in
    let time : (begun - 1) * cycle_mt ≤ cycles * 20000 =
    mul-le (begun - 1) cycle_mt cycles 20000 (omega (arith, fit)) most in
    omega (arith, many, time, few, most, within)

exact_time : (n c so : ℕ) → AreNear 0 ((n * c + so) * 1000) (0 + n * (c * 1000) + so * 1000)
exact_time n c so = record { not_late = omega arith; not_early = omega arith }

pub windows_keep_time : (w : WorldState) → Headline w → WindowsKeepTime w
windows_keep_time w head = (
  even_is_timeline w.bus.cluster.params 1000 0 0 head.run.lawful.params_are (omega arith) (omega arith),
  λ before r rest e.
      let d : Description = w.bus.cluster in
      let lawful : IsParameters w.bus.cluster.params = head.run.lawful.params_are in
      let course : IsCourse (course_of w.bus.cluster.params w.bus.cycles (before ++ r ∷ [])) =
      course_at w.bus.cluster w.bus.cycles [] before r rest
      (course_none w.bus.cluster.params w.bus.cycles lawful head.run.few_windows)
      (subst (AllAfter (IsRecorded w.bus.cluster w.bus.cycles) []) e head.run.recorded) in
      let two : 2 ≤ w.bus.cluster.params.static_slots = lawful.static_slots_fit.from_least in (
        few_microseconds (cycles_begun (before ++ r ∷ [])) w.bus.cycles (opportunities w.bus.cluster.params)
            w.bus.cluster.params.cycle_mt (start_of w.bus.cluster.params r.window) course.begun_fit head.run.few_windows
            (omega (arith, two)) lawful.cycle_mt_fit.at_most (start_within w.bus.cluster.params lawful r.window),
        near_is_within w.bus.cluster.params (whole_microseconds w.bus.cluster.params) before r
            (window_begins w.bus.cluster.params before r * 1000) lawful
            (exact_time (cycles_begun (before ++ r ∷ []) - 1) w.bus.cluster.params.cycle_mt
            (start_of w.bus.cluster.params r.window)),
      ),
)

pub no_alarm_in_exact_file : (w : WorldState) → Headline w → NoAlarmInExactFile w
no_alarm_in_exact_file w head most whole channel healthy =
    let exact = windows_keep_time w head in
    no_alarm_in_timely_file w head most whole channel (whole_microseconds w.bus.cluster.params)
    (window_begins w.bus.cluster.params) exact.0 healthy exact.1

pub near_keeps_time : NearKeepsTime
near_keeps_time p t time rs lawful near before r rest e =
    let here = near before r rest e in
    (here.0, near_is_within p t before r (time before r * 1000) lawful here.1)

pub rounded_keeps_time : RoundedKeepsTime
rounded_keeps_time p t rs lawful slack few =
    near_keeps_time p t (rounded_down p t) rs lawful
    (λ before r rest e. let within = few before r rest e in
    (omega (arith, within), record { not_late = omega (arith, slack); not_early = omega (arith, slack) }))
