-- A recording of a run without faults at the times of its schedule has no finding, with times.
use Rattle.std.proofs.Common.{◌≡◌, ℕ, pos, Bool, true, false, List, [], ◌∷◌, ◌++◌, map, Some, refl, sym, ap, subst, ◌∙◌}
use Rattle.std.proofs.Common.{inl, inr}
use Rattle.fr_bus.specs.Record.{Recorded, heard}
use Rattle.fr_core.specs.Headline.{Headline}
use Rattle.fr_core.specs.Worlds.{WorldState}
use Rattle.fr_frame.specs.Fields.{Fields, IsFrame}
use Rattle.fr_hearing.proofs.CaptureLaws.{reads_back}
use Rattle.fr_hearing.proofs.CycleLemmas.{AreHeardAt, frames_of, Begins, from_start}
use Rattle.fr_hearing.proofs.HearingLemmas.{window_heard, each_heard}
use Rattle.fr_hearing.proofs.PassageLemmas.{IsHeardAt, with_frame}
use Rattle.fr_hearing.proofs.punctual.PunctualLaws.{in_time_is_untimed}
use Rattle.fr_hearing.proofs.punctual.WindowLemmas.{Placed, at_time, IsPlaced, Follows, ContinueInPlace, ArePlaced}
use Rattle.fr_hearing.proofs.punctual.WindowLemmas.{with_placed, placed_frames, frames_in_time}
use Rattle.fr_hearing.proofs.RunLaws.{packet_for, packet_seen, is_frame, no_alarm_in_run, follow_frames}
use Rattle.fr_hearing.proofs.SilenceLaws.{nothing_due}
use Rattle.fr_hearing.specs.Alarms.{Spells}
use Rattle.fr_hearing.specs.Heard.{after_frame, cycle_start}
use Rattle.fr_hearing.specs.Runs.{IsHealthy, packets_seen, packets_of, logged, AreLogged}
use Rattle.fr_hearing.specs.Schedule.{Timeline, Timed, IsPunctual, IsAfter, Continue, ArePunctual, AreAt}
use Rattle.fr_hearing.specs.TimedRuns.{Bounds, IsWithin, bounds_of, Packet, packets_at, packets_after, packets_on}
use Rattle.fr_hearing.specs.TimedRuns.{AreLoggedAt, TimesAddNothing, NoAlarmInTime}
use Rattle.fr_judging.specs.Judging.{has_finding}
use Rattle.fr_judging.specs.Rules.{has_sender}
use Rattle.fr_recording.specs.Records.{Record}
use Rattle.fr_schedule.specs.Clusters.{IsCluster}
use Rattle.fr_schedule.specs.Descriptions.{Description}
use Rattle.fr_slots.specs.Admission.{is_channel}
use Rattle.fr_slots.specs.declared.channel.Channel.{Channel}
use Rattle.fr_slots.specs.declared.channel.Channel.TheVariants.{A, B}
use Rattle.fr_slots.specs.Parameters.{Parameters}
use Rattle.fr_slots.specs.Plans.{Each}
use Rattle.fr_status.specs.declared.seen.Seen.TheVariants.{Silence, Own, Conflict, Noise, Overrun, Bytes}
use Rattle.fr_status.specs.Forms.{Seen}

-- ---- times within bounds

-- the same frame of the same cycle, at a time within its bounds
pub record IsStamped (slack : ℕ) (x : Placed) (y : Timed) : Type 0 where
  pub same : y ≡ at_time x y.time
  pub within : IsWithin slack y.time x.bounds

abbrev AreStamped : ℕ → List Placed → List Timed → Type 0
AreStamped slack [] ys = ys ≡ []
AreStamped slack (x ∷ xs) ys =
    (y : Timed) × (rest : List Timed) × (ys ≡ y ∷ rest) × IsStamped slack x y × AreStamped slack xs rest

module _ (p : Parameters) (t : Timeline) where
  stamped_punctual : (x : Placed) (y : Timed) → IsPlaced p t x → IsStamped t.slack x y → IsPunctual p t y
  stamped_punctual x y is stamped = subst (IsPunctual p t) (sym stamped.same) (is y.time stamped.within)

  stamped_after : (x y : Placed) (u v : Timed) → IsStamped t.slack x u → IsStamped t.slack y v → Follows x y
      → IsAfter u v
  stamped_after x y u v a b is =
      subst (λ (z : Timed). IsAfter z v) (sym a.same)
      (subst (λ (z : Timed). IsAfter (at_time x u.time) z) (sym b.same) is)

  stamped_continue : (x : Placed) (u : Timed) (xs : List Placed) (us : List Timed) → IsStamped t.slack x u
      → ContinueInPlace p t x xs → AreStamped t.slack xs us → Continue p t u us
  stamped_continue x u [] us a is none = subst (Continue p t u) (sym none) tt
  stamped_continue x u (y ∷ xs) us a is stamped =
      subst (Continue p t u) (sym stamped.2) (
        stamped_after x y u stamped.0 a stamped.3 is.0,
        stamped_punctual y stamped.0 is.1 stamped.3,
        stamped_continue y stamped.0 xs stamped.1 stamped.3 is.2 stamped.4,
      )

  stamped_frames : (xs : List Placed) (us : List Timed) → ArePlaced p t xs → AreStamped t.slack xs us
      → ArePunctual p t us
  stamped_frames [] us is none = subst (ArePunctual p t) (sym none) tt
  stamped_frames (x ∷ xs) us is stamped =
      subst (ArePunctual p t) (sym stamped.2) (
        stamped_punctual x stamped.0 is.0 stamped.3,
        stamped_continue x stamped.0 xs stamped.1 stamped.3 is.1 stamped.4,
      )

-- ---- the packets of frames

abbrev packet_of : Channel → Placed → Packet
packet_of channel x = record { channel = channel; bounds = x.bounds; bytes = packet_for channel x.frame }

abbrev HasFrame : Placed → Type 0
HasFrame x = IsFrame x.frame

packets_are : (d : Description) (t : Timeline) (channel : Channel) (before rs : List Recorded)
    (h : AreHeardAt d channel rs) → Each HasFrame (placed_frames d t channel before rs h)
    → packets_after d.params t channel before rs ≡ map (packet_of channel) (placed_frames d t channel before rs h)
packets_are d t channel before [] h each = refl
packets_are d t channel before (r ∷ rs) h each = by h.0 each (packets_are d t channel (before ++ r ∷ []) rs h.1)
  where
    by : (x : IsHeardAt d channel r)
        → Each HasFrame (with_placed d t channel before r x (placed_frames d t channel (before ++ r ∷ []) rs h.1))
        → (Each HasFrame (placed_frames d t channel (before ++ r ∷ []) rs h.1)
        → packets_after d.params t channel (before ++ r ∷ []) rs
        ≡ map (packet_of channel) (placed_frames d t channel (before ++ r ∷ []) rs h.1))
        → packets_after d.params t channel before (r ∷ rs)
        ≡ map (packet_of channel) (with_placed d t channel before r x
        (placed_frames d t channel (before ++ r ∷ []) rs h.1))
    by (inl quiet) e rest =
        ap (λ (o : Seen). packets_at (bounds_of d.params t before r) channel o
        ++ packets_after d.params t channel (before ++ r ∷ []) rs) quiet.hears ∙ rest e
    by (inr loud) e rest =
        ap (λ (o : Seen). packets_at (bounds_of d.params t before r) channel o
        ++ packets_after d.params t channel (before ++ r ∷ []) rs) loud.hears
        ∙ ap (λ (l : List ℕ). (let x : Packet = record {
          channel = channel;
          bounds = bounds_of d.params t before r;
          bytes = l;
        } in x) ∷ packets_after d.params t channel (before ++ r ∷ []) rs)
        (packet_seen channel loud.bytes loud.frame e.0 loud.spelled)
        ∙ ap (λ (l : List Packet). (let x : Packet = record {
          channel = channel;
          bounds = bounds_of d.params t before r;
          bytes = packet_for channel loud.frame;
        } in x) ∷ l) (rest e.1)

-- each of them is a frame
module _ (d : Description) (channel : Channel) (cluster : IsCluster d) where
  begin_frames : (cycle : ℕ) (fs : List Fields) → Begins d channel cycle fs → Each IsFrame fs
  begin_frames cycle fs b = subst (Each IsFrame) (sym b.is) (
    is_frame d channel cluster (cycle_start d.params b.frame.cycle) b.frame b.first.allowed,
    follow_frames d channel cluster (after_frame d.params (cycle_start d.params b.frame.cycle) b.frame) b.rest b.after,
  )

placed_each : (d : Description) (t : Timeline) (channel : Channel) (before rs : List Recorded)
    (h : AreHeardAt d channel rs) → Each IsFrame (frames_of d channel rs h)
    → Each HasFrame (placed_frames d t channel before rs h)
placed_each d t channel before [] h each = tt
placed_each d t channel before (r ∷ rs) h each = by h.0 each (placed_each d t channel (before ++ r ∷ []) rs h.1)
  where
    by : (x : IsHeardAt d channel r) → Each IsFrame (with_frame d channel r x (frames_of d channel rs h.1))
        → (Each IsFrame (frames_of d channel rs h.1)
        → Each HasFrame (placed_frames d t channel (before ++ r ∷ []) rs h.1))
        → Each HasFrame (with_placed d t channel before r x (placed_frames d t channel (before ++ r ∷ []) rs h.1))
    by (inl quiet) e rest = rest e
    by (inr loud) e rest = (e.0, rest e.1)

-- ---- a channel without a sender

none_placed : (d : Description) (t : Timeline) (channel : Channel) (before rs : List Recorded)
    (h : AreHeardAt d channel rs) → has_sender d channel ≡ false → placed_frames d t channel before rs h ≡ []
none_placed d t channel before [] h none = refl
none_placed d t channel before (r ∷ rs) h none = by h.0 (none_placed d t channel (before ++ r ∷ []) rs h.1 none)
  where
    by : (x : IsHeardAt d channel r) → placed_frames d t channel (before ++ r ∷ []) rs h.1 ≡ []
        → with_placed d t channel before r x (placed_frames d t channel (before ++ r ∷ []) rs h.1) ≡ []
    by (inl quiet) rest = rest
    by (inr loud) rest = absurd (nothing_due d channel r loud none)

-- ---- their records

record Timings (slack : ℕ) (channel : Channel) (records : List Record) (xs : List Placed) : Type 0 where
  frames : List Timed
  are_at : AreAt channel records frames
  stamped : AreStamped slack xs frames

-- the frame of the first packet
record IsFirstOf (channel : Channel) (xs : List Placed) (x : Packet) (rest : List Packet) : Type 0 where
  frame : Placed
  more : List Placed
  is : xs ≡ frame ∷ more
  packet_is : x ≡ packet_of channel frame
  rest_are : rest ≡ map (packet_of channel) more

first_of : (channel : Channel) (xs : List Placed) (x : Packet) (rest : List Packet)
    → map (packet_of channel) xs ≡ x ∷ rest → IsFirstOf channel xs x rest
first_of channel [] x rest e = absurd (let none : ⊥ = cc in none)
first_of channel (y ∷ ys) x rest e = record { frame = y; more = ys; is = refl; packet_is = cc; rest_are = cc }

timings : (slack : ℕ) (channel : Channel) (records : List Record) (packets : List Packet) (xs : List Placed)
    → AreLoggedAt slack channel records packets → packets ≡ map (packet_of channel) xs → Each HasFrame xs
    → Timings slack channel records xs
timings slack channel [] packets [] logged_are same each = record { frames = []; are_at = refl; stamped = refl }
timings slack channel [] packets (x ∷ xs) logged_are same each =
    absurd (let none : ⊥ = cc (sym logged_are ∙ same) in none)
timings slack channel (r ∷ rs) packets xs (inl other) same each =
    let rest = timings slack channel rs packets xs other.1 same each in
    record { frames = rest.frames; are_at = inl (other.0, rest.are_at); stamped = rest.stamped }
timings slack channel (r ∷ rs) packets xs (inr own) same each =
    let time : ℕ = own.0 in
    let first = first_of channel xs own.1 own.2 (sym same ∙ own.3) in
    let frames : HasFrame first.frame × Each HasFrame first.more = subst (Each HasFrame) first.is each in
    let rest = timings slack channel rs own.2 first.more own.6 first.rest_are frames.1 in
    let spells : Spells channel (logged (Some (pos own.0)) (packet_for channel first.frame.frame)) first.frame.frame =
    reads_back (Some (pos own.0)) channel first.frame.frame frames.0 in
    let y : Timed = at_time first.frame own.0 in
    let within : IsWithin slack own.0 first.frame.bounds =
    subst (λ (x : Packet). IsWithin slack own.0 x.bounds) first.packet_is own.4 in
    record {
      frames = y ∷ rest.frames;
      are_at = inr (
        y,
        rest.frames,
        refl,
        subst (λ (q : Record). Spells channel q first.frame.frame)
            (sym (own.5 ∙ ap (λ (x : Packet). logged (Some (pos own.0)) x.bytes) first.packet_is)) spells,
        ap (λ (q : Record). q.time) own.5,
        rest.are_at,
      );
      stamped = subst (λ (l : List Placed). AreStamped slack l (y ∷ rest.frames)) (sym first.is) (
        y,
        rest.frames,
        refl,
        record { same = refl; within = within },
        rest.stamped,
      );
    }

-- ---- the frames of a run

record IsOnSchedule (w : WorldState) (channel : Channel) (t : Timeline) : Type 0 where
  frames : List Placed
  packets_are : packets_on w.bus.cluster.params t channel w.bus.sealed ≡ map (packet_of channel) frames
  each : Each HasFrame frames
  placed : ArePlaced w.bus.cluster.params t frames

on_schedule : (w : WorldState) → Headline w → (channel : Channel) (t : Timeline) → IsHealthy w channel
    → IsOnSchedule w channel t
on_schedule w head channel t healthy = by (has_sender w.bus.cluster channel) refl
  where
    d : Description
    d = w.bus.cluster

    h : AreHeardAt w.bus.cluster channel w.bus.sealed
    h = each_heard w.bus.cluster channel w.bus.sealed (window_heard w head channel healthy)

    xs : List Placed
    xs = placed_frames w.bus.cluster t channel [] w.bus.sealed
        (each_heard w.bus.cluster channel w.bus.sealed (window_heard w head channel healthy))

    with_frames : Each HasFrame xs → ArePlaced w.bus.cluster.params t xs → IsOnSchedule w channel t
    with_frames each placed = record {
      frames = xs;
      packets_are = packets_are w.bus.cluster t channel [] w.bus.sealed h each;
      each = each;
      placed = placed;
    }

    by : (b : Bool) → has_sender w.bus.cluster channel ≡ b → IsOnSchedule w channel t
    by true some =
        let b : Begins w.bus.cluster channel 0 (frames_of w.bus.cluster channel w.bus.sealed h) =
        from_start w.bus.cluster w.bus.cycles channel head.run.lawful (healthy.clocked some) w.bus.sealed h
        head.run.recorded healthy.complete.some_window healthy.complete.static_over in
        with_frames
        (placed_each w.bus.cluster t channel [] w.bus.sealed h
        (begin_frames w.bus.cluster channel head.run.lawful 0 (frames_of w.bus.cluster channel w.bus.sealed h) b))
        (frames_in_time w.bus.cluster channel t head.run.lawful w.bus.cycles (healthy.clocked some) w.bus.sealed h
        head.run.recorded)
    by false none =
        let empty : xs ≡ [] = none_placed w.bus.cluster t channel [] w.bus.sealed h none in
        with_frames (subst (Each HasFrame) (sym empty) tt)
        (subst (ArePlaced w.bus.cluster.params t) (sym empty) tt)

-- ---- the laws

recorded_in_time : (w : WorldState) → Headline w → (channel : Channel) (t : Timeline) (records : List Record)
    → IsHealthy w channel
    → AreLoggedAt t.slack channel records (packets_on w.bus.cluster.params t channel w.bus.sealed)
    → (xs : List Timed) × AreAt channel records xs × ArePunctual w.bus.cluster.params t xs
recorded_in_time w head channel t records healthy logged_are =
    let s = on_schedule w head channel t healthy in
    let m = timings t.slack channel records (packets_on w.bus.cluster.params t channel w.bus.sealed) s.frames logged_are
    s.packets_are s.each in
    (m.frames, m.are_at, stamped_frames w.bus.cluster.params t s.frames m.frames s.placed m.stamped)

pub times_add_nothing : (w : WorldState) → Headline w → TimesAddNothing w
times_add_nothing w head most whole only t records is recorded =
    sym (ap has_finding (in_time_is_untimed w.bus.cluster most whole only t records head.run.lawful.params_are is
    (λ channel mine. let here = recorded channel mine in
    recorded_in_time w head channel t records here.0 here.1)))

-- ---- each channel by itself

pub bytes_at : (bounds : Bounds) (channel : Channel) (o : Seen) (l : List Packet)
    → map (λ (x : Packet). x.bytes) (packets_at bounds channel o ++ l)
    ≡ packets_seen channel o ++ map (λ (x : Packet). x.bytes) l
bytes_at bounds channel Silence l = refl
bytes_at bounds channel Own l = refl
bytes_at bounds channel Conflict l = refl
bytes_at bounds channel Noise l = refl
bytes_at bounds channel Overrun l = refl
bytes_at bounds channel (Bytes bytes) l = refl

bytes_are : (p : Parameters) (t : Timeline) (channel : Channel) (before rs : List Recorded)
    → map (λ (x : Packet). x.bytes) (packets_after p t channel before rs) ≡ packets_of p channel rs
bytes_are p t channel before [] = refl
bytes_are p t channel before (r ∷ rs) =
    bytes_at (bounds_of p t before r) channel (heard p r channel) (packets_after p t channel (before ++ r ∷ []) rs)
    ∙ ap (λ (l : List (List ℕ)). packets_seen channel (heard p r channel) ++ l)
    (bytes_are p t channel (before ++ r ∷ []) rs)

-- without their times
at_any_times : (slack : ℕ) (channel : Channel) (records : List Record) (packets : List Packet)
    → AreLoggedAt slack channel records packets → AreLogged channel records (map (λ (x : Packet). x.bytes) packets)
at_any_times slack channel [] packets none = ap (map (λ (x : Packet). x.bytes)) none
at_any_times slack channel (r ∷ rs) packets (inl other) =
    inl (other.0, at_any_times slack channel rs packets other.1)
at_any_times slack channel (r ∷ rs) packets (inr own) = inr (
  Some (pos own.0),
  own.1.bytes,
  map (λ (x : Packet). x.bytes) own.2,
  ap (map (λ (x : Packet). x.bytes)) own.3,
  own.5,
  at_any_times slack channel rs own.2 own.6,
)

pub logged_any : (w : WorldState) (channel : Channel) (t : Timeline) (records : List Record)
    → AreLoggedAt t.slack channel records (packets_on w.bus.cluster.params t channel w.bus.sealed)
    → AreLogged channel records (packets_of w.bus.cluster.params channel w.bus.sealed)
logged_any w channel t records logged_are =
    subst (AreLogged channel records) (bytes_are w.bus.cluster.params t channel [] w.bus.sealed)
    (at_any_times t.slack channel records (packets_on w.bus.cluster.params t channel w.bus.sealed) logged_are)

only_one : (P : Channel → Type 0) (a b : Channel) → is_channel a b ≡ true → P a → P b
only_one P A A e here = here
only_one P A B e here = absurd (let none : ⊥ = cc in none)
only_one P B A e here = absurd (let none : ⊥ = cc in none)
only_one P B B e here = here

pub no_alarm_in_time : (w : WorldState) → Headline w → NoAlarmInTime w
no_alarm_in_time w head most whole channel t records is healthy logged_are =
    times_add_nothing w head most whole (Some channel) t records is
    (λ on mine. only_one (λ (c : Channel). IsHealthy w c
    × AreLoggedAt t.slack c records (packets_on w.bus.cluster.params t c w.bus.sealed)) channel on mine
    (healthy, logged_are))
    ∙ no_alarm_in_run w head most whole channel records healthy (logged_any w channel t records logged_are)
