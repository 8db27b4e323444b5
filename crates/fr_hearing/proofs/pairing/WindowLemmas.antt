-- The records of a window, judged on both channels.
use Rattle.std.proofs.Common.{◌≡◌, ℕ, ◌+◌, ◌-◌, ◌%◌, ◌<◌, ◌≤◌, Bool, true, false, cond, List, [], ◌∷◌, ◌++◌, refl, sym}
use Rattle.std.proofs.Common.{ap, subst, ◌∙◌, arith, ◌⊎◌, inl, inr}
use Rattle.std.proofs.lemmas.Bool.{cond-true, cond-false}
use Rattle.fr_bus.specs.Courses.{Standpoint, cycle_of, first_passed, opening}
use Rattle.fr_bus.specs.Outcome.{longest}
use Rattle.fr_bus.specs.Record.{Recorded, heard}
use Rattle.fr_frame.specs.Fields.{Fields, IsFrame}
use Rattle.fr_hearing.proofs.AlarmLaws.{turn_rules, double}
use Rattle.fr_hearing.proofs.CaptureLaws.{reads_back}
use Rattle.fr_hearing.proofs.CourseLemmas.{same_cycle_after}
use Rattle.fr_hearing.proofs.NextLemmas.{static_passed, dynamic_passed}
use Rattle.fr_hearing.proofs.pairing.FinishLemmas.{swapped, JointOf, swap_a, swap_b, one_record}
use Rattle.fr_hearing.proofs.pairing.JointLemmas.{next_joint}
use Rattle.fr_hearing.proofs.pairing.SideLemmas.{FrameMap, AreAlike}
use Rattle.fr_hearing.proofs.pairing.ViewLemmas.{View, view, IsPair}
use Rattle.fr_hearing.proofs.PassageLemmas.{IsAt, IsQuiet, IsLoud, IsHeardAt, IsStaticFrame, static_frame, static_none}
use Rattle.fr_hearing.proofs.PassageLemmas.{further_static, after_static, static_loud, static_quiet, first_at}
use Rattle.fr_hearing.proofs.PassageLemmas.{dynamic_quiet, dynamic_loud, further_dynamic, cycle_below}
use Rattle.fr_hearing.proofs.RecordLemmas.{turn_none, own_frame, at_record}
use Rattle.fr_hearing.proofs.RunLaws.{is_frame, packet_for, packet_seen}
use Rattle.fr_hearing.specs.Alarms.{Spells, judged}
use Rattle.fr_hearing.specs.Heard.{Spot, cycle_start, after_frame, IsFurther, IsAllowed}
use Rattle.fr_hearing.specs.Pairs.{AreInOrder}
use Rattle.fr_hearing.specs.Runs.{packets_seen, logged}
use Rattle.fr_judging.specs.declared.rules.Rules.{Rules}
use Rattle.fr_judging.specs.Judging.{State, turn, turned, judge, take_kind, next_record, frame_on, count_record, good}
use Rattle.fr_judging.specs.Rules.{judges, other_channel, due_at}
use Rattle.fr_logged.specs.declared.record.Kind.{Kind}
use Rattle.fr_logged.specs.declared.record.Kind.TheVariants.{Foreign}
use Rattle.fr_logged.specs.Logged.{kind_of}
use Rattle.fr_recording.specs.Numbers.{counted, most_counted}
use Rattle.fr_recording.specs.Records.{Record}
use Rattle.fr_schedule.specs.Clusters.{IsCluster}
use Rattle.fr_slots.specs.Admission.{is_channel}
use Rattle.fr_slots.specs.declared.channel.Channel.{Channel}
use Rattle.fr_slots.specs.declared.channel.Channel.TheVariants.{A, B}
use Rattle.fr_slots.specs.Windows.{static_window}

-- ---- turned states

pub turn_b : (s : State) → s.channel ≡ A → turn s B ≡ turned s
turn_b s e = cond-false (is_channel s.channel B) s (turned s) (ap (λ (c : Channel). is_channel c B) e)

turn_a : (s : State) → s.channel ≡ B → turn s A ≡ turned s
turn_a s e = cond-false (is_channel s.channel A) s (turned s) (ap (λ (c : Channel). is_channel c A) e)

turn_swap : (s : State) → view (turn s B) ≡ swapped (view (turn s A))
turn_swap s = by s.channel refl
  where
    by : (c : Channel) → s.channel ≡ c → view (turn s B) ≡ swapped (view (turn s A))
    by A e = ap view (turn_b s e) ∙ ap (λ (x : State). swapped (view x)) (sym (turn_none s A e))
    by B e = ap view (turn_none s B e) ∙ (λ i. record (view s) { channel = sym (double s.channel) i })
        ∙ ap (λ (x : State). swapped (view x)) (sym (turn_a s e))

one_more_a : (s : State) → view (count_record (turn (next_record s) A))
    ≡ record (view (turn s A)) { records = counted (view (turn s A)).records 1 }
one_more_a s = by (is_channel s.channel A)
  where
    by : (b : Bool) → view (count_record (cond b (next_record s) (turned (next_record s))))
        ≡ record (view (cond b s (turned s))) { records = counted (view (cond b s (turned s))).records 1 }
    by true = refl
    by false = refl

one_more_b : (s : State) → view (count_record (turn (next_record s) B))
    ≡ record (view (turn s B)) { records = counted (view (turn s B)).records 1 }
one_more_b s = by (is_channel s.channel B)
  where
    by : (b : Bool) → view (count_record (cond b (next_record s) (turned (next_record s))))
        ≡ record (view (cond b s (turned s))) { records = counted (view (cond b s (turned s))).records 1 }
    by true = refl
    by false = refl

number_at : (s : State) (channel : Channel) → (turn s channel).records ≡ s.records
number_at s channel = by (is_channel s.channel channel)
  where
    by : (b : Bool) → (let t : State = cond b s (turned s) in t).records ≡ s.records
    by true = refl
    by false = refl

foreign_a : (s : State) (r : Record) → kind_of r.link r.bytes ≡ Foreign
    → view (turn (judge s r) A) ≡ record (view (turn s A)) { records = counted (view (turn s A)).records 1 }
unfolding judge take_kind
foreign_a s r foreign =
    ap (λ (k : Kind). view (turn (take_kind (next_record s) (at_record s r) r.original r.bytes k) A)) foreign
    ∙ by (is_channel s.channel A)
  where
    by : (b : Bool) → view (cond b (record (next_record s) { foreign = counted s.foreign 1 })
        (turned (record (next_record s) { foreign = counted s.foreign 1 })))
        ≡ record (view (cond b s (turned s))) { records = counted (view (cond b s (turned s))).records 1 }
    by true = refl
    by false = refl

module _ (r : Rules) (pair : IsPair r) (static_few : r.cluster.params.static_slots ≤ 1023) (m : FrameMap)
    (alike : AreAlike r.cluster m) (lawful : IsCluster r.cluster)
    (all : (channel : Channel) → judges r channel ≡ true) where
  abbrev pub Between : State → Spot → Spot → ℕ → Type 0
  Between s t u n = JointOf r pair static_few m alike A (view (turn s A)) t u n

  state_rules : (s : State) (t u : Spot) (n : ℕ) → Between s t u n → s.rules ≡ r
  state_rules s t u n is = sym (turn_rules s A) ∙ is.clean.rules_are

  pub foreign_between : (s : State) (rec : Record) (t u : Spot) (n : ℕ) → kind_of rec.link rec.bytes ≡ Foreign
      → Between s t u n → Between (judge s rec) t u n
  foreign_between s rec t u n foreign is =
      subst (λ (v : View). JointOf r pair static_few m alike A v t u n) (sym (foreign_a s rec foreign))
      (one_record r pair static_few m alike A (view (turn s A)) t u n is)

  judge_is : (channel : Channel) (s : State) (rec : Record) (f : Fields) (spot : Spot) → s.rules ≡ r
      → (turn (next_record s) channel).channel ≡ channel → Spells channel rec f
      → IsAllowed r.cluster channel spot f
      → judge s rec ≡ good (count_record (turn (next_record s) channel)) f (at_record s rec)
  unfolding judge take_kind
  judge_is channel s rec f spot rules_are channel_is spells allowed =
      ap (take_kind (next_record s) (at_record s rec) rec.original rec.bytes) spells.is_frame
      ∙ cond-true (judges s.rules channel)
      (frame_on (turn (next_record s) channel) (at_record s rec) rec.original rec.bytes) (next_record s)
      (ap (λ (q : Rules). judges q channel) rules_are ∙ all channel)
      ∙ own_frame r channel (turn (next_record s) channel) (at_record s rec) rec.original rec.bytes f spot
      (turn_rules (next_record s) channel ∙ rules_are) channel_is spells.spells allowed

  module _ (s : State) (rec : Record) (t u : Spot) (n : ℕ) (some : 1 ≤ n) (few_cycles : n + 1 ≤ most_counted)
      (is : Between s t u n) (f : Fields) (count : f.cycle ≡ (n - 1) % 64) where
    number_a : (at_record s rec).number ≡ counted (view (turn s A)).records 1
    number_a = ap (λ (k : ℕ). counted k 1) (sym (number_at s A))

    number_b : (at_record s rec).number ≡ counted (view (turn s B)).records 1
    number_b = ap (λ (k : ℕ). counted k 1) (sym (number_at s B))

    channel_a : (turn (next_record s) A).channel ≡ A
    channel_a = ap (λ (v : View). v.channel) (one_more_a s) ∙ is.clean.channel_is

    channel_b : (turn (next_record s) B).channel ≡ B
    channel_b = ap (λ (v : View). v.channel) (one_more_b s) ∙ ap (λ (v : View). v.channel) (turn_swap s)
        ∙ ap other_channel is.clean.channel_is

    -- a frame of channel A
    pub frame_a : Spells A rec f → (way : IsFurther r.cluster A t f) → m A (n - 1) f.id f
        → Between (judge s rec) (after_frame r.cluster.params t f) u n
    frame_a spells way there =
        let x : State = count_record (turn (next_record s) A) in
        let more = one_record r pair static_few m alike A (view (turn s A)) t u n is in
        let j = next_joint r pair static_few m alike A
        (record (view (turn s A)) { records = counted (view (turn s A)).records 1 }) t u n some few_cycles more
        (count_record (turn (next_record s) A)) (one_more_a s) f (at_record s rec) number_a way count there in
        let same = judge_is A s rec f t (state_rules s t u n is) channel_a spells way.allowed in
        let first : turn (judge s rec) A ≡ good (count_record (turn (next_record s) A)) f (at_record s rec) =
        ap (λ (y : State). turn y A) same
        ∙ turn_none (good (count_record (turn (next_record s) A)) f (at_record s rec)) A j.clean.channel_is in
        subst (λ (y : State). JointOf r pair static_few m alike A (view y) (after_frame r.cluster.params t f) u n)
        (sym first) j

    -- a frame of channel B
    pub frame_b : Spells B rec f → (way : IsFurther r.cluster B u f) → m B (n - 1) f.id f
        → Between (judge s rec) t (after_frame r.cluster.params u f) n
    frame_b spells way there =
        let turned_is : JointOf r pair static_few m alike B (view (turn s B)) u t n =
        subst (λ (v : View). JointOf r pair static_few m alike B v u t n) (sym (turn_swap s))
        (swap_a r pair static_few m alike (view (turn s A)) t u n is) in
        let more = one_record r pair static_few m alike B (view (turn s B)) u t n turned_is in
        let j = next_joint r pair static_few m alike B
        (record (view (turn s B)) { records = counted (view (turn s B)).records 1 }) u t n some few_cycles more
        (count_record (turn (next_record s) B)) (one_more_b s) f (at_record s rec) number_b way count there in
        let same = judge_is B s rec f u (state_rules s t u n is) channel_b spells way.allowed in
        let x : State = good (count_record (turn (next_record s) B)) f (at_record s rec) in
        let first : turn (judge s rec) A
        ≡ turned (good (count_record (turn (next_record s) B)) f (at_record s rec)) =
        ap (λ (y : State). turn y A) same
        ∙ turn_a (good (count_record (turn (next_record s) B)) f (at_record s rec)) j.clean.channel_is in
        subst (λ (y : State). JointOf r pair static_few m alike A (view y) t (after_frame r.cluster.params u f) n)
        (sym first)
        (swap_b r pair static_few m alike (view (good (count_record (turn (next_record s) B)) f (at_record s rec)))
        (after_frame r.cluster.params u f) t n j)

  -- ---- the frames of a window

  -- the channel is silent in the window, or a frame follows there; and then the run is at this place
  abbrev pub Moves : Channel → Standpoint → Spot → Recorded → Type 0
  Moves channel c t rec = (IsQuiet r.cluster channel rec × IsAt r.cluster channel c t)
      ⊎ ((l : IsLoud r.cluster channel rec) × IsFurther r.cluster channel t l.frame
      × IsAt r.cluster channel c (after_frame r.cluster.params t l.frame))

  abbrev pub moved : (channel : Channel) (c : Standpoint) (t : Spot) (rec : Recorded) → Moves channel c t rec → Spot
  moved channel c t rec (inl quiet) = t
  moved channel c t rec (inr loud) = after_frame r.cluster.params t loud.0.frame

  pub moved_at : (channel : Channel) (c : Standpoint) (t : Spot) (rec : Recorded) (x : Moves channel c t rec)
      → IsAt r.cluster channel c (moved channel c t rec x)
  moved_at channel c t rec (inl quiet) = quiet.1
  moved_at channel c t rec (inr loud) = loud.2

  pub moves_static : (channel : Channel) (c : Standpoint) (t : Spot) (rec : Recorded)
      → IsHeardAt r.cluster channel rec → IsAt r.cluster channel c t → c.statics < r.cluster.params.static_slots
      → rec.window ≡ static_window c.windows (cycle_of c) (c.statics + 1) → Moves channel (static_passed c) t rec
  moves_static channel c t rec (inl quiet) at further is = inl (
    quiet,
    static_quiet r.cluster channel lawful c t at further
        (ap (λ (n : ℕ). due_at r.cluster (c.statics + 1) channel n) at.cycle_is
        ∙ static_none r.cluster channel rec c.windows (cycle_of c) (c.statics + 1) is quiet),
  )
  moves_static channel c t rec (inr loud) at further is =
      let frame : IsStaticFrame r.cluster channel t.cycle (c.statics + 1) loud.frame =
      subst (λ (n : ℕ). IsStaticFrame r.cluster channel n (c.statics + 1) loud.frame) (sym at.cycle_is)
      (static_frame r.cluster channel rec c.windows (cycle_of c) (c.statics + 1) is loud) in
      let before = at.behind further in
      let below = cycle_below c in
      let cycle = at.cycle_is in
      inr (
        loud,
        further_static r.cluster channel lawful t loud.frame (c.statics + 1) frame (omega (arith, below, cycle))
            (omega (arith, before)) (omega (arith, further)) at.free,
        subst (IsAt r.cluster channel (static_passed c))
            (sym (after_static r.cluster channel lawful t loud.frame (c.statics + 1) frame.id_is (omega
            (arith, further))))
            (static_loud r.cluster channel lawful c t at further),
      )

  pub moves_dynamic : (channel : Channel) (c : Standpoint) (k : ℕ) (t : Spot) (rec : Recorded)
      → IsHeardAt r.cluster channel rec → IsAt r.cluster channel c t → rec.window ≡ opening c k → 1 ≤ k
      → r.cluster.params.static_slots ≤ c.statics
      → Moves channel (dynamic_passed c k (longest A rec.sent) (longest B rec.sent)) t rec
  moves_dynamic channel c k t rec (inl quiet) at is some over = inl (
    quiet,
    dynamic_quiet r.cluster channel lawful c k rec is some over t at quiet.none,
  )
  moves_dynamic channel c k t rec (inr loud) at is some over = inr (
    loud,
    further_dynamic r.cluster channel lawful c k rec is some over t at loud,
    dynamic_loud r.cluster channel lawful c k rec is some over t at loud,
  )

  below_64 : (n : ℕ) → n % 64 < 64
  below_64 n = omega arith

  pub moves_first : (channel : Channel) (c : Standpoint) (rec : Recorded) → IsHeardAt r.cluster channel rec
      → c.params ≡ r.cluster.params → rec.window ≡ static_window c.windows (c.begun % 64) 1
      → Moves channel (first_passed c) (cycle_start r.cluster.params (c.begun % 64)) rec
  moves_first channel c rec (inl quiet) params_are is = inl (
    quiet,
    first_at r.cluster channel lawful c 0 params_are (omega arith)
        (λ k low high. let same : k ≡ 1 = omega (arith, low, high) in
        ap (λ (n : ℕ). due_at r.cluster n channel (c.begun % 64)) same
        ∙ static_none r.cluster channel rec c.windows (c.begun % 64) 1 is quiet),
  )
  moves_first channel c rec (inr loud) params_are is =
      let some : 2 ≤ r.cluster.params.static_slots = lawful.params_are.static_slots_fit.from_least in
      let frame : IsStaticFrame r.cluster channel (c.begun % 64) 1 loud.frame =
      static_frame r.cluster channel rec c.windows (c.begun % 64) 1 is loud in
      inr (
        loud,
        further_static r.cluster channel lawful (cycle_start r.cluster.params (c.begun % 64)) loud.frame 1 frame
            (below_64 c.begun) (omega arith) (omega (arith, some))
            (λ k low high. absurd (let none : ⊥ = omega (arith, low, high) in none)),
        subst (IsAt r.cluster channel (first_passed c))
            (sym (after_static r.cluster channel lawful (cycle_start r.cluster.params (c.begun % 64)) loud.frame 1
            frame.id_is (omega (arith, some))))
            (first_at r.cluster channel lawful c 1 params_are (omega arith)
            (λ k low high. absurd (let none : ⊥ = omega (arith, low, high) in none))),
      )

  -- ---- the records of a window

  -- some records were judged, and these are left
  pub record Consumed (s : State) (records : List Record) (packets : List (List ℕ)) (t u : Spot) (n : ℕ) : Type 0 where
    pub state : State
    pub rest : List Record
    pub same : judged s records ≡ judged state rest
    pub in_order : AreInOrder rest packets
    pub between : Between state t u n

  more_consumed : (s : State) (rec : Record) (records : List Record) (packets : List (List ℕ)) (t u : Spot) (n : ℕ)
      → Consumed (judge s rec) records packets t u n → Consumed s (rec ∷ records) packets t u n
  more_consumed s rec records packets t u n is = record {
    state = is.state;
    rest = is.rest;
    same = is.same;
    in_order = is.in_order;
    between = is.between;
  }

  module _ (n : ℕ) (some : 1 ≤ n) (few_cycles : n + 1 ≤ most_counted) (f : Fields) (frame : IsFrame f)
      (count : f.cycle ≡ (n - 1) % 64) where
    packet_a : (t u : Spot) → IsFurther r.cluster A t f → m A (n - 1) f.id f → (records : List Record)
        (packets : List (List ℕ)) (s : State) → AreInOrder records (packet_for A f ∷ packets) → Between s t u n
        → Consumed s records packets (after_frame r.cluster.params t f) u n
    packet_a t u way there [] packets s none is =
        absurd (let no : ◌≡◌ {A = List (List ℕ)} (packet_for A f ∷ packets) [] = none in let wrong : ⊥ = cc in wrong)
    packet_a t u way there (rec ∷ records) packets s (inl foreign) is =
        more_consumed s rec records packets (after_frame r.cluster.params t f) u n
        (packet_a t u way there records packets (judge s rec) foreign.1 (foreign_between s rec t u n foreign.0 is))
    packet_a t u way there (rec ∷ records) packets s (inr own) is =
        let first : packet_for A f ≡ own.1 = cc own.3 in
        let after : packets ≡ own.2 = cc own.3 in
        let spells : Spells A rec f = subst (λ (x : Record). Spells A x f)
        (sym (own.4 ∙ ap (logged own.0) (sym first))) (reads_back own.0 A f frame) in
        record {
          state = judge s rec;
          rest = records;
          same = refl;
          in_order = subst (AreInOrder records) (sym after) own.5;
          between = frame_a s rec t u n some few_cycles is f count spells way there;
        }

    packet_b : (t u : Spot) → IsFurther r.cluster B u f → m B (n - 1) f.id f → (records : List Record)
        (packets : List (List ℕ)) (s : State) → AreInOrder records (packet_for B f ∷ packets) → Between s t u n
        → Consumed s records packets t (after_frame r.cluster.params u f) n
    packet_b t u way there [] packets s none is =
        absurd (let no : ◌≡◌ {A = List (List ℕ)} (packet_for B f ∷ packets) [] = none in let wrong : ⊥ = cc in wrong)
    packet_b t u way there (rec ∷ records) packets s (inl foreign) is =
        more_consumed s rec records packets t (after_frame r.cluster.params u f) n
        (packet_b t u way there records packets (judge s rec) foreign.1 (foreign_between s rec t u n foreign.0 is))
    packet_b t u way there (rec ∷ records) packets s (inr own) is =
        let first : packet_for B f ≡ own.1 = cc own.3 in
        let after : packets ≡ own.2 = cc own.3 in
        let spells : Spells B rec f = subst (λ (x : Record). Spells B x f)
        (sym (own.4 ∙ ap (logged own.0) (sym first))) (reads_back own.0 B f frame) in
        record {
          state = judge s rec;
          rest = records;
          same = refl;
          in_order = subst (AreInOrder records) (sym after) own.5;
          between = frame_b s rec t u n some few_cycles is f count spells way there;
        }

  seen_loud : (channel : Channel) (rec : Recorded) (l : IsLoud r.cluster channel rec) → IsFrame l.frame
      → packets_seen channel (heard r.cluster.params rec channel) ≡ packet_for channel l.frame ∷ []
  seen_loud channel rec l frame =
      ap (packets_seen channel) l.hears
      ∙ ap (λ (p : List ℕ). p ∷ []) (packet_seen channel l.bytes l.frame frame l.spelled)

  seen_quiet : (channel : Channel) (rec : Recorded) → IsQuiet r.cluster channel rec
      → packets_seen channel (heard r.cluster.params rec channel) ≡ []
  seen_quiet channel rec q = ap (packets_seen channel) q.hears

  module _ (rec : Recorded) (c : Standpoint) (n : ℕ) (some : 1 ≤ n) (few_cycles : n + 1 ≤ most_counted)
      (n_is : c.begun ≡ n) (map_is : (channel : Channel) (l : IsLoud r.cluster channel rec)
      → m channel (n - 1) l.frame.id l.frame) where
    count_of : (channel : Channel) (t : Spot) (f : Fields) → IsFurther r.cluster channel t f
        → IsAt r.cluster channel c (after_frame r.cluster.params t f) → f.cycle ≡ (n - 1) % 64
    count_of channel t f way at =
        way.same_cycle ∙ sym (same_cycle_after r.cluster.params t f) ∙ at.cycle_is
        ∙ ap (λ (k : ℕ). (k - 1) % 64) n_is

    window_a : (t u : Spot) (x : Moves A c t rec) (records : List Record) (packets : List (List ℕ)) (s : State)
        → AreInOrder records (packets_seen A (heard r.cluster.params rec A) ++ packets) → Between s t u n
        → Consumed s records packets (moved A c t rec x) u n
    window_a t u (inl quiet) records packets s in_order is = record {
      state = s;
      rest = records;
      same = refl;
      in_order = subst (λ (l : List (List ℕ)). AreInOrder records (l ++ packets)) (seen_quiet A rec quiet.0) in_order;
      between = is;
    }
    window_a t u (inr loud) records packets s in_order is =
        let l = loud.0 in
        let frame : IsFrame loud.0.frame = is_frame r.cluster A lawful t loud.0.frame loud.1.allowed in
        packet_a n some few_cycles loud.0.frame frame (count_of A t loud.0.frame loud.1 loud.2) t u loud.1
        (map_is A loud.0) records packets s
        (subst (λ (q : List (List ℕ)). AreInOrder records (q ++ packets)) (seen_loud A rec loud.0 frame) in_order) is

    window_b : (t u : Spot) (x : Moves B c u rec) (records : List Record) (packets : List (List ℕ)) (s : State)
        → AreInOrder records (packets_seen B (heard r.cluster.params rec B) ++ packets) → Between s t u n
        → Consumed s records packets t (moved B c u rec x) n
    window_b t u (inl quiet) records packets s in_order is = record {
      state = s;
      rest = records;
      same = refl;
      in_order = subst (λ (l : List (List ℕ)). AreInOrder records (l ++ packets)) (seen_quiet B rec quiet.0) in_order;
      between = is;
    }
    window_b t u (inr loud) records packets s in_order is =
        let frame : IsFrame loud.0.frame = is_frame r.cluster B lawful u loud.0.frame loud.1.allowed in
        packet_b n some few_cycles loud.0.frame frame (count_of B u loud.0.frame loud.1 loud.2) t u loud.1
        (map_is B loud.0) records packets s
        (subst (λ (q : List (List ℕ)). AreInOrder records (q ++ packets)) (seen_loud B rec loud.0 frame) in_order) is

    -- both channels, A before B
    pub window_both : (t u : Spot) (x : Moves A c t rec) (y : Moves B c u rec) (records : List Record)
        (packets : List (List ℕ)) (s : State)
        → AreInOrder records (packets_seen A (heard r.cluster.params rec A)
        ++ (packets_seen B (heard r.cluster.params rec B) ++ packets)) → Between s t u n
        → Consumed s records packets (moved A c t rec x) (moved B c u rec y) n
    window_both t u x y records packets s in_order is =
        let first = window_a t u x records (packets_seen B (heard r.cluster.params rec B) ++ packets) s in_order is in
        let second = window_b (moved A c t rec x) u y first.rest packets first.state first.in_order first.between in
        record {
          state = second.state;
          rest = second.rest;
          same = first.same ∙ second.same;
          in_order = second.in_order;
          between = second.between;
        }
