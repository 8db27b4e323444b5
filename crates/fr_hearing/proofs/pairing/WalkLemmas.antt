-- All windows of a run without faults, judged on both channels, and the end.
use Rattle.std.proofs.Common.{◌≡◌, ℕ, zero, suc, ◌+◌, ◌-◌, ◌%◌, ◌<◌, ◌≤◌, Bool, true, false, cond, ◌&&◌, List, [], ◌∷◌}
use Rattle.std.proofs.Common.{◌++◌, refl, sym, ap, subst, ◌∙◌, arith, ◌⊎◌, inl, inr, Option, Some, None, replicate}
use Rattle.std.proofs.Common.{length}
use Rattle.std.proofs.lemmas.Bool.{ltb-true, ne_eqb, cases_lt}
use Rattle.std.proofs.lemmas.List.{append_assoc, append-nil, get_or-replicate, get_or_past, length-replicate}
use Rattle.std.specs.Option.{option_or}
use Rattle.std.specs.Prelude.{nat_lt, ◌==◌, option_map, slice_index_or}
use Rattle.fr_bus.proofs.NextLemmas.{next_is}
use Rattle.fr_bus.specs.Courses.{Standpoint, course_of, cycle_of, first_passed, next_of, inner_next, opening}
use Rattle.fr_bus.specs.Courses.{dynamic_next}
use Rattle.fr_bus.specs.Outcome.{longest}
use Rattle.fr_bus.specs.Record.{Recorded, heard}
use Rattle.fr_bus.specs.States.{IsRecorded}
use Rattle.fr_bus.specs.Windows.{following, cycles_begun, this_cycle, statics_of, least_of}
use Rattle.fr_hearing.proofs.AlarmLaws.{found_none, end_channel, cleared, turn_rules}
use Rattle.fr_hearing.proofs.CycleLemmas.{AreHeardAt, has_owner, not_free}
use Rattle.fr_hearing.proofs.NextLemmas.{static_passed, dynamic_passed, IsNextOf, next_window, after_first}
use Rattle.fr_hearing.proofs.NextLemmas.{after_static, after_dynamic, some_minislot}
use Rattle.fr_hearing.proofs.pairing.FinishLemmas.{JointOf, swap_a, turn_cycle, new_cycle, settles, ends_quiet}
use Rattle.fr_hearing.proofs.pairing.SideLemmas.{FrameMap, AreAlike, ShownOk}
use Rattle.fr_hearing.proofs.pairing.ViewLemmas.{LaneView, View, view, lane_view, entry, IsPair}
use Rattle.fr_hearing.proofs.pairing.WindowLemmas.{Between, Moves, moved, moved_at, moves_static, moves_dynamic}
use Rattle.fr_hearing.proofs.pairing.WindowLemmas.{moves_first, window_both, foreign_between, turn_b}
use Rattle.fr_hearing.proofs.PassageLemmas.{IsAt, IsLoud, IsHeardAt, cycle_below}
use Rattle.fr_hearing.specs.Alarms.{judged}
use Rattle.fr_hearing.specs.Heard.{Spot, cycle_start, IsOver}
use Rattle.fr_hearing.specs.Pairs.{AreInOrder, packets_of_both}
use Rattle.fr_hearing.specs.Runs.{packets_seen}
use Rattle.fr_judging.specs.declared.judge.Shown.{Shown}
use Rattle.fr_judging.specs.declared.rules.Rules.{Rules}
use Rattle.fr_judging.specs.Judging.{State, turn, turned, settle, finish, finish_on, has_finding, none_shown, not_shown}
use Rattle.fr_judging.specs.Judging.{no_frame, fresh, judge}
use Rattle.fr_judging.specs.Lanes.{fresh_lane}
use Rattle.fr_judging.specs.Rules.{judges, is_clocked}
use Rattle.fr_judging.specs.Tallies.{static_place}
use Rattle.fr_minislot.specs.Lanes.{next_in}
use Rattle.fr_recording.specs.Numbers.{most_counted}
use Rattle.fr_recording.specs.Records.{Record}
use Rattle.fr_schedule.specs.Clusters.{IsCluster}
use Rattle.fr_schedule.specs.Descriptions.{Description}
use Rattle.fr_slots.proofs.PlaceLemmas.{same_some}
use Rattle.fr_slots.specs.Admission.{is_channel}
use Rattle.fr_slots.specs.declared.channel.Channel.{Channel}
use Rattle.fr_slots.specs.declared.channel.Channel.TheVariants.{A, B}
use Rattle.fr_slots.specs.History.{AllAfter}
use Rattle.fr_slots.specs.Windows.{Opportunity, static_window, opens_cycle, is_static, is_first_slot}

-- ---- the cycles of the run

-- the first window of a cycle comes only if another cycle is left
left_by : (c : Standpoint) (w : Opportunity) → 1 ≤ c.a.begins → 1 ≤ c.b.begins → (1 ≤ c.windows → 1 ≤ c.statics)
    → opens_cycle w ≡ true → next_of c ≡ Some w → c.begun < c.cycles
left_by c w a b some opens e = by (nat_lt c.begun c.cycles) refl (c.windows == 0) refl e
  where
    static_shut : (n : ℕ) → 1 ≤ n → Some (static_window c.windows (cycle_of c) (n + 1)) ≡ Some w → ⊥
    static_shut n one f =
        let shut : opens_cycle w ≡ false = ap opens_cycle (sym (same_some _ w f))
        ∙ ne_eqb (n + 1) 1 (λ same. let none : ⊥ = omega (arith, one, same) in none) in
        let no : ⊥ = cc (sym opens ∙ shut) in no

    dynamic_shut : (o : Option ℕ) → least_of (next_in c.a)
        (next_in c.b) ≡ o → option_map (opening c) o ≡ Some w → ⊥
    dynamic_shut None is f = let none : ⊥ = cc in none
    dynamic_shut (Some m) is f =
        let low = some_minislot c m a b is in
        let still : is_static w ≡ false = ap is_static (sym (same_some _ w f))
        ∙ ne_eqb m 0 (λ none. let no : ⊥ = omega (arith, none, low) in no) in
        let shut : opens_cycle w ≡ false = ap (λ (t : Bool). t && is_first_slot w.a) still in
        let no : ⊥ = cc (sym opens ∙ shut) in no

    inner_shut : 1 ≤ c.windows → (t : Bool)
        → option_or (cond t (Some (static_window c.windows (cycle_of c) (c.statics + 1))) (dynamic_next c)) None
        ≡ Some w
        → ⊥
    inner_shut one true f = static_shut c.statics (some one) f
    inner_shut one false f = dynamic_by (least_of (next_in c.a)
        (next_in c.b)) refl f
      where
        or_none : (o : Option Opportunity) → option_or o None ≡ o
        or_none None = refl
        or_none (Some x) = refl

        dynamic_by : (o : Option ℕ) → least_of (next_in c.a)
            (next_in c.b) ≡ o → option_or (dynamic_next c) None ≡ Some w → ⊥
        dynamic_by o is g = dynamic_shut o is (ap (option_map (opening c)) (sym is) ∙ sym (or_none (dynamic_next c))
            ∙ g)

    by : (left : Bool) → nat_lt c.begun c.cycles ≡ left → (empty : Bool) → (c.windows == 0) ≡ empty
        → cond empty (cond left (Some (static_window c.windows (c.begun % 64) 1)) None)
        (option_or (inner_next c) (cond left (Some (static_window c.windows (c.begun % 64) 1)) None)) ≡ Some w
        → c.begun < c.cycles
    by true is empty none f = ltb-true c.begun c.cycles is
    by false is true none f = absurd (let no : ⊥ = cc in no)
    by false is false other f = absurd (inner_shut (above c.windows other) (nat_lt c.statics c.params.static_slots) f)
      where
        above : (n : ℕ) → (n == 0) ≡ false → 1 ≤ n
        above zero g = absurd (let no : ⊥ = cc in no)
        above (suc n) g = omega arith

-- ---- the frames of the run

-- the frames that a listener receives in a window after these are those of the map
abbrev pub IsMapped : Description → FrameMap → List Recorded → Recorded → Type 0
IsMapped d m before x = (channel : Channel) (l : IsLoud d channel x) → 1 ≤ cycles_begun (before ++ x ∷ [])
    → m channel (cycles_begun (before ++ x ∷ []) - 1) l.frame.id l.frame

abbrev pub AreMapped : Description → FrameMap → List Recorded → List Recorded → Type 0
AreMapped d m before [] = Unit {0}
AreMapped d m before (x ∷ rs) = IsMapped d m before x × AreMapped d m (before ++ x ∷ []) rs

module _ (r : Rules) (pair : IsPair r) (static_few : r.cluster.params.static_slots ≤ 1023) (m : FrameMap)
    (alike : AreAlike r.cluster m) (lawful : IsCluster r.cluster)
    (all : (channel : Channel) → judges r channel ≡ true) (cycles : ℕ) (few : cycles + 2 ≤ most_counted)
    (clocked : (channel : Channel) (cycle : ℕ) → cycle < 64 → is_clocked r.cluster channel cycle ≡ true) where
  abbrev course : List Recorded → Standpoint
  course rs = course_of r.cluster.params cycles rs

  abbrev IsBetween : State → Spot → Spot → ℕ → Type 0
  IsBetween s t u n = Between r pair static_few m alike lawful all s t u n

  -- ---- a whole cycle

  over_at : (channel : Channel) (c : Standpoint) (t : Spot) → IsAt r.cluster channel c t
      → r.cluster.params.static_slots ≤ c.statics → IsOver r.cluster channel t
  over_at channel c t at over = λ k low high. at.free k low (omega (arith, high, over))

  spoke_at : (channel : Channel) (c : Standpoint) (t : Spot) → IsAt r.cluster channel c t
      → r.cluster.params.static_slots ≤ c.statics → t ≡ cycle_start r.cluster.params t.cycle → ⊥
  spoke_at channel c t at over start =
      let fits : t.cycle < 64 = subst (λ (n : ℕ). n < 64) (sym at.cycle_is) (cycle_below c) in
      let none : t.last ≡ 0 = ap (λ (x : Spot). x.last) start in
      not_free r.cluster channel t.cycle
      (has_owner r.cluster channel t.cycle lawful fits (clocked channel t.cycle fits))
      (λ k low high. at.free k (omega (arith, low, none)) (omega (arith, high, over)))

  -- ---- a window

  -- after some windows, with these records and packets left
  record Stands (before : List Recorded) (s : State) (t u : Spot) : Type 0 where
    between : IsBetween s t u (cycles_begun before)
    at_a : IsAt r.cluster A (course before) t
    at_b : IsAt r.cluster B (course before) u
    few_cycles : cycles_begun before ≤ cycles

  record Goes (before : List Recorded) (s : State) (records : List Record) (packets : List (List ℕ)) : Type 0 where
    state : State
    first : Spot
    second : Spot
    rest : List Record
    same : judged s records ≡ judged state rest
    in_order : AreInOrder rest packets
    stands : Stands before state first second

  goes_by : (before : List Recorded) (x : Recorded) (c : Standpoint) (n : ℕ) → course (before ++ x ∷ []) ≡ c
      → c.begun ≡ n → 1 ≤ n → n ≤ cycles → IsMapped r.cluster m before x → (t u : Spot)
      → (a : Moves r pair static_few m alike lawful all A c t x)
      → (b : Moves r pair static_few m alike lawful all B c u x) → (s : State) (records : List Record)
      → (packets : List (List ℕ)) → AreInOrder records (packets_of_both r.cluster.params (x ∷ []) ++ packets)
      → IsBetween s t u n → Goes (before ++ x ∷ []) s records packets
  goes_by before x c n is begun some low maps t u a b s records packets in_order between =
      let number : cycles_begun (before ++ x ∷ []) ≡ n = ap (λ (y : Standpoint). y.begun) is ∙ begun in
      let done = window_both r pair static_few m alike lawful all x c n some (omega (arith, low, few)) begun
      (λ channel l. subst (λ (k : ℕ). m channel (k - 1) l.frame.id l.frame) number
      (maps channel l (omega (arith, number, some)))) t u a b records packets s
      (subst (AreInOrder records) same_packets in_order) between in
      record {
        state = done.state;
        first = moved r pair static_few m alike lawful all A c t x a;
        second = moved r pair static_few m alike lawful all B c u x b;
        rest = done.rest;
        same = done.same;
        in_order = done.in_order;
        stands = record {
          between = subst (λ (k : ℕ). IsBetween done.state (moved r pair static_few m alike lawful all A c t x a)
              (moved r pair static_few m alike lawful all B c u x b) k) (sym number) done.between;
          at_a = subst (λ (y : Standpoint). IsAt r.cluster A y (moved r pair static_few m alike lawful all A c t x a))
              (sym is) (moved_at r pair static_few m alike lawful all A c t x a);
          at_b = subst (λ (y : Standpoint). IsAt r.cluster B y (moved r pair static_few m alike lawful all B c u x b))
              (sym is) (moved_at r pair static_few m alike lawful all B c u x b);
          few_cycles = omega (arith, number, low);
        };
      }
    where
      same_packets : packets_of_both r.cluster.params (x ∷ []) ++ packets
          ≡ packets_seen A (heard r.cluster.params x A)
          ++ (packets_seen B (heard r.cluster.params x B) ++ packets)
      same_packets =
          append_assoc (packets_seen A (heard r.cluster.params x A))
          (packets_seen B (heard r.cluster.params x B) ++ []) packets
          ∙ ap (λ (l : List (List ℕ)). packets_seen A (heard r.cluster.params x A) ++ l)
          (append_assoc (packets_seen B (heard r.cluster.params x B)) [] packets)

  -- the first window of a cycle
  goes_first : (before : List Recorded) (x : Recorded) → IsHeardAt r.cluster A x → IsHeardAt r.cluster B x
      → x.window ≡ static_window (course before).windows ((course before).begun % 64) 1
      → cycles_begun before + 1 ≤ cycles → IsMapped r.cluster m before x → (s : State) (records : List Record)
      (packets : List (List ℕ))
      → AreInOrder records (packets_of_both r.cluster.params (x ∷ []) ++ packets) → (t u : Spot)
      → (j : IsBetween s t u (cycles_begun before))
      → ((cycles_begun before ≡ 0) ⊎ (IsOver r.cluster A t × (t ≡ cycle_start r.cluster.params t.cycle → ⊥)))
      → ((cycles_begun before ≡ 0) ⊎ (IsOver r.cluster B u × (u ≡ cycle_start r.cluster.params u.cycle → ⊥)))
      → Goes (before ++ x ∷ []) s records packets
  goes_first before x a b is more maps s records packets in_order t u j over_a over_b =
      let n : ℕ = cycles_begun before in
      let w : Spot = cycle_start r.cluster.params (cycles_begun before % 64) in
      let turned_a = turn_cycle r pair static_few m alike A (view (turn s A)).mine t
      (cycle_start r.cluster.params (cycles_begun before % 64)) (cycles_begun before) j.stage refl refl over_a in
      let turned_b = turn_cycle r pair static_few m alike B (view (turn s A)).other u
      (cycle_start r.cluster.params (cycles_begun before % 64)) (cycles_begun before) j.aside refl refl over_b in
      let next = new_cycle r pair static_few m alike A (view (turn s A)) t u
      (cycle_start r.cluster.params (cycles_begun before % 64))
      (cycle_start r.cluster.params (cycles_begun before % 64)) (cycles_begun before) j turned_a turned_b in
      goes_by before x (first_passed (course before)) (cycles_begun before + 1)
      (after_first r.cluster.params cycles before x (course before).windows ((course before).begun % 64) is) refl
      (omega arith) more maps (cycle_start r.cluster.params (cycles_begun before % 64))
      (cycle_start r.cluster.params (cycles_begun before % 64))
      (moves_first r pair static_few m alike lawful all A (course before) x a refl is)
      (moves_first r pair static_few m alike lawful all B (course before) x b refl is) s records packets in_order next

  goes : (before : List Recorded) (x : Recorded) → IsHeardAt r.cluster A x → IsHeardAt r.cluster B x
      → following r.cluster.params cycles before ≡ Some x.window → IsNextOf (course before) x.window
      → IsMapped r.cluster m before x → (s : State) (records : List Record) (packets : List (List ℕ))
      → AreInOrder records (packets_of_both r.cluster.params (x ∷ []) ++ packets) → (t u : Spot) → Stands before s t u
      → Goes (before ++ x ∷ []) s records packets
  goes before x a b follows (inl first) maps s records packets in_order t u is =
      let at = is.at_a in
      let over : r.cluster.params.static_slots ≤ (course before).statics = first.over at.some_window in
      let left = left_by (course before) x.window at.begins_a at.begins_b (λ some. at.some_static)
      (ap opens_cycle first.is) (next_is r.cluster.params cycles before ∙ follows) in
      goes_first before x a b first.is (omega (arith, left)) maps s records packets in_order t u is.between
      (inr (over_at A (course before) t is.at_a over, spoke_at A (course before) t is.at_a over))
      (inr (over_at B (course before) u is.at_b over, spoke_at B (course before) u is.at_b over))
  goes before x a b follows (inr (inl static)) maps s records packets in_order t u is =
      let at = is.at_a in
      goes_by before x (static_passed (course before)) (cycles_begun before)
      (after_static r.cluster.params cycles before x (course before).windows (cycle_of (course before))
      (course before).statics at.some_static static.1.is) refl at.some_cycle is.few_cycles maps t u
      (moves_static r pair static_few m alike lawful all A (course before) t x a is.at_a static.1.further static.1.is)
      (moves_static r pair static_few m alike lawful all B (course before) u x b is.at_b static.1.further static.1.is)
      s records packets in_order is.between
  goes before x a b follows (inr (inr dynamic)) maps s records packets in_order t u is =
      let at = is.at_a in
      let low = some_minislot (course before) dynamic.1.minislot at.begins_a at.begins_b dynamic.1.least in
      goes_by before x (dynamic_passed (course before) dynamic.1.minislot
      (longest A x.sent) (longest B x.sent)) (cycles_begun before)
      (after_dynamic r.cluster.params cycles before x dynamic.1.minislot low dynamic.1.is) refl at.some_cycle
      is.few_cycles maps t u
      (moves_dynamic r pair static_few m alike lawful all A (course before) dynamic.1.minislot t x a is.at_a
      dynamic.1.is low dynamic.1.over)
      (moves_dynamic r pair static_few m alike lawful all B (course before) dynamic.1.minislot u x b is.at_b
      dynamic.1.is low dynamic.1.over) s records packets in_order is.between

  -- ---- all windows

  packets_more : (x : Recorded) (rs : List Recorded) → packets_of_both r.cluster.params (x ∷ rs)
      ≡ packets_of_both r.cluster.params (x ∷ []) ++ packets_of_both r.cluster.params rs
  packets_more x rs =
      let a : List (List ℕ) = packets_seen A (heard r.cluster.params x A) in
      let b : List (List ℕ) = packets_seen B (heard r.cluster.params x B) in
      let more : List (List ℕ) = packets_of_both r.cluster.params rs in
      sym (append_assoc a (b ++ []) more ∙ ap (λ (l : List (List ℕ)). a ++ l) (append_assoc b [] more))

  walk : (before rs : List Recorded) → AllAfter (IsRecorded r.cluster cycles) before rs
      → AreHeardAt r.cluster A rs → AreHeardAt r.cluster B rs → AreMapped r.cluster m before rs → (s : State)
      (records : List Record) → AreInOrder records (packets_of_both r.cluster.params rs) → (t u : Spot)
      → Stands before s t u → Goes (before ++ rs) s records []
  unfolding AllAfter
  walk before [] recorded a b maps s records in_order t u is =
      subst (λ (l : List Recorded). Goes l s records []) (sym (append-nil before)) (record {
        state = s;
        first = t;
        second = u;
        rest = records;
        same = refl;
        in_order = in_order;
        stands = is;
      })
  walk before (x ∷ rs) recorded a b maps s records in_order t u is =
      let step = goes before x a.0 b.0 recorded.0.0 (next_window r.cluster.params cycles before x.window recorded.0.0)
      maps.0 s records (packets_of_both r.cluster.params rs)
      (subst (AreInOrder records) (packets_more x rs) in_order) t u is in
      let rest = walk (before ++ x ∷ []) rs recorded.1 a.1 b.1 maps.1 step.state step.rest step.in_order step.first
      step.second step.stands in
      subst (λ (l : List Recorded). Goes l s records []) (append_assoc before (x ∷ []) rs) (record {
        state = rest.state;
        first = rest.first;
        second = rest.second;
        rest = rest.rest;
        same = step.same ∙ rest.same;
        in_order = rest.in_order;
        stands = rest.stands;
      })

  -- foreign records alone are left
  drain : (records : List Record) (s : State) (t u : Spot) (n : ℕ) → AreInOrder records [] → IsBetween s t u n
      → IsBetween (judged s records) t u n
  drain [] s t u n none is = is
  drain (x ∷ records) s t u n (inl foreign) is =
      drain records (judge s x) t u n foreign.1
      (foreign_between r pair static_few m alike lawful all s x t u n foreign.0 is)
  drain (x ∷ records) s t u n (inr own) is =
      absurd (let no : ◌≡◌ {A = List (List ℕ)} [] (own.1 ∷ own.2) = own.3 in let wrong : ⊥ = cc in wrong)

  -- ---- the end

  cleared_view : (s : State) → view (turn (cleared s) A) ≡ view (turn s A)
  cleared_view s = by (is_channel s.channel A)
    where
      by : (b : Bool) → view (cond b (cleared s) (turned (cleared s))) ≡ view (cond b s (turned s))
      by true = refl
      by false = refl

  ends_clean : (s : State) (t u : Spot) (n : ℕ) → 1 ≤ n → n ≤ cycles → IsBetween s t u n
      → IsOver r.cluster A t → (t ≡ cycle_start r.cluster.params t.cycle → ⊥)
      → IsOver r.cluster B u → (u ≡ cycle_start r.cluster.params u.cycle → ⊥)
      → has_finding (finish s true) ≡ false
  unfolding finish
  ends_clean s t u n some low is over_a spoke_a over_b spoke_b =
      let x : State = turn (cleared s) A in
      let j = subst (λ (v : View). JointOf r pair static_few m alike A v t u n) (sym (cleared_view s)) is in
      let done = settles r pair static_few m alike A (turn (cleared s) A) t u n some (omega
      (arith, low, few)) spoke_a j in
      let quiet = ends_quiet r pair static_few m alike A (settle (turn (cleared s) A) None) t u n done over_a in
      let rules_are : (cleared s).rules ≡ r = sym (turn_rules (cleared s) A) ∙ j.clean.rules_are in
      let first : finish_on (cleared s) A true ≡ settle (turn (cleared s) A) None =
      end_channel (cleared s) A (ap (λ (q : Rules). judges q A) rules_are ∙ all A) ∙ quiet in
      let y : State = settle (turn (cleared s) A) None in
      let turned_is : turn (settle (turn (cleared s) A) None) B ≡ turned (settle (turn (cleared s) A) None) =
      turn_b (settle (turn (cleared s) A) None) done.joint.clean.channel_is in
      let swap : JointOf r pair static_few m alike B (view (turn (settle (turn (cleared s) A) None) B)) u t n =
      subst (λ (z : State). JointOf r pair static_few m alike B (view z) u t n) (sym turned_is)
      (swap_a r pair static_few m alike (view (settle (turn (cleared s) A) None)) t u n done.joint) in
      let last = settles r pair static_few m alike B (turn (settle (turn (cleared s) A) None) B) u t n some
      (omega (arith, low, few)) spoke_b swap in
      let still = ends_quiet r pair static_few m alike B (settle (turn (settle (turn (cleared s) A) None) B) None) u t n
      last over_b in
      let second : finish_on (settle (turn (cleared s) A) None) B true
      ≡ settle (turn (settle (turn (cleared s) A) None) B) None =
      end_channel (settle (turn (cleared s) A) None) B
      (ap (λ (q : Rules). judges q B) done.joint.clean.rules_are ∙ all B) ∙ still in
      ap (λ (z : State). has_finding (finish_on z B true)) first ∙ ap has_finding second
      ∙ found_none (settle (turn (settle (turn (cleared s) A) None) B) None) last.joint.clean.found

  -- ---- the start

  none_opened : (n i : ℕ) → (slice_index_or (replicate n not_shown) i
      (record { opened = 0; frame = no_frame })).opened ≡ 0
  none_opened n i = elim (cases_lt i n) [
    | inl within ↦ ap (λ (x : Shown). x.opened)
        (get_or-replicate n i not_shown (record { opened = 0; frame = no_frame }) within)
    | inr past ↦ ap (λ (x : Shown). x.opened) (get_or_past (replicate n not_shown) i
        (record { opened = 0; frame = no_frame }) (omega (arith, length-replicate n not_shown, past)))
  ]

  fresh_opened : (slot : ℕ) (channel : Channel) → (entry none_shown slot channel).opened ≡ 0
  unfolding none_shown
  fresh_opened slot channel = none_opened 2048 (static_place slot channel)

  fresh_shown : (channel : Channel) (l : LaneView) → l.cycles ≡ 0 → ShownOk m channel none_shown l
  fresh_shown channel l none slot some low =
      let opened = fresh_opened slot channel in (
        omega (arith, opened),
        λ one. absurd (let no : ⊥ = omega (arith, one, none) in no),
      )

  start_spot : Spot
  start_spot = cycle_start r.cluster.params 0

  fresh_between : IsBetween (fresh r) (cycle_start r.cluster.params 0) (cycle_start r.cluster.params 0) 0
  unfolding fresh
  fresh_between = record {
    clean = record { found = refl; away = refl; rules_are = refl; channel_is = refl };
    few = omega arith;
    stage = inl (record { held = refl; current = refl; cycles = refl; few = omega arith; start = refl });
    aside = inl (record { held = refl; current = refl; cycles = refl; few = omega arith; start = refl });
    counts = λ c current. absurd (let none : ⊥ = cc in none);
    counts_aside = λ c current. absurd (let none : ⊥ = cc in none);
    shown = fresh_shown A (lane_view fresh_lane) refl;
    shown_aside = fresh_shown B (lane_view fresh_lane) refl;
    alone = omega arith;
    alone_aside = omega arith;
    later = λ h held. absurd (let none : ⊥ = cc in none);
    later_aside = λ h held. absurd (let none : ⊥ = cc in none);
  }

  -- ---- the whole run

  pub none_found_in : (rs : List Recorded) → AllAfter (IsRecorded r.cluster cycles) [] rs → AreHeardAt r.cluster A rs
      → AreHeardAt r.cluster B rs → AreMapped r.cluster m [] rs → 1 ≤ length rs
      → r.cluster.params.static_slots ≤ statics_of (this_cycle rs) → 1 ≤ cycles → (records : List Record)
      → AreInOrder records (packets_of_both r.cluster.params rs)
      → has_finding (finish (judged (fresh r) records) true) ≡ false
  unfolding AllAfter
  none_found_in [] recorded a b maps some end left records in_order =
      absurd (let none : ⊥ = omega (arith, some) in none)
  none_found_in (x ∷ rs) recorded a b maps some end left records in_order =
      by (next_window r.cluster.params cycles [] x.window recorded.0.0)
    where
      whole : Goes (x ∷ []) (fresh r) records (packets_of_both r.cluster.params rs)
          → has_finding (finish (judged (fresh r) records) true) ≡ false
      whole step =
          let rest = walk (x ∷ []) rs recorded.1 a.1 b.1 maps.1 step.state step.rest step.in_order step.first
          step.second step.stands in
          let drained = drain rest.rest rest.state rest.first rest.second (cycles_begun (x ∷ rs)) rest.in_order
          rest.stands.between in
          let at_a = rest.stands.at_a in
          ap (λ (y : State). has_finding (finish y true)) (step.same ∙ rest.same)
          ∙ ends_clean (judged rest.state rest.rest) rest.first rest.second (cycles_begun (x ∷ rs)) at_a.some_cycle
          rest.stands.few_cycles drained (over_at A (course (x ∷ rs)) rest.first rest.stands.at_a end)
          (spoke_at A (course (x ∷ rs)) rest.first rest.stands.at_a end)
          (over_at B (course (x ∷ rs)) rest.second rest.stands.at_b end)
          (spoke_at B (course (x ∷ rs)) rest.second rest.stands.at_b end)

      by : IsNextOf (course []) x.window → has_finding (finish (judged (fresh r) records) true) ≡ false
      by (inl first) = whole (goes_first [] x a.0 b.0 first.is left maps.0 (fresh r) records
          (packets_of_both r.cluster.params rs) (subst (AreInOrder records) (packets_more x rs) in_order)
          (cycle_start r.cluster.params 0) (cycle_start r.cluster.params 0) fresh_between (inl refl) (inl refl))
      by (inr (inl static)) = absurd (let one = static.0 in let none : ⊥ = omega (arith, one) in none)
      by (inr (inr dynamic)) = absurd (let one = dynamic.0 in let none : ⊥ = omega (arith, one) in none)
