-- Each step of the judgement has a finding, or the cluster allows its frame.
use Rattle.std.proofs.Common.{◌≡◌, ℕ, zero, suc, ◌+◌, ◌-◌, ◌/◌, ◌*◌, ◌%◌, ◌<◌, ◌≤◌, Bool, true, false, cond, List, refl}
use Rattle.std.proofs.Common.{sym, ap, subst, ◌∙◌, arith, length, ◌⊎◌, inl, inr}
use Rattle.std.proofs.lemmas.Bool.{cond-true, cond-false, cases_lt, eqb-true, leb-false, eq-eqb}
use Rattle.std.proofs.lemmas.List.{get_or-set_same, length-replicate}
use Rattle.std.specs.Prelude.{Option, Some, None, min, nat_le, nat_lt, ◌==◌, ◌||◌, slice_index, pos}
use Rattle.std.specs.Option.{option_or}
use Rattle.fr_frame.specs.Fields.{Fields}
use Rattle.fr_hearing.proofs.CameLemmas.{IsPlain, core_at}
use Rattle.fr_hearing.proofs.ConverseLemmas.{owners_from, senders_from, minislot_from, sum_within, sum_in_time}
use Rattle.fr_hearing.proofs.ConverseLemmas.{IsLawful, next_from}
use Rattle.fr_hearing.proofs.CoreLemmas.{Core, core, skip_none, none_at}
use Rattle.fr_hearing.proofs.OpenLemmas.{core_before, begin_core, before_none, over_none, listen_none, untimed_distance}
use Rattle.fr_hearing.proofs.SpelledLemmas.{IsSized}
use Rattle.fr_hearing.proofs.ToldLemmas.{Told, find_told, miss_keeps, came_keeps, listen_keeps, keep_told}
use Rattle.fr_hearing.proofs.ToldLemmas.{static_before, begun_at, closed_keeps, after_told}
use Rattle.fr_hearing.specs.Heard.{Spot, cycle_start, AreFree, IsAllowed, IsAllowedAs, IsFirst, IsNext, IsOver}
use Rattle.fr_hearing.specs.Heard.{IsDynamic, static_end as end_of}
use Rattle.fr_judging.specs.declared.lane.Held.{Held}
use Rattle.fr_judging.specs.declared.lane.Lane.{Lane}
use Rattle.fr_judging.specs.declared.line.At.{At}
use Rattle.fr_judging.specs.declared.rules.Rules.{Rules}
use Rattle.fr_judging.specs.Distances.{distance_to, by_counts, steps_of, steps_from, time_finding}
use Rattle.fr_judging.specs.Judging.{State, find, find_some, miss, miss_due, miss_of, tell_missing, skipped, skip_to}
use Rattle.fr_judging.specs.Judging.{skip_before, end_cycle, end_in, static_end, count_missing, with_away, away_at}
use Rattle.fr_judging.specs.Judging.{slot_place, none_found, none_away, back, show, fix, keep_frame, static_came}
use Rattle.fr_judging.specs.Judging.{static_found, dynamic_came, came_with, came, channels_finding, placed_finding}
use Rattle.fr_judging.specs.Judging.{is_placed, listen, open_first, tell_gap, enter, leave, open_after, open_closed}
use Rattle.fr_judging.specs.Judging.{open_next}
use Rattle.fr_judging.specs.Lanes.{passed, opens_at, after_dynamic as dynamic_lane}
use Rattle.fr_judging.specs.Rules.{due_at, are_both}
use Rattle.fr_judging.specs.Tallies.{away_place, channel_number, span_between, long_counted}
use Rattle.fr_logged.specs.declared.due.Due.{Due}
use Rattle.fr_logged.specs.declared.finding.Finding.{Finding}
use Rattle.fr_logged.specs.declared.finding.Name.TheVariants as name
use Rattle.fr_logged.specs.declared.finding.Word.TheVariants.{Absent, Number}
use Rattle.fr_logged.specs.Findings.{bare, with_numbers}
use Rattle.fr_logged.specs.Logged.{place_of as frame_place}
use Rattle.fr_logged.specs.Rules.{static_finding, static_rules, dynamic_finding, dynamic_rules, minislot_finding}
use Rattle.fr_recording.specs.Numbers.{counted, most_counted}
use Rattle.fr_slots.specs.declared.channel.Channel.{Channel}
use Rattle.fr_slots.specs.declared.channel.Channel.TheVariants.{A, B}

-- ---- a static slot without a frame

place_within : (a b c : ℕ) → c ≤ 1 → a % 16 * 2048 + (b % 1024 * 2 + c) < 32768
place_within a b c few = omega (arith, few)

channel_few : (channel : Channel) → channel_number channel ≤ 1
channel_few A = omega arith
channel_few B = omega arith

away_within : (slot : ℕ) (channel : Channel) (node : ℕ) → away_place slot channel node < 32768
away_within slot channel node = place_within node slot (channel_number channel) (channel_few channel)

length-away : length none_away ≡ 32768
unfolding none_away
length-away = length-replicate {A = ℕ} 32768 0

counted_one : counted 0 1 ≡ 1
counted_one = refl

-- the first miss of an owner is told
miss_told : (s : State) (at : Option At) (cycle slot : ℕ) (d : Due) → s.found ≡ none_found → s.away ≡ none_away
    → due_at s.rules.cluster slot s.channel cycle ≡ Some d → Told (miss s at cycle slot)
unfolding miss miss_due miss_of tell_missing
miss_told s at cycle slot d found away is =
    let t : State = count_missing s slot in
    let place : ℕ = away_place slot s.channel d.node in
    let within : place < length s.away =
    omega (arith, away_within slot s.channel d.node, length-away, ap (λ (l : List ℕ). length l) away) in
    let before : slice_index s.away place ≡ 0 = ap (λ (l : List ℕ). slice_index l place) away ∙ none_at place in
    let u : State = with_away t slot d.node (counted (slice_index s.away place) 1) in
    let one : away_at u slot d.node ≡ 1 =
    get_or-set_same s.away place (counted (slice_index s.away place) 1) 0 within
    ∙ ap (λ (n : ℕ). counted n 1) before ∙ counted_one in
    subst (λ (o : Option Due). Told (miss_due s at cycle slot o)) (sym is)
    (subst Told (sym (cond-true (away_at u slot d.node == 1)
    (find u at (slot_place u cycle slot) (with_numbers name.Missing d.node u.mine.ill)) u
    (eq-eqb (away_at u slot d.node) 1 one)))
    (find_told u at (slot_place u cycle slot) (with_numbers name.Missing d.node u.mine.ill) found))

abbrev pub FreeIn : State → ℕ → ℕ → ℕ → Type 0
FreeIn s cycle from end =
    (k : ℕ) → from ≤ k → k < end → due_at s.rules.cluster k s.channel cycle ≡ None

one_more : (s : State) (cycle from n : ℕ) → FreeIn s cycle from (from + n)
    → due_at s.rules.cluster (from + n) s.channel cycle ≡ None → FreeIn s cycle from (from + suc n)
one_more s cycle from n free none k low high = elim (cases_lt k (from + n)) [
  | inl before ↦ free k low before
  | inr past ↦ let same : k ≡ from + n = omega (arith, past, high) in
      ap (λ (m : ℕ). due_at s.rules.cluster m s.channel cycle) same ∙ none
]

skipped_none : (s : State) (at : Option At) (cycle from n : ℕ) → FreeIn s cycle from (from + n)
    → skipped s at cycle from n ≡ s
unfolding skip_to
skipped_none s at cycle from n free =
    ap (skipped s at cycle from) (by n) ∙ skip_none s at cycle from (from + n) free
  where
    by : (m : ℕ) → m ≡ from + m - from
    by m = omega arith

skipped_is : (s : State) (at : Option At) (cycle from n : ℕ) → s.found ≡ none_found → s.away ≡ none_away
    → Told (skipped s at cycle from n) ⊎ FreeIn s cycle from (from + n)
unfolding skipped
skipped_is s at cycle from zero found away =
    inr (λ k low high. absurd (let none : ⊥ = omega (arith, low, high) in none))
skipped_is s at cycle from (suc n) found away = elim (skipped_is s at cycle from n found away) [
  | inl told ↦ inl (miss_keeps (skipped s at cycle from n) at cycle (from + n) told)
  | inr free ↦ by free (due_at s.rules.cluster (from + n) s.channel cycle) refl
]
  where
    by : FreeIn s cycle from (from + n) → (o : Option Due) → due_at s.rules.cluster (from + n) s.channel cycle ≡ o
        → Told (miss (skipped s at cycle from n) at cycle (from + n)) ⊎ FreeIn s cycle from (from + suc n)
    by free None is = inr (one_more s cycle from n free is)
    by free (Some d) is =
        inl (subst (λ (t : State). Told (miss t at cycle (from + n)))
        (sym (skipped_none s at cycle from n free)) (miss_told s at cycle (from + n) d found away is))

skip_is : (s : State) (at : Option At) (cycle from end : ℕ) → s.found ≡ none_found → s.away ≡ none_away
    → Told (skip_to s at cycle from end) ⊎ FreeIn s cycle from end
unfolding skip_to
skip_is s at cycle from end found away = elim (skipped_is s at cycle from (end - from) found away) [
  | inl told ↦ inl told
  | inr free ↦ inr (λ k low high. free k low (omega (arith, low, high)))
]

-- ---- at a place in a cycle

module _ (r : Rules) (channel : Channel) (plain : IsPlain r) where
  found_at : (s : State) (spot : Spot) → core s ≡ core_at r channel spot → s.found ≡ none_found
  found_at s spot e = ap (λ (c : Core). c.found) e

  away_of : (s : State) (spot : Spot) → core s ≡ core_at r channel spot → s.away ≡ none_away
  away_of s spot e = ap (λ (c : Core). c.away) e

  pub before_is : (s : State) (f : Fields) (at : At) (spot : Spot) → core s ≡ core_at r channel spot
      → Told (skip_before s f at)
      ⊎ AreFree r.cluster channel f.cycle (spot.last + 1) (min f.id (end_of r.cluster))
  unfolding skip_before
  before_is s f at spot e = elim (skip_is s (Some at) f.cycle (s.mine.last + 1) (min f.id (static_end s))
      (found_at s spot e) (away_of s spot e)) [
        | inl told ↦ inl told
        | inr free ↦ inr (subst (λ (c : Core). (k : ℕ) → c.last + 1 ≤ k
            → k < min f.id (c.rules.cluster.params.static_slots + 1)
            → due_at c.rules.cluster k c.channel f.cycle ≡ None) e free)
      ]

  pub end_is : (s : State) (at : Option At) (spot : Spot) → core s ≡ core_at r channel spot
      → Told (end_cycle s at) ⊎ IsOver r.cluster channel spot
  unfolding end_cycle
  end_is s at spot e = by (skip_is s at spot.cycle (s.mine.last + 1) (static_end s) (found_at s spot e)
      (away_of s spot e))
    where
      here : end_in s at s.mine.current ≡ skip_to s at spot.cycle (s.mine.last + 1) (static_end s)
      here = ap (end_in s at) (ap (λ (c : Core). c.current) e)

      by : Told (skip_to s at spot.cycle (s.mine.last + 1) (static_end s))
          ⊎ FreeIn s spot.cycle (s.mine.last + 1) (static_end s)
          → Told (end_in s at s.mine.current) ⊎ IsOver r.cluster channel spot
      by (inl told) = inl (subst Told (sym here) told)
      by (inr free) = inr (subst (λ (c : Core). (k : ℕ) → c.last + 1 ≤ k
          → k < c.rules.cluster.params.static_slots + 1
          → due_at c.rules.cluster k c.channel spot.cycle ≡ None) e free)

  -- ---- the frame of a slot

  static_told : (s : State) (f : Fields) (at : At) (d : Option Due) (x : Finding) → s.found ≡ none_found
      → static_finding d f ≡ Some x → Told (static_came s f at d)
  unfolding static_came
  static_told s f at d x none is =
      let wrong : Option Finding = time_finding s.rules s.mine f.id at.time (Some x) in
      subst (λ (o : Option Finding). Told (static_found s f at d (option_or o (channels_finding s f d)))) (sym is)
      (keep_told (fix (show (back s f at d) f d) f at wrong) f at x (static_before s f at d wrong ∙ none))

  dynamic_told : (s : State) (f : Fields) (at : At) (d : Option Due) (x : Finding) → s.found ≡ none_found
      → option_or (dynamic_finding d f) (placed_finding s f d) ≡ Some x → Told (dynamic_came s f at d)
  unfolding dynamic_came
  dynamic_told s f at d x none is =
      let t : State = record s { mine = dynamic_lane s.rules.cluster.params s.mine f (length f.payload / 2) } in
      subst (λ (o : Option Finding). Told (keep_frame t f at o)) (sym is) (keep_told t f at x none)

  -- the finding of a slot that opens late, in a whole recording
  placed_is : (s : State) (f : Fields) (d : Due) (spot : Spot) → r.whole ≡ true → core s ≡ core_at r channel spot
      → placed_finding s f (Some d) ≡ minislot_finding r.cluster.params.minislots d.latest
      (counted (min spot.minislot most_counted) (f.id - spot.slot))
  unfolding placed_finding
  placed_is s f d spot whole e =
      cond-true (is_placed s)
      (minislot_finding s.rules.cluster.params.minislots d.latest (opens_at s.mine f)) None
      (ap (λ (b : Bool). b || nat_lt 1 s.mine.cycles) (ap (λ (c : Core). c.rules.whole) e ∙ whole))
      ∙ ap (λ (c : Core). minislot_finding c.rules.cluster.params.minislots d.latest
      (counted c.minislot (f.id - c.slot))) e

  abbrev pub Minislots : Type 0
  Minislots = r.cluster.params.minislots < most_counted

  module _ (s : State) (f : Fields) (at : At) (spot : Spot) (e : core s ≡ core_at r channel spot) (sized : IsSized f)
      (lawful : IsLawful r.cluster.params.static_slots r.cluster.params.minislots f.id) (whole : r.whole ≡ true)
      (few : Minislots) where
    dynamic_from : (d : Due) → nat_le f.id r.cluster.params.static_slots ≡ false → dynamic_rules d f ≡ None
        → minislot_finding r.cluster.params.minislots d.latest
        (counted (min spot.minislot most_counted) (f.id - spot.slot)) ≡ None
        → IsDynamic r.cluster.params d spot f
    dynamic_from d above fits in_time =
        let is = senders_from d f sized.words sized.even fits in
        let both = minislot_from r.cluster.params.minislots d.latest
        (counted (min spot.minislot most_counted) (f.id - spot.slot)) in_time in
        record {
          has_data = is.has_data;
          no_sync = is.no_sync;
          no_startup = is.no_startup;
          words = is.words;
          preamble = is.preamble;
          some_minislot = lawful.dynamic (leb-false f.id r.cluster.params.static_slots above);
          within = sum_within spot.minislot (f.id - spot.slot) most_counted r.cluster.params.minislots few both.0;
          in_time = sum_in_time spot.minislot (f.id - spot.slot) most_counted r.cluster.params.minislots d.latest few
              both.0 both.1;
        }

    Answer : Option Due → Bool → Type 0
    Answer o b = Told (cond b (static_came s f at o) (dynamic_came s f at o)) ⊎ IsAllowed r.cluster channel spot f

    allowed_by : (d : Due) (b : Bool) → nat_le f.id r.cluster.params.static_slots ≡ b
        → due_at r.cluster f.id channel f.cycle ≡ Some d → IsAllowedAs r.cluster.params d spot f b
        → IsAllowed r.cluster channel spot f
    allowed_by d b kind due allowed = record {
      slot_is = lawful.some;
      count_fits = sized.count_fits;
      due = d;
      due_is = due;
      allowed = subst (IsAllowedAs r.cluster.params d spot f) (sym kind) allowed;
    }

    static_by : (d : Due) → nat_le f.id r.cluster.params.static_slots ≡ true
        → due_at r.cluster f.id channel f.cycle ≡ Some d → (o : Option Finding) → static_rules d f ≡ o
        → Told (static_came s f at (Some d)) ⊎ IsAllowed r.cluster channel spot f
    static_by d kind due None fits =
        inr (allowed_by d true kind due (owners_from d f sized.words sized.even fits))
    static_by d kind due (Some x) is = inl (static_told s f at (Some d) x (found_at s spot e) is)

    dynamic_by : (d : Due) → nat_le f.id r.cluster.params.static_slots ≡ false
        → due_at r.cluster f.id channel f.cycle ≡ Some d → (o late : Option Finding) → dynamic_rules d f ≡ o
        → minislot_finding r.cluster.params.minislots d.latest
        (counted (min spot.minislot most_counted) (f.id - spot.slot)) ≡ late
        → Told (dynamic_came s f at (Some d)) ⊎ IsAllowed r.cluster channel spot f
    dynamic_by d kind due (Some x) late is then =
        inl (dynamic_told s f at (Some d) x (found_at s spot e)
        (ap (λ (o : Option Finding). option_or o (placed_finding s f (Some d))) is))
    dynamic_by d kind due None None fits in_time =
        inr (allowed_by d false kind due (dynamic_from d kind fits in_time))
    dynamic_by d kind due None (Some x) fits is =
        inl (dynamic_told s f at (Some d) x (found_at s spot e)
        (ap (λ (o : Option Finding). option_or o (placed_finding s f (Some d))) fits
        ∙ placed_is s f d spot whole e ∙ is))

    came_by : (o : Option Due) (b : Bool) → due_at r.cluster f.id channel f.cycle ≡ o
        → nat_le f.id r.cluster.params.static_slots ≡ b
        → Told (cond b (static_came s f at o) (dynamic_came s f at o)) ⊎ IsAllowed r.cluster channel spot f
    came_by None true due kind = inl (static_told s f at None (bare name.Nobody) (found_at s spot e) refl)
    came_by None false due kind = inl (dynamic_told s f at None (bare name.Nobody) (found_at s spot e) refl)
    came_by (Some d) true due kind = static_by d kind due (static_rules d f) refl
    came_by (Some d) false due kind = dynamic_by d kind due (dynamic_rules d f) _ refl refl

    came_same : came s f at ≡ cond (nat_le f.id r.cluster.params.static_slots)
        (static_came s f at (due_at r.cluster f.id channel f.cycle))
        (dynamic_came s f at (due_at r.cluster f.id channel f.cycle))
    unfolding came
    came_same =
        ap (came_with s f at) (ap (λ (c : Core). due_at c.rules.cluster f.id c.channel f.cycle) e)
        ∙ ap (λ (c : Core). cond (nat_le f.id c.rules.cluster.params.static_slots)
        (static_came s f at (due_at r.cluster f.id channel f.cycle))
        (dynamic_came s f at (due_at r.cluster f.id channel f.cycle))) e

    pub came_is : Told (came s f at) ⊎ IsAllowed r.cluster channel spot f
    came_is = elim (came_by (due_at r.cluster f.id channel f.cycle) (nat_le f.id r.cluster.params.static_slots) refl
        refl) [
          | inl told ↦ inl (subst Told (sym came_same) told)
          | inr allowed ↦ inr allowed
        ]

    -- the other channel is silent
    heard_is : Told (came (listen s f at) f at) ⊎ IsAllowed r.cluster channel spot f
    heard_is = elim came_is [
      | inl told ↦ inl (subst (λ (t : State). Told (came t f at)) (sym (listen_none s f at
          (ap (λ (c : Core). are_both c.rules) e ∙ plain.one))) told)
      | inr allowed ↦ inr allowed
    ]

  -- ---- a frame that opens a cycle

  module _ (f : Fields) (at : At) (sized : IsSized f)
      (lawful : IsLawful r.cluster.params.static_slots r.cluster.params.minislots f.id) (whole : r.whole ≡ true)
      (few : Minislots) where
    start : Spot
    start = cycle_start r.cluster.params f.cycle

    -- the cycle has just begun
    begun_is : (t : State) → core t ≡ core_at r channel (cycle_start r.cluster.params f.cycle)
        → Told (came (listen (skip_before t f at) f at) f at) ⊎ IsFirst r.cluster channel f
    begun_is t e = elim (before_is t f at (cycle_start r.cluster.params f.cycle) e) [
      | inl told ↦ inl (came_keeps (listen (skip_before t f at) f at) f at
          (listen_keeps (skip_before t f at) f at told))
      | inr free ↦ by free (heard_is t f at (cycle_start r.cluster.params f.cycle) e sized lawful whole few)
    ]
      where
        by : AreFree r.cluster channel f.cycle 1 (min f.id (end_of r.cluster))
            → Told (came (listen t f at) f at)
            ⊎ IsAllowed r.cluster channel (cycle_start r.cluster.params f.cycle) f
            → Told (came (listen (skip_before t f at) f at) f at) ⊎ IsFirst r.cluster channel f
        by free (inl told) = inl (subst (λ (u : State). Told (came (listen u f at) f at))
            (sym (before_none (core_at r channel (cycle_start r.cluster.params f.cycle)) t f at e free)) told)
        by free (inr allowed) = inr (record { free = free; allowed = allowed })

    pub first_is : (s : State) → core s ≡ core_before r channel
        → Told (open_first s f at) ⊎ IsFirst r.cluster channel f
    unfolding open_first
    first_is s e = elim (begun_is (begun_at s f at) (ap (λ (c : Core). begin_core c f) e)) [
      | inl told ↦ inl (subst (λ (t : State). Told (came (listen t f at) f at))
          (sym (cond-true s.rules.whole (skip_before (begun_at s f at) f at) (begun_at s f at)
          (ap (λ (c : Core). c.rules.whole) e ∙ whole))) told)
      | inr first ↦ inr first
    ]

    passed_held : (l : Lane) (n : ℕ) → (passed l at n).held ≡ l.held
    passed_held l n = by (n == 1)
      where
        by : (b : Bool) → (let m : Lane = cond b
            (record l { span = span_between l.span l.began at.time; number = long_counted l.number n })
            (record l {
              gaps = counted l.gaps 1;
              lost = long_counted l.lost (n - 1);
              number = long_counted l.number n;
            }) in m).held ≡ l.held
        by true = refl
        by false = refl

    passed_heard : (l : Lane) (n : ℕ) → (passed l at n).heard ≡ l.heard
    passed_heard l n = by (n == 1)
      where
        by : (b : Bool) → (let m : Lane = cond b
            (record l { span = span_between l.span l.began at.time; number = long_counted l.number n })
            (record l {
              gaps = counted l.gaps 1;
              lost = long_counted l.lost (n - 1);
              number = long_counted l.number n;
            }) in m).heard ≡ l.heard
        by true = refl
        by false = refl

    entered : (s : State) (n : ℕ) → core (enter (leave s) f at n) ≡ begin_core (core s) f
    unfolding leave
    entered s n =
        ap (λ (h : Option Held). let c : Core = record (begin_core (core s) f) {
          held = h;
          heard = (passed (leave s).mine at n).heard;
        } in c) (passed_held (leave s).mine n)
        ∙ ap (λ (b : Bool). let c : Core = record (begin_core (core s) f) { heard = b } in c)
        (passed_heard (leave s).mine n)

    -- some cycles are left out
    gap_is : (u : State) (n : ℕ) → (n == 1) ≡ false → u.found ≡ none_found → Told (tell_gap u f at n)
    unfolding tell_gap
    gap_is u n other none =
        let x : Finding = record { name = name.Gap; expected = Absent; found = Number (pos (n - 1)) } in
        subst Told (sym (cond-false (n == 1) u (find u (Some at) (frame_place u.channel f) x) other))
        (find_told u (Some at) (frame_place u.channel f) x none)

    no_gap : (u : State) (n : ℕ) → (n == 1) ≡ true → tell_gap u f at n ≡ u
    unfolding tell_gap
    no_gap u n one =
        let x : Finding = record { name = name.Gap; expected = Absent; found = Number (pos (n - 1)) } in
        cond-true (n == 1) u (find u (Some at) (frame_place u.channel f) x) one

    heard_gap : (u : State) (n : ℕ) → Told (tell_gap u f at n)
        → Told (came (listen (tell_gap u f at n) f at) f at)
    heard_gap u n told =
        came_keeps (listen (tell_gap u f at n) f at) f at (listen_keeps (tell_gap u f at n) f at told)

    after_same : (s : State) (n : ℕ) → open_after s f at (by_counts n)
        ≡ came (listen (tell_gap (skip_before (enter (leave s) f at n) f at) f at n) f at) f at
    unfolding open_after find_some
    after_same s n = refl

    after_is : (s : State) (spot : Spot) (n : ℕ) (b : Bool) → core s ≡ core_at r channel spot → (n == 1) ≡ b
        → Told (open_after s f at (by_counts n)) ⊎ ((n ≡ 1) × IsFirst r.cluster channel f)
    after_is s spot n true e one = by (begun_is t here)
      where
        t : State
        t = enter (leave s) f at n

        here : core (enter (leave s) f at n) ≡ core_at r channel (cycle_start r.cluster.params f.cycle)
        here = entered s n ∙ ap (λ (c : Core). begin_core c f) e

        same : open_after s f at (by_counts n)
            ≡ came (listen (skip_before (enter (leave s) f at n) f at) f at) f at
        same = after_same s n ∙ ap (λ (u : State). came (listen u f at) f at)
            (no_gap (skip_before (enter (leave s) f at n) f at) n one)

        by : Told (came (listen (skip_before (enter (leave s) f at n) f at) f at) f at)
            ⊎ IsFirst r.cluster channel f
            → Told (open_after s f at (by_counts n)) ⊎ ((n ≡ 1) × IsFirst r.cluster channel f)
        by (inl told) = inl (subst Told (sym same) told)
        by (inr first) = inr (eqb-true n 1 one, first)
    after_is s spot n false e other = by (before_is (enter (leave s) f at n) f at
        (cycle_start r.cluster.params f.cycle) here)
      where
        here : core (enter (leave s) f at n) ≡ core_at r channel (cycle_start r.cluster.params f.cycle)
        here = entered s n ∙ ap (λ (c : Core). begin_core c f) e

        by : Told (skip_before (enter (leave s) f at n) f at)
            ⊎ AreFree r.cluster channel f.cycle 1 (min f.id (end_of r.cluster))
            → Told (open_after s f at (by_counts n)) ⊎ ((n ≡ 1) × IsFirst r.cluster channel f)
        by (inl told) = inl (after_told s f at (by_counts n) told)
        by (inr free) =
            let same : skip_before (enter (leave s) f at n) f at ≡ enter (leave s) f at n =
            before_none (core_at r channel (cycle_start r.cluster.params f.cycle)) (enter (leave s) f at n) f at here
            free in
            inl (subst Told (sym (after_same s n))
            (heard_gap (skip_before (enter (leave s) f at n) f at) n
            (subst (λ (u : State). Told (tell_gap u f at n)) (sym same)
            (gap_is (enter (leave s) f at n) n other
            (found_at (enter (leave s) f at n) (cycle_start r.cluster.params f.cycle) here)))))

    pub next_is : (s : State) (spot : Spot) → core s ≡ core_at r channel spot → spot.cycle < 64
        → Told (open_next s f at) ⊎ IsNext r.cluster channel spot f
    next_is s spot e fits = elim (end_is s (Some at) spot e) [
      | inl told ↦ inl (closed_keeps (end_cycle s (Some at)) f at told)
      | inr over ↦ by over (after_is s spot n (n == 1) e refl)
    ]
      where
        n : ℕ
        n = steps_of spot.cycle f.cycle

        distance : distance_to s.rules s.mine f at.time ≡ by_counts (steps_of spot.cycle f.cycle)
        distance = untimed_distance s.rules (steps_from s.mine.current f.cycle) s.mine.first f.id s.mine.began at.time
            (ap (λ (c : Core). c.rules.macrotick == 0) e ∙ plain.untimed)
            ∙ ap by_counts (ap (λ (c : Core). steps_from c.current f.cycle) e)

        same : IsOver r.cluster channel spot
            → open_next s f at ≡ open_after s f at (by_counts (steps_of spot.cycle f.cycle))
        same over = ap (λ (t : State). open_closed t f at) (over_none r channel s (Some at) spot e over)
            ∙ ap (open_after s f at) distance

        by : IsOver r.cluster channel spot
            → Told (open_after s f at (by_counts (steps_of spot.cycle f.cycle)))
            ⊎ ((steps_of spot.cycle f.cycle ≡ 1) × IsFirst r.cluster channel f)
            → Told (open_next s f at) ⊎ IsNext r.cluster channel spot f
        by over (inl told) = inl (subst Told (sym (same over)) told)
        by over (inr is) = inr (record {
          next_cycle = next_from spot.cycle f.cycle fits sized.count_fits is.0;
          over = over;
          first = is.1;
        })
