-- Cycles in which a ready commit of a buffer isn't offered: those of other buffers, and those that hosts lead along a
-- way on which the slot of the buffer comes too late.
use Rattle.std.proofs.Common.{◌≡◌, ℕ, zero, suc, ◌+◌, ◌-◌, ◌*◌, ◌%◌, ◌<◌, ◌≤◌, Bool, true, false, not, cond, ◌&&◌, ◌||◌}
use Rattle.std.proofs.Common.{◌⊎◌, inl, inr, List, [], ◌∷◌, ◌++◌, length, length-append, Some, refl, sym, ap, subst}
use Rattle.std.proofs.Common.{◌∙◌, arith, slice_get, is_some}
use Rattle.std.proofs.lemmas.Bool.{leb-false}
use Rattle.std.proofs.lemmas.List.{append-nil, append_assoc}
use Rattle.std.proofs.lemmas.Nat.{mod_below}
use Rattle.fr_bus.specs.Courses.{opportunities}
use Rattle.fr_bus.specs.Record.{Recorded}
use Rattle.fr_bus.specs.Windows.{cycles_begun, this_cycle, counts_on, is_row_of}
use Rattle.fr_core.proofs.CaseLemmas.{both_first}
use Rattle.fr_core.specs.Worlds.{WorldState}
use Rattle.fr_guarantees.proofs.DelayLemmas.{IsOver, keeps_over, late_mute, lower_mute, static_mute, way_mute}
use Rattle.fr_guarantees.proofs.ExactLemmas.{can_send}
use Rattle.fr_guarantees.proofs.HoldingLemmas.{only_kept}
use Rattle.fr_guarantees.proofs.LeadLemmas.{leads_on}
use Rattle.fr_guarantees.proofs.PassingLemmas.{IsAt, AreMute, IsPast, past_more, passes_silent}
use Rattle.fr_guarantees.proofs.ProgressLemmas.{windows_fit, begun_next, counts_next}
use Rattle.fr_guarantees.proofs.SentLemmas.{passes_sending}
use Rattle.fr_guarantees.proofs.SilenceLemmas.{Keeps}
use Rattle.fr_guarantees.proofs.WalkLemmas.{IsStart, IsCome, comes_in, reaches_cycle, start_after, start_more}
use Rattle.fr_guarantees.specs.Delays.{calls_to_delay}
use Rattle.fr_guarantees.specs.Exactness.{HasRoom}
use Rattle.fr_guarantees.specs.Ways.{CanSend, IsRow}
use Rattle.fr_latency.proofs.LaneLemmas.{latest_is}
use Rattle.fr_latency.specs.Below.{sum_below}
use Rattle.fr_latency.specs.Lanes.{CanSend as CanSendLane, IsLatest}
use Rattle.fr_latency.specs.Latencies.{before_slot, channel_of, is_always_in_time, is_guaranteed, last_begin_of}
use Rattle.fr_latency.specs.Latencies.{latest_for}
use Rattle.fr_latency.specs.Openings.{last_begin}
use Rattle.fr_minislot.specs.DynamicRows.{first_minislot, slot_after, has_row_after}
use Rattle.fr_schedule.specs.Clusters.{IsCluster}
use Rattle.fr_schedule.specs.Descriptions.{Description}
use Rattle.fr_slots.specs.Admission.{cycle_admitted}
use Rattle.fr_slots.specs.declared.channel.Channel.{Channel}
use Rattle.fr_slots.specs.declared.plan.Buffer.{Buffer}
use Rattle.fr_slots.specs.Faults.{latest_on, transmits}
use Rattle.fr_slots.specs.History.{AllAfter}
use Rattle.fr_slots.specs.Parameters.{is_static_slot}
use Rattle.fr_slots.specs.Plans.{Plan, buffer_at}
use Rattle.fr_slots.specs.Windows.{is_first_slot, opens_cycle, Opportunity, slot_of, is_static}

-- ---- a lane, cut where its rows end

-- the row after these is the last one
record IsEnd (d : Description) (on : Channel) (cycle : ℕ) (before : List ℕ) : Type 0 where
  bytes : ℕ
  row : IsRow d cycle on before bytes
  none : has_row_after d.params (before ++ bytes ∷ []) ≡ false

-- the way goes along the lane to its end, or to the last row before
record IsCut (d : Description) (on : Channel) (cycle : ℕ) (so_far rest : List ℕ) : Type 0 where
  way : List ℕ
  rows : AllAfter (IsRow d cycle on) so_far way
  exists : has_row_after d.params (so_far ++ way) ≡ true
  ends : (way ≡ rest) ⊎ (IsEnd d on cycle (so_far ++ way) × (length way + 1 ≤ length rest))

-- the way ends here
cut_here : (d : Description) (on : Channel) (cycle : ℕ) (so_far rest : List ℕ) → has_row_after d.params so_far ≡ true
    → (([] ≡ rest) ⊎ (IsEnd d on cycle so_far × (1 ≤ length rest))) → IsCut d on cycle so_far rest
unfolding AllAfter
cut_here d on cycle so_far rest exists ends = record {
  way = [];
  rows = tt;
  exists = ap (has_row_after d.params) (append-nil so_far) ∙ exists;
  ends = elim ends [
    | inl none ↦ inl none
    | inr end ↦ inr (subst (IsEnd d on cycle) (sym (append-nil so_far)) end.0, omega (arith, end.1))
  ];
}

-- the way goes on with this row
cut_later : (d : Description) (on : Channel) (cycle : ℕ) (so_far : List ℕ) (bytes : ℕ) (rest : List ℕ)
    → IsRow d cycle on so_far bytes → IsCut d on cycle (so_far ++ bytes ∷ []) rest
    → IsCut d on cycle so_far (bytes ∷ rest)
unfolding AllAfter
cut_later d on cycle so_far bytes rest row more =
    let same : (so_far ++ bytes ∷ []) ++ more.way ≡ so_far ++ (bytes ∷ more.way) =
    append_assoc so_far (bytes ∷ []) more.way in
    record {
      way = bytes ∷ more.way;
      rows = (row, more.rows);
      exists = ap (has_row_after d.params) (sym same) ∙ more.exists;
      ends = elim more.ends [
        | inl whole ↦ inl (ap (λ (l : List ℕ). bytes ∷ l) whole)
        | inr end ↦ inr (
          subst (IsEnd d on cycle) same end.0,
          (let shorter = end.1 in omega (arith, shorter)),
        )
      ];
    }

cut : (d : Description) (on : Channel) (cycle : ℕ) (so_far rest : List ℕ)
    → AllAfter (λ before bytes. (bytes ≡ 0)
    ⊎ CanSendLane d on cycle (slot_after d.params before) (first_minislot d.params before) bytes) so_far rest
    → has_row_after d.params so_far ≡ true → IsCut d on cycle so_far rest
unfolding AllAfter
cut d on cycle so_far [] lane exists = cut_here d on cycle so_far [] exists (inl refl)
cut d on cycle so_far (bytes ∷ rest) lane exists =
    by (has_row_after d.params (so_far ++ bytes ∷ [])) refl (cut d on cycle (so_far ++ bytes ∷ []) rest lane.1)
  where
    row : IsRow d cycle on so_far bytes
    row = (
      exists,
      elim lane.0 [
        | inl none ↦ inl none
        | inr can ↦ inr (can_send d on cycle (slot_after d.params so_far) (first_minislot d.params so_far) bytes can)
      ],
    )

    by : (t : Bool) → has_row_after d.params (so_far ++ bytes ∷ []) ≡ t
        → (has_row_after d.params (so_far ++ bytes ∷ []) ≡ true → IsCut d on cycle (so_far ++ bytes ∷ []) rest)
        → IsCut d on cycle so_far (bytes ∷ rest)
    by true e again = cut_later d on cycle so_far bytes rest row (again e)
    by false e again = cut_here d on cycle so_far (bytes ∷ rest) exists
        (inr (record { bytes = bytes; row = row; none = e }, omega arith))

-- ---- one cycle

module _ (d : Description) (lawful : IsCluster d) (n number : ℕ) (plan : Plan) (b : Buffer)
    (plan_at : slice_get d.plans n ≡ Some plan) (at : buffer_at plan number ≡ Some b) (transmitting : transmits b
    ≡ true)
    (dynamic : is_static_slot d.params b.filter.slot ≡ false) (cycles most j : ℕ) (room : HasRoom d cycles most)
    (some_row : has_row_after d.params [] ≡ true) where
  abbrev on : Channel
  on = channel_of b.filter.channels

  abbrev early : ℕ
  early = before_slot d b

  abbrev kept : ℕ → Keeps
  kept = only_kept n number j

  abbrev Start : ℕ → ℕ → WorldState → Type 0
  Start = IsStart d lawful cycles most room kept

  abbrev Over : ℕ → List Recorded → Type 0
  Over begun = IsOver d lawful n number plan b plan_at at transmitting dynamic cycles j begun

  pub ends_cycle : (calls begun : ℕ) (w : WorldState) → IsAt d cycles kept calls w → Over begun w.bus.sealed
      → begun < cycles → Start calls begun w
  ends_cycle calls begun w here over more =
      let fit = windows_fit d.params cycles w.bus.sealed here.course in
      let was = over.0 in
      let same : cycles_begun w.bus.sealed * opportunities d.params ≡ begun * opportunities d.params =
      ap (λ (m : ℕ). m * opportunities d.params) was in
      reaches_cycle d lawful cycles most room kept (Over begun)
      (begun * opportunities d.params + 1 - length w.bus.sealed) calls begun
      (keeps_over d lawful n number plan b plan_at at transmitting dynamic cycles j begun most room) more on w here over
      (omega (arith, was)) (omega (arith, fit, same))

  pub start_mute : (calls begun : ℕ) (w : WorldState) (start : Start calls begun w) → AreMute d kept start.window
  start_mute calls begun w start =
      static_mute d lawful n number plan b plan_at at transmitting dynamic cycles j start.world.bus.sealed start.window
      start.next (both_first (is_static start.window) (is_first_slot start.window.a) start.opens)

  -- the cycle isn't one of the buffer's
  passes_other : (calls begun : ℕ) (w : WorldState) → Start calls begun w
      → cycle_admitted b.filter.cycles (begun % 64) ≡ false → begun + 1 < cycles → Start calls (begun + 1) w
  passes_other calls begun w start unadmitted more =
      let past = passes_silent d cycles most room kept calls start.world start.window on start.is_at start.next
      (start_mute calls begun w start) in
      let back : begun + 1 - 1 ≡ begun = omega arith in
      start_after d lawful cycles most room kept calls (begun + 1) w past.world (leads_on start.leads past.leads)
      (ends_cycle calls (begun + 1) past.world past.is_at (
        ap cycles_begun past.sealed
            ∙ begun_next start.world.bus.sealed past.recorded true (ap opens_cycle past.window_is ∙ start.opens)
            ∙ ap (λ (m : ℕ). m + 1) start.begun_is,
        inl (ap (λ (m : ℕ). cycle_admitted b.filter.cycles (m % 64)) back ∙ unadmitted),
      ) more)

  -- ---- a way on which the slot comes too late

  module _ (calls begun : ℕ) (w : WorldState) (start : Start calls begun w)
      (not_always : is_always_in_time d plan b (begun % 64) ≡ false) (enough : calls + 3 * early ≤ most)
      (more : begun + 1 < cycles) where
    abbrev cycle : ℕ
    cycle = begun % 64

    few : cycle < 64
    few = mod_below begun 64 (omega arith)

    lane : IsLatest d on cycle early (last_begin d on cycle early)
    lane = latest_is d lawful on cycle early

    late : latest_on plan on < first_minislot d.params lane.counts
    late =
        let above = leb-false (last_begin_of d b cycle) (latest_for plan b) not_always in
        let there = lane.at in
        omega (arith, above, there)

    along : IsCut d on cycle [] lane.counts
    along = cut d on cycle [] lane.counts lane.is_lane.0 some_row

    abbrev way : List ℕ
    way = along.way

    short : length way ≤ early
    short =
        let long = lane.is_lane.1 in
        elim along.ends [
          | inl whole ↦ (
              let same = ap (λ (l : List ℕ). length l) whole in
              omega (arith, same, long))
          | inr end ↦ (
              let less = end.1 in
              omega (arith, less, long))
        ]

    slot_above : d.params.static_slots < b.filter.slot
    slot_above = leb-false b.filter.slot d.params.static_slots dynamic

    abbrev top : ℕ
    top = calls + 3 * length way

    come : IsCome d lawful cycles most room kept top (begun + 1) cycle on way w
    come =
        let fewer = short in
        let higher = slot_above in
        comes_in d lawful cycles most room kept calls begun cycle refl few on way top (omega (arith, fewer, enough))
        along.exists (way_mute d lawful n number plan b plan_at at transmitting dynamic cycles j way
        (omega (arith, fewer, higher))) along.rows (omega arith) w start (start_mute calls begun w start)

    later : opens_cycle come.window ≡ false
    later = ap (λ (t : Bool). t && is_first_slot come.window.a) come.dynamic

    module _ (spent bytes : ℕ) (past : IsPast d cycles kept spent come.world come.window on bytes) where
      row : is_row_of on past.recorded ≡ true
      row = ap (λ (v : Opportunity). not (is_static v) && is_some (slot_of v on)) past.window_is
          ∙ (λ i. not (come.dynamic i) && is_some (come.slot_is i))

      after : counts_on on (this_cycle past.world.bus.sealed) ≡ way ++ bytes ∷ []
      after = ap (λ (rs : List Recorded). counts_on on (this_cycle rs)) past.sealed
          ∙ counts_next on come.world.bus.sealed past.recorded true (ap opens_cycle past.window_is ∙ later) row
          ∙ (λ i. come.counts_are i ++ past.longest_is come.dynamic i ∷ [])

      begun_after : cycles_begun past.world.bus.sealed ≡ begun + 1
      begun_after =
          let next = begun_next come.world.bus.sealed past.recorded false (ap opens_cycle past.window_is ∙ later) in
          let was = come.begun_is in
          ap cycles_begun past.sealed ∙ omega (arith, next, was)

      goes_on : spent ≤ calls + 3 * early
          → (before_slot d b < length (counts_on on (this_cycle past.world.bus.sealed)))
          ⊎ (has_row_after d.params (counts_on on (this_cycle past.world.bus.sealed)) ≡ false)
          → Start (calls + 3 * early) (begun + 1) w
      goes_on fewer gone =
          start_more d lawful cycles most room kept spent (calls + 3 * early) (begun + 1) w fewer
          (start_after d lawful cycles most room kept spent (begun + 1) w past.world (leads_on come.leads past.leads)
          (ends_cycle spent (begun + 1) past.world past.is_at (begun_after, inr gone) more))

    -- the slot opens after the latest minislot of the node
    opens_late : way ≡ lane.counts → Start (calls + 3 * early) (begun + 1) w
    opens_late whole =
        let minislot = come.minislot_is ∙ ap (first_minislot d.params) whole in
        let above = late in
        let past = passes_silent d cycles most room kept top come.world come.window on come.is_at come.next
        (late_mute d lawful n number plan b plan_at at transmitting dynamic j come.window come.dynamic
        (omega (arith, minislot, above))) in
        let fewer = short in
        let many = ap (λ (l : List ℕ). length l) (after top 0 past) ∙ length-append way (0 ∷ []) in
        let same = ap (λ (l : List ℕ). length l) whole in
        let long = lane.is_lane.1 in
        goes_on top 0 past (omega (arith, fewer)) (inl (omega (arith, many, same, long)))

    -- the row after the way is the last one of the channel
    never_opens : (end : IsEnd d on cycle way) → length way + 1 ≤ length lane.counts
        → Start (calls + 3 * early) (begun + 1) w
    never_opens end shorter =
        let long = lane.is_lane.1 in
        goes_on (top + 3) end.bytes past (omega (arith, shorter, long))
        (inr (ap (has_row_after d.params) (after (top + 3) end.bytes past) ∙ end.none))
      where
        mute : AreMute d kept come.window
        mute =
            let long = lane.is_lane.1 in
            let higher = slot_above in
            lower_mute d lawful n number plan b plan_at at transmitting dynamic j come.window
            (slot_after d.params way) come.slot_is (omega (arith, shorter, long, higher))

        there : CanSend d cycle (slot_after d.params way) on (first_minislot d.params way) end.bytes
            → CanSend d come.window.cycle (slot_after d.params way) on come.window.minislot end.bytes
        there can = subst (λ (c : ℕ). CanSend d c (slot_after d.params way) on come.window.minislot end.bytes)
            (sym come.cycle_is)
            (subst (λ (m : ℕ). CanSend d cycle (slot_after d.params way) on m end.bytes) (sym come.minislot_is) can)

        past : IsPast d cycles kept (top + 3) come.world come.window on end.bytes
        past = elim end.row.1 [
          | inl none ↦ subst (λ (m : ℕ). IsPast d cycles kept (top + 3) come.world come.window on m) (sym none)
              (past_more d cycles kept top (top + 3) 0 come.world come.window on (omega arith)
              (passes_silent d cycles most room kept top come.world come.window on come.is_at come.next mute))
          | inr can ↦ (
              let long = lane.is_lane.1 in
              passes_sending d lawful cycles most room kept on top (omega (arith, shorter, long, enough)) come.world
              come.is_at come.window come.next mute come.dynamic (slot_after d.params way) come.slot_is
              (subst (λ (c : ℕ). c < 64) (sym come.cycle_is) few) end.bytes (there can))
        ]

    passes_late : Start (calls + 3 * early) (begun + 1) w
    passes_late = elim along.ends [
      | inl whole ↦ opens_late whole
      | inr end ↦ never_opens end.0 end.1
    ]

  -- ---- cycles that aren't guaranteed

  passes_cycle : (calls begun : ℕ) (w : WorldState) → Start calls begun w
      → is_guaranteed d plan b (begun % 64) ≡ false → calls + calls_to_delay d plan b (begun % 64) ≤ most
      → begun + 1 < cycles → Start (calls + calls_to_delay d plan b (begun % 64)) (begun + 1) w
  passes_cycle calls begun w start never enough more = by (cycle_admitted b.filter.cycles (begun % 64)) refl
    where
      by : (t : Bool) → cycle_admitted b.filter.cycles (begun % 64) ≡ t
          → Start (calls + calls_to_delay d plan b (begun % 64)) (begun + 1) w
      by true admitted =
          let spent : calls_to_delay d plan b (begun % 64) ≡ 3 * early =
          λ i. cond (admitted i && not (never i)) (3 * early) 0 in
          subst (λ (m : ℕ). Start m (begun + 1) w) (sym (ap (λ (m : ℕ). calls + m) spent))
          (passes_late calls begun w start
          (ap (λ (t : Bool). t || is_always_in_time d plan b (begun % 64)) (sym dynamic)
          ∙ ap (λ (t : Bool). t
          && (is_static_slot d.params b.filter.slot || is_always_in_time d plan b (begun % 64))) (sym admitted)
          ∙ never) (omega (arith, enough, spent)) more)
      by false unadmitted = start_more d lawful cycles most room kept calls
          (calls + calls_to_delay d plan b (begun % 64)) (begun + 1) w (omega arith)
          (passes_other calls begun w start unadmitted more)

  -- so many cycles after a guaranteed one
  pub passes_cycles : (c calls : ℕ) (w : WorldState) → Start calls (c + 1) w → (many : ℕ)
      → ((k : ℕ) → k < many → is_guaranteed d plan b ((c + 1 + k) % 64) ≡ false)
      → calls + sum_below (λ k. calls_to_delay d plan b ((c + 1 + k) % 64)) many ≤ most → c + 1 + many < cycles
      → Start (calls + sum_below (λ k. calls_to_delay d plan b ((c + 1 + k) % 64)) many) (c + 1 + many) w
  unfolding sum_below
  passes_cycles c calls w start zero never enough more =
      let same : calls ≡ calls + 0 = omega arith in
      let begun : c + 1 ≡ c + 1 + 0 = omega arith in
      subst (λ (m : ℕ). Start m (c + 1 + 0) w) same (subst (λ (m : ℕ). Start calls m w) begun start)
  passes_cycles c calls w start (suc many) never enough more =
      let value : ℕ → ℕ = λ k. calls_to_delay d plan b ((c + 1 + k) % 64) in
      let before = passes_cycles c calls w start many (λ k below. never k (omega (arith, below)))
      (omega (arith, enough)) (omega (arith, more)) in
      let spent : calls + sum_below value many + value many ≡ calls + (sum_below value many + value many) =
      omega arith in
      let begun : c + 1 + many + 1 ≡ c + 1 + suc many = omega arith in
      subst (λ (m : ℕ). Start m (c + 1 + suc many) w) spent
      (subst (λ (m : ℕ). Start (calls + sum_below value many + value many) m w) begun
      (passes_cycle (calls + sum_below value many) (c + 1 + many) w before (never many (omega arith))
      (omega (arith, enough)) (omega (arith, more))))
