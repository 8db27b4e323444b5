-- A run in which a commit on a dynamic buffer waits for the worst time, from a guaranteed cycle to the next.
use Rattle.std.proofs.Common.{◌≡◌, ℕ, zero, suc, ◌+◌, ◌-◌, ◌*◌, ◌%◌, ◌<◌, ◌≤◌, ◌==◌, Bool, true, false, not, cond, ◌&&◌}
use Rattle.std.proofs.Common.{◌||◌, ◌⊎◌, inl, inr, List, [], ◌∷◌, ◌++◌, length, length-append, replicate, Some, None}
use Rattle.std.proofs.Common.{refl, sym, ap, subst, ◌∙◌, arith, slice_get, is_some, option_map}
use Rattle.std.specs.Prelude.{nat_le, sum_by, count_by}
use Rattle.std.proofs.lemmas.Bool.{eq-eqb, le-leb, leb-true, not-true}
use Rattle.std.proofs.lemmas.List.{length-replicate}
use Rattle.std.proofs.lemmas.List.Sums.{sum_by-append}
use Rattle.std.proofs.lemmas.Nat.{mod-mul-add, mod_below}
use Rattle.std.proofs.lemmas.Option.{slice_get_within}
use Rattle.std.proofs.Math.Nat.{add-mul, mul-le-mul_right}
use Rattle.fr_bus.specs.Outcome.{longest}
use Rattle.fr_bus.specs.Record.{Recorded}
use Rattle.fr_bus.specs.States.{BusState}
use Rattle.fr_bus.specs.Windows.{cycles_begun, this_cycle, counts_on, is_row_of}
use Rattle.fr_core.proofs.CaseLemmas.{both, both_first, both_rest}
use Rattle.fr_core.proofs.SendingLemmas.{offers_ready}
use Rattle.fr_core.proofs.TimingLemmas.{count_more}
use Rattle.fr_core.specs.declared.error.StepError.TheVariants.{Host}
use Rattle.fr_core.specs.Worlds.{WorldState, interface_at, opening_world}
use Rattle.fr_guarantees.proofs.CallLemmas.{commit_accepted}
use Rattle.fr_guarantees.proofs.DelayLemmas.{first_below, first_is, has_channel, fits, above, way_mute}
use Rattle.fr_guarantees.proofs.ExactLemmas.{is_way, row_of, IsRowOf, open_at, comes}
use Rattle.fr_guarantees.proofs.FrameLemmas.{sending_is}
use Rattle.fr_guarantees.proofs.HoldingLemmas.{nothing_kept, only_kept, this_buffer, IsHeld, is_held}
use Rattle.fr_guarantees.proofs.LateLemmas.{ends_cycle, start_mute, passes_cycles}
use Rattle.fr_guarantees.proofs.LeadLemmas.{leads_on}
use Rattle.fr_guarantees.proofs.OfferingLemmas.{fetched_by}
use Rattle.fr_guarantees.proofs.PassingLemmas.{IsNodeAt}
use Rattle.fr_guarantees.proofs.ProgressLemmas.{begun_next, counts_next}
use Rattle.fr_guarantees.proofs.SilenceLemmas.{Keeps}
use Rattle.fr_guarantees.proofs.TurnLemmas.{if_known}
use Rattle.fr_guarantees.proofs.WalkLemmas.{IsStart, IsCome, comes_in}
use Rattle.fr_guarantees.specs.Delays.{run_cycle, start_of, end_of, IsDelayed, cycles_after, calls_between}
use Rattle.fr_guarantees.specs.Exactness.{HasRoom}
use Rattle.fr_guarantees.specs.Ways.{CanSend}
use Rattle.fr_interface.specs.State.{State, commit_refusal, fetch_entry}
use Rattle.fr_journal.specs.declared.entry.Offered.TheVariants.{Data}
use Rattle.fr_journal.specs.Entries.{is_host}
use Rattle.fr_journal.specs.Fate.{pending_commit}
use Rattle.fr_journal.specs.Offers.{offered}
use Rattle.fr_latency.proofs.LaneLemmas.{are_lanes, latest_is}
use Rattle.fr_latency.specs.Lanes.{CanSend as CanSendLane, Opens}
use Rattle.fr_latency.specs.Latencies.{before_slot, channel_of, is_after, is_guaranteed, is_always_in_time}
use Rattle.fr_latency.specs.Latencies.{last_begin_of, latest_for, wait_from, earliest_start, latest_end}
use Rattle.fr_latency.specs.Openings.{can_begin, last_begin}
use Rattle.fr_minislot.specs.DynamicRows.{first_minislot, row_length, slot_after, has_row_after, is_row, last_slot}
use Rattle.fr_schedule.proofs.ClusterLemmas.{each_at}
use Rattle.fr_schedule.specs.Clusters.{IsCluster, IsNode}
use Rattle.fr_schedule.specs.Descriptions.{Description}
use Rattle.fr_slots.proofs.PlaceLemmas.{same_some}
use Rattle.fr_slots.specs.Admission.{includes, cycle_admitted}
use Rattle.fr_slots.specs.declared.channel.Channel.{Channel}
use Rattle.fr_slots.specs.declared.channel.Channel.TheVariants.{A, B}
use Rattle.fr_slots.specs.declared.plan.Buffer.{Buffer}
use Rattle.fr_slots.specs.declared.plan.Mode.TheVariants as mode
use Rattle.fr_slots.specs.Faults.{latest_on, minislots_filled, sends_at, transmits, words_of}
use Rattle.fr_slots.specs.History.{AllAfter}
use Rattle.fr_slots.specs.Numbers.{IsSlot}
use Rattle.fr_slots.specs.Parameters.{Parameters, is_static_slot}
use Rattle.fr_slots.specs.Plans.{Plan, IsBuffer, buffer_at, is_receive}
use Rattle.fr_slots.specs.Windows.{is_first_slot, opens_cycle, Opportunity, slot_of, is_static}
use Rattle.fr_timing.specs.Segments.{dynamic_start}

-- ---- a way without frames

no_frames : (d : Description) (on : Channel) (cycle : ℕ) (before : List ℕ) (many : ℕ)
    → AllAfter (λ counts bytes. (bytes ≡ 0)
    ⊎ CanSendLane d on cycle (slot_after d.params counts) (first_minislot d.params counts) bytes)
    before (replicate many 0)
unfolding AllAfter
no_frames d on cycle before zero = tt
no_frames d on cycle before (suc many) = (inl refl, no_frames d on cycle (before ++ 0 ∷ []) many)

silent_length : (p : Parameters) (many : ℕ) → sum_by (row_length p) (replicate many 0) ≡ many
silent_length p zero = refl
silent_length p (suc many) =
    omega (arith, silent_length p many, sum_by-append (row_length p) (0 ∷ []) (replicate many 0))

-- ---- times

cycle_of_run : (w : WorldState) (window : Opportunity) (begun : ℕ) → is_static window ≡ false
    → cycles_begun w.bus.sealed ≡ begun + 1 → run_cycle w window ≡ begun
cycle_of_run w window begun still is =
    let n = cycles_begun w.bus.sealed in
    ap (λ (t : Bool). cond (t && is_first_slot window.a) n (n - 1)) still
    ∙ (let back : cycles_begun w.bus.sealed - 1 ≡ begun = omega (arith, is) in back)

start_is : (w : WorldState) (d : Description) (window : Opportunity) (slot begun minislot : ℕ) → w.bus.cluster ≡ d
    → is_static window ≡ false → cycles_begun w.bus.sealed ≡ begun + 1 → window.minislot ≡ minislot
    → start_of w window slot ≡ begun * d.params.cycle_mt
    + (dynamic_start d.params + (minislot - 1) * d.params.minislot_mt)
start_is w d window slot begun minislot cluster still is at =
    λ i. cycle_of_run w window begun still is i * (cluster i).params.cycle_mt
    + cond (still i) ((slot - 1) * (cluster i).params.static_mt)
    (dynamic_start (cluster i).params + (at i - 1) * (cluster i).params.minislot_mt)

end_is : (w : WorldState) (d : Description) (window : Opportunity) (b : Buffer) (begun minislot : ℕ)
    → w.bus.cluster ≡ d → is_static window ≡ false → cycles_begun w.bus.sealed ≡ begun + 1
    → window.minislot ≡ minislot → end_of w window b ≡ begun * d.params.cycle_mt
    + (dynamic_start d.params + (minislot - 1 + minislots_filled d.params (words_of d.params b)) * d.params.minislot_mt)
end_is w d window b begun minislot cluster still is at =
    λ i. cycle_of_run w window begun still is i * (cluster i).params.cycle_mt
    + cond (still i) (b.filter.slot * (cluster i).params.static_mt)
    (dynamic_start (cluster i).params
    + (at i - 1 + minislots_filled (cluster i).params (words_of (cluster i).params b)) * (cluster i).params.minislot_mt)

pub times : (c k mt dmt s x y : ℕ) → x ≤ y
    → c * mt + (s + x * dmt) + (k * mt + (s + y * dmt) - (s + x * dmt)) ≡ (c + k) * mt + (s + y * dmt)
times c k mt dmt s x y few =
    let less : x * dmt ≤ y * dmt = mul-le-mul_right dmt few in
    omega (arith, less, add-mul c k mt)

-- a fetch is no call of the host
pub no_host : (s : State) (window : Opportunity)
    → count_by is_host (fetched_by s window).entries ≡ count_by is_host s.entries
no_host s window = omega (arith, count_more is_host s.entries (fetch_entry s window))

module _ (d : Description) (lawful : IsCluster d) (n number : ℕ) (plan : Plan) (b : Buffer)
    (plan_at : slice_get d.plans n ≡ Some plan) (some_task : 1 ≤ plan.tasks) (at : buffer_at plan number ≡ Some b)
    (transmitting : transmits b ≡ true) (dynamic : is_static_slot d.params b.filter.slot ≡ false) where
  abbrev on : Channel
  on = channel_of b.filter.channels

  abbrev slot : ℕ
  slot = b.filter.slot

  abbrev early : ℕ
  early = before_slot d b

  higher : d.params.static_slots < slot
  higher = above d lawful n number plan b plan_at at transmitting dynamic

  slot_range : IsSlot slot
  slot_range =
      let node : IsNode d.params plan = each_at (IsNode d.params) d.plans n plan lawful.nodes_are plan_at in
      let ranges : IsBuffer b = each_at IsBuffer plan.buffers number b node.0.buffers_are at in
      ranges.slot_is

  latest_few : latest_on plan on ≤ d.params.minislots
  latest_few = (fits d lawful n number plan b plan_at at transmitting dynamic).latest_fits on

  -- ---- guaranteed cycles

  module _ (c : ℕ) (few : c < 64) (guaranteed : is_guaranteed d plan b c ≡ true) where
    abbrev step : ℕ
    step = cycles_after d plan b c

    some_step : 1 ≤ step
    some_step = (first_is (is_after (is_guaranteed d plan b) c) 1 63).from

    few_steps : step ≤ 64
    few_steps =
        let to = (first_is (is_after (is_guaranteed d plan b) c) 1 63).to in
        omega (arith, to)

    between : (k : ℕ) → k < step - 1 → is_guaranteed d plan b ((c + 1 + k) % 64) ≡ false
    between k below =
        let same : c + 1 + k ≡ c + (k + 1) = omega arith in
        let some = some_step in
        ap (λ (m : ℕ). is_guaranteed d plan b (m % 64)) same
        ∙ first_below (is_after (is_guaranteed d plan b) c) 1 63 (k + 1) (omega arith) (omega (arith, below, some))

    abbrev then : ℕ
    then = (c + step) % 64

    then_fits : then < 64
    then_fits = mod_below (c + step) 64 (omega arith)

    then_passes : is_guaranteed d plan b then ≡ true
    then_passes = elim (first_is (is_after (is_guaranteed d plan b) c) 1 63).passes [
      | inl end ↦ (
          let whole : c + step ≡ 1 * 64 + c = omega (arith, end) in
          let same : then ≡ c = ap (λ (m : ℕ). m % 64) whole ∙ mod-mul-add 1 64 c few in
          ap (is_guaranteed d plan b) same ∙ guaranteed)
      | inr passes ↦ passes
    ]

    then_admitted : cycle_admitted b.filter.cycles then ≡ true
    then_admitted = both_first (cycle_admitted b.filter.cycles then)
        (is_static_slot d.params slot || is_always_in_time d plan b then) then_passes

    then_always : is_always_in_time d plan b then ≡ true
    then_always = ap (λ (t : Bool). t || is_always_in_time d plan b then) (sym dynamic)
        ∙ both_rest (cycle_admitted b.filter.cycles then)
        (is_static_slot d.params slot || is_always_in_time d plan b then) then_passes

    -- ---- the ways

    abbrev last : ℕ
    last = last_begin d on then early

    last_in_time : last ≤ latest_on plan on
    last_in_time = leb-true (last_begin_of d b then) (latest_for plan b) then_always

    -- a slot that begins at a minislot of the segment opens there
    opens_at : (cycle minislot : ℕ) → can_begin d on cycle early minislot ≡ true → minislot ≤ d.params.minislots
        → Opens d on cycle slot minislot
    opens_at cycle minislot begins inside =
        ((are_lanes d lawful).opens on cycle slot minislot higher).0
        (both (is_row d.params slot minislot) (can_begin d on cycle early minislot)
        (both (nat_le minislot d.params.minislots) (nat_le slot last_slot) (le-leb minislot d.params.minislots inside)
        (le-leb slot last_slot slot_range.at_most)) begins)

    last_opens : Opens d on then slot last
    last_opens =
        let lane = latest_is d lawful on then early in
        opens_at then last (((are_lanes d lawful).begins on then early last).1
        (record { counts = lane.counts; is_lane = lane.is_lane; at = lane.at }))
        (let inside = last_in_time in let fewer = latest_few in omega (arith, inside, fewer))

    silent : List ℕ
    silent = replicate early 0

    silent_ends : first_minislot d.params (replicate early 0) ≡ early + 1
    silent_ends = (let sum = silent_length d.params early in omega (arith, sum))

    -- the earliest start isn't after the latest one
    first_in_time : early + 1 ≤ last
    first_in_time =
        let lane = latest_is d lawful on then early in
        let none_later = lane.none_later (replicate early 0) (no_frames d on then [] early, length-replicate early 0) in
        let ends = silent_ends in
        omega (arith, none_later, ends)

    first_opens : Opens d on c slot (early + 1)
    first_opens = opens_at c (early + 1) (((are_lanes d lawful).begins on c early (early + 1)).1 (record {
      counts = replicate early 0;
      is_lane = (no_frames d on c [] early, length-replicate early 0);
      at = silent_ends;
    })) (let inside = last_in_time in let fewer = latest_few in let first = first_in_time in omega
        (arith, inside, fewer, first))

    first_row : IsRowOf d.params first_opens.counts (early + 1) slot
    first_row = row_of d.params first_opens.counts (early + 1) slot first_opens.opened

    last_row : IsRowOf d.params last_opens.counts last slot
    last_row = row_of d.params last_opens.counts last slot last_opens.opened

    some_row : has_row_after d.params [] ≡ true
    some_row =
        let inside = last_in_time in
        let fewer = latest_few in
        let first = first_in_time in
        let least = higher in
        let most = slot_range.at_most in
        both (nat_le (first_minislot d.params []) d.params.minislots) (nat_le (slot_after d.params []) last_slot)
        (le-leb 1 d.params.minislots (omega (arith, inside, fewer, first)))
        (le-leb (slot_after d.params []) last_slot (omega (arith, least, most)))

    module _ (room : HasRoom d (c + step + 1) (6 * early + calls_between d plan b c + 1)) where
      abbrev cycles : ℕ
      cycles = c + step + 1

      abbrev most : ℕ
      most = 6 * early + calls_between d plan b c + 1

      first_long : 3 * length first_opens.counts ≤ 3 * early
      first_long = (let row = first_row.slot_is in omega (arith, row))

      last_long : 3 * length last_opens.counts ≤ 3 * early
      last_long = (let row = last_row.slot_is in omega (arith, row))

      come : IsCome d lawful cycles most room nothing_kept (3 * length first_opens.counts)
          (c + 1) c on first_opens.counts
          (opening_world d cycles)
      come =
          let short = first_long in
          let few_more = few_steps in
          comes d lawful cycles c most few (omega arith) (omega (arith, few, few_more)) room on first_opens.counts
          (is_way d on c first_opens.counts first_opens.is_lane first_opens.are_rows) first_row.exists
          (omega (arith, short))

      abbrev w0 : WorldState
      w0 = come.world

      abbrev s0 : State
      s0 = interface_at w0 n

      within : n < length w0.interfaces
      within =
          let inside = slice_get_within d.plans n plan plan_at in
          let long = come.is_at.one_each in
          omega (arith, inside, long)

      node : IsNodeAt d (nothing_kept n) n s0 (length w0.bus.sealed) (3 * length first_opens.counts)
      node = come.is_at.nodes n within

      same_plan : plan ≡ s0.plan
      same_plan = same_some plan s0.plan (sym plan_at ∙ node.plan_at)

      abbrev payload : List ℕ
      payload = replicate (2 * words_of d.params b) 0

      held : IsHeld d cycles (3 * length first_opens.counts + 1) w0 come.window n number payload
      held = is_held d cycles most room (3 * length first_opens.counts) w0 come.window come.is_at come.next n number
          payload
          within

      abbrev f0 : State
      f0 = fetched_by s0 come.window

      abbrev j : ℕ
      j = length f0.entries

      sending : is_receive b.mode ≡ false
      sending = not-true (is_receive b.mode) transmitting

      fetched_accepts : commit_refusal f0 0 number payload ≡ None
      fetched_accepts =
          let same = same_plan in
          let short = first_long in
          let calls = room.for_calls n plan plan_at in
          let hosts : count_by is_host f0.entries ≤ 3 * length first_opens.counts = fetched_hosts in
          commit_accepted f0 number b (ap (λ (p : Plan). buffer_at p number) (sym same) ∙ at) sending
          (subst (λ (p : Plan). 1 ≤ p.tasks) same some_task)
          (subst (λ (p : Plan). count_by is_host f0.entries < p.host_entries) same
          (omega (arith, hosts, calls, short))) payload
          (length-replicate (2 * words_of d.params b) 0
          ∙ ap (λ (p : Parameters). 2 * words_of p b) (sym node.params_are))
        where
          fetched_hosts : count_by is_host f0.entries ≤ 3 * length first_opens.counts
          fetched_hosts = (let few_hosts = node.hosts in omega (arith, few_hosts, no_host s0 come.window))

      -- ---- after the commit

      abbrev kept : ℕ → Keeps
      kept = only_kept n number j

      row_of_first : is_row_of on held.recorded ≡ true
      row_of_first = ap (λ (v : Opportunity). not (is_static v) && is_some (slot_of v on)) held.window_is
          ∙ (λ i. not (come.dynamic i) && is_some (come.slot_is i))

      no_opening : opens_cycle held.recorded.window ≡ false
      no_opening = ap opens_cycle held.window_is
          ∙ ap (λ (t : Bool). t && is_first_slot come.window.a) come.dynamic

      begun_held : cycles_begun held.world.bus.sealed ≡ c + 1
      begun_held =
          let more = begun_next w0.bus.sealed held.recorded false no_opening in
          let was = come.begun_is in
          ap cycles_begun held.sealed ∙ omega (arith, more, was)

      past_slot : before_slot d b < length (counts_on on (this_cycle held.world.bus.sealed))
      past_slot =
          let counts = ap (λ (rs : List Recorded). counts_on on (this_cycle rs)) held.sealed
          ∙ counts_next on w0.bus.sealed held.recorded true no_opening row_of_first in
          let longer = ap (λ (l : List ℕ). length l) counts
          ∙ length-append (counts_on on (this_cycle w0.bus.sealed)) (longest on held.recorded.sent ∷ []) in
          let were = ap (λ (l : List ℕ). length l) come.counts_are in
          let row = first_row.slot_is in
          omega (arith, longer, were, row)

      abbrev calls : ℕ
      calls = 3 * length first_opens.counts + 1

      abbrev Start : ℕ → ℕ → Type 0
      Start many begun = IsStart d lawful cycles most room kept many begun held.world

      next_start : Start calls (c + 1)
      next_start =
          let some = some_step in
          ends_cycle d lawful n number plan b plan_at at transmitting dynamic cycles most j room some_row calls (c + 1)
          held.world held.is_at (begun_held, inr (inl past_slot)) (omega (arith, some))

      abbrev spent : ℕ
      spent = calls + calls_between d plan b c

      start : Start spent (c + step)
      start =
          let some = some_step in
          let short = first_long in
          let begun : c + 1 + (step - 1) ≡ c + step = omega (arith, some) in
          subst (Start spent) begun
          (passes_cycles d lawful n number plan b plan_at at transmitting dynamic cycles most j room some_row c calls
          held.world next_start (step - 1) between (omega (arith, short)) (omega (arith, some)))

      end : IsCome d lawful cycles most room kept most (c + step + 1) then on last_opens.counts held.world
      end =
          let first_short = first_long in
          let last_short = last_long in
          comes_in d lawful cycles most room kept spent (c + step) then refl then_fits on
          last_opens.counts most (omega arith) last_row.exists
          (way_mute d lawful n number plan b plan_at at transmitting dynamic cycles j last_opens.counts
          (let row = last_row.slot_is in omega (arith, row)))
          (is_way d on then last_opens.counts last_opens.is_lane last_opens.are_rows)
          (omega (arith, first_short, last_short)) held.world start
          (start_mute d lawful n number plan b plan_at at transmitting dynamic cycles most j room some_row spent
          (c + step) held.world start)

      abbrev w1 : WorldState
      w1 = end.world

      abbrev s1 : State
      s1 = interface_at w1 n

      within_end : n < length w1.interfaces
      within_end =
          let inside = slice_get_within d.plans n plan plan_at in
          let long = end.is_at.one_each in
          omega (arith, inside, long)

      node_end : IsNodeAt d (kept n) n s1 (length w1.bus.sealed) most
      node_end = end.is_at.nodes n within_end

      pending_end : pending_commit number s1.entries ≡ Some j
      pending_end = node_end.ready mode.Event number refl ∙ this_buffer n number j

      last_minislot : end.window.minislot ≡ last
      last_minislot = end.minislot_is ∙ last_row.begins

      last_slot_is : slot_of end.window on ≡ Some slot
      last_slot_is = end.slot_is ∙ ap Some last_row.slot_is

      can : CanSend d end.window.cycle slot on end.window.minislot (8 + 2 * words_of d.params b)
      can =
          let in_time = last_in_time in
          let there = last_minislot in
          record {
            node = n;
            plan = plan;
            plan_at = plan_at;
            some_task = some_task;
            number = number;
            buffer = b;
            at = at;
            sends = sends_there;
            in_time = omega (arith, in_time, there);
            bytes_are = refl;
          }
        where
          sends_there : sends_at slot on end.window.cycle b ≡ true
          sends_there = both (transmits b) ((slot == slot && includes b.filter.channels on)
              && cycle_admitted b.filter.cycles end.window.cycle) transmitting
              (both (slot == slot && includes b.filter.channels on) (cycle_admitted b.filter.cycles end.window.cycle)
              (both (slot == slot) (includes b.filter.channels on) (eq-eqb slot slot refl)
              (has_channel b.filter.channels)) (ap (cycle_admitted b.filter.cycles) end.cycle_is ∙ then_admitted))

      offers_end : offered s1.plan s1.entries end.window on ≡ Data j
      unfolding can
      offers_end =
          let is = sending_is d lawful end.window on slot (8 + 2 * words_of d.params b) last_slot_is
          (subst (λ (m : ℕ). m < 64) (sym end.cycle_is) then_fits) can in
          let same : plan ≡ s1.plan = same_some plan s1.plan (sym plan_at ∙ node_end.plan_at) in
          subst (λ (p : Plan). offered p s1.entries end.window on ≡ Data j) same
          (offers_ready plan number b at transmitting is.one s1.entries end.window on slot j is.begins last_slot_is
          is.transmitter_is (node_end.ready b.mode number sending ∙ this_buffer n number j))

      -- ---- the delay

      first_minislot_is : come.window.minislot ≡ early + 1
      first_minislot_is = come.minislot_is ∙ first_row.begins

      delay_is : start_of held.first_world come.window slot
          + wait_from d.params.cycle_mt (is_guaranteed d plan b) (earliest_start d b) (latest_end d b) c
          ≡ end_of w1 end.window b
      delay_is =
          let order = first_in_time in
          let back : early + 1 - 1 ≡ early = omega arith in
          let first_start : start_of held.first_world come.window slot ≡ c * d.params.cycle_mt
          + (dynamic_start d.params + early * d.params.minislot_mt) =
          start_is held.first_world d come.window slot c (early + 1)
          (ap (λ (x : BusState). x.cluster) held.same_bus ∙ come.is_at.cluster) come.dynamic
          (ap (λ (x : BusState). cycles_begun x.sealed) held.same_bus ∙ come.begun_is) first_minislot_is
          ∙ ap (λ (m : ℕ). c * d.params.cycle_mt + (dynamic_start d.params + m * d.params.minislot_mt)) back in
          let begins : earliest_start d b ≡ dynamic_start d.params + early * d.params.minislot_mt =
          ap (λ (t : Bool). cond t ((b.filter.slot - 1) * d.params.static_mt)
          (dynamic_start d.params + early * d.params.minislot_mt)) dynamic in
          let ends : latest_end d b then ≡ dynamic_start d.params
          + (last - 1 + minislots_filled d.params (words_of d.params b)) * d.params.minislot_mt =
          ap (λ (t : Bool). cond t (b.filter.slot * d.params.static_mt) (dynamic_start d.params
          + (last - 1 + minislots_filled d.params (words_of d.params b)) * d.params.minislot_mt)) dynamic in
          (λ i. first_start i + (step * d.params.cycle_mt + ends i - begins i))
          ∙ times c step d.params.cycle_mt d.params.minislot_mt (dynamic_start d.params)
          early (last - 1 + minislots_filled d.params (words_of d.params b)) (omega (arith, order))
          ∙ sym (end_is w1 d end.window b (c + step) last end.is_at.cluster end.dynamic end.begun_is last_minislot)

      pub reached : IsDelayed d n number b on cycles
          (wait_from d.params.cycle_mt (is_guaranteed d plan b) (earliest_start d b) (latest_end d b) c)
      reached = record {
        first_world = held.first_world;
        leads_first = leads_on come.leads held.leads_first;
        first = come.window;
        first_slot = come.slot_is ∙ ap Some first_row.slot_is;
        waits = held.waits;
        before = s0.entries;
        on_a = offered s0.plan s0.entries come.window A;
        on_b = offered s0.plan s0.entries come.window B;
        fetched = ap (λ (s : State). s.entries) held.fetched;
        payload = payload;
        accepted = if_known n (length held.first_world.interfaces)
            (option_map Host (commit_refusal (interface_at held.first_world n) 0 number payload)) held.within
            ∙ ap (option_map Host) (ap (λ (s : State). commit_refusal s 0 number payload) held.fetched
            ∙ fetched_accepts);
        last_world = w1;
        leads_last = leads_on held.leads end.leads;
        last = end.window;
        is_open = open_at d cycles kept most w1 end.window end.is_at end.next;
        last_slot = last_slot_is;
        pending = pending_end ∙ ap (λ (s : State). Some (length s.entries)) (sym held.fetched);
        offers = offers_end ∙ ap (λ (s : State). Data (length s.entries)) (sym held.fetched);
        delay_is = delay_is;
      }
