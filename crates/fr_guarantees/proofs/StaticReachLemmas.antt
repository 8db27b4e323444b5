-- A run in which a commit on a buffer of a static slot waits for the worst time.
use Rattle.std.proofs.Common.{◌≡◌, ℕ, ◌+◌, ◌-◌, ◌*◌, ◌%◌, ◌<◌, ◌≤◌, Bool, true, false, cond, ◌||◌, inl, inr, List}
use Rattle.std.proofs.Common.{length, replicate, Some, None, refl, sym, ap, subst, ◌∙◌, arith, slice_get, option_map}
use Rattle.std.specs.Prelude.{nat_le, count_by}
use Rattle.std.proofs.lemmas.Bool.{leb-true, not-true}
use Rattle.std.proofs.lemmas.List.{length-replicate}
use Rattle.std.proofs.lemmas.Nat.{mod-mul-add, mod_below}
use Rattle.std.proofs.lemmas.Option.{slice_get_within}
use Rattle.std.proofs.Math.Nat.{add-mul, mul-le-mul_right}
use Rattle.fr_bus.specs.Courses.{opportunities}
use Rattle.fr_bus.specs.Record.{Recorded}
use Rattle.fr_bus.specs.States.{BusState}
use Rattle.fr_bus.specs.Windows.{cycles_begun, this_cycle, statics_of}
use Rattle.fr_core.proofs.CaseLemmas.{both, both_first}
use Rattle.fr_core.proofs.SendingLemmas.{transmits_there, offers_ready}
use Rattle.fr_core.specs.declared.error.StepError.TheVariants.{Host}
use Rattle.fr_core.specs.Worlds.{WorldState, interface_at, opening_world}
use Rattle.fr_guarantees.proofs.CallLemmas.{commit_accepted}
use Rattle.fr_guarantees.proofs.DelayLemmas.{first_below, first_is, has_channel}
use Rattle.fr_guarantees.proofs.ExactLemmas.{opening_at, open_at}
use Rattle.fr_guarantees.proofs.HoldingLemmas.{nothing_kept, only_kept, this_buffer, IsHeld, is_held}
use Rattle.fr_guarantees.proofs.LeadLemmas.{leads_on}
use Rattle.fr_guarantees.proofs.OfferingLemmas.{fetched_by}
use Rattle.fr_guarantees.proofs.PassingLemmas.{IsNodeAt}
use Rattle.fr_guarantees.proofs.ProgressLemmas.{windows_fit}
use Rattle.fr_guarantees.proofs.ReachLemmas.{no_host}
use Rattle.fr_guarantees.proofs.SilenceLemmas.{Keeps}
use Rattle.fr_guarantees.proofs.StaticLemmas.{IsComeStatic, comes_static, lower_mute, IsLaterStatic, keeps_static}
use Rattle.fr_guarantees.proofs.TurnLemmas.{if_known}
use Rattle.fr_guarantees.proofs.WalkLemmas.{IsStart, reaches_cycle}
use Rattle.fr_guarantees.specs.Delays.{run_cycle, start_of, end_of, IsDelayed, cycles_after}
use Rattle.fr_guarantees.specs.Exactness.{HasRoom}
use Rattle.fr_interface.specs.State.{State, commit_refusal}
use Rattle.fr_journal.specs.declared.entry.Offered.TheVariants.{Data}
use Rattle.fr_journal.specs.Entries.{is_host}
use Rattle.fr_journal.specs.Offers.{may_begin, offered, transmitter}
use Rattle.fr_latency.specs.Latencies.{before_slot, channel_of, is_after, is_always_in_time, is_guaranteed, wait_from}
use Rattle.fr_latency.specs.Latencies.{earliest_start, last_begin_of, latest_end}
use Rattle.fr_schedule.proofs.ClusterLemmas.{each_at}
use Rattle.fr_schedule.specs.Clusters.{IsCluster, IsNode}
use Rattle.fr_schedule.specs.Descriptions.{Description}
use Rattle.fr_slots.proofs.FaultlessLemmas.{faultless}
use Rattle.fr_slots.proofs.PlaceLemmas.{same_some}
use Rattle.fr_slots.specs.Admission.{cycle_admitted}
use Rattle.fr_slots.specs.declared.channel.Channel.{Channel}
use Rattle.fr_slots.specs.declared.channel.Channel.TheVariants.{A, B}
use Rattle.fr_slots.specs.declared.plan.Buffer.{Buffer}
use Rattle.fr_slots.specs.declared.plan.Mode.TheVariants as mode
use Rattle.fr_slots.specs.Faults.{latest_on, minislots_filled, transmits, words_of}
use Rattle.fr_slots.specs.Numbers.{IsSlot}
use Rattle.fr_slots.specs.Parameters.{Parameters, is_static_slot}
use Rattle.fr_slots.specs.Plans.{Plan, IsBuffer, buffer_at, is_receive}
use Rattle.fr_slots.specs.Windows.{Opportunity, is_static, run_cycle as run_cycle_by}
use Rattle.fr_timing.specs.Segments.{dynamic_start}

-- ---- times

static_start : (w : WorldState) (d : Description) (window : Opportunity) (slot c : ℕ) → w.bus.cluster ≡ d
    → is_static window ≡ true → run_cycle w window ≡ c
    → start_of w window slot ≡ c * d.params.cycle_mt + (slot - 1) * d.params.static_mt
static_start w d window slot c cluster static is =
    λ i. is i * (cluster i).params.cycle_mt + cond (static i) ((slot - 1) * (cluster i).params.static_mt)
    (dynamic_start (cluster i).params + (window.minislot - 1) * (cluster i).params.minislot_mt)

static_end : (w : WorldState) (d : Description) (window : Opportunity) (b : Buffer) (c : ℕ) → w.bus.cluster ≡ d
    → is_static window ≡ true → run_cycle w window ≡ c
    → end_of w window b ≡ c * d.params.cycle_mt + b.filter.slot * d.params.static_mt
static_end w d window b c cluster static is =
    λ i. is i * (cluster i).params.cycle_mt + cond (static i) (b.filter.slot * (cluster i).params.static_mt)
    (dynamic_start (cluster i).params
    + (window.minislot - 1 + minislots_filled (cluster i).params (words_of (cluster i).params b))
    * (cluster i).params.minislot_mt)

static_times : (c k mt smt x y : ℕ) → x ≤ y
    → c * mt + x * smt + (k * mt + y * smt - x * smt) ≡ (c + k) * mt + y * smt
static_times c k mt smt x y few =
    let less : x * smt ≤ y * smt = mul-le-mul_right smt few in
    omega (arith, less, add-mul c k mt)

module _ (d : Description) (lawful : IsCluster d) (n number : ℕ) (plan : Plan) (b : Buffer)
    (plan_at : slice_get d.plans n ≡ Some plan) (some_task : 1 ≤ plan.tasks) (at : buffer_at plan number ≡ Some b)
    (transmitting : transmits b ≡ true) (of_static : is_static_slot d.params b.filter.slot ≡ true) (c : ℕ)
    (few : c < 64) (admitted : cycle_admitted b.filter.cycles c ≡ true) where
  abbrev on : Channel
  on = channel_of b.filter.channels

  abbrev slot : ℕ
  slot = b.filter.slot

  slot_range : IsSlot slot
  slot_range =
      let node : IsNode d.params plan = each_at (IsNode d.params) d.plans n plan lawful.nodes_are plan_at in
      let ranges : IsBuffer b = each_at IsBuffer plan.buffers number b node.0.buffers_are at in
      ranges.slot_is

  lower : slot - 1 < d.params.static_slots
  lower =
      let most = leb-true slot d.params.static_slots of_static in
      let least = slot_range.from_one in
      omega (arith, most, least)

  whole : slot - 1 + 1 ≡ slot
  whole = (let least = slot_range.from_one in omega (arith, least))

  -- ---- its cycles

  passes : (cycle : ℕ) → cycle_admitted b.filter.cycles cycle ≡ true → is_guaranteed d plan b cycle ≡ true
  passes cycle mine = both (cycle_admitted b.filter.cycles cycle)
      (is_static_slot d.params slot || is_always_in_time d plan b cycle) mine
      (ap (λ (t : Bool). t || is_always_in_time d plan b cycle) of_static)

  abbrev step : ℕ
  step = cycles_after d plan b c

  some_step : 1 ≤ step
  some_step = (first_is (is_after (is_guaranteed d plan b) c) 1 63).from

  few_steps : step ≤ 64
  few_steps = (let to = (first_is (is_after (is_guaranteed d plan b) c) 1 63).to in omega (arith, to))

  between : (k : ℕ) → 1 ≤ k → k < step → cycle_admitted b.filter.cycles ((c + k) % 64) ≡ false
  between k from below = by (cycle_admitted b.filter.cycles ((c + k) % 64)) refl
    where
      by : (t : Bool) → cycle_admitted b.filter.cycles ((c + k) % 64) ≡ t
          → cycle_admitted b.filter.cycles ((c + k) % 64) ≡ false
      by false e = e
      by true e =
          let yes = passes ((c + k) % 64) e in
          let no = first_below (is_after (is_guaranteed d plan b) c) 1 63 k from below in
          absurd (let none : ⊥ = cc in none)

  abbrev then : ℕ
  then = (c + step) % 64

  then_fits : then < 64
  then_fits = mod_below (c + step) 64 (omega arith)

  then_admitted : cycle_admitted b.filter.cycles then ≡ true
  then_admitted = both_first (cycle_admitted b.filter.cycles then)
      (is_static_slot d.params slot || is_always_in_time d plan b then)
      (elim (first_is (is_after (is_guaranteed d plan b) c) 1 63).passes [
        | inl end ↦ (
            let round : c + step ≡ 1 * 64 + c = omega (arith, end) in
            let same : then ≡ c = ap (λ (m : ℕ). m % 64) round ∙ mod-mul-add 1 64 c few in
            ap (is_guaranteed d plan b) same ∙ passes c admitted)
        | inr passing ↦ passing
      ])

  module _ (room : HasRoom d (c + step + 1) (6 * before_slot d b + 1)) where
    abbrev cycles : ℕ
    cycles = c + step + 1

    abbrev most : ℕ
    most = 6 * before_slot d b + 1

    first_start : IsStart d lawful cycles most room nothing_kept 0 c (opening_world d cycles)
    first_start =
        let few_more = few_steps in
        reaches_cycle d lawful cycles most room nothing_kept (λ rs. Unit {0}) (c * opportunities d.params + 1) 0 c
        (λ rs window good next course before opens. ((λ m p known channel k is begins. refl), λ r is. tt)) (omega arith)
        on (opening_world d cycles) (opening_at d lawful cycles (omega arith) (omega (arith, few, few_more))) tt
        (omega arith) (omega arith)

    come : IsComeStatic d lawful cycles most room nothing_kept 0 c slot (opening_world d cycles)
    come = subst (λ (m : ℕ). IsComeStatic d lawful cycles most room nothing_kept 0 c m (opening_world d cycles)) whole
        (comes_static d lawful cycles most room nothing_kept 0 c (slot - 1) (opening_world d cycles) lower
        (λ rs window k next static slots low m p known channel i is begins. refl) on first_start)

    abbrev w0 : WorldState
    w0 = come.world

    abbrev s0 : State
    s0 = interface_at w0 n

    within : n < length w0.interfaces
    within =
        let inside = slice_get_within d.plans n plan plan_at in
        let long = come.is_at.one_each in
        omega (arith, inside, long)

    node : IsNodeAt d (nothing_kept n) n s0 (length w0.bus.sealed) 0
    node = come.is_at.nodes n within

    same_plan : plan ≡ s0.plan
    same_plan = same_some plan s0.plan (sym plan_at ∙ node.plan_at)

    abbrev payload : List ℕ
    payload = replicate (2 * words_of d.params b) 0

    held : IsHeld d cycles 1 w0 come.window n number payload
    held = is_held d cycles most room 0 w0 come.window come.is_at come.next n number payload within

    abbrev f0 : State
    f0 = fetched_by s0 come.window

    abbrev j : ℕ
    j = length f0.entries

    sending : is_receive b.mode ≡ false
    sending = not-true (is_receive b.mode) transmitting

    fetched_accepts : commit_refusal f0 0 number payload ≡ None
    fetched_accepts =
        let calls = room.for_calls n plan plan_at in
        let few_hosts = node.hosts in
        let hosts : count_by is_host f0.entries < plan.host_entries =
        omega (arith, few_hosts, no_host s0 come.window, calls) in
        commit_accepted f0 number b (ap (λ (p : Plan). buffer_at p number) (sym same_plan) ∙ at) sending
        (subst (λ (p : Plan). 1 ≤ p.tasks) same_plan some_task)
        (subst (λ (p : Plan). count_by is_host f0.entries < p.host_entries) same_plan hosts) payload
        (length-replicate (2 * words_of d.params b) 0
        ∙ ap (λ (p : Parameters). 2 * words_of p b) (sym node.params_are))

    -- ---- after the commit

    abbrev kept : ℕ → Keeps
    kept = only_kept n number j

    begun_held : cycles_begun held.world.bus.sealed ≡ c + 1
    begun_held = ap cycles_begun held.sealed ∙ come.begun_then held.recorded held.window_is

    start : IsStart d lawful cycles most room kept 1 (c + step) held.world
    start =
        let begun = begun_held in
        let statics = ap (λ (rs : List Recorded). statics_of (this_cycle rs)) held.sealed
        ∙ come.statics_then held.recorded held.window_is in
        let fit = windows_fit d.params cycles held.world.bus.sealed held.is_at.course in
        let same : cycles_begun held.world.bus.sealed * opportunities d.params ≡ (c + 1) * opportunities d.params =
        ap (λ (m : ℕ). m * opportunities d.params) begun in
        let some = some_step in
        let fewer : (c + 1) * opportunities d.params ≤ (c + step) * opportunities d.params =
        mul-le-mul_right (opportunities d.params) (omega (arith, some)) in
        reaches_cycle d lawful cycles most room kept
        (IsLaterStatic d lawful n number plan b plan_at at of_static cycles j c step between)
        ((c + step) * opportunities d.params + 1 - length held.world.bus.sealed) 1 (c + step)
        (keeps_static d lawful n number plan b plan_at at of_static cycles j c step between most room)
        (omega arith) on held.world held.is_at (omega (arith, begun), λ is. omega (arith, statics))
        (omega (arith, begun, some)) (omega (arith, fit, same, fewer))

    end : IsComeStatic d lawful cycles most room kept 1 (c + step) slot held.world
    end =
        let least = slot_range.from_one in
        subst (λ (m : ℕ). IsComeStatic d lawful cycles most room kept 1 (c + step) m held.world) whole
        (comes_static d lawful cycles most room kept 1 (c + step) (slot - 1) held.world lower
        (λ rs window k next static slots low. lower_mute d lawful n number plan b plan_at at of_static cycles j rs
        window
        k slots (omega (arith, low, least))) on start)

    abbrev w1 : WorldState
    w1 = end.world

    abbrev s1 : State
    s1 = interface_at w1 n

    within_end : n < length w1.interfaces
    within_end =
        let inside = slice_get_within d.plans n plan plan_at in
        let long = end.is_at.one_each in
        omega (arith, inside, long)

    node_end : IsNodeAt d (kept n) n s1 (length w1.bus.sealed) 1
    node_end = end.is_at.nodes n within_end

    offers_end : offered s1.plan s1.entries end.window on ≡ Data j
    offers_end =
        let lines : IsNode d.params plan = each_at (IsNode d.params) d.plans n plan lawful.nodes_are plan_at in
        let one = (faultless d.params plan lines.1).one_sender in
        let begins : may_begin plan end.window on ≡ true =
        ap (λ (t : Bool). t || nat_le end.window.minislot (latest_on plan on)) end.static in
        let turn : transmitter plan end.window on ≡ Some number =
        transmits_there plan number b at transmitting one end.window on
        (subst (λ (m : ℕ). m < 64) (sym end.cycle_is) then_fits) slot_range (end.slot_is on)
        (has_channel b.filter.channels) (ap (cycle_admitted b.filter.cycles) end.cycle_is ∙ then_admitted) in
        let same : plan ≡ s1.plan = same_some plan s1.plan (sym plan_at ∙ node_end.plan_at) in
        subst (λ (p : Plan). offered p s1.entries end.window on ≡ Data j) same
        (offers_ready plan number b at transmitting one s1.entries end.window on slot j begins (end.slot_is on) turn
        (node_end.ready b.mode number sending ∙ this_buffer n number j))

    delay_is : start_of held.first_world come.window slot
        + wait_from d.params.cycle_mt (is_guaranteed d plan b) (earliest_start d b) (latest_end d b) c
        ≡ end_of w1 end.window b
    delay_is =
        let first_time = static_start held.first_world d come.window slot c
        (ap (λ (x : BusState). x.cluster) held.same_bus ∙ come.is_at.cluster) come.static
        (ap (λ (x : BusState). run_cycle_by (cycles_begun x.sealed) come.window) held.same_bus ∙ come.run_is)
        in
        let begins : earliest_start d b ≡ (slot - 1) * d.params.static_mt =
        ap (λ (t : Bool). cond t ((slot - 1) * d.params.static_mt)
        (dynamic_start d.params + before_slot d b * d.params.minislot_mt)) of_static in
        let ends : latest_end d b then ≡ slot * d.params.static_mt =
        ap (λ (t : Bool). cond t (slot * d.params.static_mt) (dynamic_start d.params
        + (last_begin_of d b then - 1 + minislots_filled d.params (words_of d.params b)) * d.params.minislot_mt))
        of_static in
        (λ i. first_time i + (step * d.params.cycle_mt + ends i - begins i))
        ∙ static_times c step d.params.cycle_mt d.params.static_mt (slot - 1) slot (omega arith)
        ∙ sym (static_end w1 d end.window b (c + step) end.is_at.cluster end.static end.run_is)

    pub reached_static : IsDelayed d n number b on cycles
        (wait_from d.params.cycle_mt (is_guaranteed d plan b) (earliest_start d b) (latest_end d b) c)
    reached_static = record {
      first_world = held.first_world;
      leads_first = leads_on come.leads held.leads_first;
      first = come.window;
      first_slot = come.slot_is on;
      waits = held.waits;
      before = s0.entries;
      on_a = offered s0.plan s0.entries come.window A;
      on_b = offered s0.plan s0.entries come.window B;
      fetched = ap (λ (s : State). s.entries) held.fetched;
      payload = payload;
      accepted = if_known n (length held.first_world.interfaces)
          (option_map Host (commit_refusal (interface_at held.first_world n) 0 number payload)) held.within
          ∙ ap (option_map Host) (ap (λ (s : State). commit_refusal s 0 number payload) held.fetched
          ∙ fetched_accepts);
      last_world = w1;
      leads_last = leads_on held.leads end.leads;
      last = end.window;
      is_open = open_at d cycles kept 1 w1 end.window end.is_at end.next;
      last_slot = end.slot_is on;
      pending = node_end.ready mode.Event number refl ∙ this_buffer n number j
          ∙ ap (λ (s : State). Some (length s.entries)) (sym held.fetched);
      offers = offers_end ∙ ap (λ (s : State). Data (length s.entries)) (sym held.fetched);
      delay_is = delay_is;
    }
