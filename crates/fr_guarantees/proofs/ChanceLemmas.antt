-- A dynamic buffer that is possible in a cycle is offered in some run.
use Rattle.std.proofs.Common.{◌≡◌, ℕ, ◌+◌, ◌*◌, ◌<◌, ◌≤◌, ◌==◌, Bool, true, false, ◌&&◌, ◌||◌, List, length, replicate}
use Rattle.std.proofs.Common.{Some, None, refl, sym, ap, subst, ◌∙◌, arith, slice_get, option_map}
use Rattle.std.specs.Prelude.{nat_le, count_by}
use Rattle.std.proofs.lemmas.Bool.{eq-eqb, le-leb, leb-true, not-true}
use Rattle.std.proofs.lemmas.List.{length-replicate, get_or-set_same}
use Rattle.std.proofs.lemmas.Option.{slice_get_within}
use Rattle.fr_core.proofs.CaseLemmas.{both, both_first, both_rest}
use Rattle.fr_core.proofs.SendingLemmas.{offers_ready}
use Rattle.fr_core.specs.declared.error.StepError.TheVariants.{Host}
use Rattle.fr_core.specs.Steps.{with_interface}
use Rattle.fr_core.specs.Worlds.{no_interface, interface_at, opening_world}
use Rattle.fr_guarantees.proofs.CallLemmas.{commit_accepted, committed_ready}
use Rattle.fr_guarantees.proofs.DelayLemmas.{fits, above, has_channel}
use Rattle.fr_guarantees.proofs.ExactLemmas.{IsRowOf, is_way, row_of, open_at, comes}
use Rattle.fr_guarantees.proofs.FrameLemmas.{IsSending, sending_is}
use Rattle.fr_guarantees.proofs.HoldingLemmas.{nothing_kept}
use Rattle.fr_guarantees.proofs.PassingLemmas.{IsNodeAt}
use Rattle.fr_guarantees.proofs.TurnLemmas.{if_known}
use Rattle.fr_guarantees.proofs.WalkLemmas.{IsCome}
use Rattle.fr_guarantees.specs.Chances.{IsOffered, AreOffered}
use Rattle.fr_guarantees.specs.Exactness.{HasRoom}
use Rattle.fr_guarantees.specs.Ways.{CanSend}
use Rattle.fr_interface.specs.State.{State, with_entry, commit_refusal}
use Rattle.fr_journal.specs.declared.entry.Entry.TheVariants.{Commit}
use Rattle.fr_journal.specs.declared.entry.Offered.TheVariants.{Data}
use Rattle.fr_journal.specs.Entries.{is_host}
use Rattle.fr_journal.specs.Offers.{offered}
use Rattle.fr_latency.proofs.GreatestLemmas.{greatest_most, greatest_passes}
use Rattle.fr_latency.proofs.LaneLemmas.{are_lanes}
use Rattle.fr_latency.specs.Lanes.{Opens}
use Rattle.fr_latency.specs.Latencies.{before_slot, channel_of, is_ever_in_time, is_possible}
use Rattle.fr_latency.specs.Openings.{can_begin, greatest}
use Rattle.fr_minislot.specs.DynamicRows.{is_row, last_slot}
use Rattle.fr_schedule.proofs.ClusterLemmas.{each_at}
use Rattle.fr_schedule.specs.Clusters.{IsCluster, IsNode}
use Rattle.fr_schedule.specs.Descriptions.{Description}
use Rattle.fr_slots.proofs.PlaceLemmas.{same_some}
use Rattle.fr_slots.specs.Admission.{includes, cycle_admitted}
use Rattle.fr_slots.specs.declared.channel.Channel.{Channel}
use Rattle.fr_slots.specs.declared.plan.Buffer.{Buffer}
use Rattle.fr_slots.specs.Faults.{latest_on, sends_at, transmits, words_of}
use Rattle.fr_slots.specs.Parameters.{Parameters, is_static_slot}
use Rattle.fr_slots.specs.Plans.{Plan, IsBuffer, buffer_at, is_receive}
use Rattle.fr_slots.specs.Windows.{slot_of}

module _ (d : Description) (lawful : IsCluster d) (n number : ℕ) (plan : Plan) (b : Buffer)
    (plan_at : slice_get d.plans n ≡ Some plan) (some_task : 1 ≤ plan.tasks) (at : buffer_at plan number ≡ Some b)
    (transmitting : transmits b ≡ true) (dynamic : is_static_slot d.params b.filter.slot ≡ false) (cycle : ℕ)
    (few : cycle < 64) (possible : is_possible d plan b cycle ≡ true)
    (room : HasRoom d (cycle + 1) (3 * before_slot d b + 1)) where
  abbrev on : Channel
  on = channel_of b.filter.channels

  abbrev early : ℕ
  early = before_slot d b

  -- the last minislot in time at which the slot can begin
  abbrev minislot : ℕ
  minislot = greatest (can_begin d on cycle early) (latest_on plan on)

  admitted : cycle_admitted b.filter.cycles cycle ≡ true
  admitted = both_first (cycle_admitted b.filter.cycles cycle)
      (is_static_slot d.params b.filter.slot || is_ever_in_time d plan b cycle) possible

  some : 1 ≤ minislot
  some = leb-true 1 minislot (ap (λ (t : Bool). t || is_ever_in_time d plan b cycle) (sym dynamic)
      ∙ both_rest (cycle_admitted b.filter.cycles cycle)
      (is_static_slot d.params b.filter.slot || is_ever_in_time d plan b cycle) possible)

  opens_there : Opens d on cycle b.filter.slot minislot
  opens_there =
      let node : IsNode d.params plan = each_at (IsNode d.params) d.plans n plan lawful.nodes_are plan_at in
      let ranges : IsBuffer b = each_at IsBuffer plan.buffers number b node.0.buffers_are at in
      let fewer = (fits d lawful n number plan b plan_at at transmitting dynamic).latest_fits on in
      let most = greatest_most (can_begin d on cycle early) (latest_on plan on) in
      let one = some in
      ((are_lanes d lawful).opens on cycle b.filter.slot minislot
      (above d lawful n number plan b plan_at at transmitting dynamic)).0
      (both (is_row d.params b.filter.slot minislot) (can_begin d on cycle early minislot)
      (both (nat_le minislot d.params.minislots) (nat_le b.filter.slot last_slot)
      (le-leb minislot d.params.minislots (omega (arith, most, fewer)))
      (le-leb b.filter.slot last_slot ranges.slot_is.at_most))
      (greatest_passes (can_begin d on cycle early) (latest_on plan on) (omega (arith, one))))

  row : IsRowOf d.params opens_there.counts minislot b.filter.slot
  row = row_of d.params opens_there.counts minislot b.filter.slot opens_there.opened

  come : IsCome d lawful (cycle + 1) (3 * early + 1) room nothing_kept (3 * length opens_there.counts)
      (cycle + 1) cycle on
      opens_there.counts (opening_world d (cycle + 1))
  come =
      let same = row.slot_is in
      comes d lawful (cycle + 1) cycle (3 * early + 1) few (omega arith) (omega (arith, few)) room on opens_there.counts
      (is_way d on cycle opens_there.counts opens_there.is_lane opens_there.are_rows) row.exists (omega (arith, same))

  abbrev s : State
  s = interface_at come.world n

  within : n < length come.world.interfaces
  within =
      let inside = slice_get_within d.plans n plan plan_at in
      let long = come.is_at.one_each in
      omega (arith, inside, long)

  node : IsNodeAt d (nothing_kept n) n s (length come.world.bus.sealed) (3 * length opens_there.counts)
  node = come.is_at.nodes n within

  same_plan : plan ≡ s.plan
  same_plan = same_some plan s.plan (sym plan_at ∙ node.plan_at)

  abbrev payload : List ℕ
  payload = replicate (2 * words_of d.params b) 0

  sending : is_receive b.mode ≡ false
  sending = not-true (is_receive b.mode) transmitting

  accepts : commit_refusal s 0 number payload ≡ None
  accepts =
      let calls = room.for_calls n plan plan_at in
      let hosts = node.hosts in
      let same = row.slot_is in
      commit_accepted s number b (ap (λ (p : Plan). buffer_at p number) (sym same_plan) ∙ at) sending
      (subst (λ (p : Plan). 1 ≤ p.tasks) same_plan some_task)
      (subst (λ (p : Plan). count_by is_host s.entries < p.host_entries) same_plan (omega (arith, hosts, calls, same)))
      payload (length-replicate (2 * words_of d.params b) 0
      ∙ ap (λ (p : Parameters). 2 * words_of p b) (sym node.params_are))

  sends_there : sends_at b.filter.slot on come.window.cycle b ≡ true
  sends_there = both (transmits b) ((b.filter.slot == b.filter.slot && includes b.filter.channels on)
      && cycle_admitted b.filter.cycles come.window.cycle) transmitting
      (both (b.filter.slot == b.filter.slot && includes b.filter.channels on)
      (cycle_admitted b.filter.cycles come.window.cycle)
      (both (b.filter.slot == b.filter.slot) (includes b.filter.channels on)
      (eq-eqb b.filter.slot b.filter.slot refl) (has_channel b.filter.channels))
      (ap (cycle_admitted b.filter.cycles) come.cycle_is ∙ admitted))

  slot_there : slot_of come.window on ≡ Some b.filter.slot
  slot_there = come.slot_is ∙ ap Some row.slot_is

  turn : IsSending d.params plan number b come.window on
  turn =
      let most = greatest_most (can_begin d on cycle early) (latest_on plan on) in
      let there = come.minislot_is ∙ row.begins in
      let can : CanSend d come.window.cycle b.filter.slot on come.window.minislot (8 + 2 * words_of d.params b) =
      record {
        node = n;
        plan = plan;
        plan_at = plan_at;
        some_task = some_task;
        number = number;
        buffer = b;
        at = at;
        sends = sends_there;
        in_time = omega (arith, most, there);
        bytes_are = refl;
      } in
      sending_is d lawful come.window on b.filter.slot (8 + 2 * words_of d.params b) slot_there
      (subst (λ (m : ℕ). m < 64) (sym come.cycle_is) few) can

  offers_it : (t : State) → t ≡ with_entry s (Commit 0 number payload)
      → offered t.plan t.entries come.window on ≡ Data (length s.entries)
  offers_it t is =
      let s1 = with_entry s (Commit 0 number payload) in
      ap (λ (x : State). offered x.plan x.entries come.window on) is
      ∙ subst (λ (p : Plan). offered p s1.entries come.window on ≡ Data (length s.entries)) same_plan
      (offers_ready plan number b at transmitting turn.one s1.entries come.window on b.filter.slot (length s.entries)
      turn.begins slot_there turn.transmitter_is (committed_ready s number payload b sending))

  offered_there : IsOffered d n number b on cycle
  offered_there = record {
    world = come.world;
    leads = come.leads;
    window = come.window;
    is_open = open_at d (cycle + 1) nothing_kept (3 * length opens_there.counts) come.world come.window come.is_at
        come.next;
    cycle_is = come.cycle_is;
    slot_is = slot_there;
    payload = payload;
    accepted = if_known n (length come.world.interfaces) (option_map Host (commit_refusal s 0 number payload)) within
        ∙ ap (option_map Host) accepts;
    offers = offers_it (interface_at (with_interface come.world n (with_entry s (Commit 0 number payload))) n)
        (get_or-set_same come.world.interfaces n (with_entry s (Commit 0 number payload)) no_interface within);
  }

-- each possible buffer is offered in some run
pub all_offered : (d : Description) → IsCluster d → AreOffered d
all_offered d lawful n number plan b plan_at some_task at transmitting dynamic cycle few possible room =
    offered_there d lawful n number plan b plan_at some_task at transmitting dynamic cycle few possible room
