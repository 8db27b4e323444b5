-- One more window of a run, in which a chosen frame is sent.
use Rattle.std.proofs.Common.{◌≡◌, ◌≢◌, ℕ, ◌+◌, ◌*◌, ◌<◌, ◌≤◌, Bool, true, false, not, ◌&&◌, ◌||◌, List, [], ◌∷◌, ◌++◌}
use Rattle.std.proofs.Common.{length, replicate, Some, None, refl, sym, ap, subst, ◌∙◌, arith, slice_get, inl, inr}
use Rattle.std.specs.Prelude.{count_by, ◌==◌}
use Rattle.std.proofs.lemmas.Bool.Decides.{eqb_tells}
use Rattle.std.proofs.lemmas.List.{length-replicate, length-set, get_or-set_same, get_or-set_other}
use Rattle.std.proofs.lemmas.Option.{slice_get_within}
use Rattle.arrayvec.specs.ArrayVec.{ArrayVec}
use Rattle.fr_bus.specs.Outcome.{all_passed}
use Rattle.fr_bus.specs.Record.{Recorded}
use Rattle.fr_bus.specs.Stations.{Station}
use Rattle.fr_bus.specs.Windows.{following}
use Rattle.fr_core.proofs.TimingLemmas.{count_more}
use Rattle.fr_core.specs.Steps.{with_interface, offer_of}
use Rattle.fr_core.specs.Worlds.{WorldState, no_interface, interface_at}
use Rattle.fr_guarantees.proofs.CallLemmas.{commit_accepted, withdraw_accepted, emptied}
use Rattle.fr_guarantees.proofs.FrameLemmas.{leads_commit, leads_withdraw, between_kept, IsSending, sending_is}
use Rattle.fr_guarantees.proofs.FrameLemmas.{frame_is, committed_has, past_plan, past_params, past_hosts, emptied_at}
use Rattle.fr_guarantees.proofs.HeardLemmas.{offer_on, longest_one, one_passes, sent_by}
use Rattle.fr_guarantees.proofs.LeadLemmas.{leads_on}
use Rattle.fr_guarantees.proofs.ObservingLemmas.{IsObserved}
use Rattle.fr_guarantees.proofs.OfferingLemmas.{fetched_by}
use Rattle.fr_guarantees.proofs.PassingLemmas.{IsNodeAt, IsAt, AreMute, IsPast, next_here, takes_next, node_past}
use Rattle.fr_guarantees.proofs.PassingLemmas.{at_next, takes_here, number_here, none_commits}
use Rattle.fr_guarantees.proofs.SilenceLemmas.{Keeps, no_bytes}
use Rattle.fr_guarantees.proofs.WindowLemmas.{recorded_by, HasPassed, has_passed, AreOffers}
use Rattle.fr_guarantees.specs.Exactness.{HasRoom}
use Rattle.fr_guarantees.specs.Leading.{Leads}
use Rattle.fr_guarantees.specs.Ways.{CanSend}
use Rattle.fr_guardian.specs.Guarding.{passes, passes_in}
use Rattle.fr_interface.specs.State.{State, with_entry, withdraw_entry, fetch_refusal, withdraw_refusal}
use Rattle.fr_journal.specs.declared.entry.Entry.TheVariants as entries
use Rattle.fr_journal.specs.Entries.{is_host}
use Rattle.fr_schedule.specs.Clusters.{IsCluster}
use Rattle.fr_schedule.specs.Descriptions.{Description, is_guarded}
use Rattle.fr_slots.proofs.PlaceLemmas.{same_some}
use Rattle.fr_slots.specs.declared.channel.Channel.{Channel}
use Rattle.fr_slots.specs.declared.plan.Buffer.{Buffer}
use Rattle.fr_slots.specs.Faults.{is_owned, words_of}
use Rattle.fr_slots.specs.Parameters.{Parameters}
use Rattle.fr_slots.specs.Plans.{Plan}
use Rattle.fr_slots.specs.Windows.{Opportunity, slot_of, is_static}

-- A host commits right before the window, in which its frame is sent, and empties the buffer after it.
pub record IsSent (d : Description) (cycles : ℕ) (kept : ℕ → Keeps) (calls : ℕ) (w : WorldState)
    (window : Opportunity) (channel : Channel) (n number : ℕ) (b : Buffer) (payload : List ℕ) : Type 0 where
  pub world : WorldState
  pub leads : Leads w world
  pub is_at : IsAt d cycles kept calls world
  pub sending : IsSending (interface_at w n).params (interface_at w n).plan number b window channel
  -- the world before the window
  pub committed : WorldState
  pub long : length committed.interfaces ≡ length w.interfaces
  pub at_sender : interface_at committed n ≡ with_entry (interface_at w n) (entries.Commit 0 number payload)
  pub at_other : (m : ℕ) → m ≢ n → interface_at committed m ≡ interface_at w m
  pub stations : List Station
  pub offers : AreOffers committed window stations
  pub sealed : world.bus.sealed ≡ w.bus.sealed ++ recorded_by w.bus.cluster window stations ∷ []

-- its frame alone passes on the channel
pub one_sent : (d : Description) (cycles : ℕ) (kept : ℕ → Keeps) (calls : ℕ) (w : WorldState) (window : Opportunity)
    (channel : Channel) (n number slot : ℕ) (b : Buffer) (payload : List ℕ) (bytes : ArrayVec ℕ)
    → (x : IsSent d cycles kept calls w window channel n number b payload) → n < length w.interfaces
    → offer_on channel (offer_of (with_entry (interface_at w n) (entries.Commit 0 number payload)) window) ≡ Some bytes
    → slot_of window channel ≡ Some slot → (length bytes.items == 0) ≡ false
    → passes w.bus.cluster n window channel ≡ true
    → ((m : ℕ) → m < length w.interfaces → m ≢ n → offer_on channel (offer_of (interface_at w m) window) ≡ None)
    → all_passed channel (recorded_by w.bus.cluster window x.stations).sent
    ≡ sent_by w.bus.cluster window n channel bytes ∷ []
one_sent d cycles kept calls w window channel n number slot b payload bytes x within is slot_is some through silent =
    let inside : (m : ℕ) → m < length x.stations → m < length x.committed.interfaces =
    λ m there. subst (λ (j : ℕ). m < j) x.offers.one_each there in
    one_passes w.bus.cluster window channel x.stations (λ m. offer_of (interface_at x.committed m) window) n slot bytes
    (λ m there. x.offers.are m (inside m there)) (omega (arith, within, x.long, x.offers.one_each))
    (ap (λ (y : State). offer_on channel (offer_of y window)) x.at_sender ∙ is) slot_is some through
    (λ m there other. ap (λ (y : State). offer_on channel (offer_of y window)) (x.at_other m other)
    ∙ silent m (subst (λ (j : ℕ). m < j) x.long (inside m there)) other)

module _ (d : Description) (lawful : IsCluster d) (cycles most : ℕ) (room : HasRoom d cycles most) (kept : ℕ → Keeps)
    (channel : Channel) (calls : ℕ) (few : calls + 3 ≤ most) (w : WorldState) (here : IsAt d cycles kept calls w)
    (window : Opportunity) (next : following d.params cycles w.bus.sealed ≡ Some window)
    (mute : AreMute d kept window) (slot : ℕ) (slot_is : slot_of window channel ≡ Some slot)
    (cycle_fits : window.cycle < 64) (bytes : ℕ)
    (can : CanSend d window.cycle slot channel window.minislot bytes) (payload : List ℕ)
    (as_long : length payload ≡ 2 * words_of d.params can.buffer) where
  abbrev k : ℕ
  k = can.node

  abbrev s : State
  s = interface_at w k

  abbrev s1 : State
  s1 = with_entry s (entries.Commit 0 can.number payload)

  abbrev w1 : WorldState
  w1 = with_interface w k s1

  within : k < length w.interfaces
  within =
      let inside = slice_get_within d.plans k can.plan can.plan_at in
      omega (arith, inside, here.one_each)

  node : IsNodeAt d (kept k) k s (length w.bus.sealed) calls
  node = here.nodes k within

  sending : IsSending s.params s.plan can.number can.buffer window channel
  sending =
      let same : can.plan ≡ s.plan = same_some can.plan s.plan (sym can.plan_at ∙ node.plan_at) in
      subst (λ (p : Parameters). IsSending p s.plan can.number can.buffer window channel) (sym node.params_are)
      (subst (λ (plan : Plan). IsSending d.params plan can.number can.buffer window channel) same
      (sending_is d lawful window channel slot bytes slot_is cycle_fits can))

  words : length payload ≡ 2 * words_of s.params can.buffer
  words = as_long ∙ ap (λ (p : Parameters). 2 * words_of p can.buffer) (sym node.params_are)

  has_room : calls + 3 ≤ s.plan.host_entries
  has_room =
      let enough = room.for_calls k s.plan node.plan_at in
      omega (arith, few, enough)

  -- ---- the commit

  commits : Leads w w1
  commits = leads_commit w k can.number payload within (commit_accepted s can.number can.buffer sending.at
      sending.sending sending.some_task (let fits = has_room in omega (arith, node.hosts, fits)) payload words)

  at_sender : interface_at w1 k ≡ s1
  at_sender = get_or-set_same w.interfaces k s1 no_interface within

  at_other : (n : ℕ) → n ≢ k → interface_at w1 n ≡ interface_at w n
  at_other n other = get_or-set_other w.interfaces k n s1 no_interface other

  long : length w1.interfaces ≡ length w.interfaces
  long = length-set w.interfaces k s1

  ready : (n : ℕ) → n < length w1.interfaces → fetch_refusal (interface_at w1 n) window ≡ None
  ready n inside = elim (eqb_tells n k) [
    | inl same ↦ ap (λ (m : ℕ). fetch_refusal (interface_at w1 m) window) same.1
        ∙ ap (λ (x : State). fetch_refusal x window) at_sender
        ∙ takes_next d cycles most room kept k s1 w.bus.sealed window node.params_are node.plan_at
        (committed_has d (kept k) k s (length w.bus.sealed) calls can.number can.buffer payload node) here.course next
    | inr other ↦ ap (λ (x : State). fetch_refusal x window) (at_other n other.1)
        ∙ takes_here d cycles most room kept calls w here window next n (subst (λ (m : ℕ). n < m) long inside)
  ]

  -- ---- the window

  past : HasPassed w1 window
  past = has_passed w1 window (between_kept w k s1 here.between) (next_here d cycles kept calls w here ∙ next) ready

  abbrev v : WorldState
  v = past.world

  abbrev r : Recorded
  r = recorded_by w.bus.cluster window past.stations

  -- ---- the buffer is emptied

  abbrev t : State
  t = interface_at v k

  number_is : window.number ≡ length w.bus.sealed
  number_is = number_here d cycles most room kept calls w here window next

  seen : IsObserved (fetched_by s1 window) t window
  seen = subst (λ (x : State). IsObserved (fetched_by x window) t window) at_sender
      (past.interfaces k (omega (arith, within, long)))

  within_v : k < length v.interfaces
  within_v = omega (arith, within, long, past.interfaces_long)

  abbrev t2 : State
  t2 = with_entry t (entries.Commit 0 can.number payload)

  abbrev v2 : WorldState
  v2 = with_interface v k t2

  abbrev v3 : WorldState
  v3 = with_interface v2 k (with_entry (interface_at v2 k) (withdraw_entry (interface_at v2 k) 0 can.number))

  plan_t : t.plan ≡ s.plan
  plan_t = past_plan d (kept k) k s (length w.bus.sealed) calls can.number can.buffer payload node t window number_is
      seen

  params_t : t.params ≡ s.params
  params_t = past_params d (kept k) k s (length w.bus.sealed) calls can.number can.buffer payload node t window
      number_is seen

  hosts_t : count_by is_host t.entries ≤ calls + 1
  hosts_t = past_hosts d (kept k) k s (length w.bus.sealed) calls can.number can.buffer payload node t window
      number_is seen

  sending_t : IsSending t.params t.plan can.number can.buffer window channel
  sending_t = subst (λ (p : Parameters). IsSending p t.plan can.number can.buffer window channel) (sym params_t)
      (subst (λ (plan : Plan). IsSending s.params plan can.number can.buffer window channel) (sym plan_t) sending)

  room_t : calls + 3 ≤ t.plan.host_entries
  room_t = subst (λ (plan : Plan). calls + 3 ≤ plan.host_entries) (sym plan_t) has_room

  again : Leads v v2
  again = leads_commit v k can.number payload within_v (commit_accepted t can.number can.buffer sending_t.at
      sending_t.sending sending_t.some_task (let fits = room_t in let few_t = hosts_t in omega (arith, few_t, fits))
      payload (words ∙ ap (λ (p : Parameters). 2 * words_of p can.buffer) (sym params_t)))

  at_v2 : interface_at v2 k ≡ t2
  at_v2 = get_or-set_same v.interfaces k t2 no_interface within_v

  long_v2 : length v2.interfaces ≡ length v.interfaces
  long_v2 = length-set v.interfaces k t2

  within_v2 : k < length v2.interfaces
  within_v2 = subst (λ (m : ℕ). k < m) (sym long_v2) within_v

  withdraws : Leads v2 v3
  withdraws = leads_withdraw v2 k can.number within_v2
      (ap (λ (x : State). withdraw_refusal x 0 can.number) at_v2
      ∙ withdraw_accepted t2 can.number can.buffer sending_t.at sending_t.sending sending_t.some_task hosts_t2)
    where
      hosts_t2 : count_by is_host t2.entries < t2.plan.host_entries
      hosts_t2 =
          let fits = room_t in
          let few_t = hosts_t in
          omega (arith, few_t, fits, count_more is_host t.entries (entries.Commit 0 can.number payload))

  -- ---- the world after it

  long_v3 : length v3.interfaces ≡ length w.interfaces
  long_v3 = length-set v2.interfaces k (with_entry (interface_at v2 k)
      (withdraw_entry (interface_at v2 k) 0 can.number)) ∙ long_v2 ∙ past.interfaces_long ∙ long

  sender_at : interface_at v3 k ≡ emptied t can.number payload
  sender_at = get_or-set_same v2.interfaces k (with_entry (interface_at v2 k)
      (withdraw_entry (interface_at v2 k) 0 can.number)) no_interface within_v2
      ∙ ap (λ (x : State). with_entry x (withdraw_entry x 0 can.number)) at_v2

  other_at : (n : ℕ) → n ≢ k → interface_at v3 n ≡ interface_at v n
  other_at n other = get_or-set_other v2.interfaces k n (with_entry (interface_at v2 k)
      (withdraw_entry (interface_at v2 k) 0 can.number)) no_interface other
      ∙ get_or-set_other v.interfaces k n t2 no_interface other

  nodes_at : (n : ℕ) → n < length w.interfaces
      → IsNodeAt d (kept n) n (interface_at v3 n) (length w.bus.sealed + 1) (calls + 3)
  nodes_at n inside = elim (eqb_tells n k) [
    | inl same ↦ subst (λ (m : ℕ). IsNodeAt d (kept m) m (interface_at v3 m) (length w.bus.sealed + 1) (calls + 3))
        (sym same.1)
        (subst (λ (x : State). IsNodeAt d (kept k) k x (length w.bus.sealed + 1) (calls + 3)) (sym sender_at)
        (emptied_at d (kept k) k s (length w.bus.sealed) calls can.number can.buffer payload node t window number_is
        seen
        (mute k s.plan node.plan_at) (mute k s.plan node.plan_at channel can.number sending.transmitter_is
        sending.begins)))
    | inr other ↦ (
        let was = here.nodes n inside in
        let inside_w1 : n < length w1.interfaces = subst (λ (m : ℕ). n < m) (sym long) inside in
        let seen_n = subst (λ (x : State). IsObserved (fetched_by x window) (interface_at v n) window)
        (at_other n other.1) (past.interfaces n inside_w1) in
        let at = node_past d cycles most room kept n (length w.bus.sealed) calls (interface_at w n)
        (interface_at v n) window
        was mute number_is seen_n in
        subst (λ (x : State). IsNodeAt d (kept n) n x (length w.bus.sealed + 1) (calls + 3)) (sym
        (other_at n other.1)) (record {
          params_are = at.params_are;
          plan_at = at.plan_at;
          has = at.has;
          hosts = omega (arith, at.hosts);
          ready = at.ready;
        }))
  ]

  pub commit_sent : IsSent d cycles kept (calls + 3) w window channel can.node can.number can.buffer payload
  commit_sent = record {
    world = v3;
    leads = leads_on commits (leads_on past.leads (leads_on again withdraws));
    is_at = at_next d cycles kept kept calls (calls + 3) w v3 r here next past.cluster past.cycles long_v3 past.sealed
        (between_kept v2 k (with_entry (interface_at v2 k) (withdraw_entry (interface_at v2 k) 0 can.number))
        (between_kept v k t2 past.is_between)) nodes_at;
    sending = sending;
    committed = w1;
    long = long;
    at_sender = at_sender;
    at_other = at_other;
    stations = past.stations;
    offers = past.offers;
    sealed = past.sealed;
  }

-- a frame of zeros in a dynamic window
pub passes_sending : (d : Description) → IsCluster d → (cycles most : ℕ) → HasRoom d cycles most → (kept : ℕ → Keeps)
    (channel : Channel) (calls : ℕ) → calls + 3 ≤ most → (w : WorldState) → IsAt d cycles kept calls w
    → (window : Opportunity) → following d.params cycles w.bus.sealed ≡ Some window → AreMute d kept window
    → is_static window ≡ false → (slot : ℕ) → slot_of window channel ≡ Some slot → window.cycle < 64 → (bytes : ℕ)
    → CanSend d window.cycle slot channel window.minislot bytes
    → IsPast d cycles kept (calls + 3) w window channel bytes
passes_sending d lawful cycles most room kept channel calls few w here window next mute dynamic slot slot_is cycle_fits
    bytes can =
    let payload : List ℕ = replicate (2 * words_of d.params can.buffer) 0 in
    let as_long : length payload ≡ 2 * words_of d.params can.buffer =
    length-replicate (2 * words_of d.params can.buffer) 0 in
    let x = commit_sent d lawful cycles most room kept channel calls few w here window next mute slot slot_is cycle_fits
    bytes can payload as_long in
    let r = recorded_by w.bus.cluster window x.stations in
    let frame = frame_is (interface_at w can.node) can.number can.buffer window channel slot bytes payload x.sending
    slot_is (omega (arith, can.bytes_are, as_long)) in
    let within : can.node < length w.interfaces =
    (let inside = slice_get_within d.plans can.node can.plan can.plan_at in omega (arith, inside, here.one_each)) in
    let plan_at : slice_get w.bus.cluster.plans can.node ≡ Some can.plan =
    ap (λ (c : Description). slice_get c.plans can.node) here.cluster ∙ can.plan_at in
    let through : passes w.bus.cluster can.node window channel ≡ true =
    (λ i. passes_in w.bus.cluster window channel (plan_at i) (slot_is i))
    ∙ ap (λ (b : Bool). not (b && is_guarded w.bus.cluster.guard channel)
    || is_owned can.plan.owned slot channel window.cycle) dynamic in
    record {
      world = x.world;
      leads = x.leads;
      is_at = x.is_at;
      recorded = r;
      sealed = x.sealed;
      window_is = refl;
      longest_is = λ still. longest_one channel r.sent (sent_by w.bus.cluster window can.node channel frame.frame)
          (one_sent d cycles kept (calls + 3) w window channel can.node can.number slot can.buffer payload frame.frame x
          within frame.is slot_is frame.some through (λ m inside other. no_bytes (interface_at w m) window channel
          dynamic (none_commits d cycles most room kept calls w here window next mute channel m inside)))
          ∙ frame.long;
    }
