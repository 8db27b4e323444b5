-- A frame that a host commits right before its window is sent there, and the host then empties the buffer.
use Rattle.std.proofs.Common.{◌≡◌, ℕ, ◌+◌, ◌<◌, ◌≤◌, ◌==◌, true, false, ◌&&◌, List, length, Some, None, refl, sym, ap}
use Rattle.std.proofs.Common.{subst, ◌∙◌, arith}
use Rattle.std.specs.Prelude.{nat_le, count_by, option_map}
use Rattle.std.proofs.lemmas.Bool.{eqb-true, le-leb, ne_eqb, or_right, not-true}
use Rattle.std.proofs.lemmas.List.{length-set}
use Rattle.arrayvec.specs.ArrayVec.{ArrayVec}
use Rattle.fr_core.proofs.CaseLemmas.{both_first, both_rest}
use Rattle.fr_core.proofs.SendingLemmas.{transmits_there, offers_ready}
use Rattle.fr_core.proofs.TimingLemmas.{count_more}
use Rattle.fr_core.specs.declared.error.StepError.TheVariants.{Host}
use Rattle.fr_core.specs.declared.event.Event.TheVariants.{Commit, Withdraw}
use Rattle.fr_core.specs.Steps.{with_interface, offer_of}
use Rattle.fr_core.specs.Worlds.{WorldState, interface_at}
use Rattle.fr_frame.specs.Encoding.{encoded}
use Rattle.fr_guarantees.proofs.CallLemmas.{HasOthers, others_committed, others_after, emptied, emptied_is}
use Rattle.fr_guarantees.proofs.CallLemmas.{committed_ready}
use Rattle.fr_guarantees.proofs.HeardLemmas.{offer_on}
use Rattle.fr_guarantees.proofs.JournalLemmas.{HasWindows, windows_more, windows_same, hosts_same}
use Rattle.fr_guarantees.proofs.LeadLemmas.{leads_by}
use Rattle.fr_guarantees.proofs.ObservingLemmas.{IsObserved}
use Rattle.fr_guarantees.proofs.OfferingLemmas.{fetched_by}
use Rattle.fr_guarantees.proofs.OfferLemmas.{length-frame}
use Rattle.fr_guarantees.proofs.PassingLemmas.{IsNodeAt}
use Rattle.fr_guarantees.proofs.SilenceLemmas.{Keeps, IsMute, data_bytes}
use Rattle.fr_guarantees.proofs.TurnLemmas.{if_known}
use Rattle.fr_guarantees.proofs.WindowLemmas.{IsBetween}
use Rattle.fr_guarantees.specs.Leading.{Leads}
use Rattle.fr_guarantees.specs.Ways.{CanSend}
use Rattle.fr_interface.specs.State.{State, with_entry, withdraw_entry, commit_refusal, withdraw_refusal}
use Rattle.fr_journal.proofs.LastCommitLemmas.{payload_of-next}
use Rattle.fr_journal.specs.declared.entry.Entry.TheVariants as entries
use Rattle.fr_journal.specs.Entries.{is_host}
use Rattle.fr_journal.specs.Offers.{may_begin, transmitter, data_frame_of}
use Rattle.fr_schedule.proofs.ClusterLemmas.{each_at}
use Rattle.fr_schedule.specs.Clusters.{IsCluster, IsNode}
use Rattle.fr_schedule.specs.Descriptions.{Description}
use Rattle.fr_slots.proofs.FaultlessLemmas.{faultless}
use Rattle.fr_slots.specs.Admission.{includes, cycle_admitted}
use Rattle.fr_slots.specs.declared.channel.Channel.{Channel}
use Rattle.fr_slots.specs.declared.plan.Buffer.{Buffer}
use Rattle.fr_slots.specs.Faults.{HasOneSender, latest_on, transmits}
use Rattle.fr_slots.specs.Parameters.{Parameters}
use Rattle.fr_slots.specs.Plans.{Plan, IsBuffer, buffer_at, is_receive}
use Rattle.fr_slots.specs.Windows.{Opportunity, slot_of, is_static}

-- ---- calls change one interface

pub leads_commit : (w : WorldState) (n number : ℕ) (payload : List ℕ) → n < length w.interfaces
    → commit_refusal (interface_at w n) 0 number payload ≡ None
    → Leads w (with_interface w n (with_entry (interface_at w n) (entries.Commit 0 number payload)))
leads_commit w n number payload within accepted =
    leads_by w (Commit n 0 number payload) _
    (if_known n (length w.interfaces) (option_map Host (commit_refusal (interface_at w n) 0 number payload)) within
    ∙ ap (option_map Host) accepted) refl refl

pub leads_withdraw : (w : WorldState) (n number : ℕ) → n < length w.interfaces
    → withdraw_refusal (interface_at w n) 0 number ≡ None
    → Leads w (with_interface w n (with_entry (interface_at w n) (withdraw_entry (interface_at w n) 0 number)))
leads_withdraw w n number within accepted =
    leads_by w (Withdraw n 0 number) _
    (if_known n (length w.interfaces) (option_map Host (withdraw_refusal (interface_at w n) 0 number)) within
    ∙ ap (option_map Host) accepted) refl refl

pub between_kept : (w : WorldState) (n : ℕ) (i : State) → IsBetween w → IsBetween (with_interface w n i)
between_kept w n i is =
    let long = length-set w.interfaces n i in
    record {
      a_controller_each = is.a_controller_each ∙ sym long;
      a_station_each = is.a_station_each ∙ sym long;
      idle = λ k within. is.idle k (subst (λ (m : ℕ). k < m) long within);
      unput = λ k within. is.unput k (subst (λ (m : ℕ). k < m) long within);
      whole_a = is.whole_a;
      whole_b = is.whole_b;
      phase = is.phase;
      opened = is.opened;
    }

-- ---- the sender

-- a transmit buffer of a node with tasks that sends in the slot on the channel in the cycle
pub record IsSending (p : Parameters) (plan : Plan) (number : ℕ) (b : Buffer) (window : Opportunity)
    (channel : Channel) : Type 0 where
  pub at : buffer_at plan number ≡ Some b
  pub some_task : 1 ≤ plan.tasks
  pub sending : is_receive b.mode ≡ false
  pub transmitting : transmits b ≡ true
  pub transmitter_is : transmitter plan window channel ≡ Some number
  pub begins : may_begin plan window channel ≡ true
  pub one : HasOneSender plan

module _ (d : Description) (lawful : IsCluster d) (window : Opportunity) (channel : Channel) (slot bytes : ℕ)
    (slot_is : slot_of window channel ≡ Some slot) (cycle_fits : window.cycle < 64)
    (can : CanSend d window.cycle slot channel window.minislot bytes) where
  pub sending_is : IsSending d.params can.plan can.number can.buffer window channel
  sending_is =
      let plan = can.plan in
      let b = can.buffer in
      let node : IsNode d.params plan = each_at (IsNode d.params) d.plans can.node plan lawful.nodes_are can.plan_at in
      let one = (faultless d.params plan node.1).one_sender in
      let cycles = cycle_admitted b.filter.cycles window.cycle in
      let there = b.filter.slot == slot in
      let on = includes b.filter.channels channel in
      let transmitting = both_first (transmits b) (there && on && cycles) can.sends in
      let admits = both_rest (transmits b) (there && on && cycles) can.sends in
      let in_slot = both_first (there && on) cycles admits in
      let same : b.filter.slot ≡ slot = eqb-true b.filter.slot slot (both_first there on in_slot) in
      let ranges : IsBuffer b = each_at IsBuffer plan.buffers can.number b node.0.buffers_are can.at in
      record {
        at = can.at;
        some_task = can.some_task;
        sending = not-true (is_receive b.mode) transmitting;
        transmitting = transmitting;
        transmitter_is = transmits_there plan can.number b can.at transmitting one window channel cycle_fits
            ranges.slot_is (slot_is ∙ ap Some (sym same)) (both_rest there on in_slot)
            (both_rest (there && on) cycles admits);
        begins = or_right (is_static window) (nat_le window.minislot (latest_on plan channel))
            (le-leb window.minislot (latest_on plan channel) can.in_time);
        one = one;
      }

-- ---- the frame

-- bytes that a node puts on the channel
pub record HasBytes (s : State) (window : Opportunity) (channel : Channel) (bytes : ℕ) : Type 0 where
  pub frame : ArrayVec ℕ
  pub is : offer_on channel (offer_of s window) ≡ Some frame
  pub long : length frame.items ≡ bytes
  pub some : (length frame.items == 0) ≡ false

pub frame_is : (s : State) (number : ℕ) (b : Buffer) (window : Opportunity) (channel : Channel) (slot bytes : ℕ)
    (payload : List ℕ) → IsSending s.params s.plan number b window channel → slot_of window channel ≡ Some slot
    → bytes ≡ 8 + length payload → HasBytes (with_entry s (entries.Commit 0 number payload)) window channel bytes
frame_is s number b window channel slot bytes payload is slot_is bytes_are =
    let s1 = with_entry s (entries.Commit 0 number payload) in
    let offers = offers_ready s.plan number b is.at is.transmitting is.one s1.entries window channel slot
    (length s.entries) is.begins slot_is is.transmitter_is (committed_ready s number payload b is.sending) in
    let frame = data_frame_of s.plan s1.entries window channel slot (length s.entries) in
    let long : length (encoded frame channel) ≡ bytes =
    omega (
      arith,
      length-frame frame channel,
      ap (λ (l : List ℕ). length l) (payload_of-next s.entries 0 number payload),
      bytes_are,
    ) in
    record {
      frame = record { items = encoded frame channel };
      is = data_bytes s1 window channel slot (length s.entries) slot_is offers;
      long = long;
      some = ne_eqb (length (encoded frame channel)) 0 (λ none. let no : ⊥ = omega
          (arith, none, long, bytes_are) in no);
    }

-- ---- the sender's interface before and after the window

module _ (d : Description) (kept : Keeps) (n : ℕ) (s : State) (many calls number : ℕ) (b : Buffer) (payload : List ℕ)
    (is : IsNodeAt d kept n s many calls) where
  -- with the commit
  pub committed_has : HasWindows (with_entry s (entries.Commit 0 number payload)) many
  committed_has = windows_same s (entries.Commit 0 number payload) many refl refl refl is.has

  pub committed_hosts : count_by is_host (with_entry s (entries.Commit 0 number payload)).entries ≤ calls + 1
  committed_hosts = omega (arith, is.hosts, count_more is_host s.entries (entries.Commit 0 number payload))

  module _ (t : State) (window : Opportunity) (number_is : window.number ≡ many)
      (seen : IsObserved (fetched_by (with_entry s (entries.Commit 0 number payload)) window) t window) where
    pub past_plan : t.plan ≡ s.plan
    past_plan = ap (λ (x : State). x.plan) seen.is

    pub past_params : t.params ≡ s.params
    past_params = ap (λ (x : State). x.params) seen.is

    pub past_hosts : count_by is_host t.entries ≤ calls + 1
    past_hosts = subst (λ (m : ℕ). m ≤ calls + 1)
        (sym (hosts_same (with_entry s (entries.Commit 0 number payload)) t window seen)) committed_hosts

    past_others : IsMute kept s.plan window → HasOthers kept t number
    past_others mute = others_after kept (with_entry s (entries.Commit 0 number payload)) t window number
        (others_committed kept s number 0 payload (λ m other sends differs. is.ready m other sends)) mute seen

    abbrev t2 : State
    t2 = with_entry t (entries.Commit 0 number payload)

    pub emptied_at : IsMute kept s.plan window → kept number ≡ None
        → IsNodeAt d kept n (emptied t number payload) (many + 1) (calls + 3)
    emptied_at mute none =
        let has = windows_more (with_entry s (entries.Commit 0 number payload)) t window many committed_has number_is
        seen in
        record {
          params_are = past_params ∙ is.params_are;
          plan_at = is.plan_at ∙ ap Some (sym past_plan);
          has = windows_same t2 (withdraw_entry t2 0 number) (many + 1) refl refl refl
              (windows_same t (entries.Commit 0 number payload) (many + 1) refl refl refl has);
          hosts = omega (
            arith,
            past_hosts,
            count_more is_host t.entries (entries.Commit 0 number payload),
            count_more is_host t2.entries (withdraw_entry t2 0 number),
          );
          ready = emptied_is kept t number payload (past_others mute) none;
        }
