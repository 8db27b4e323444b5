-- What stores a frame of a link is among the link's receivers.
use Rattle.std.proofs.Common.{◌≡◌, ℕ, zero, suc, ◌+◌, ◌<◌, ◌==◌, Bool, true, false, cond, not, ◌&&◌, List, [], ◌∷◌}
use Rattle.std.proofs.Common.{Option, Some, None, refl, sym, ap, subst, ◌∙◌, ◌⊎◌, inl, inr, arith, is_some, option_map}
use Rattle.std.proofs.lemmas.Bool.{and_from, and_parts, both_ways, cases_Bool, cond-false, eqb-true, false_from_ne_true}
use Rattle.std.proofs.lemmas.List.Elements.{Contains-append_cases, Contains-append_left, Contains-append_right}
use Rattle.std.specs.List.{list_any}
use Rattle.std.specs.Option.{option_or}
use Rattle.std.specs.Prelude.{Contains, slice_get}
use Rattle.fr_capture.specs.declared.takers.Taker.{Taker}
use Rattle.fr_capture.specs.Takers.{buffers_from, taker_if}
use Rattle.fr_capture.specs.Taking.{buffer_takes, is_from, queue_takes}
use Rattle.fr_concord.specs.Linked.{AreTakersLinked, IsWindowOf, receiver_of}
use Rattle.fr_frame.specs.Fields.{Fields}
use Rattle.fr_journal.specs.Arrivals.{is_for_queue, queue_admits_slot, takes_window}
use Rattle.fr_journal.specs.Counts.{seen_on}
use Rattle.fr_journal.specs.Cycles.{moment_after}
use Rattle.fr_journal.specs.declared.entry.Arrival.{Arrival}
use Rattle.fr_journal.specs.declared.entry.Moment.{Moment}
use Rattle.fr_journal.specs.Held.{arrival_in, arrival_of, arrival_on, data_frame_seen}
use Rattle.fr_links.specs.declared.links.Link.{Link}
use Rattle.fr_links.specs.declared.receivers.Receiver.{Receiver}
use Rattle.fr_links.specs.Links.{numbered}
use Rattle.fr_links.specs.Receivers.{buffer_receiver, node_receivers, plan_receivers, queues, queues_in, receiver_if}
use Rattle.fr_links.specs.Receivers.{receivers, receivers_by, receives, receives_at, receives_in}
use Rattle.fr_slots.proofs.FaultLemmas.{any-none}
use Rattle.fr_slots.specs.Admission.{cycle_admitted, is_channel}
use Rattle.fr_slots.specs.declared.channel.Channel.{Channel}
use Rattle.fr_slots.specs.declared.channel.Channel.TheVariants.{A, B}
use Rattle.fr_slots.specs.declared.filter.Filter.{Filter}
use Rattle.fr_slots.specs.declared.plan.Buffer.{Buffer}
use Rattle.fr_slots.specs.declared.plan.Queue.{Queue}
use Rattle.fr_slots.specs.Faults.{cycles}
use Rattle.fr_slots.specs.Numbers.{cycle_count}
use Rattle.fr_slots.specs.Parameters.{Parameters}
use Rattle.fr_slots.specs.Plans.{Plan, admits_slot, admits_window, filter_admits, is_receive, queue_admits}
use Rattle.fr_slots.specs.Windows.{Opportunity, slot_of}
use Rattle.fr_status.specs.Forms.{Seen}

-- ---- a receive buffer stores only what it admits

on_from : (admits : Bool) (o : Option Fields) (moment : Moment) (c channel : Channel)
    → is_from channel (cond admits (option_map (arrival_of moment c) o) None) ≡ true
    → (admits ≡ true) × (is_channel c channel ≡ true)
on_from true None moment c channel is = absurd (let none : ⊥ = cc is in none)
on_from true (Some f) moment c channel is = (refl, is)
on_from false o moment c channel is = absurd (let none : ⊥ = cc is in none)

or_from : (x y : Option Arrival) (channel : Channel) → is_from channel (option_or x y) ≡ true
    → (is_from channel x ≡ true) ⊎ (is_from channel y ≡ true)
or_from None y channel is = inr is
or_from (Some x) y channel is = inl is

admits_it : (p : Parameters) (f : Filter) (a b : Seen) (w : Opportunity) (channel : Channel)
    → is_from channel (arrival_in p f (moment_after []) a b w) ≡ true → admits_window f w channel ≡ true
admits_it p f a b w A is =
    elim (or_from (arrival_on p f (moment_after []) w A a) (arrival_on p f (moment_after []) w B b) A is) [
      | inl on_a ↦ (on_from (admits_window f w A) (data_frame_seen p w A a) (moment_after []) A A on_a).0
      | inr on_b ↦
          absurd (let none : ⊥ =
          cc (on_from (admits_window f w B) (data_frame_seen p w B b) (moment_after []) B A on_b).1 in none)
    ]
admits_it p f a b w B is =
    elim (or_from (arrival_on p f (moment_after []) w A a) (arrival_on p f (moment_after []) w B b) B is) [
      | inl on_a ↦
          absurd (let none : ⊥ =
          cc (on_from (admits_window f w A) (data_frame_seen p w A a) (moment_after []) A B on_a).1 in none)
      | inr on_b ↦ (on_from (admits_window f w B) (data_frame_seen p w B b) (moment_after []) B B on_b).0
    ]

-- ---- a cycle that passes a test

any_at : (test : ℕ → Bool) (cycle : ℕ) → cycle < cycle_count → test cycle ≡ true → list_any test cycles ≡ true
any_at test cycle fits passes =
    elim (cases_Bool (list_any test cycles)) [
      | inl any ↦ any
      | inr none ↦
          absurd (both_ways (test cycle) (any-none test 0 cycle_count none cycle (omega arith) (omega arith)) passes)
    ]

module _ (l : Link) (w : Opportunity) (is : IsWindowOf l w) where
  -- ---- receive buffers

  receives_it : (p : Parameters) (a b : Seen) (line : Buffer) → buffer_takes p w a b l.channel line ≡ true
      → receives l line ≡ true
  receives_it p a b line takes =
      let (mode, from) = and_parts (is_receive line.mode)
      (is_from l.channel (arrival_in p line.filter (moment_after []) a b w)) takes in
      let admits : filter_admits line.filter w.cycle l.slot l.channel ≡ true =
      ap (admits_slot line.filter w.cycle l.channel) (sym is.slot_is) ∙ admits_it p line.filter a b w l.channel from in
      any_at (receives_in l line) w.cycle is.cycle_fits
      (and_from (cycle_admitted l.cycles w.cycle) (receives_at l w.cycle line) is.admitted
      (and_from (is_receive line.mode) (filter_admits line.filter w.cycle l.slot l.channel) mode admits))

  -- ---- the receive FIFO

  same_takes : (buffers : List Buffer)
      → list_any (takes_window w l.channel) buffers ≡ list_any (receives_at l w.cycle) buffers
  same_takes buffers =
      ap (λ (slot : Option ℕ). list_any (λ b. is_receive b.mode && admits_slot b.filter w.cycle l.channel slot) buffers)
      is.slot_is

  queues_it : (p : Parameters) (plan : Plan) (seen : Seen) (q : Option Queue)
      → queue_takes p plan w l.channel seen q ≡ true → queues l plan.buffers q ≡ true
  queues_it p plan seen None takes = absurd (let none : ⊥ = cc takes in none)
  queues_it p plan seen (Some q) takes =
      let (for_it, seen_it) = and_parts (is_for_queue plan q w l.channel) (is_some (data_frame_seen p w l.channel seen))
      takes in
      let (slot, none) = and_parts (queue_admits_slot q w.cycle l.channel (slot_of w l.channel))
      (not (list_any (takes_window w l.channel) plan.buffers)) for_it in
      let admits : queue_admits q w.cycle l.slot l.channel ≡ true =
      ap (queue_admits_slot q w.cycle l.channel) (sym is.slot_is) ∙ slot in
      let left : not (list_any (receives_at l w.cycle) plan.buffers) ≡ true =
      ap not (sym (same_takes plan.buffers)) ∙ none in
      any_at (queues_in l plan.buffers q) w.cycle is.cycle_fits
      (and_from (cycle_admitted l.cycles w.cycle)
      (queue_admits q w.cycle l.slot l.channel && not (list_any (receives_at l w.cycle) plan.buffers)) is.admitted
      (and_from (queue_admits q w.cycle l.slot l.channel) (not (list_any (receives_at l w.cycle) plan.buffers)) admits
      left))

-- ---- lists

only : {X : Type 0} (y x : X) → Contains (y ∷ []) x → y ≡ x
only y x (zero, below, is) = is
only y x (suc k, below, is) = absurd (omega (arith, below))

pub single : {X : Type 0} (x : X) → Contains (x ∷ []) x
single x = (0, omega arith, refl)

pub nothing : {X : Type 0} (x : X) → Contains [] x → ⊥
nothing x (k, below, is) = omega (arith, below)

-- what is taken for one reason is received for another that follows from it
if_taken : (takes receives : Bool) (node : ℕ) (buffer : Option ℕ) (t : Taker) → (takes ≡ true → receives ≡ true)
    → Contains (taker_if takes (Some node) buffer) t → Contains (receiver_if receives node buffer) (receiver_of node t)
if_taken false receives node buffer t follows is = absurd (nothing t is)
if_taken true receives node buffer t follows is =
    let same : buffer ≡ t.buffer = ap (λ (taker : Taker). taker.buffer) (only _ t is) in
    subst (λ (b : Bool). Contains (receiver_if b node buffer) (receiver_of node t)) (sym (follows refl))
    (subst (λ (place : Option ℕ). Contains (record { node = node; buffer = buffer } ∷ [])
    (let r : Receiver = record { node = node; buffer = place } in r)) same
    (single (record { node = node; buffer = buffer })))

pub among : {X Y : Type 0} (f : ℕ → X → List Y) (number place : ℕ) (xs : List X) (x : X) (y : Y)
    → slice_get xs place ≡ Some x → Contains (f (number + place) x) y → Contains (numbered f number xs) y
unfolding numbered
among f number place [] x y at is = cc at
among f number zero (z ∷ xs) x y at is =
    let same : z ≡ x = cc at in
    let here : number + 0 ≡ number = omega arith in
    Contains-append_left (f number z) (numbered f (number + 1) xs) y
    (subst (λ v. Contains (f number v) y) (sym same) (subst (λ (n : ℕ). Contains (f n x) y) here is))
among f number (suc place) (z ∷ xs) x y at is =
    let next : number + suc place ≡ number + 1 + place = omega arith in
    Contains-append_right (f number z) (numbered f (number + 1) xs) y
    (among f (number + 1) place xs x y at (subst (λ (n : ℕ). Contains (f n x) y) next is))

buffers_linked : (l : Link) (w : Opportunity) → IsWindowOf l w → (p : Parameters) (a b : Seen) (node number : ℕ)
    (lines : List Buffer) (t : Taker) → Contains (buffers_from p w a b l.channel (Some node) number lines) t
    → Contains (numbered (buffer_receiver l node) number lines) (receiver_of node t)
unfolding numbered
buffers_linked l w is p a b node number [] t taken = absurd (nothing t taken)
buffers_linked l w is p a b node number (line ∷ lines) t taken =
    let takes = buffer_takes p w a b l.channel line in
    let here = buffer_receiver l node number line in
    let later = numbered (buffer_receiver l node) (number + 1) lines in
    elim (Contains-append_cases (taker_if takes (Some node) (Some number))
    (buffers_from p w a b l.channel (Some node) (number + 1) lines) t taken) [
      | inl first ↦
          Contains-append_left here later (receiver_of node t)
          (if_taken takes (receives l line) node (Some number) t (receives_it l w is p a b line) first)
      | inr others ↦
          Contains-append_right here later (receiver_of node t)
          (buffers_linked l w is p a b node (number + 1) lines t others)
    ]

-- ---- all receivers

pub takers_linked : AreTakersLinked
unfolding receivers
takers_linked p plans l buffer node plan w on_a on_b t buffer_is is at differs taken =
    let seen = seen_on l.channel on_a on_b in
    let takes = queue_takes p plan w l.channel seen plan.queue in
    let found = numbered (buffer_receiver l node) 0 plan.buffers in
    let queue = receiver_if (queues l plan.buffers plan.queue) node None in
    let of_plan : Contains (plan_receivers l node plan) (receiver_of node t) =
    elim (Contains-append_cases (buffers_from p w on_a on_b l.channel (Some node) 0 plan.buffers)
    (taker_if takes (Some node) None) t taken) [
      | inl stored ↦
          Contains-append_left found queue (receiver_of node t)
          (buffers_linked l w is p on_a on_b node 0 plan.buffers t stored)
      | inr queued ↦
          Contains-append_right found queue (receiver_of node t)
          (if_taken takes (queues l plan.buffers plan.queue) node None t (queues_it l w is p plan seen plan.queue)
          queued)
    ] in
    let other : (node == l.node) ≡ false =
    false_from_ne_true (node == l.node) (λ same. differs (eqb-true node l.node same)) in
    let of_node : Contains (node_receivers l node plan) (receiver_of node t) =
    subst (λ (found : List Receiver). Contains found (receiver_of node t))
    (sym (cond-false (node == l.node) [] (plan_receivers l node plan) other)) of_plan in
    let from_zero : node ≡ 0 + node = omega arith in
    subst (λ (b : Option ℕ). Contains (receivers_by plans l b) (receiver_of node t)) (sym buffer_is)
    (among (node_receivers l) 0 node plans plan (receiver_of node t) at
    (subst (λ (n : ℕ). Contains (node_receivers l n plan) (receiver_of node t)) from_zero of_node))
