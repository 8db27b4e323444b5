-- Tables and `commits` name the receivers that journals have.
use Rattle.std.proofs.Common.{◌≡◌, ℕ, ◌+◌, Bool, true, false, cond, ◌&&◌, List, [], ◌∷◌, ◌++◌, length, map, Option}
use Rattle.std.proofs.Common.{Some, None, refl, sym, ap, ◌∙◌, option_map, is_some}
use Rattle.std.proofs.lemmas.Bool.{and_parts, and_from}
use Rattle.std.proofs.lemmas.List.{map-append}
use Rattle.std.specs.Option.{option_or, option_and_then}
use Rattle.std.specs.Prelude.{option_to_list}
use Rattle.fr_bus.specs.Record.{seen_by}
use Rattle.fr_capture.specs.declared.takers.Taker.{Taker}
use Rattle.fr_capture.specs.Takers.{taker_if, buffers_from}
use Rattle.fr_capture.specs.Taking.{is_from, buffer_takes, queue_takes}
use Rattle.fr_concord.specs.Receivers.{IsStored, AreBuffersStored, AreQueuesFilled, of_node, AreReceiversSame}
use Rattle.fr_core.proofs.LoneLemmas.{same_channel as channel_same}
use Rattle.fr_frame.specs.Fields.{Fields}
use Rattle.fr_guarantees.proofs.HeardLemmas.{same_channel}
use Rattle.fr_journal.specs.Arrivals.{is_for_queue}
use Rattle.fr_journal.specs.Counts.{seen_on}
use Rattle.fr_journal.specs.Cycles.{moment_after}
use Rattle.fr_journal.specs.declared.entry.Arrival.{Arrival}
use Rattle.fr_journal.specs.declared.entry.Entry.TheVariants.{Observe}
use Rattle.fr_journal.specs.declared.entry.Moment.{Moment}
use Rattle.fr_journal.specs.Forms.{Entry}
use Rattle.fr_journal.specs.Held.{data_frame_seen, arrival_of, arrival_on, arrival_in, arrival_at, held}
use Rattle.fr_journal.specs.OpenWindow.{open_window}
use Rattle.fr_slots.proofs.HistoryLemmas.{last_after-snoc}
use Rattle.fr_slots.specs.Admission.{is_channel}
use Rattle.fr_slots.specs.declared.channel.Channel.{Channel}
use Rattle.fr_slots.specs.declared.channel.Channel.TheVariants.{A, B}
use Rattle.fr_slots.specs.declared.filter.Filter.{Filter}
use Rattle.fr_slots.specs.declared.plan.Buffer.{Buffer}
use Rattle.fr_slots.specs.Parameters.{Parameters}
use Rattle.fr_slots.specs.Plans.{is_receive, admits_window}
use Rattle.fr_slots.specs.Windows.{Opportunity}
use Rattle.fr_status.specs.Forms.{Seen}

-- ---- receive buffers

abbrev channel_of : Option Arrival → Option Channel
channel_of o = option_map (λ (x : Arrival). x.origin.channel) o

-- the channel of an arrival doesn't depend on its moment
on_same : (b : Bool) (o : Option Fields) (channel : Channel) (m n : Moment)
    → channel_of (cond b (option_map (arrival_of m channel) o) None)
    ≡ channel_of (cond b (option_map (arrival_of n channel) o) None)
on_same true None channel m n = refl
on_same true (Some f) channel m n = refl
on_same false o channel m n = refl

or_same : (x y u v : Option Arrival) → channel_of x ≡ channel_of u → channel_of y ≡ channel_of v
    → channel_of (option_or x y) ≡ channel_of (option_or u v)
or_same None y None v first second = second
or_same None y (Some u) v first second = absurd (let none : ⊥ = cc first in none)
or_same (Some x) y None v first second = absurd (let none : ⊥ = cc first in none)
or_same (Some x) y (Some u) v first second = first

moment_free : (p : Parameters) (f : Filter) (m n : Moment) (a b : Seen) (w : Opportunity)
    → channel_of (arrival_in p f m a b w) ≡ channel_of (arrival_in p f n a b w)
moment_free p f m n a b w =
    or_same (arrival_on p f m w A a) (arrival_on p f m w B b) (arrival_on p f n w A a) (arrival_on p f n w B b)
    (on_same (admits_window f w A) (data_frame_seen p w A a) A m n)
    (on_same (admits_window f w B) (data_frame_seen p w B b) B m n)

abbrev is_of : Channel → Option Channel → Bool
is_of channel None = false
is_of channel (Some c) = is_channel c channel

from_is : (channel : Channel) (o : Option Arrival) → is_from channel o ≡ is_of channel (channel_of o)
from_is channel None = refl
from_is channel (Some arrival) = refl

record HasArrival (o : Option Arrival) (channel : Channel) : Type 0 where
  arrival : Arrival
  there : o ≡ Some arrival
  channel_is : arrival.origin.channel ≡ channel

has_arrival : (o : Option Arrival) (channel : Channel) → is_from channel o ≡ true → HasArrival o channel
has_arrival None channel is = absurd (let none : ⊥ = cc is in none)
has_arrival (Some arrival) channel is =
    record { arrival = arrival; there = refl; channel_is = channel_same arrival.origin.channel channel is }

module _ (p : Parameters) (b : Buffer) (before : List Entry) (w : Opportunity) (number : ℕ) (on_a on_b : Seen)
    (channel : Channel) (open_is : open_window before ≡ Some w) where
  abbrev entry : Entry
  entry = Observe number on_a on_b

  abbrev arrived : Moment → Option Arrival
  arrived n = arrival_in p b.filter n on_a on_b w

  arrival_is : arrival_at p b.filter before entry ≡ arrived (moment_after before)
  arrival_is = ap (option_and_then (arrival_in p b.filter (moment_after before) on_a on_b)) open_is

  from_same : is_from channel (arrived (moment_after [])) ≡ is_from channel (arrived (moment_after before))
  from_same =
      from_is channel (arrived (moment_after []))
      ∙ ap (is_of channel) (moment_free p b.filter (moment_after []) (moment_after before) on_a on_b w)
      ∙ sym (from_is channel (arrived (moment_after before)))

  stored : buffer_takes p w on_a on_b channel b ≡ true → IsStored p b before entry channel
  stored takes =
      let parts = and_parts (is_receive b.mode) (is_from channel (arrived (moment_after []))) takes in
      let has = has_arrival (arrived (moment_after before)) channel (sym from_same ∙ parts.1) in
      let comes : arrival_at p b.filter before entry ≡ Some has.arrival = arrival_is ∙ has.there in
      record {
        arrival = has.arrival;
        arrives = comes;
        held_after = last_after-snoc (arrival_at p b.filter) before entry
            ∙ ap (λ (o : Option Arrival). option_or o (held p b.filter before)) comes;
        channel_is = has.channel_is;
      }

  takes_it : is_receive b.mode ≡ true → IsStored p b before entry channel
      → buffer_takes p w on_a on_b channel b ≡ true
  takes_it receives is =
      let comes : arrived (moment_after before) ≡ Some is.arrival = sym arrival_is ∙ is.arrives in
      let here : is_from channel (arrived (moment_after before)) ≡ true =
      ap (is_from channel) comes ∙ ap (λ (c : Channel). is_channel c channel) is.channel_is ∙ same_channel channel in
      and_from (is_receive b.mode) (is_from channel (arrived (moment_after []))) receives (from_same ∙ here)

pub buffers_stored : AreBuffersStored
buffers_stored p b before w number on_a on_b channel receives open_is = (
  stored p b before w number on_a on_b channel open_is,
  takes_it p b before w number on_a on_b channel open_is receives,
)

-- ---- the receive FIFO

one_or_none : (b : Bool) (o : Option Fields) (moment : Moment) (channel : Channel)
    → length (cond b (option_to_list (option_map (arrival_of moment channel) o)) []) ≡ cond (b && is_some o) 1 0
one_or_none true None moment channel = refl
one_or_none true (Some f) moment channel = refl
one_or_none false o moment channel = refl

pub queues_filled : AreQueuesFilled
queues_filled p plan q moment w channel seen =
    one_or_none (is_for_queue plan q w channel) (data_frame_seen p w channel seen) moment channel

-- ---- commits

if_same : (b : Bool) (node : ℕ) (buffer : Option ℕ)
    → taker_if b (Some node) buffer ≡ map (of_node node) (taker_if b None buffer)
if_same true node buffer = refl
if_same false node buffer = refl

buffers_same : (p : Parameters) (w : Opportunity) (a b : Seen) (channel : Channel) (node number : ℕ)
    (lines : List Buffer)
    → buffers_from p w a b channel (Some node) number lines
    ≡ map (of_node node) (buffers_from p w a b channel None number lines)
buffers_same p w a b channel node number [] = refl
buffers_same p w a b channel node number (line ∷ lines) =
    let takes = buffer_takes p w a b channel line in
    let later = buffers_from p w a b channel None (number + 1) lines in
    ap (λ (l : List Taker). l ++ buffers_from p w a b channel (Some node) (number + 1) lines)
    (if_same takes node (Some number))
    ∙ ap (λ (l : List Taker). map (of_node node) (taker_if takes None (Some number)) ++ l)
    (buffers_same p w a b channel node (number + 1) lines)
    ∙ sym (map-append (of_node node) (taker_if takes None (Some number)) later)

pub receivers_same : AreReceiversSame
receivers_same p plan r channel node =
    let a = seen_by p r A node in
    let b = seen_by p r B node in
    let takes = queue_takes p plan r.window channel (seen_on channel a b) plan.queue in
    let buffers = buffers_from p r.window a b channel None 0 plan.buffers in
    ap (λ (l : List Taker). l ++ taker_if takes (Some node) None)
    (buffers_same p r.window a b channel node 0 plan.buffers)
    ∙ ap (λ (l : List Taker). map (of_node node) buffers ++ l) (if_same takes node None)
    ∙ sym (map-append (of_node node) buffers (taker_if takes None None))
