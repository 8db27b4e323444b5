-- Each frame in the receive FIFO has its origin in an entry of the journal.
use Rattle.std.proofs.Common.{ℕ, zero, suc, ◌+◌, ◌-◌, ◌≤◌, ◌<◌, ◌^◌, Bool, true, false, cond, List, [], ◌∷◌, ◌++◌, drop}
use Rattle.std.proofs.Common.{length, Option, Some, None, arith, length-append, option_map, subst, sym}
use Rattle.std.specs.Prelude.{IfSome, option_to_list, slice_get}
use Rattle.fr_frame.specs.Fields.{Fields}
use Rattle.fr_journal.specs.Arrivals.{Move, is_for_queue, queue_arrival_on, queue_arrivals_in, moves_at, moves, arrived}
use Rattle.fr_journal.specs.Arrivals.{queue_length, oldest}
use Rattle.fr_journal.specs.Cycles.{moment_after}
use Rattle.fr_journal.specs.declared.entry.Arrival.{Arrival}
use Rattle.fr_journal.specs.declared.entry.Moment.{Moment}
use Rattle.fr_journal.specs.Forms.{Entry}
use Rattle.fr_journal.specs.declared.entry.Entry.TheVariants.{Commit, Withdraw, Read, Pop, Fetch, Observe}
use Rattle.fr_journal.specs.Entries.{IsOrigin}
use Rattle.fr_journal.specs.Held.{arrival_of, data_frame_seen, origin_of}
use Rattle.fr_journal.specs.OpenWindow.{open_window}
use Rattle.fr_journal.proofs.MoveLemmas.{arrived-append, arrived-all}
use Rattle.fr_slots.specs.declared.channel.Channel.{Channel}
use Rattle.fr_slots.specs.declared.channel.Channel.TheVariants.{A, B}
use Rattle.fr_slots.specs.declared.plan.Queue.{Queue}
use Rattle.fr_slots.specs.History.{each_after}
use Rattle.fr_slots.specs.Parameters.{Parameters}
use Rattle.fr_slots.specs.Plans.{Plan}
use Rattle.fr_slots.specs.Windows.{Opportunity}
use Rattle.fr_status.specs.Forms.{Seen}

-- each arrival comes from an entry below the bound
abbrev AreBelow : ℕ → List Arrival → Type 0
AreBelow bound [] = Unit {0}
AreBelow bound (a ∷ arrivals) = (a.origin.entry < bound) × AreBelow bound arrivals

joined : (bound : ℕ) (xs ys : List Arrival) → AreBelow bound xs → AreBelow bound ys → AreBelow bound (xs ++ ys)
joined bound [] ys g h = h
joined bound (a ∷ xs) ys g h = (g.0, joined bound xs ys g.1 h)

weaker : (xs : List Arrival) (m n : ℕ) → m ≤ n → AreBelow m xs → AreBelow n xs
weaker [] m n le h = tt
weaker (a ∷ xs) m n le h = (omega (arith, le, h.0), weaker xs m n le h.1)

from_moment : (moment : Moment) (channel : Channel) (o : Option Fields)
    → AreBelow (moment.entry + 1) (option_to_list (option_map (arrival_of moment channel) o))
from_moment moment channel None = tt
from_moment moment channel (Some f) = (omega arith, tt)

from_cond : (b : Bool) (xs : List Arrival) (bound : ℕ) → AreBelow bound xs → AreBelow bound (cond b xs [])
from_cond true xs bound h = h
from_cond false xs bound h = tt

module _ (params : Parameters) (plan : Plan) (q : Queue) where
  from_channel : (moment : Moment) (window : Opportunity) (channel : Channel) (seen : Seen)
      → AreBelow (moment.entry + 1) (queue_arrival_on params plan q moment window channel seen)
  from_channel moment window channel seen =
      from_cond (is_for_queue plan q window channel) (option_to_list
      (option_map (arrival_of moment channel) (data_frame_seen params window channel seen))) (moment.entry + 1)
      (from_moment moment channel (data_frame_seen params window channel seen))

  from_window : (moment : Moment) (a b : Seen) (window : Option Opportunity)
      → AreBelow (moment.entry + 1) (queue_arrivals_in params plan q moment a b window)
  from_window moment a b None = tt
  from_window moment a b (Some window) =
      joined (moment.entry + 1) (queue_arrival_on params plan q moment window A a)
      (queue_arrival_on params plan q moment window B b) (from_channel moment window A a)
      (from_channel moment window B b)

  from_entry : (before : List Entry) (e : Entry) → AreBelow (length before + 1)
      (arrived (moves_at params plan q before e))
  from_entry before (Commit task buffer payload) = tt
  from_entry before (Withdraw task buffer of) = tt
  from_entry before (Read task buffer from) = tt
  from_entry before (Pop task from) = tt
  from_entry before (Fetch w a b) = tt
  from_entry before (Observe w a b) =
      subst (AreBelow (length before + 1)) (sym
      (arrived-all (queue_arrivals_in params plan q (moment_after before) a b (open_window before))))
      (from_window (moment_after before) a b (open_window before))

  below_from : (before xs : List Entry) → AreBelow (length before + length xs)
      (arrived (each_after (moves_at params plan q) before xs))
  unfolding each_after
  below_from before [] = tt
  below_from before (e ∷ xs) =
      let here : List Move = moves_at params plan q before e in
      let rest : List Move = each_after (moves_at params plan q) (before ++ e ∷ []) xs in
      subst (AreBelow (length before + length (e ∷ xs))) (sym (arrived-append here rest))
      (joined (length before + length (e ∷ xs)) (arrived here) (arrived rest)
      (weaker (arrived here) (length before + 1) (length before + length (e ∷ xs)) (omega arith) (from_entry before e))
      (weaker (arrived rest) (length (before ++ e ∷ []) + length xs) (length before + length (e ∷ xs))
      (omega (arith, length-append before (e ∷ []))) (below_from (before ++ e ∷ []) xs)))

  picks : (xs : List Arrival) (n bound : ℕ) → AreBelow bound xs
      → IfSome (slice_get (drop n xs) 0) (λ a. a.origin.entry < bound)
  picks [] zero bound h = tt
  picks [] (suc n) bound h = tt
  picks (a ∷ xs) zero bound h = h.0
  picks (a ∷ xs) (suc n) bound h = picks xs n bound h.1

  -- the origin of the oldest frame is one of these entries
  pub oldest-below : (capacity : ℕ) (entries : List Entry) → IfSome (oldest capacity (moves params plan q entries))
      (λ a. a.origin.entry < length entries)
  oldest-below capacity entries =
      picks (arrived (moves params plan q entries)) (length (arrived (moves params plan q entries)) - queue_length
      capacity (moves params plan q entries)) (length entries)
      (weaker (arrived (moves params plan q entries)) (length {A = Entry} [] + length entries) (length entries)
      (omega arith) (below_from [] entries))

  pub queue_origin_fits : (entries : List Entry) → length entries ≤ 2 ^ 32
      → IsOrigin (option_map origin_of (oldest q.capacity (moves params plan q entries)))
  queue_origin_fits entries few = fits (oldest q.capacity (moves params plan q entries)) (length entries) few
      (oldest-below q.capacity entries)
    where
      fits : (o : Option Arrival) (n : ℕ) → n ≤ 2 ^ 32 → IfSome o (λ a. a.origin.entry < n)
          → IsOrigin (option_map origin_of o)
      fits None n few h = tt
      fits (Some a) n few h = omega (arith, few, h)
