-- The data beside the journal give the journal's answers.
use Rattle.std.proofs.Common.{◌≡◌, ℕ, zero, suc, ◌+◌, Bool, true, false, cond, List, [], ◌∷◌, length, map, Option, Some}
use Rattle.std.proofs.Common.{None, refl, sym, ap, ◌∙◌, option_map}
use Rattle.std.specs.Prelude.{IfSome, slice_get}
use Rattle.std.specs.Option.{option_and_then}
use Rattle.fr_buffers.specs.Transmitting.{Transmitter, entry_of, pending_of}
use Rattle.fr_buffers.specs.Waiting.{Waiting}
use Rattle.fr_interface.specs.declared.source.Source.TheVariants as source
use Rattle.fr_interface.specs.Known.{transmitter_of, transmitters, held_in, waiting_of}
use Rattle.fr_interface.specs.State.{State, received_in, received_by, source_by, source_of, tally_in, tally_by}
use Rattle.fr_interface.specs.State.{length_of, arrived_of, popped_of, queued_of}
use Rattle.fr_interface.proofs.ChangeLemmas.{get_each}
use Rattle.fr_interface.specs.Sending.{pending_at}
use Rattle.fr_interface.proofs.TransmitLemmas.{entry_of-commit, pending-ready}
use Rattle.fr_journal.specs.Arrivals.{moves}
use Rattle.fr_journal.specs.declared.entry.Arrival.{Arrival}
use Rattle.fr_journal.specs.Fate.{held_commit, pending_commit, tally_of}
use Rattle.fr_journal.specs.Held.{held, origin_of}
use Rattle.fr_journal.specs.Legal.{IsLegalJournal}
use Rattle.fr_journal.proofs.BalanceLemmas.{queue_balance}
use Rattle.fr_journal.proofs.ContentLemmas.{length-content}
use Rattle.fr_slots.specs.declared.plan.Buffer.{Buffer}
use Rattle.fr_slots.specs.declared.plan.Queue.{Queue}
use Rattle.fr_slots.specs.Plans.{is_receive, buffer_at}

get_map : {X Y : Type 0} (f : X → Y) (xs : List X) (n : ℕ) → slice_get (map f xs) n ≡ option_map f (slice_get xs n)
get_map f [] n = refl
get_map f (x ∷ xs) zero = refl
get_map f (x ∷ xs) (suc n) = get_map f xs n

module _ (s : State) (number : ℕ) where
  -- ---- receive buffers

  pub received-place : (receive : List (Option Arrival)) → receive ≡ map (held_in s.params s.entries) s.plan.buffers
      → option_and_then (λ (h : Option Arrival). h) (slice_get receive number) ≡ received_by s number
  received-place receive is =
      ap (λ (l : List (Option Arrival)). option_and_then (λ (h : Option Arrival). h) (slice_get l number)) is
      ∙ ap (option_and_then (λ (h : Option Arrival). h)) (get_map (held_in s.params s.entries) s.plan.buffers number)
      ∙ by_line (slice_get s.plan.buffers number)
    where
      by_line : (o : Option Buffer) → option_and_then (λ (h : Option Arrival). h)
          (option_map (held_in s.params s.entries) o) ≡ option_and_then (received_in s) o
      by_line None = refl
      by_line (Some b) = refl

  module _ (line : Buffer) (there : buffer_at s.plan number ≡ Some line) where
    pub observed-place : (receive : List (Option Arrival)) → receive ≡ map (held_in s.params s.entries) s.plan.buffers
        → is_receive line.mode ≡ true
        → option_map (λ (a : Arrival). source.Observed (origin_of a))
        (option_and_then (λ (h : Option Arrival). h) (slice_get receive number)) ≡ source_of s number
    observed-place receive is receives =
        ap (option_map (λ (a : Arrival). source.Observed (origin_of a)))
        (received-place receive is ∙ ap (option_and_then (received_in s)) there ∙ ap
        (λ (t : Bool). cond t (held s.params line.filter s.entries) None) receives)
        ∙ sym (ap (option_and_then (source_by s number)) there
        ∙ ap (λ (t : Bool). cond t (option_map (λ (a : Arrival). source.Observed (origin_of a))
        (held s.params line.filter s.entries)) (option_map source.Commit (held_commit number s.entries))) receives)

    -- ---- transmit buffers

    transmitter_there : (transmit : List Transmitter) → transmit ≡ transmitters s.plan s.entries
        → slice_get transmit number ≡ Some (transmitter_of s.entries number line.mode)
    transmitter_there transmit is =
        ap (λ (l : List Transmitter). slice_get l number) is ∙ get_each (transmitter_of s.entries) number s.plan.buffers
        ∙ ap (option_map (λ (b : Buffer). transmitter_of s.entries number b.mode)) there

    pub commit-place : (transmit : List Transmitter) → transmit ≡ transmitters s.plan s.entries
        → is_receive line.mode ≡ false
        → option_map source.Commit (option_and_then entry_of (slice_get transmit number)) ≡ source_of s number
    commit-place transmit is transmits =
        ap (λ (o : Option Transmitter). option_map source.Commit (option_and_then entry_of o))
        (transmitter_there transmit is)
        ∙ ap (option_map source.Commit) (entry_of-commit s.entries (held_commit number s.entries))
        ∙ sym (ap (option_and_then (source_by s number)) there
        ∙ ap (λ (t : Bool). cond t (option_map (λ (a : Arrival). source.Observed (origin_of a))
        (held s.params line.filter s.entries)) (option_map source.Commit (held_commit number s.entries))) transmits)

    pub pending-place : (transmit : List Transmitter) → transmit ≡ transmitters s.plan s.entries
        → pending_at transmit number ≡ pending_commit number s.entries
    pending-place transmit is = ap (option_and_then pending_of) (transmitter_there transmit is)
        ∙ pending-ready s.entries number line.mode

    pub tally-place : (transmit : List Transmitter) → transmit ≡ transmitters s.plan s.entries
        → is_receive line.mode ≡ false → option_map (λ (b : Transmitter). b.tally) (slice_get transmit number) ≡
        tally_by s number
    tally-place transmit is transmits =
        ap (option_map (λ (b : Transmitter). b.tally)) (transmitter_there transmit is)
        ∙ sym (ap (option_and_then (tally_in s number)) there ∙ ap
        (λ (t : Bool). cond t None (Some (tally_of number s.entries))) transmits)

-- ---- the receive FIFO

module _ (s : State) (queue : Option Waiting) (is : queue ≡ option_map
    (waiting_of s.params s.plan s.entries) s.plan.queue) where
  pub length-place : option_map (λ (w : Waiting). length w.frames) queue ≡ length_of s
  length-place = ap (option_map (λ (w : Waiting). length w.frames)) is ∙ by_queue s.plan.queue
    where
      by_queue : (o : Option Queue) → option_map (λ (w : Waiting). length w.frames)
          (option_map (waiting_of s.params s.plan s.entries) o) ≡ option_map (queued_of s) o
      by_queue None = refl
      by_queue (Some q) = ap Some (length-content q.capacity (moves s.params s.plan q s.entries))

  pub balance-place : IsLegalJournal s.params s.plan s.entries → (w : Waiting) → queue ≡ Some w
      → IfSome s.plan.queue (λ q. arrived_of s q ≡ popped_of s + queued_of s q + w.lost)
  balance-place legal w there = by_queue s.plan.queue refl
    where
      by_queue : (o : Option Queue) → s.plan.queue ≡ o → IfSome o
          (λ q. arrived_of s q ≡ popped_of s + queued_of s q + w.lost)
      by_queue None none = tt
      by_queue (Some q) some =
          let whole : Some w ≡ Some (waiting_of s.params s.plan s.entries q) =
          sym there ∙ is ∙ ap (option_map (waiting_of s.params s.plan s.entries)) some in
          let same : w ≡ waiting_of s.params s.plan s.entries q = cc in
          queue_balance s.params s.plan q some s.entries legal ∙ ap
          (λ (v : Waiting). popped_of s + queued_of s q + v.lost) (sym same)
