-- The data beside the journal, with one more entry that isn't an observed window, and the facts that calls need.
use Rattle.std.proofs.Common.{◌≡◌, ℕ, zero, suc, ◌+◌, ◌≤◌, ◌<◌, ◌^◌, Bool, true, false, cond, List, [], ◌∷◌, ◌++◌, take}
use Rattle.std.proofs.Common.{length, Option, Some, None, refl, sym, ap, subst, ◌∙◌, arith, option_map}
use Rattle.std.proofs.lemmas.List.{take-append-le, take_all}
use Rattle.std.specs.Prelude.{IfSome, IsSomeAnd, slice_get, is_some, count_by}
use Rattle.fr_journal.specs.Entries.{is_slot}
use Rattle.std.specs.Option.{option_and_then, ForSome}
use Rattle.fr_buffers.specs.Transmitting.{Transmitter}
use Rattle.fr_buffers.specs.Waiting.{Waiting, without_oldest}
use Rattle.fr_interface.specs.Known.{transmitter_of, transmitters, waiting_of, with_arrivals}
use Rattle.fr_interface.specs.State.{State, received_in, received_by}
use Rattle.fr_interface.proofs.ChangeLemmas.{length-each, get_each}
use Rattle.fr_interface.proofs.TransmitLemmas.{committed-most}
use Rattle.fr_interface.proofs.WaitingLemmas.{waiting-none, waiting-other, waiting-pop, waiting-observe, lost-most}
use Rattle.fr_journal.specs.Arrivals.{moves, moves_at, oldest, is_answered_pop}
use Rattle.fr_journal.specs.Cycles.{moment_after}
use Rattle.fr_journal.specs.Forms.{Entry}
use Rattle.fr_journal.specs.declared.entry.Entry.TheVariants.{Pop, Observe}
use Rattle.fr_journal.specs.declared.entry.Origin.{Origin}
use Rattle.fr_journal.specs.Held.{held, frame_of, origin_of, data_frame_seen, IsReceivable}
use Rattle.fr_journal.specs.Legal.{IsLegalJournal, AreEntries}
use Rattle.fr_journal.specs.OpenWindow.{open_window}
use Rattle.fr_journal.proofs.SeenPlaceLemmas.{oldest_is_receivable}
use Rattle.fr_slots.specs.declared.channel.Channel.TheVariants.{A, B}
use Rattle.fr_slots.specs.declared.plan.Buffer.{Buffer}
use Rattle.fr_slots.specs.declared.plan.Queue.{Queue}
use Rattle.fr_slots.specs.Parameters.{Parameters}
use Rattle.fr_slots.specs.Plans.{Plan, is_receive, buffer_at}
use Rattle.fr_slots.specs.Windows.{Opportunity}
use Rattle.fr_status.specs.Forms.{Seen}

-- a list after a write through a loan
pub written : {X : Type 0} (n : ℕ) (xs ys : List X) → n ≡ length xs → take n (xs ++ ys) ≡ xs
written n xs ys is =
    let le : n ≤ length xs = omega (arith, is) in
    let all : length xs ≤ n = omega (arith, is) in
    take-append-le n xs ys le ∙ take_all n xs all

below_there : {X : Type 0} (xs : List X) (n : ℕ) (x : X) → slice_get xs n ≡ Some x → n < length xs
below_there [] n x is = absurd cc
below_there (y ∷ xs) zero x is = omega arith
below_there (y ∷ xs) (suc n) x is = omega (arith, below_there xs n x is)

-- ---- a commit

module _ (plan : Plan) (xs : List Entry) (number : ℕ) (line : Buffer) (there : buffer_at plan number ≡ Some line) where
  pub number_there : number < length (transmitters plan xs)
  number_there = omega (
    arith,
    length-each (transmitter_of xs) 0 plan.buffers,
    below_there plan.buffers number line there,
  )

  pub commits_fit : length xs + 2 ≤ 2 ^ 32 → IfSome (slice_get (transmitters plan xs) number)
      (λ b. b.tally.committed + 1 < 2 ^ 32)
  commits_fit few =
      let is : slice_get (transmitters plan xs) number ≡ Some (transmitter_of xs number line.mode) =
      get_each (transmitter_of xs) number plan.buffers ∙ ap (option_map
      (λ (b : Buffer). transmitter_of xs number b.mode)) there in
      subst (λ (o : Option Transmitter). IfSome o (λ b. b.tally.committed + 1 < 2 ^ 32)) (sym is)
      (omega (arith, few, committed-most number xs))

-- ---- a read

module _ (s : State) (number : ℕ) (line : Buffer) (there : buffer_at s.plan number ≡ Some line) where
  pub received_line : is_receive line.mode ≡ true → received_by s number ≡ held s.params line.filter s.entries
  received_line receives = ap (option_and_then (received_in s)) there ∙ ap
      (λ (t : Bool). cond t (held s.params line.filter s.entries) None) receives

-- ---- the receive FIFO

module _ (params : Parameters) (plan : Plan) (xs : List Entry) where
  pub queue-none : (o : Option Queue) → option_map (λ (q : Queue). let w : Waiting =
      record { capacity = q.capacity; frames = []; lost = 0 } in w) o ≡ option_map (waiting_of params plan []) o
  queue-none None = refl
  queue-none (Some q) = ap Some (sym (waiting-none params plan q))

  pub queue-other : (e : Entry) → ((q : Queue) → moves_at params plan q xs e ≡ []) → is_answered_pop e ≡ false
      → (o : Option Queue) → option_map (waiting_of params plan xs) o ≡ option_map
      (waiting_of params plan (xs ++ e ∷ [])) o
  queue-other e still unpopped None = refl
  queue-other e still unpopped (Some q) = ap Some (sym (waiting-other params plan q xs e (still q) unpopped))

  -- the frame that a pop removes
  pub front_of : (o : Option Queue) → option_and_then (λ (w : Waiting). slice_get w.frames 0)
      (option_map (waiting_of params plan xs) o) ≡ option_and_then
      (λ (q : Queue). oldest q.capacity (moves params plan q xs)) o
  front_of None = refl
  front_of (Some q) = refl

  pub front_receivable : AreEntries xs → (o : Option Queue) → IfSome
      (option_map frame_of (option_and_then (λ (q : Queue). oldest q.capacity (moves params plan q xs)) o)) IsReceivable
  front_receivable are None = tt
  front_receivable are (Some q) = oldest_is_receivable params plan q q.capacity xs are

  pub queue-pop : (task : ℕ) (from : Option Origin) (o : Option Queue)
      → from ≡ option_map origin_of (option_and_then (λ (q : Queue). oldest q.capacity (moves params plan q xs)) o)
      → option_map without_oldest (option_map (waiting_of params plan xs) o) ≡ option_map
      (waiting_of params plan (xs ++ Pop task from ∷ [])) o
  queue-pop task from None is = refl
  queue-pop task from (Some q) is = ap Some (waiting-pop params plan q xs task from is)

  pub queue-observe : (n : ℕ) (a b : Seen) (window : Opportunity) → IsLegalJournal params plan xs
      → open_window xs ≡ Some window → (o : Option Queue) → plan.queue ≡ o
      → with_arrivals plan (moment_after xs) window (data_frame_seen params window A a)
      (data_frame_seen params window B b) o (option_map (waiting_of params plan xs) o)
      ≡ option_map (waiting_of params plan (xs ++ Observe n a b ∷ [])) o
  queue-observe n a b window legal opened None there = refl
  queue-observe n a b window legal opened (Some q) there = ap Some
      (waiting-observe params plan q there xs n a b window legal opened)

  pub losses_fit : count_by is_slot xs + 2 ≤ 2 ^ 32 → (w : Opportunity) → open_window xs ≡ Some w → (o : Option Queue)
      → IfSome (option_map (waiting_of params plan xs) o) (λ w. w.lost + 2 < 2 ^ 32)
  losses_fit few w opened None = tt
  losses_fit few w opened (Some q) = omega (arith, few, lost-most params plan q xs w opened)

pub for_some : {T : Type 0} (P : T → Type 0) (o : Option T) → IfSome o P → ForSome o P
for_some P None h = λ x e. absurd cc
for_some P (Some y) h = λ x e. let same : y ≡ x = cc in subst P same h

-- a pop that the kept receive FIFO answers
pub pop_queued : (params : Parameters) (plan : Plan) (xs : List Entry) (from : Option Origin) (o : Option Queue)
    → from ≡ option_map origin_of (option_and_then (λ (q : Queue). oldest q.capacity (moves params plan q xs)) o)
    → is_some o ≡ true
    → IsSomeAnd o (λ q. from ≡ option_map origin_of (oldest q.capacity (moves params plan q xs)))
pop_queued params plan xs from None is some = absurd cc
pop_queued params plan xs from (Some q) is some = is
