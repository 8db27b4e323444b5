-- In a legal journal the popped frames and those in the receive FIFO are no more than the arrivals.
use Rattle.std.proofs.Common.{◌≡◌, ℕ, ◌+◌, ◌-◌, ◌≤◌, Bool, true, false, cond, List, [], ◌∷◌, ◌++◌, length, Option}
use Rattle.std.proofs.Common.{Some, refl, ap, subst, ◌∙◌, arith, option_map, length-append}
use Rattle.std.specs.Prelude.{IsSomeAnd, count_by, is_some, slice_get}
use Rattle.std.proofs.lemmas.List.Sums.{fold-append, sum_by-append}
use Rattle.fr_journal.specs.Arrivals.{Move, pops, arrive_all, moves_at, moves, arrived, length_after, queue_length}
use Rattle.fr_journal.specs.Cycles.{moment_after}
use Rattle.fr_journal.specs.Arrivals.{queue_content, oldest, is_answered_pop, queue_arrivals_in, queue_lost}
use Rattle.fr_journal.specs.declared.entry.Arrival.{Arrival}
use Rattle.fr_journal.specs.Forms.{Entry}
use Rattle.fr_journal.specs.declared.entry.Entry.TheVariants.{Commit, Withdraw, Read, Pop, Fetch, Observe}
use Rattle.fr_journal.specs.declared.entry.Origin.{Origin}
use Rattle.fr_journal.specs.Held.{origin_of}
use Rattle.fr_journal.specs.Legal.{IsLegal, IsLegalJournal}
use Rattle.fr_journal.specs.OpenWindow.{open_window}
use Rattle.fr_journal.proofs.ContentLemmas.{length_from, length-content}
use Rattle.fr_journal.proofs.MoveLemmas.{moves-snoc, arrived-append}
use Rattle.fr_slots.specs.declared.plan.Queue.{Queue}
use Rattle.fr_slots.specs.History.{each_after}
use Rattle.fr_slots.specs.Parameters.{Parameters}
use Rattle.fr_slots.specs.Plans.{Plan}
use Rattle.fr_slots.proofs.HistoryLemmas.{AllAfter-induction}

-- ---- moves

module _ (capacity : ℕ) where
  -- moves lengthen the receive FIFO by at most the number of their arrivals
  grown : (ms more : List Move) → queue_length capacity (ms ++ more) ≤ queue_length capacity ms + length (arrived more)
  grown ms more = omega (
    arith,
    fold-append (length_after capacity) 0 ms more,
    length_from capacity (queue_length capacity ms) (queue_length capacity ms) more (omega arith),
  )

  longer : (ms more : List Move) → length (arrived (ms ++ more)) ≡ length (arrived ms) + length (arrived more)
  longer ms more = ap length (arrived-append ms more) ∙ length-append (arrived ms) (arrived more)

  shorter : (ms : List Move) → queue_length capacity (ms ++ pops ∷ []) ≡ queue_length capacity ms - 1
  shorter ms = fold-append (length_after capacity) 0 ms (pops ∷ [])

  -- a pop returns a frame only if the receive FIFO holds one
  answered : (frames : List Arrival) → cond (is_some (option_map origin_of (slice_get frames 0))) 1 0 ≤ length frames
  answered [] = omega arith
  answered (a ∷ frames) = omega arith

  answered_by : (ms : List Move) (from : Option Origin) → from ≡ option_map origin_of (oldest capacity ms)
      → cond (is_some from) 1 0 ≤ queue_length capacity ms
  answered_by ms from is =
      let same : cond {A = ℕ} (is_some from) 1 0 ≡ cond (is_some (option_map origin_of (oldest capacity ms))) 1 0 =
      ap (λ (o : Option Origin). cond {A = ℕ} (is_some o) 1 0) is in
      omega (arith, same, answered (queue_content capacity ms), length-content capacity ms)

one_at_most : (b : Bool) → cond b 1 0 ≤ 1
one_at_most true = omega arith
one_at_most false = omega arith

popped_more : (xs : List Entry) (e : Entry) → count_by is_answered_pop (xs ++ e ∷ []) ≡ count_by is_answered_pop xs +
    cond (is_answered_pop e) 1 0
popped_more xs e = omega (arith, sum_by-append (λ x. cond (is_answered_pop x) 1 0) xs (e ∷ []))

-- ---- entries

module _ (params : Parameters) (plan : Plan) (q : Queue) where
  -- the popped frames and those in the receive FIFO are no more than the arrivals
  abbrev IsBalanced : List Entry → Type 0
  IsBalanced xs = count_by is_answered_pop xs + queue_length q.capacity (moves params plan q xs) ≤ length
      (arrived (moves params plan q xs))

  by_arrivals : (xs : List Entry) (e : Entry) (more : List Move) → moves_at params plan q xs e ≡ more
      → is_answered_pop e ≡ false → IsBalanced xs → IsBalanced (xs ++ e ∷ [])
  by_arrivals xs e more is unpopped h =
      let ms : List Move = moves params plan q xs in
      let all : moves params plan q (xs ++ e ∷ []) ≡ ms ++ more =
      moves-snoc params plan q xs e ∙ ap (λ (l : List Move). ms ++ l) is in
      let none : cond {A = ℕ} (is_answered_pop e) 1 0 ≡ 0 = ap (λ (b : Bool). cond {A = ℕ} b 1 0) unpopped in
      omega (
        arith,
        h,
        popped_more xs e,
        none,
        ap (queue_length q.capacity) all,
        ap (λ (l : List Move). length (arrived l)) all,
        grown q.capacity ms more,
        longer q.capacity ms more,
      )

  by_pop : (xs : List Entry) (task : ℕ) (from : Option Origin)
      → from ≡ option_map origin_of (oldest q.capacity (moves params plan q xs)) → IsBalanced xs
      → IsBalanced (xs ++ Pop task from ∷ [])
  by_pop xs task from is h =
      let ms : List Move = moves params plan q xs in
      let all : moves params plan q (xs ++ Pop task from ∷ []) ≡ ms ++ pops ∷ [] =
      moves-snoc params plan q xs (Pop task from) in
      let most : cond {A = ℕ} (is_answered_pop (Pop task from)) 1 0 ≤ queue_length q.capacity ms =
      answered_by q.capacity ms from is in
      omega (
        arith,
        h,
        most,
        one_at_most (is_answered_pop (Pop task from)),
        popped_more xs (Pop task from),
        ap (queue_length q.capacity) all,
        ap (λ (l : List Move). length (arrived l)) all,
        shorter q.capacity ms,
        longer q.capacity ms (pops ∷ []),
      )

  IsBalanced-snoc : plan.queue ≡ Some q → (xs : List Entry) (e : Entry) → IsBalanced xs → IsLegal params plan xs e
      → IsBalanced (xs ++ e ∷ [])
  IsBalanced-snoc there xs (Commit task buffer payload) h legal =
      by_arrivals xs (Commit task buffer payload) [] refl refl h
  IsBalanced-snoc there xs (Withdraw task buffer of) h legal = by_arrivals xs (Withdraw task buffer of) [] refl refl h
  IsBalanced-snoc there xs (Read task buffer from) h legal = by_arrivals xs (Read task buffer from) [] refl refl h
  IsBalanced-snoc there xs (Fetch window a b) h legal = by_arrivals xs (Fetch window a b) [] refl refl h
  IsBalanced-snoc there xs (Observe window a b) h legal = by_arrivals xs (Observe window a b)
      (arrive_all (queue_arrivals_in params plan q (moment_after xs) a b (open_window xs))) refl refl h
  IsBalanced-snoc there xs (Pop task from) h legal =
      by_pop xs task from (subst (λ (o : Option Queue). IsSomeAnd o
      (λ r. from ≡ option_map origin_of (oldest r.capacity (moves params plan r xs)))) there legal.queued) h

  start : IsBalanced []
  unfolding each_after
  start = omega arith

  pub balanced : plan.queue ≡ Some q → (xs : List Entry) → IsLegalJournal params plan xs
      → count_by is_answered_pop xs + queue_length q.capacity (moves params plan q xs) ≤ length
      (arrived (moves params plan q xs))
  balanced there xs legal = AllAfter-induction (IsLegal params plan) IsBalanced [] xs start
      (IsBalanced-snoc there) legal

  -- each arrival was popped, is in the receive FIFO, or was lost
  pub queue_balance : plan.queue ≡ Some q → (xs : List Entry) → IsLegalJournal params plan xs
      → length (arrived (moves params plan q xs)) ≡ count_by is_answered_pop xs + queue_length q.capacity
      (moves params plan q xs) + queue_lost params plan q xs
  queue_balance there xs legal = omega (arith, balanced there xs legal)
