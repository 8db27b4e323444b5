-- The receive FIFO, with one more entry.
use Rattle.std.proofs.Common.{◌≡◌, ℕ, ◌+◌, ◌-◌, ◌*◌, ◌≤◌, Bool, true, false, cond, ltb, List, [], ◌∷◌, ◌++◌, length}
use Rattle.std.proofs.Common.{Option, Some, None, refl, sym, ap, subst, ◌∙◌, arith, option_map, length-append}
use Rattle.std.proofs.Common.{append_assoc, append-nil}
use Rattle.std.specs.Prelude.{min, count_by, is_some, option_to_list, slice_get}
use Rattle.std.proofs.lemmas.Bool.{ltb-true, ltb-false}
use Rattle.std.proofs.lemmas.List.Sums.{fold-append, sum_by-append, sum_by-cons}
use Rattle.fr_journal.specs.Entries.{is_slot}
use Rattle.fr_journal.proofs.OpenWindowLemmas.{open_window-snoc}
use Rattle.fr_slots.specs.History.{last_after, each_after}
use Rattle.fr_buffers.specs.Waiting.{Waiting, with_frame, without_oldest}
use Rattle.fr_frame.specs.Fields.{Fields}
use Rattle.fr_interface.specs.Known.{waiting_of, queued_on, with_arrival}
use Rattle.fr_journal.specs.Arrivals.{Move, arrives, pops, arrive_all, moves_at, moves, arrived, length_after}
use Rattle.fr_journal.specs.Arrivals.{queue_length, queue_content, queue_lost, oldest, is_answered_pop, is_for_queue}
use Rattle.fr_journal.specs.Arrivals.{queue_arrival_on, queue_arrivals_in}
use Rattle.fr_journal.specs.Cycles.{moment_after}
use Rattle.fr_journal.specs.declared.entry.Arrival.{Arrival}
use Rattle.fr_journal.specs.declared.entry.Moment.{Moment}
use Rattle.fr_journal.specs.Forms.{Entry}
use Rattle.fr_journal.specs.declared.entry.Entry.TheVariants.{Commit, Withdraw, Read, Pop, Fetch, Observe}
use Rattle.fr_journal.specs.declared.entry.Origin.{Origin}
use Rattle.fr_journal.specs.Held.{arrival_of, data_frame_seen, origin_of}
use Rattle.fr_journal.specs.Legal.{IsLegalJournal}
use Rattle.fr_journal.specs.OpenWindow.{open_window}
use Rattle.fr_journal.proofs.BalanceLemmas.{balanced}
use Rattle.fr_journal.proofs.ContentLemmas.{content-arrives, content-pops, length-content, queue_length-capacity}
use Rattle.fr_journal.proofs.MoveLemmas.{moves-snoc, arrived-append, arrived-all, arrive_all-append}
use Rattle.fr_slots.specs.declared.channel.Channel.{Channel}
use Rattle.fr_slots.specs.declared.channel.Channel.TheVariants.{A, B}
use Rattle.fr_slots.specs.declared.plan.Queue.{Queue}
use Rattle.fr_slots.specs.Parameters.{Parameters}
use Rattle.fr_slots.specs.Plans.{Plan}
use Rattle.fr_slots.specs.Windows.{Opportunity}
use Rattle.fr_status.specs.Forms.{Seen}

-- ---- after some moves and pops that returned a frame

abbrev waiting_by : ℕ → ℕ → List Move → Waiting
waiting_by capacity popped ms = record {
  capacity = capacity;
  frames = queue_content capacity ms;
  lost =
      length (arrived ms) - popped - queue_length capacity ms;
}

-- each popped or waiting frame had arrived
abbrev IsBalanced : ℕ → ℕ → List Move → Type 0
IsBalanced capacity popped ms = popped + queue_length capacity ms ≤ length (arrived ms)

module _ (capacity popped : ℕ) (ms : List Move) where
  length-arrives : (a : Arrival) → queue_length capacity (ms ++ arrives a ∷ []) ≡ min
      (queue_length capacity ms + 1) capacity
  length-arrives a = fold-append (length_after capacity) 0 ms (arrives a ∷ [])

  arrived-arrives : (a : Arrival) → length (arrived (ms ++ arrives a ∷ [])) ≡ length (arrived ms) + 1
  arrived-arrives a = ap length (arrived-append ms (arrives a ∷ [])) ∙ length-append (arrived ms) (a ∷ [])

  IsBalanced-arrives : (a : Arrival) → IsBalanced capacity popped ms → IsBalanced capacity popped (ms ++ arrives a ∷ [])
  IsBalanced-arrives a h = omega (arith, h, length-arrives a, arrived-arrives a)

  lost_by : (a : Arrival) (t : Bool) → ltb (length (queue_content capacity ms)) capacity ≡ t
      → IsBalanced capacity popped ms
      → cond t (length (arrived ms) - popped - queue_length capacity ms)
      (length (arrived ms) - popped - queue_length capacity ms + 1)
      ≡ length (arrived (ms ++ arrives a ∷ [])) - popped - queue_length capacity (ms ++ arrives a ∷ [])
  lost_by a true test h =
      omega (
        arith,
        h,
        length-arrives a,
        arrived-arrives a,
        length-content capacity ms,
        ltb-true (length (queue_content capacity ms)) capacity test,
      )
  lost_by a false test h =
      omega (
        arith,
        h,
        length-arrives a,
        arrived-arrives a,
        length-content capacity ms,
        queue_length-capacity capacity ms,
        ltb-false (length (queue_content capacity ms)) capacity test,
      )

  frame-arrives : (a : Arrival) → IsBalanced capacity popped ms
      → with_frame (waiting_by capacity popped ms) a ≡ waiting_by capacity popped (ms ++ arrives a ∷ [])
  frame-arrives a h =
      let lost : cond (ltb (length (queue_content capacity ms)) capacity)
      (length (arrived ms) - popped - queue_length capacity ms)
      (length (arrived ms) - popped - queue_length capacity ms + 1)
      ≡ length (arrived (ms ++ arrives a ∷ [])) - popped - queue_length capacity (ms ++ arrives a ∷ []) =
      lost_by a (ltb (length (queue_content capacity ms)) capacity) refl h in
      λ i. record { capacity = capacity; frames = sym (content-arrives capacity ms a) i; lost = lost i }

arrival-by : (capacity popped : ℕ) (ms : List Move) (o : Option Arrival) → IsBalanced capacity popped ms
    → (with_arrival (waiting_by capacity popped ms) o ≡ waiting_by capacity popped
    (ms ++ arrive_all (option_to_list o))) × IsBalanced capacity popped (ms ++ arrive_all (option_to_list o))
arrival-by capacity popped ms None h = (
  ap (waiting_by capacity popped) (sym (append-nil ms)),
  subst (IsBalanced capacity popped) (sym (append-nil ms)) h,
)
arrival-by capacity popped ms (Some a) h = (
  frame-arrives capacity popped ms a h,
  IsBalanced-arrives capacity popped ms a h,
)

-- ---- after some entries

popped_more : (xs : List Entry) (e : Entry) → count_by is_answered_pop (xs ++ e ∷ []) ≡ count_by is_answered_pop xs +
    cond (is_answered_pop e) 1 0
popped_more xs e = omega (arith, sum_by-append (λ x. cond (is_answered_pop x) 1 0) xs (e ∷ []))

start_closed : open_window [] ≡ None
unfolding last_after
start_closed = refl

module _ (params : Parameters) (plan : Plan) (q : Queue) where
  pub waiting-none : waiting_of params plan [] q ≡ record { capacity = q.capacity; frames = []; lost = 0 }
  unfolding each_after
  waiting-none = refl

  -- the earlier popped frames, and these further moves
  same_popped : (xs : List Entry) (e : Entry) (ms : List Move) → moves_at params plan q xs e ≡ ms
      → is_answered_pop e ≡ false
      → waiting_of params plan (xs ++ e ∷ []) q ≡ waiting_by q.capacity (count_by is_answered_pop xs)
      (moves params plan q xs ++ ms)
  same_popped xs e ms is unpopped =
      let all : moves params plan q (xs ++ e ∷ []) ≡ moves params plan q xs ++ ms =
      moves-snoc params plan q xs e ∙ ap (λ (l : List Move). moves params plan q xs ++ l) is in
      let none : cond {A = ℕ} (is_answered_pop e) 1 0 ≡ 0 = ap (λ (b : Bool). cond {A = ℕ} b 1 0) unpopped in
      let popped : count_by is_answered_pop (xs ++ e ∷ []) ≡ count_by is_answered_pop xs =
      omega (arith, popped_more xs e, none) in
      λ i. waiting_by q.capacity (popped i) (all i)

  pub waiting-other : (xs : List Entry) (e : Entry) → moves_at params plan q xs e ≡ [] → is_answered_pop e ≡ false
      → waiting_of params plan (xs ++ e ∷ []) q ≡ waiting_of params plan xs q
  waiting-other xs e still unpopped =
      same_popped xs e [] still unpopped ∙ ap (waiting_by q.capacity (count_by is_answered_pop xs))
      (append-nil (moves params plan q xs))

  -- ---- a pop

  answered : (frames : List Arrival) → cond (is_some (option_map origin_of (slice_get frames 0))) 1 0 ≡ min 1
      (length frames)
  answered [] = refl
  answered (a ∷ frames) = omega arith

  pub waiting-pop : (xs : List Entry) (task : ℕ) (from : Option Origin)
      → from ≡ option_map origin_of (oldest q.capacity (moves params plan q xs))
      → without_oldest (waiting_of params plan xs q) ≡ waiting_of params plan (xs ++ Pop task from ∷ []) q
  waiting-pop xs task from is =
      let ms : List Move = moves params plan q xs in
      let all : moves params plan q (xs ++ Pop task from ∷ []) ≡ ms ++ pops ∷ [] =
      moves-snoc params plan q xs (Pop task from) in
      let one : cond {A = ℕ} (is_answered_pop (Pop task from)) 1 0 ≡ min 1 (length (queue_content q.capacity ms)) =
      ap (λ (o : Option Origin). cond {A = ℕ} (is_some o) 1 0) is ∙ answered (queue_content q.capacity ms) in
      let shorter : queue_length q.capacity (ms ++ pops ∷ []) ≡ queue_length q.capacity ms - 1 =
      fold-append (length_after q.capacity) 0 ms (pops ∷ []) in
      let many : length (arrived (ms ++ pops ∷ [])) ≡ length (arrived ms) =
      ap length (arrived-append ms (pops ∷ []) ∙ append-nil (arrived ms)) in
      let lost : length (arrived ms) - count_by is_answered_pop xs - queue_length q.capacity ms
      ≡ length (arrived (ms ++ pops ∷ [])) - count_by is_answered_pop
      (xs ++ Pop task from ∷ []) - queue_length q.capacity (ms ++ pops ∷ []) =
      omega (arith, popped_more xs (Pop task from), one, shorter, many, length-content q.capacity ms) in
      (λ i. record { capacity = q.capacity; frames = sym (content-pops q.capacity ms) i; lost = lost i })
      ∙ (λ i. waiting_by q.capacity (count_by is_answered_pop (xs ++ Pop task from ∷ [])) (sym all i))

  -- ---- an observed window

  one_arrival : (moment : Moment) (window : Opportunity) (channel : Channel) (seen : Seen)
      → option_to_list (queued_on plan q moment window channel (data_frame_seen params window channel seen))
      ≡ queue_arrival_on params plan q moment window channel seen
  one_arrival moment window channel seen = by_test (is_for_queue plan q window channel)
      (option_map (arrival_of moment channel) (data_frame_seen params window channel seen))
    where
      by_test : (t : Bool) (o : Option Arrival) → option_to_list (cond t o None) ≡ cond t (option_to_list o) []
      by_test true o = refl
      by_test false o = refl

  pub waiting-observe : plan.queue ≡ Some q → (xs : List Entry) (n : ℕ) (a b : Seen) (window : Opportunity)
      → IsLegalJournal params plan xs → open_window xs ≡ Some window
      → with_arrival (with_arrival (waiting_of params plan xs q)
      (queued_on plan q (moment_after xs) window A (data_frame_seen params window A a)))
      (queued_on plan q (moment_after xs) window B (data_frame_seen params window B b))
      ≡ waiting_of params plan (xs ++ Observe n a b ∷ []) q
  waiting-observe there xs n a b window legal opened =
      let ms : List Move = moves params plan q xs in
      let popped : ℕ = count_by is_answered_pop xs in
      let from_a : Option Arrival = queued_on plan q (moment_after xs) window A (data_frame_seen params window A a) in
      let from_b : Option Arrival = queued_on plan q (moment_after xs) window B (data_frame_seen params window B b) in
      let first = arrival-by q.capacity popped ms from_a (balanced params plan q there xs legal) in
      let second = arrival-by q.capacity popped (ms ++ arrive_all (option_to_list from_a)) from_b first.1 in
      let lists : option_to_list from_a ++ option_to_list from_b ≡ queue_arrivals_in params plan q (moment_after xs) a b
      (open_window xs) =
      (λ i. one_arrival (moment_after xs) window A a i ++ one_arrival (moment_after xs) window B b i)
      ∙ ap (queue_arrivals_in params plan q (moment_after xs) a b) (sym opened) in
      let joined : (ms ++ arrive_all (option_to_list from_a)) ++ arrive_all (option_to_list from_b) ≡ ms ++ arrive_all
      (queue_arrivals_in params plan q (moment_after xs) a b (open_window xs)) =
      append_assoc ms (arrive_all (option_to_list from_a)) (arrive_all (option_to_list from_b))
      ∙ ap (λ (l : List Move). ms ++ l) (sym (arrive_all-append (option_to_list from_a) (option_to_list from_b)))
      ∙ ap (λ (l : List Arrival). ms ++ arrive_all l) lists in
      ap (λ (w : Waiting). with_arrival w from_b) first.0
      ∙ second.0
      ∙ ap (waiting_by q.capacity popped) joined
      ∙ sym (same_popped xs (Observe n a b) (arrive_all
      (queue_arrivals_in params plan q (moment_after xs) a b (open_window xs))) refl refl)

  -- ---- the number of arrivals

  one_at_most : (t : Bool) (o : Option Arrival) → length (cond t (option_to_list o) []) ≤ 1
  one_at_most true None = omega arith
  one_at_most true (Some a) = omega arith
  one_at_most false o = omega arith

  two_at_most : (moment : Moment) (a b : Seen) (window : Option Opportunity)
      → length (queue_arrivals_in params plan q moment a b window) ≤ 2
  two_at_most moment a b None = omega arith
  two_at_most moment a b (Some window) =
      omega (
        arith,
        length-append (queue_arrival_on params plan q moment window A a)
            (queue_arrival_on params plan q moment window B b),
        one_at_most (is_for_queue plan q window A) (option_map (arrival_of moment A)
            (data_frame_seen params window A a)),
        one_at_most (is_for_queue plan q window B) (option_map (arrival_of moment B)
            (data_frame_seen params window B b)),
      )

  -- an observe that closes a window has at most two frames, and its fetch comes before it
  open_one : List Entry → ℕ
  open_one xs = cond {A = ℕ} (is_some (open_window xs)) 1 0

  digit_one : (t : Bool) → cond {A = ℕ} t 1 0 ≤ 1
  digit_one true = omega arith
  digit_one false = omega arith

  at_open : (moment : Moment) (a b : Seen) (o : Option Opportunity)
      → length (queue_arrivals_in params plan q moment a b o) ≤ 2 * cond {A = ℕ} (is_some o) 1 0
  at_open moment a b None = omega arith
  at_open moment a b (Some window) = omega (arith, two_at_most moment a b (Some window))

  marked : (before : List Entry) (e : Entry) (o : Option Opportunity) → open_window (before ++ e ∷ []) ≡ o
      → open_one (before ++ e ∷ []) ≡ cond {A = ℕ} (is_some o) 1 0
  unfolding open_one
  marked before e o is = ap (λ (w : Option Opportunity). cond {A = ℕ} (is_some w) 1 0) is

  step : (before : List Entry) (e : Entry) → length (arrived (moves_at params plan q before e)) + open_one
      (before ++ e ∷ []) ≤ cond {A = ℕ} (is_slot e) 1 0 + open_one before
  unfolding open_one
  step before (Commit task buffer payload) = omega (
    arith,
    marked before (Commit task buffer payload)
        (open_window before) (open_window-snoc before (Commit task buffer payload)),
  )
  step before (Withdraw task buffer of) = omega (
    arith,
    marked before (Withdraw task buffer of) (open_window before)
        (open_window-snoc before (Withdraw task buffer of)),
  )
  step before (Read task buffer from) = omega (
    arith,
    marked before (Read task buffer from) (open_window before)
        (open_window-snoc before (Read task buffer from)),
  )
  step before (Pop task from) = omega (
    arith,
    marked before (Pop task from) (open_window before)
        (open_window-snoc before (Pop task from)),
  )
  step before (Fetch window a b) = omega (
    arith,
    marked before (Fetch window a b) (Some window)
        (open_window-snoc before (Fetch window a b)),
  )
  step before (Observe window a b) =
      let arrivals : length (arrived (moves_at params plan q before (Observe window a b))) ≡ length
      (queue_arrivals_in params plan q (moment_after before) a b (open_window before)) =
      ap length (arrived-all (queue_arrivals_in params plan q (moment_after before) a b (open_window before))) in
      let most : length (queue_arrivals_in params plan q (moment_after before) a b (open_window before))
      ≤ 2 * cond {A = ℕ} (is_some (open_window before)) 1 0 = at_open (moment_after before) a b (open_window before) in
      let closed : open_one (before ++ Observe window a b ∷ []) ≡ 0 =
      marked before (Observe window a b) None (open_window-snoc before (Observe window a b)) in
      let one : cond {A = ℕ} (is_some (open_window before)) 1 0 ≤ 1 = digit_one (is_some (open_window before)) in
      omega (arith, closed, arrivals, most, one)

  few_from : (before xs : List Entry) → length (arrived (each_after (moves_at params plan q) before xs)) + open_one
      (before ++ xs) ≤ count_by is_slot xs + open_one before
  unfolding each_after
  few_from before [] = omega (arith, ap open_one (append-nil before))
  few_from before (e ∷ xs) =
      let here : List Move = moves_at params plan q before e in
      let rest : List Move = each_after (moves_at params plan q) (before ++ e ∷ []) xs in
      omega (
        arith,
        ap length (arrived-append here rest),
        length-append (arrived here) (arrived rest),
        step before e,
        few_from (before ++ e ∷ []) xs,
        ap open_one (append_assoc before (e ∷ []) xs),
        sum_by-cons (λ x. cond (is_slot x) 1 0) e xs,
      )

  -- if a window is open, fewer frames were lost than there are entries of the controller
  pub lost-most : (xs : List Entry) (w : Opportunity) → open_window xs ≡ Some w
      → queue_lost params plan q xs + 1 ≤ count_by is_slot xs
  unfolding open_one
  lost-most xs w opened =
      let one : open_one xs ≡ 1 = ap (λ (o : Option Opportunity). cond {A = ℕ} (is_some o) 1 0) opened in
      let none : open_one [] ≡ 0 = ap (λ (o : Option Opportunity). cond {A = ℕ} (is_some o) 1 0) start_closed in
      omega (arith, few_from [] xs, one, none)

-- ---- the frames that the code stores in the receive FIFO

-- the arrival of the frame that the receive FIFO stores, if it stores it
pub queued_is : (plan : Plan) (q : Queue) (moment : Moment) (window : Opportunity) (channel : Channel)
    (frame taken : Option Fields) → taken ≡ cond (is_for_queue plan q window channel) frame None
    → option_map (arrival_of moment channel) taken ≡ queued_on plan q moment window channel frame
queued_is plan q moment window channel frame taken is =
    ap (option_map (arrival_of moment channel)) is ∙ by_test (is_for_queue plan q window channel) frame
  where
    by_test : (t : Bool) (o : Option Fields) → option_map (arrival_of moment channel) (cond t o None)
        ≡ cond t (option_map (arrival_of moment channel) o) None
    by_test true o = refl
    by_test false o = refl
