-- The numbers of a receive FIFO and its lines, with one more entry.
use Rattle.std.proofs.Common.{◌≡◌, ℕ, ◌+◌, ◌-◌, Bool, true, false, cond, List, [], ◌∷◌, ◌++◌, length, Option, Some}
use Rattle.std.proofs.Common.{None, refl, ap, ap₂, ◌∙◌, arith, append-nil, option_map, length-append}
use Rattle.std.specs.Prelude.{option_to_list}
use Rattle.std.specs.List.{flat_map, fold, range_with_len}
use Rattle.std.proofs.lemmas.List.Sums.{fold-append, sum_by-append}
use Rattle.fr_fifo.specs.declared.running.Running.{Running}
use Rattle.fr_fifo.specs.FifoSteps.{after_entry, after_window, frame_on, frame_text}
use Rattle.fr_fifo.specs.FifoSteps.{left_between, oldest_in, running_of, step_text, window_text, with_frame}
use Rattle.fr_fifo.specs.FifoSteps.{with_frames}
use Rattle.fr_fifo.specs.FifoText.{entry_text, held_count, left_by, overwritten_line, popped_line, stored}
use Rattle.fr_fifo.specs.FifoText.{stored_from, stored_line}
use Rattle.fr_frame.specs.Fields.{Fields}
use Rattle.fr_interface.specs.State.{State}
use Rattle.fr_journal.specs.Arrivals.{Move, arrive_all, arrived, is_for_queue, length_after, moves, moves_at}
use Rattle.fr_journal.specs.Arrivals.{queue_arrival_on, queue_arrivals_in, queue_length}
use Rattle.fr_journal.specs.Cycles.{begins_cycle_at, cycles_of, moment_after, run_cycle}
use Rattle.fr_journal.specs.declared.entry.Arrival.{Arrival}
use Rattle.fr_journal.specs.declared.entry.Entry.TheVariants.{Commit, Withdraw, Read, Pop, Fetch, Observe}
use Rattle.fr_journal.specs.declared.entry.Moment.{Moment}
use Rattle.fr_journal.specs.Forms.{Entry}
use Rattle.fr_journal.specs.Held.{arrival_of, data_frame_seen}
use Rattle.fr_journal.specs.OpenWindow.{closed_window, open_window}
use Rattle.fr_journal.proofs.MoveLemmas.{moves-snoc, arrived-append, arrived-all}
use Rattle.fr_slots.specs.declared.channel.Channel.{Channel}
use Rattle.fr_slots.specs.declared.channel.Channel.TheVariants.{A, B}
use Rattle.fr_slots.specs.declared.plan.Queue.{Queue}
use Rattle.fr_slots.specs.Windows.{Opportunity}
use Rattle.fr_status.specs.Forms.{Seen}

-- ---- the arrivals of a window

-- the arrival of a frame, if there is one
abbrev arrivals_of : Moment → Channel → Option Fields → List Arrival
arrivals_of m channel f = option_to_list (option_map (arrival_of m channel) f)

if_stored : (b : Bool) (m : Moment) (channel : Channel) (f : Option Fields)
    → cond b (option_to_list (option_map (arrival_of m channel) f)) [] ≡ arrivals_of m channel (cond b f None)
if_stored true m channel f = refl
if_stored false m channel f = refl

-- the arrivals on both channels
abbrev both : Moment → Option Fields → Option Fields → List Arrival
both m a b = arrivals_of m A a ++ arrivals_of m B b

arrivals_are : (s : State) (q : Queue) (m : Moment) (w : Opportunity) (a b : Seen)
    → queue_arrivals_in s.params s.plan q m a b (Some w) ≡ both m (frame_on s q w A a) (frame_on s q w B b)
arrivals_are s q m w a b =
    ap (λ (l : List Arrival). l ++ queue_arrival_on s.params s.plan q m w B b)
    (if_stored (is_for_queue s.plan q w A) m A (data_frame_seen s.params w A a))
    ∙ ap (λ (l : List Arrival). arrivals_of m A (frame_on s q w A a) ++ l)
    (if_stored (is_for_queue s.plan q w B) m B (data_frame_seen s.params w B b))

-- ---- the numbers after them

module _ (capacity : ℕ) (r : Running) (m : Moment) where
  stored_then : (a b : Option Fields) → r.stored + length (both m a b) ≡ (with_frames capacity r a b).stored
  stored_then None None = omega arith
  stored_then (Some f) None = omega arith
  stored_then None (Some g) = omega arith
  stored_then (Some f) (Some g) = omega arith

  held_then : (a b : Option Fields)
      → fold (length_after capacity) r.held (arrive_all (both m a b)) ≡ (with_frames capacity r a b).held
  held_then None None = refl
  held_then (Some f) None = refl
  held_then None (Some g) = refl
  held_then (Some f) (Some g) = refl

  cycles_then : (a b : Option Fields) → r.cycles ≡ (with_frames capacity r a b).cycles
  cycles_then None None = refl
  cycles_then (Some f) None = refl
  cycles_then None (Some g) = refl
  cycles_then (Some f) (Some g) = refl

numbers : ℕ → ℕ → ℕ → Running
numbers stored held cycles = record { stored = stored; held = held; cycles = cycles }

same_numbers : (r t : Running) → r.stored ≡ t.stored → r.held ≡ t.held → r.cycles ≡ t.cycles → r ≡ t
unfolding numbers
same_numbers r t stored_is held_is cycles_is =
    ap (λ (n : ℕ). numbers n r.held r.cycles) stored_is ∙ ap (λ (n : ℕ). numbers t.stored n r.cycles) held_is
    ∙ ap (numbers t.stored t.held) cycles_is

-- ---- the numbers after an entry

module _ (s : State) (q : Queue) (before : List Entry) where
  stored_more : (e : Entry) → length (stored s q (before ++ e ∷ []))
      ≡ length (stored s q before) + length (arrived (moves_at s.params s.plan q before e))
  stored_more e =
      let ms = moves s.params s.plan q before in
      let more = moves_at s.params s.plan q before e in
      ap (λ (l : List Move). length (arrived l)) (moves-snoc s.params s.plan q before e)
      ∙ ap (length {A = Arrival}) (arrived-append ms more) ∙ length-append (arrived ms) (arrived more)

  held_more : (e : Entry) → held_count s q (before ++ e ∷ [])
      ≡ fold (length_after q.capacity) (held_count s q before) (moves_at s.params s.plan q before e)
  held_more e =
      ap (queue_length q.capacity) (moves-snoc s.params s.plan q before e)
      ∙ fold-append (length_after q.capacity) 0 (moves s.params s.plan q before)
      (moves_at s.params s.plan q before e)

  cycles_more : (e : Entry) → cycles_of (before ++ e ∷ []) ≡ cycles_of before + cond (begins_cycle_at e) 1 0
  cycles_more e = omega (arith, sum_by-append (λ x. cond (begins_cycle_at x) 1 0) before (e ∷ []))

  -- an entry without a move, which begins no cycle
  still : (e : Entry) → moves_at s.params s.plan q before e ≡ [] → begins_cycle_at e ≡ false
      → running_of s q (before ++ e ∷ []) ≡ running_of s q before
  still e none begins =
      same_numbers (running_of s q (before ++ e ∷ [])) (running_of s q before)
      (omega (arith, stored_more e, ap (λ (l : List Move). length (arrived l)) none))
      (held_more e ∙ ap (fold (length_after q.capacity) (held_count s q before)) none)
      (omega (arith, cycles_more e, ap (λ (b : Bool). cond {A = ℕ} b 1 0) begins))

  -- the observations of a window, in which these frames arrive
  after_seen : (window : ℕ) (a b : Seen) (o : Option Opportunity) → open_window before ≡ o
      → running_of s q (before ++ Observe window a b ∷ []) ≡ after_window s q (running_of s q before) o a b
  after_seen window a b None none =
      still (Observe window a b)
      (ap (λ (o : Option Opportunity). arrive_all (queue_arrivals_in s.params s.plan q (moment_after before) a b o))
      none) refl
  after_seen window a b (Some w) is =
      let e = Observe window a b in
      let r = running_of s q before in
      let m = moment_after before in
      let fa = frame_on s q w A a in
      let fb = frame_on s q w B b in
      let come : moves_at s.params s.plan q before e ≡ arrive_all (both m fa fb) =
      ap (λ (o : Option Opportunity). arrive_all (queue_arrivals_in s.params s.plan q m a b o)) is
      ∙ ap arrive_all (arrivals_are s q m w a b) in
      let many : length (arrived (moves_at s.params s.plan q before e)) ≡ length (both m fa fb) =
      ap (λ (l : List Move). length (arrived l)) come ∙ ap (length {A = Arrival}) (arrived-all (both m fa fb)) in
      same_numbers (running_of s q (before ++ e ∷ [])) (with_frames q.capacity r fa fb)
      (stored_more e ∙ ap (λ (n : ℕ). length (stored s q before) + n) many ∙ stored_then q.capacity r m fa fb)
      (held_more e ∙ ap (fold (length_after q.capacity) (held_count s q before)) come
      ∙ held_then q.capacity r m fa fb)
      (omega (arith, cycles_more e, cycles_then q.capacity r m fa fb))

  pub running_after : (e : Entry)
      → running_of s q (before ++ e ∷ []) ≡ after_entry s q (running_of s q before) (closed_window before e) e
  running_after (Commit task buffer payload) = still (Commit task buffer payload) refl refl
  running_after (Withdraw task buffer of) = still (Withdraw task buffer of) refl refl
  running_after (Read task buffer from) = still (Read task buffer from) refl refl
  running_after (Pop task from) =
      same_numbers (running_of s q (before ++ Pop task from ∷ []))
      (after_entry s q (running_of s q before) None (Pop task from))
      (omega (arith, stored_more (Pop task from))) (held_more (Pop task from))
      (omega (arith, cycles_more (Pop task from)))
  running_after (Fetch window a b) =
      same_numbers (running_of s q (before ++ Fetch window a b ∷ []))
      (after_entry s q (running_of s q before) None (Fetch window a b))
      (omega (arith, stored_more (Fetch window a b))) (held_more (Fetch window a b))
      (cycles_more (Fetch window a b))
  running_after (Observe window a b) = after_seen window a b (open_window before) refl

  -- ---- the lines of an entry

  -- the lines of the frames that arrive
  lines_of : (a b : Option Fields) → stored_from (length (stored s q before)) (both (moment_after before) a b)
      ≡ frame_text (running_of s q before) A a
      ++ frame_text (with_frame q.capacity (running_of s q before) a) B b
  lines_of None None = refl
  lines_of (Some f) None = refl
  lines_of None (Some g) =
      append-nil (stored_line (length (stored s q before)) (run_cycle before) B g)
  lines_of (Some f) (Some g) =
      ap (λ (t : List ℕ). stored_line (length (stored s q before)) (run_cycle before) A f ++ t)
      (append-nil (stored_line (length (stored s q before) + 1) (run_cycle before) B g))

  -- nothing leaves the FIFO
  none_left : (r : Running) → left_between r r ≡ []
  none_left r =
      let none : oldest_in r - oldest_in r ≡ 0 = omega arith in
      ap (range_with_len (oldest_in r)) none

  text_seen : (window : ℕ) (a b : Seen) (o : Option Opportunity) → open_window before ≡ o
      → entry_text s q before (Observe window a b) ≡ window_text s q (running_of s q before) o a b
  text_seen window a b None is =
      let r = running_of s q before in
      let over = flat_map (overwritten_line (run_cycle before)) in
      ap (λ (o : Option Opportunity). stored_from (length (stored s q before))
      (queue_arrivals_in s.params s.plan q (moment_after before) a b o)
      ++ over (left_between r (running_of s q (before ++ Observe window a b ∷ [])))) is
      ∙ ap (λ (n : Running). over (left_between r n)) (after_seen window a b None is)
      ∙ ap over (none_left r)
  text_seen window a b (Some w) is =
      let r = running_of s q before in
      let m = moment_after before in
      let fa = frame_on s q w A a in
      let fb = frame_on s q w B b in
      let front = frame_text r A fa in
      let back = frame_text (with_frame q.capacity r fa) B fb in
      let come : stored_from (length (stored s q before))
      (queue_arrivals_in s.params s.plan q m a b (open_window before)) ≡ front ++ back =
      ap (λ (o : Option Opportunity). stored_from (length (stored s q before))
      (queue_arrivals_in s.params s.plan q m a b o)) is
      ∙ ap (stored_from (length (stored s q before))) (arrivals_are s q m w a b) ∙ lines_of fa fb in
      let leave : left_by s q before (Observe window a b) ≡ left_between r (with_frames q.capacity r fa fb) =
      ap (left_between r) (after_seen window a b (Some w) is) in
      ap₂ (λ (t : List ℕ) (numbers : List ℕ). t ++ flat_map (overwritten_line (run_cycle before)) numbers) come leave

  pub text_after : (e : Entry)
      → entry_text s q before e ≡ step_text s q (running_of s q before) (closed_window before e) e
  text_after (Commit task buffer payload) = refl
  text_after (Withdraw task buffer of) = refl
  text_after (Read task buffer from) = refl
  text_after (Pop task from) =
      ap (λ (n : Running). flat_map (popped_line (cycles_of before) task) (left_between (running_of s q before) n))
      (running_after (Pop task from))
  text_after (Fetch window a b) = refl
  text_after (Observe window a b) = text_seen window a b (open_window before) refl
