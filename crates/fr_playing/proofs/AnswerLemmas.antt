-- The answers of executed calls are those that their node's journal gives, however it goes on.
use Rattle.std.proofs.Common.{◌≡◌, ◌<◌, ℕ, Bool, true, false, cond, ◌&&◌, List, [], ◌∷◌, ◌++◌, length, map}
use Rattle.std.proofs.Common.{take, get_or, set, Option, Some, None, refl, sym, ap, ap₂, subst, ◌∙◌, inl, inr}
use Rattle.std.proofs.Common.{append_assoc}
use Rattle.std.proofs.Common.{append-nil, slice_get}
use Rattle.std.specs.Prelude.{◌==◌, filter, option_map, option_to_list}
use Rattle.std.specs.Option.{option_and_then}
use Rattle.std.proofs.lemmas.Bool.{eq-eqb, ne_eqb}
use Rattle.std.proofs.lemmas.Bool.Decides.{eqb_tells}
use Rattle.std.proofs.lemmas.List.{get_or-set_same, get_or-set_other, map-append}
use Rattle.std.proofs.lemmas.List.Elements.{filter-append}
use Rattle.fr_core.proofs.ReceiverLemmas.{holds_is_seen}
use Rattle.fr_core.specs.declared.event.Reply.{Reply}
use Rattle.fr_core.specs.declared.event.Reply.TheVariants.{Frame}
use Rattle.fr_core.specs.Receivers.{Holds}
use Rattle.fr_core.specs.Scripts.{Executed, frame_reply, call_in, call_at, calls_of}
use Rattle.fr_core.specs.Steps.{event_of, step_reply, with_interface}
use Rattle.fr_core.specs.Worlds.{WorldState, interface_at, no_interface}
use Rattle.fr_interface.specs.declared.call.Call.{Call}
use Rattle.fr_interface.specs.declared.call.Call.TheVariants as host_call
use Rattle.fr_interface.specs.State.{State, with_entry, received_by, oldest_of}
use Rattle.fr_journal.specs.Arrivals.{moves, oldest}
use Rattle.fr_journal.specs.declared.entry.Arrival.{Arrival}
use Rattle.fr_journal.specs.Forms.{Entry}
use Rattle.fr_journal.specs.declared.entry.Entry.TheVariants.{Commit, Withdraw, Read, Pop, Fetch, Observe}
use Rattle.fr_journal.specs.Held.{frame_named, frame_of, origin_of, frame_in_entry}
use Rattle.fr_journal.specs.OpenWindow.{open_window}
use Rattle.fr_playing.proofs.EntryLemmas.{host_entry}
use Rattle.fr_playing.proofs.EventLemmas.{IsKept}
use Rattle.fr_playing.specs.declared.call.ExecutedCall.{ExecutedCall}
use Rattle.fr_playing.specs.Settled.{is_own, executed_of, executed_by}
use Rattle.fr_runs.specs.Stepping.{task_of}
use Rattle.fr_slots.proofs.HistoryLemmas.{each_after-snoc}
use Rattle.fr_slots.proofs.PlaceLemmas.{get-after}
use Rattle.fr_slots.specs.declared.plan.Queue.{Queue}
use Rattle.fr_slots.specs.History.{each_after}

-- ---- frames by their origin

-- the journal of the interface goes on with these entries
abbrev pub longer : State → List Entry → State
longer s more = record { params = s.params; plan = s.plan; entries = s.entries ++ more }

front : {X : Type 0} (xs ys : List X) → take (length xs) (xs ++ ys) ≡ xs
front [] ys = refl
front (x ∷ xs) ys = ap (λ (l : List _). x ∷ l) (front xs ys)

named : (s : State) (a : Arrival) (more : List Entry) → Holds s a
    → frame_named s.params (s.entries ++ more) a.origin ≡ Some a.frame
named s a more holds =
    let c = holds_is_seen s a holds in
    let seen = c.holds in
    let all : s.entries ++ more ≡ c.inner ++ c.here ∷ (c.after ++ more) =
    ap (λ (l : List Entry). l ++ more) c.cut ∙ append_assoc c.inner (c.here ∷ c.after) more in
    ap (λ (k : ℕ). option_and_then (frame_in_entry s.params a.origin.channel (open_window (take k (s.entries ++ more))))
    (slice_get (s.entries ++ more) k)) seen.brought.entry_is
    ∙ ap (λ (l : List Entry). option_and_then (frame_in_entry s.params a.origin.channel
    (open_window (take (length c.inner) l))) (slice_get l (length c.inner))) all
    ∙ ap₂ (λ (l : List Entry) (o : Option Entry). option_and_then (frame_in_entry s.params a.origin.channel
    (open_window l)) o) (front c.inner (c.here ∷ (c.after ++ more))) (get-after c.inner (c.after ++ more) c.here)
    ∙ ap₂ (λ w (e : Entry). frame_in_entry s.params a.origin.channel w e) seen.opened seen.entry_is
    ∙ seen.brought.frame_is

told_of : (s : State) (more : List Entry) (o : Option Arrival) → ((a : Arrival) → o ≡ Some a → Holds s a)
    → frame_reply (longer s more) (option_map origin_of o) ≡ Frame (option_map frame_of o)
told_of s more None holds = refl
told_of s more (Some a) holds = ap Frame (named s a more (holds a refl))

oldest_held : (s : State) (q : Option Queue) (a : Arrival) → s.plan.queue ≡ q → oldest_of s ≡ Some a → Holds s a
oldest_held s None a is held =
    absurd (let none : ⊥ = (let no : ◌≡◌ {A = Option Arrival} None (Some a) =
    sym (ap (option_and_then (λ x. oldest x.capacity (moves s.params s.plan x s.entries))) is) ∙ held in cc) in none)
oldest_held s (Some q) a is held =
    inr (q, 0, is, sym (ap (option_and_then (λ x. oldest x.capacity (moves s.params s.plan x s.entries))) is) ∙ held)

-- ---- the entry of a call

reply_if : (s : State) (t task number : ℕ) (d e : Executed) (b : Bool) → d ≡ e
    → option_to_list (cond b (Some d) None) ≡ cond b (e ∷ []) []
reply_if s t task number d e true same = ap (λ x. x ∷ []) same
reply_if s t task number d e false same = refl

-- the executed call of the entry, in a longer journal
told_here : (w : WorldState) (n t task : ℕ) (call : Call) (more : List Entry)
    → option_to_list (call_in (longer (interface_at w n) more) task (length (interface_at w n).entries)
    (host_entry (interface_at w n) t call))
    ≡ cond (t == task) ((call, step_reply w (event_of n t call)) ∷ []) []
told_here w n t task (host_call.Commit buffer payload) more = reply_if (interface_at w n) t task 0 _ _ (t == task) refl
told_here w n t task (host_call.Withdraw buffer) more = reply_if (interface_at w n) t task 0 _ _ (t == task) refl
told_here w n t task (host_call.Read buffer) more =
    reply_if (interface_at w n) t task 0 _ _ (t == task)
    (ap (λ (r : Reply). (host_call.Read buffer, r))
    (told_of (interface_at w n) more (received_by (interface_at w n) buffer) (λ a is. inl (buffer, is))))
told_here w n t task host_call.Pop more =
    reply_if (interface_at w n) t task 0 _ _ (t == task)
    (ap (λ (r : Reply). (host_call.Pop, r))
    (told_of (interface_at w n) more (oldest_of (interface_at w n))
    (λ a is. oldest_held (interface_at w n) (interface_at w n).plan.queue a refl is)))

-- ---- journals

-- however the journal goes on, these are the executed calls of the task so far
abbrev pub Tells : ℕ → List Executed → State → Type 0
Tells task done s = (more : List Entry) → each_after (call_at (longer s more) task) [] s.entries ≡ done

tells_more : (task : ℕ) (s : State) (done added : List Executed) (e : Entry)
    → ((more : List Entry) → option_to_list (call_in (longer s (e ∷ more)) task (length s.entries) e) ≡ added)
    → Tells task done s → Tells task (done ++ added) (with_entry s e)
tells_more task s done added e here tells more =
    let entries : (s.entries ++ e ∷ []) ++ more ≡ s.entries ++ e ∷ more = append_assoc s.entries (e ∷ []) more in
    ap (λ (l : List Entry). each_after (call_at (record { params = s.params; plan = s.plan; entries = l }) task) []
    (s.entries ++ e ∷ [])) entries
    ∙ each_after-snoc (call_at (longer s (e ∷ more)) task) s.entries e
    ∙ ap₂ (λ (a : List Executed) (b : List Executed). a ++ b) (tells (e ∷ more)) (here more)

no_task : (s : State) (task number : ℕ) (e : Entry) → task_of e ≡ None → option_to_list (call_in s task number e) ≡ []
no_task s task number (Commit t buffer payload) none = absurd (let no : ⊥ = cc in no)
no_task s task number (Withdraw t buffer of) none = absurd (let no : ⊥ = cc in no)
no_task s task number (Read t buffer from) none = absurd (let no : ⊥ = cc in no)
no_task s task number (Pop t from) none = absurd (let no : ⊥ = cc in no)
no_task s task number (Fetch window a b) none = refl
no_task s task number (Observe window a b) none = refl

tells_slot : (task : ℕ) (s : State) (done : List Executed) (e : Entry) → task_of e ≡ None → Tells task done s
    → Tells task done (with_entry s e)
tells_slot task s done e none tells =
    subst (λ (l : List Executed). Tells task l (with_entry s e)) (append-nil done)
    (tells_more task s done [] e (λ more. no_task (longer s (e ∷ more)) task (length s.entries) e none) tells)

-- the calls so far, in the journal of each node
abbrev pub AreTold : List ExecutedCall → WorldState → Type 0
AreTold before w = (m task : ℕ) → Tells task (executed_by before m task) (interface_at w m)

pub told_kept : (before : List ExecutedCall) → IsKept (λ m s. (task : ℕ) → Tells task (executed_by before m task) s)
told_kept before m s e none tells task = tells_slot task s (executed_by before m task) e none (tells task)

own_more : (m task : ℕ) (before : List ExecutedCall) (call : ExecutedCall)
    → executed_by (before ++ call ∷ []) m task
    ≡ executed_by before m task ++ cond (call.node == m && call.task == task) (executed_of call ∷ []) []
own_more m task before call =
    ap (map executed_of) (filter-append (is_own m task) before (call ∷ []))
    ∙ map-append executed_of (filter (is_own m task) before) (filter (is_own m task) (call ∷ []))
    ∙ ap (λ (l : List Executed). executed_by before m task ++ l) (by_test (call.node == m && call.task == task) refl)
  where
    by_test : (b : Bool) → (call.node == m && call.task == task) ≡ b
        → map executed_of (filter (is_own m task) (call ∷ [])) ≡ cond b (executed_of call ∷ []) []
    by_test true is = ap (λ (t : Bool). map executed_of (cond t (call ∷ []) [])) is
    by_test false is = ap (λ (t : Bool). map executed_of (cond t (call ∷ []) [])) is

module _ (before : List ExecutedCall) (call : ExecutedCall) (w : WorldState) (within : call.node < length w.interfaces)
    (reply_is : call.reply ≡ step_reply w (event_of call.node call.task call.call)) (told : AreTold before w) where
  abbrev n : ℕ
  n = call.node

  abbrev here : State
  here = interface_at w n

  abbrev entry : Entry
  entry = host_entry here call.task call.call

  told_own : (task : ℕ) → Tells task (executed_by (before ++ call ∷ []) n task) (with_entry here entry)
  told_own task =
      subst (λ (l : List Executed). Tells task l (with_entry here entry))
      (ap (λ (b : Bool). executed_by before n task ++ cond (b && call.task == task) (executed_of call ∷ []) [])
      (sym (eq-eqb n n refl)) ∙ sym (own_more n task before call))
      (tells_more task here (executed_by before n task) (cond (call.task == task) (executed_of call ∷ []) []) entry
      (λ more. told_here w n call.task task call.call (entry ∷ more)
      ∙ ap (λ (r : Reply). cond (call.task == task) ((call.call, r) ∷ []) []) (sym reply_is))
      (told n task))

  told_other : (m task : ℕ) → (n ≡ m → ⊥) → Tells task (executed_by (before ++ call ∷ []) m task) (interface_at w m)
  told_other m task other =
      subst (λ (l : List Executed). Tells task l (interface_at w m))
      (sym (append-nil (executed_by before m task))
      ∙ ap (λ (b : Bool). executed_by before m task ++ cond (b && call.task == task) (executed_of call ∷ []) [])
      (sym (ne_eqb n m other)) ∙ sym (own_more m task before call))
      (told m task)

  pub told_next : AreTold (before ++ call ∷ []) (with_interface w n (with_entry here entry))
  told_next m task =
      elim (eqb_tells m n) [
        | inl own ↦
            subst (λ (k : ℕ). Tells task (executed_by (before ++ call ∷ []) k task)
            (get_or (set w.interfaces n (with_entry here entry)) k no_interface)) (sym own.1)
            (subst (Tells task (executed_by (before ++ call ∷ []) n task))
            (sym (get_or-set_same w.interfaces n (with_entry here entry) no_interface within)) (told_own task))
        | inr other ↦
            subst (Tells task (executed_by (before ++ call ∷ []) m task))
            (sym (get_or-set_other w.interfaces n m (with_entry here entry) no_interface other.1))
            (told_other m task (λ same. other.1 (sym same)))
      ]

-- ---- the end of a run

pub told_at_end : (s : State) (task : ℕ) (done : List Executed) → Tells task done s → calls_of s task ≡ done
told_at_end s task done tells =
    ap (λ (l : List Entry). each_after (call_at (record { params = s.params; plan = s.plan; entries = l }) task) []
    s.entries) (sym (append-nil s.entries))
    ∙ tells []
