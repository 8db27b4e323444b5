-- The effect of a slot's event on each node: its journal, and the entries that its controller has still to make.
use Rattle.std.proofs.Common.{◌≡◌, ◌<◌, ℕ, zero, suc, ◌+◌, Bool, true, false, cond, List, [], ◌∷◌, length}
use Rattle.std.proofs.Common.{Option, Some, None, refl, sym, ap, subst, ◌∙◌, ◌⊎◌, inl, inr, arith, get_or, set}
use Rattle.std.specs.Prelude.{count_by}
use Rattle.std.proofs.lemmas.Bool.Decides.{eqb_tells}
use Rattle.std.proofs.lemmas.List.{get_or-set_same, get_or-set_other, set-get_or}
use Rattle.fr_bus.specs.States.{collecting_of}
use Rattle.fr_core.specs.Carried.{Carried, Idle, Knows, Offers, Waits, Took}
use Rattle.fr_core.specs.declared.error.StepError.{StepError}
use Rattle.fr_core.specs.declared.event.Event.{Event}
use Rattle.fr_core.specs.declared.event.Event.TheVariants.{Commit, Withdraw, Read, Pop, Look, Fetch, Put, Take}
use Rattle.fr_core.specs.declared.event.Event.TheVariants.{Observe, Inject, Seal, Advance}
use Rattle.fr_core.specs.Steps.{step_done, step_refusal, with_interface, with_carried, looked}
use Rattle.fr_core.specs.Steps.{fetched, put_on_bus, taken, observed, look_in_turn}
use Rattle.fr_core.specs.Steps.{offer_of}
use Rattle.fr_core.specs.Worlds.{WorldState, interface_at, carried_at, no_interface}
use Rattle.fr_interface.specs.declared.call.Call.{Call}
use Rattle.fr_interface.specs.State.{State, with_entry, fetch_entry}
use Rattle.fr_journal.specs.Forms.{Entry}
use Rattle.fr_journal.specs.declared.entry.Entry.TheVariants as entries
use Rattle.fr_playing.proofs.EntryLemmas.{fetches_more, observes_more, host_entry, is_there}
use Rattle.fr_playing.proofs.EntryLemmas.{host_no_fetch, host_no_observe}
use Rattle.fr_runs.specs.Stepping.{is_fetch, is_observe, task_of}
use Rattle.fr_slots.specs.Windows.{Opportunity}

-- ---- an item of a list in which one was set

-- the item is the same, or it is the one that was set
abbrev pub IsSet : {X : Type 0} → List X → ℕ → X → ℕ → X → Type 0
IsSet xs n y m d = (get_or (set xs n y) m d ≡ get_or xs m d) ⊎ ((m ≡ n) × (get_or (set xs n y) m d ≡ y))

pub set_read : {X : Type 0} (xs : List X) (n : ℕ) (y : X) (m : ℕ) (d : X) → IsSet xs n y m d
set_read [] n y m d = inl refl
set_read (x ∷ xs) zero y zero d = inr (refl, refl)
set_read (x ∷ xs) zero y (suc m) d = inl refl
set_read (x ∷ xs) (suc n) y zero d = inl refl
set_read (x ∷ xs) (suc n) y (suc m) d = next (set_read xs n y m d)
  where
    next : IsSet xs n y m d → IsSet (x ∷ xs) (suc n) y (suc m) d
    next (inl e) = inl e
    next (inr e) = inr (ap suc e.0, e.1)

-- ---- journals

-- an event of a controller, the bus or a fault
abbrev pub is_of_slot : Event → Bool
is_of_slot (Commit n task buffer payload) = false
is_of_slot (Withdraw n task buffer) = false
is_of_slot (Read n task buffer) = false
is_of_slot (Pop n task) = false
is_of_slot (Look n) = true
is_of_slot (Fetch n) = true
is_of_slot (Put n) = true
is_of_slot (Take n) = true
is_of_slot (Observe n) = true
is_of_slot (Inject fault) = true
is_of_slot Seal = true
is_of_slot Advance = true

-- the interface is the same, or has one more entry, which is no task's
abbrev pub GoesOn : State → State → Type 0
GoesOn old new = (new ≡ old) ⊎ ((e : Entry) × (task_of e ≡ None) × (new ≡ with_entry old e))

goes_at : (w : WorldState) (n : ℕ) (e : Entry) → task_of e ≡ None → (m : ℕ)
    → IsSet w.interfaces n (with_entry (interface_at w n) e) m no_interface
    → GoesOn (interface_at w m) (get_or (set w.interfaces n (with_entry (interface_at w n) e)) m no_interface)
goes_at w n e none m (inl is) = inl is
goes_at w n e none m (inr is) = inr (e, none, is.1 ∙ ap (λ (k : ℕ). with_entry (interface_at w k) e) (sym is.0))

looked_on : (w : WorldState) (n : ℕ) (opened : Option Opportunity) (m : ℕ)
    → GoesOn (interface_at w m) (interface_at (looked w n opened) m)
looked_on w n None m = inl refl
looked_on w n (Some window) m = inl refl

fetched_on : (w : WorldState) (n : ℕ) (c : Carried) (m : ℕ) → GoesOn (interface_at w m) (interface_at (fetched w n c) m)
fetched_on w n Idle m = inl refl
fetched_on w n (Knows window) m =
    goes_at w n (fetch_entry (interface_at w n) window) refl m
    (set_read w.interfaces n (with_entry (interface_at w n) (fetch_entry (interface_at w n) window)) m no_interface)
fetched_on w n (Offers window offer) m = inl refl
fetched_on w n (Waits window) m = inl refl
fetched_on w n (Took window a b) m = inl refl

put_on : (w : WorldState) (n : ℕ) (c : Carried) (m : ℕ) → GoesOn (interface_at w m) (interface_at (put_on_bus w n c) m)
put_on w n Idle m = inl refl
put_on w n (Knows window) m = inl refl
put_on w n (Offers window offer) m = inl refl
put_on w n (Waits window) m = inl refl
put_on w n (Took window a b) m = inl refl

taken_on : (w : WorldState) (n : ℕ) (c : Carried) (m : ℕ) → GoesOn (interface_at w m) (interface_at (taken w n c) m)
taken_on w n Idle m = inl refl
taken_on w n (Knows window) m = inl refl
taken_on w n (Offers window offer) m = inl refl
taken_on w n (Waits window) m = inl refl
taken_on w n (Took window a b) m = inl refl

observed_on : (w : WorldState) (n : ℕ) (c : Carried) (m : ℕ) → GoesOn (interface_at w m) (interface_at (observed w n
    c) m)
observed_on w n Idle m = inl refl
observed_on w n (Knows window) m = inl refl
observed_on w n (Offers window offer) m = inl refl
observed_on w n (Waits window) m = inl refl
observed_on w n (Took window a b) m =
    goes_at w n (entries.Observe window.number a b) refl m
    (set_read w.interfaces n (with_entry (interface_at w n) (entries.Observe window.number a b)) m no_interface)

pub done_on : (w : WorldState) (event : Event) → is_of_slot event ≡ true → (m : ℕ)
    → GoesOn (interface_at w m) (interface_at (step_done w event) m)
done_on w (Commit n task buffer payload) of_slot m = absurd (let none : ⊥ = cc in none)
done_on w (Withdraw n task buffer) of_slot m = absurd (let none : ⊥ = cc in none)
done_on w (Read n task buffer) of_slot m = absurd (let none : ⊥ = cc in none)
done_on w (Pop n task) of_slot m = absurd (let none : ⊥ = cc in none)
done_on w (Look n) of_slot m = looked_on w n (collecting_of w.bus) m
done_on w (Fetch n) of_slot m = fetched_on w n (carried_at w n) m
done_on w (Put n) of_slot m = put_on w n (carried_at w n) m
done_on w (Take n) of_slot m = taken_on w n (carried_at w n) m
done_on w (Observe n) of_slot m = observed_on w n (carried_at w n) m
done_on w (Inject fault) of_slot m = inl refl
done_on w Seal of_slot m = inl refl
done_on w Advance of_slot m = inl refl

-- what further entries of slots keep
abbrev pub IsKept : (ℕ → State → Type 0) → Type 0
IsKept Q = (m : ℕ) (s : State) (e : Entry) → task_of e ≡ None → Q m s → Q m (with_entry s e)

pub goes_keeps : (Q : ℕ → State → Type 0) → IsKept Q → (m : ℕ) (old new : State) → GoesOn old new → Q m old → Q m new
goes_keeps Q keeps m old new (inl is) q = subst (Q m) (sym is) q
goes_keeps Q keeps m old new (inr is) q = subst (Q m) (sym is.2) (keeps m old is.0 is.1 q)

-- ---- windows that were fetched, and not yet observed

-- 1 from the fetch of a window to its observation
abbrev pub unobserved : Carried → ℕ
unobserved Idle = 0
unobserved (Knows window) = 0
unobserved (Offers window offer) = 1
unobserved (Waits window) = 1
unobserved (Took window a b) = 1

abbrev pub IsBalanced : State → Carried → Type 0
IsBalanced s c = count_by is_observe s.entries + unobserved c ≡ count_by is_fetch s.entries

abbrev pub AreBalanced : WorldState → Type 0
AreBalanced w = (m : ℕ) → IsBalanced (interface_at w m) (carried_at w m)

balanced_at : {s s' : State} {c c' : Carried} → s' ≡ s → c' ≡ c → IsBalanced s c → IsBalanced s' c'
balanced_at p q b = rw (p, q) b

module _ (w : WorldState) (few : length w.interfaces ≡ length w.carried) (all : AreBalanced w) (n : ℕ)
    (within : n < length w.interfaces) where
  -- one node's interface and carried data change
  balanced_node : (i : State) (c : Carried) → IsBalanced i c → AreBalanced (with_carried (with_interface w n i) n c)
  balanced_node i c here m =
      elim (eqb_tells m n) [
        | inl own ↦
            subst (λ (k : ℕ). IsBalanced (get_or (set w.interfaces n i) k no_interface) (get_or (set w.carried n c) k
            Idle))
            (sym own.1)
            (balanced_at (get_or-set_same w.interfaces n i no_interface within)
            (get_or-set_same w.carried n c Idle (omega (arith, few, within))) here)
        | inr other ↦ balanced_at (get_or-set_other w.interfaces n m i no_interface other.1)
            (get_or-set_other w.carried n m c Idle other.1) (all m)
      ]

  balanced_interface : (i : State) → IsBalanced i (carried_at w n) → AreBalanced (with_interface w n i)
  balanced_interface i here =
      let e = set-get_or w.carried n Idle in
      rw e at (balanced_node i (carried_at w n) here)

  balanced_carried : (c : Carried) → IsBalanced (interface_at w n) c → AreBalanced (with_carried w n c)
  balanced_carried c here =
      let e = set-get_or w.interfaces n no_interface in
      rw e at (balanced_node (interface_at w n) c here)

  carrying : (c : Carried) → carried_at w n ≡ c → IsBalanced (interface_at w n) c
  carrying c is = subst (IsBalanced (interface_at w n)) is (all n)

  balanced_look : (c : Carried) (opened : Option Opportunity) → carried_at w n ≡ c → look_in_turn w c ≡ None
      → AreBalanced (looked w n opened)
  balanced_look c None is free = all
  balanced_look Idle (Some x) is free = balanced_carried (Knows x) (carrying Idle is)
  balanced_look (Knows y) (Some x) is free = absurd (let none : ⊥ = cc in none)
  balanced_look (Offers y o) (Some x) is free = absurd (let none : ⊥ = cc in none)
  balanced_look (Waits y) (Some x) is free = absurd (let none : ⊥ = cc in none)
  balanced_look (Took y p q) (Some x) is free = absurd (let none : ⊥ = cc in none)

  balanced_fetch : (c : Carried) → carried_at w n ≡ c → AreBalanced (fetched w n c)
  balanced_fetch Idle is = all
  balanced_fetch (Knows x) is =
      let e : Entry = fetch_entry (interface_at w n) x in
      let before = carrying (Knows x) is in
      let fetches = fetches_more (interface_at w n).entries e in
      let observes = observes_more (interface_at w n).entries e in
      balanced_node (with_entry (interface_at w n) e) (Offers x (offer_of (interface_at w n) x))
      (omega (arith, before, fetches, observes))
  balanced_fetch (Offers x o) is = all
  balanced_fetch (Waits x) is = all
  balanced_fetch (Took x p q) is = all

  balanced_put : (c : Carried) → carried_at w n ≡ c → AreBalanced (put_on_bus w n c)
  balanced_put Idle is = all
  balanced_put (Knows x) is = all
  balanced_put (Offers x o) is = balanced_carried (Waits x) (carrying (Offers x o) is)
  balanced_put (Waits x) is = all
  balanced_put (Took x p q) is = all

  balanced_take : (c : Carried) → carried_at w n ≡ c → AreBalanced (taken w n c)
  balanced_take Idle is = all
  balanced_take (Knows x) is = all
  balanced_take (Offers x o) is = all
  balanced_take (Waits x) is = balanced_carried (Took x _ _) (carrying (Waits x) is)
  balanced_take (Took x p q) is = all

  balanced_observe : (c : Carried) → carried_at w n ≡ c → AreBalanced (observed w n c)
  balanced_observe Idle is = all
  balanced_observe (Knows x) is = all
  balanced_observe (Offers x o) is = all
  balanced_observe (Waits x) is = all
  balanced_observe (Took x p q) is =
      let e : Entry = entries.Observe x.number p q in
      let before = carrying (Took x p q) is in
      let fetches = fetches_more (interface_at w n).entries e in
      let observes = observes_more (interface_at w n).entries e in
      balanced_node (with_entry (interface_at w n) e) Idle (omega (arith, before, fetches, observes))

  pub balanced_host : (task : ℕ) (call : Call)
      → AreBalanced (with_interface w n (with_entry (interface_at w n) (host_entry (interface_at w n) task call)))
  balanced_host task call =
      let s : State = interface_at w n in
      let e : Entry = host_entry s task call in
      let before = all n in
      let fetches = fetches_more s.entries e ∙ ap (λ (b : Bool). count_by is_fetch s.entries + cond b 1 0)
      (host_no_fetch s task call) in
      let observes = observes_more s.entries e ∙ ap (λ (b : Bool). count_by is_observe s.entries + cond b 1 0)
      (host_no_observe s task call) in
      balanced_interface (with_entry s e) (omega (arith, before, fetches, observes))

known : (b : Bool) (found : Option StepError) (e : StepError) → cond b found (Some e) ≡ None → found ≡ None
known true found e free = free
known false found e free = absurd (let none : ⊥ = cc in none)

pub balanced_done : (w : WorldState) (event : Event) → is_of_slot event ≡ true → step_refusal w event ≡ None
    → length w.interfaces ≡ length w.carried → AreBalanced w → AreBalanced (step_done w event)
balanced_done w (Commit n task buffer payload) of_slot free few all = absurd (let none : ⊥ = cc in none)
balanced_done w (Withdraw n task buffer) of_slot free few all = absurd (let none : ⊥ = cc in none)
balanced_done w (Read n task buffer) of_slot free few all = absurd (let none : ⊥ = cc in none)
balanced_done w (Pop n task) of_slot free few all = absurd (let none : ⊥ = cc in none)
balanced_done w (Look n) of_slot free few all =
    balanced_look w few all n (is_there w n _ free) (carried_at w n) (collecting_of w.bus) refl (known _ _ _ free)
balanced_done w (Fetch n) of_slot free few all = balanced_fetch w few all n (is_there w n _ free) (carried_at w n) refl
balanced_done w (Put n) of_slot free few all = balanced_put w few all n (is_there w n _ free) (carried_at w n) refl
balanced_done w (Take n) of_slot free few all = balanced_take w few all n (is_there w n _ free) (carried_at w n) refl
balanced_done w (Observe n) of_slot free few all =
    balanced_observe w few all n (is_there w n _ free) (carried_at w n) refl
balanced_done w (Inject fault) of_slot free few all = all
balanced_done w Seal of_slot free few all = all
balanced_done w Advance of_slot free few all = all
