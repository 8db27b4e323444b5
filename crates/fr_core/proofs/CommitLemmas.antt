-- An event adds exactly the accepted commits to each interface.
use Rattle.std.proofs.Common.{◌≡◌, ℕ, ◌+◌, ◌<◌, Bool, true, false, cond, eqb, ◌&&◌, List, length, refl, sym, ap}
use Rattle.std.proofs.Common.{◌∙◌, arith, Option, Some, None, get_or, set, inl, inr, get_or-set_same, get_or-set_other}
use Rattle.std.proofs.Common.{◌≢◌, subst, ltb-true}
use Rattle.std.specs.Prelude.{Ok, Err}
use Rattle.std.proofs.lemmas.Bool.Decides.{eqb_tells}
use Rattle.std.proofs.lemmas.List.Sums.{sum_by_push}
use Rattle.fr_bus.specs.States.{collecting_of}
use Rattle.fr_interface.specs.Commits.{is_commit, commits_of}
use Rattle.fr_core.specs.Carried.{Carried, Idle, Knows, Offers, Waits, Took}
use Rattle.fr_core.specs.declared.error.StepError.{StepError}
use Rattle.fr_core.specs.declared.error.StepError.TheVariants.{UnknownNode}
use Rattle.fr_core.specs.declared.event.Event.{Event}
use Rattle.fr_core.specs.declared.event.Event.TheVariants.{Commit, Withdraw, Read, Pop, Look, Fetch, Put, Take}
use Rattle.fr_core.specs.declared.event.Event.TheVariants.{Observe, Inject, Seal, Advance}
use Rattle.fr_core.specs.Runs.{Answer, is_commit_at, commits_by}
use Rattle.fr_core.specs.Steps.{Steps, step_refusal, step_done, if_node, looked, fetched, put_on_bus, taken, observed}
use Rattle.fr_core.specs.Worlds.{WorldState, has_node, interface_at, carried_at, no_interface}
use Rattle.fr_interface.specs.State.{State, with_entry, withdraw_entry, read_entry, pop_entry, fetch_entry}
use Rattle.fr_journal.specs.Forms.{Entry}
use Rattle.fr_journal.specs.declared.entry.Entry.TheVariants as entries
use Rattle.fr_slots.specs.Windows.{Opportunity}

-- the number of commits at the node's interface
abbrev counted : WorldState → ℕ → ℕ
counted w m = commits_of (interface_at w m)

abbrev digit : Bool → ℕ
digit b = cond b 1 0

-- ---- one more entry at one interface

one_more : (s : State) (e : Entry) → commits_of (with_entry s e) ≡ commits_of s + digit (is_commit e)
one_more s e = sum_by_push (λ x. digit (is_commit x)) s.entries e

abbrev entered : WorldState → ℕ → Entry → ℕ → ℕ
entered w n e m = commits_of (get_or (set w.interfaces n (with_entry (interface_at w n) e)) m no_interface)

-- the node is this one
entered_here : (w : WorldState) (n m : ℕ) (e : Entry) → n < length w.interfaces → n ≡ m
    → entered w n e m ≡ counted w m + digit (is_commit e)
entered_here w n m e there same =
    subst (λ k. entered w n e k ≡ counted w k + digit (is_commit e)) same
    (ap commits_of (get_or-set_same w.interfaces n (with_entry (interface_at w n) e) no_interface there) ∙ one_more
    (interface_at w n) e)

-- the node is another one
entered_there : (w : WorldState) (n m : ℕ) (e : Entry) → m ≢ n → entered w n e m ≡ counted w m
entered_there w n m e other = ap commits_of (get_or-set_other w.interfaces n m
    (with_entry (interface_at w n) e) no_interface other)

-- a commit counts at its node
commit_counts : (w : WorldState) (n m task buffer : ℕ) (payload : List ℕ) → n < length w.interfaces
    → entered w n (entries.Commit task buffer payload) m ≡ counted w m + digit (eqb n m && true)
commit_counts w n m task buffer payload there = elim (eqb_tells n m) [
  | inl same ↦ omega (
    arith,
    entered_here w n m (entries.Commit task buffer payload) there same.1,
    ap (λ b. digit (b && true)) same.0,
  )
  | inr other ↦ omega (
    arith,
    entered_there w n m (entries.Commit task buffer payload) (λ same. other.1 (sym same)),
    ap (λ b. digit (b && true)) other.0,
  )
]

-- another entry counts nowhere
other_counts : (w : WorldState) (n m : ℕ) (e : Entry) → is_commit e ≡ false → n < length w.interfaces
    → entered w n e m ≡ counted w m
other_counts w n m e is there = elim (eqb_tells n m) [
  | inl same ↦ omega (arith, entered_here w n m e there same.1, ap digit is)
  | inr other ↦ entered_there w n m e (λ same. other.1 (sym same))
]

-- ---- the steps of a controller

looked_counts : (w : WorldState) (n m : ℕ) (opened : Option Opportunity) → counted (looked w n opened) m ≡ counted w m
looked_counts w n m None = refl
looked_counts w n m (Some window) = refl

fetched_counts : (w : WorldState) (n m : ℕ) (c : Carried) → n < length w.interfaces
    → counted (fetched w n c) m ≡ counted w m
fetched_counts w n m Idle there = refl
fetched_counts w n m (Knows window) there = other_counts w n m (fetch_entry (interface_at w n) window) refl there
fetched_counts w n m (Offers window offer) there = refl
fetched_counts w n m (Waits window) there = refl
fetched_counts w n m (Took window a b) there = refl

put_counts : (w : WorldState) (n m : ℕ) (c : Carried) → counted (put_on_bus w n c) m ≡ counted w m
put_counts w n m Idle = refl
put_counts w n m (Knows window) = refl
put_counts w n m (Offers window offer) = refl
put_counts w n m (Waits window) = refl
put_counts w n m (Took window a b) = refl

taken_counts : (w : WorldState) (n m : ℕ) (c : Carried) → counted (taken w n c) m ≡ counted w m
taken_counts w n m Idle = refl
taken_counts w n m (Knows window) = refl
taken_counts w n m (Offers window offer) = refl
taken_counts w n m (Waits window) = refl
taken_counts w n m (Took window a b) = refl

observed_counts : (w : WorldState) (n m : ℕ) (c : Carried) → n < length w.interfaces
    → counted (observed w n c) m ≡ counted w m
observed_counts w n m Idle there = refl
observed_counts w n m (Knows window) there = refl
observed_counts w n m (Offers window offer) there = refl
observed_counts w n m (Waits window) there = refl
observed_counts w n m (Took window a b) there = other_counts w n m (entries.Observe window.number a b) refl there

-- ---- events

known_node : (t : Bool) (refusal : Option StepError) → cond t refusal (Some UnknownNode) ≡ None → t ≡ true
known_node true refusal is = refl
known_node false refusal is = absurd (cc)

-- the node of an accepted event exists
there_is : (w : WorldState) (n : ℕ) (refusal : Option StepError) → if_node w n refusal ≡ None → n < length w.interfaces
there_is w n refusal free = ltb-true n (length w.interfaces) (known_node (has_node w n) refusal free)

done_counts : (w : WorldState) (event : Event) (m : ℕ) → step_refusal w event ≡ None
    → counted (step_done w event) m ≡ counted w m + digit (is_commit_at m event && true)
done_counts w (Commit n task buffer payload) m free = commit_counts w n m task buffer payload (there_is w n _ free)
done_counts w (Withdraw n task buffer) m free = omega (
  arith,
  other_counts w n m (withdraw_entry (interface_at w n) task buffer) refl (there_is w n _ free),
)
done_counts w (Read n task buffer) m free = omega (
  arith,
  other_counts w n m (read_entry (interface_at w n) task buffer)
      refl (there_is w n _ free),
)
done_counts w (Pop n task) m free = omega (
  arith,
  other_counts w n m (pop_entry (interface_at w n) task) refl
      (there_is w n _ free),
)
done_counts w (Look n) m free = omega (arith, looked_counts w n m (collecting_of w.bus))
done_counts w (Fetch n) m free = omega (arith, fetched_counts w n m (carried_at w n) (there_is w n _ free))
done_counts w (Put n) m free = omega (arith, put_counts w n m (carried_at w n))
done_counts w (Take n) m free = omega (arith, taken_counts w n m (carried_at w n))
done_counts w (Observe n) m free = omega (arith, observed_counts w n m (carried_at w n) (there_is w n _ free))
done_counts w (Inject fault) m free = omega arith
done_counts w Seal m free = omega arith
done_counts w Advance m free = omega arith

refused_counts : (b : Bool) → digit (b && false) ≡ 0
refused_counts true = refl
refused_counts false = refl

pub step_counts : (old : WorldState) (event : Event) (answer : Answer) (new : WorldState) (m : ℕ)
    → Steps old event answer new → counted new m ≡ counted old m + commits_by m event answer
step_counts old event (Ok reply) new m step = ap (λ (w : WorldState). counted w m) step.2 ∙ done_counts old event m
    step.0
step_counts old event (Err e) new m step = omega (
  arith,
  ap (λ (w : WorldState). counted w m) step.1,
  refused_counts (is_commit_at m event),
)
