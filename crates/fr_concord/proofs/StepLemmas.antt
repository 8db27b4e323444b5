-- An event determines its answer and the world after it, unless an allocation fails.
use Rattle.std.proofs.Common.{◌≡◌, ℕ, Bool, true, false, not, cond, ◌⊎◌, inl, inr, List, [], ◌∷◌, ◌++◌, Option, Some}
use Rattle.std.proofs.Common.{None, Ok, Err, refl, sym, ap, subst, ◌∙◌, option_map, if◌then◌else◌}
use Rattle.std.proofs.lemmas.Bool.{and_parts, not-true}
use Rattle.std.proofs.lemmas.List.Folds.{list_all-append}
use Rattle.std.specs.List.{list_all, flat_map, range_with_len}
use Rattle.fr_bus.specs.declared.error.BusError.{BusError}
use Rattle.fr_bus.specs.declared.error.BusError.TheVariants as bus
use Rattle.fr_bus.specs.declared.error.Phase.{Phase}
use Rattle.fr_bus.specs.declared.error.Phase.TheVariants.{Collect, Sealed as InSealed, Finished}
use Rattle.fr_bus.specs.Record.{Recorded}
use Rattle.fr_bus.specs.States.{BusState, collects, seals, seal_refusal, advance_refusal, all_put, all_taken}
use Rattle.fr_core.specs.Carried.{Carried, Idle, Knows, Offers, Waits, Took}
use Rattle.fr_core.specs.declared.error.StepError.{StepError}
use Rattle.fr_core.specs.declared.error.StepError.TheVariants.{UnknownNode, WrongTurn, Host, Slot, Bus}
use Rattle.fr_core.specs.declared.event.Event.{Event}
use Rattle.fr_core.specs.declared.event.Event.TheVariants.{Commit, Withdraw, Read, Pop, Look, Fetch, Put, Take, Observe}
use Rattle.fr_core.specs.declared.event.Event.TheVariants.{Inject, Seal, Advance}
use Rattle.fr_core.specs.Runs.{Answer, StepsAll}
use Rattle.fr_core.specs.Steps.{Steps, step_refusal, step_done, taken, observed}
use Rattle.fr_core.specs.Worlds.{WorldState, carried_at}
use Rattle.fr_playing.specs.Moving.{for_nodes, observe_events, offer_events, see_events, whole_window, window_events}
use Rattle.fr_playing.specs.Moving.{struck_after, run_cycle_after}
use Rattle.fr_playing.specs.Striking.{strike_events}
use Rattle.fr_runs.specs.declared.fault_line.FaultLine.{FaultLine}
use Rattle.fr_runs.specs.Striking.{strikes}
use Rattle.fr_slots.specs.Windows.{Opportunity}

-- ---- one event

abbrev pub is_seal : Event → Bool
is_seal Seal = true
is_seal event = false

-- a seal was refused for want of memory alone
pub record IsStarved (w : WorldState) (event : Event) (answer : Answer) (new : WorldState) : Type 0 where
  pub seals : is_seal event ≡ true
  pub told : answer ≡ Err (Bus bus.Memory)
  pub lawful : seal_refusal w.bus ≡ None
  pub same : new ≡ w

pub no_bus : (o : Option BusError) → option_map Bus o ≡ None → o ≡ None
no_bus None e = refl
no_bus (Some x) e = absurd (let none : ⊥ = cc in none)

-- what a refusal says of the world
refused : (w : WorldState) (event : Event) (e : StepError) (new : WorldState) → Steps w event (Err e) new
    → (step_refusal w event ≡ Some e) ⊎ IsStarved w event (Err e) new
refused w (Commit n task buffer payload) e new step = inl step.0
refused w (Withdraw n task buffer) e new step = inl step.0
refused w (Read n task buffer) e new step = inl step.0
refused w (Pop n task) e new step = inl step.0
refused w (Look n) e new step = inl step.0
refused w (Fetch n) e new step = inl step.0
refused w (Put n) e new step = inl step.0
refused w (Take n) e new step = inl step.0
refused w (Observe n) e new step = inl step.0
refused w (Inject fault) e new step = inl step.0
refused w Seal UnknownNode new step = inl step.0
refused w Seal WrongTurn new step = inl step.0
refused w Seal (Host h) new step = inl step.0
refused w Seal (Slot h) new step = inl step.0
refused w Seal (Bus bus.UnknownNode) new step = inl step.0
refused w Seal (Bus bus.NotCollecting) new step = inl step.0
refused w Seal (Bus bus.WrongWindow) new step = inl step.0
refused w Seal (Bus bus.AlreadyPut) new step = inl step.0
refused w Seal (Bus bus.TooManyFaults) new step = inl step.0
refused w Seal (Bus bus.NotAllPut) new step = inl step.0
refused w Seal (Bus bus.NotSealed) new step = inl step.0
refused w Seal (Bus bus.AlreadyTaken) new step = inl step.0
refused w Seal (Bus bus.NotAllTaken) new step = inl step.0
refused w Seal (Bus bus.BadCycles) new step = inl step.0
refused w Seal (Bus bus.Memory) new step =
    inr (record { seals = refl; told = refl; lawful = no_bus (seal_refusal w.bus) step.0; same = step.1 })
refused w Advance e new step = inl step.0

-- two answers to one event are the same, or one is that of a failed allocation
abbrev pub IsSameOr : (w : WorldState) (event : Event) (a b : Answer) (x y : WorldState) → Type 0
IsSameOr w event a b x y = ((a ≡ b) × (x ≡ y)) ⊎ (IsStarved w event a x ⊎ IsStarved w event b y)

pub one_step : (w : WorldState) (event : Event) (a b : Answer) (x y : WorldState) → Steps w event a x
    → Steps w event b y → IsSameOr w event a b x y
one_step w event (Ok r) (Ok s) x y first second =
    inl (ap Ok (first.1 ∙ sym second.1), first.2 ∙ sym second.2)
one_step w event (Ok r) (Err e) x y first second =
    elim (refused w event e y second) [
      | inl is ↦ absurd (let none : None ≡ Some e = sym first.0 ∙ is in let no : ⊥ = cc none in no)
      | inr starved ↦ inr (inr starved)
    ]
one_step w event (Err e) (Ok s) x y first second =
    elim (refused w event e x first) [
      | inl is ↦ absurd (let none : None ≡ Some e = sym second.0 ∙ is in let no : ⊥ = cc none in no)
      | inr starved ↦ inr (inl starved)
    ]
one_step w event (Err e) (Err f) x y first second =
    elim (refused w event e x first) [
      | inr starved ↦ inr (inl starved)
      | inl is ↦
          elim (refused w event f y second) [
            | inr starved ↦ inr (inr starved)
            | inl is' ↦
                let same : Some e ≡ Some f = sym is ∙ is' in
                let error : e ≡ f = cc same in
                inl (ap Err error, first.1 ∙ sym second.1)
          ]
    ]

-- an event that isn't a seal
pub plain_step : (w : WorldState) (event : Event) (a b : Answer) (x y : WorldState) → is_seal event ≡ false
    → Steps w event a x → Steps w event b y → (a ≡ b) × (x ≡ y)
plain_step w event a b x y plain first second =
    elim (one_step w event a b x y first second) [
      | inl same ↦ same
      | inr starved ↦
          elim starved [
            | inl s ↦ absurd (let no : true ≡ false = sym s.seals ∙ plain in let none : ⊥ = cc no in none)
            | inr s ↦ absurd (let no : true ≡ false = sym s.seals ∙ plain in let none : ⊥ = cc no in none)
          ]
    ]

-- ---- the phase of the bus

collecting : (phase : Phase) (put : Bool)
    → (if not (collects phase) then Some bus.NotCollecting else if not put then Some bus.NotAllPut else None) ≡ None
    → collects phase ≡ true
collecting Collect put e = refl
collecting InSealed put e = absurd (let none : ⊥ = cc e in none)
collecting Finished put e = absurd (let none : ⊥ = cc e in none)

pub seal_collects : (b : BusState) → seal_refusal b ≡ None → collects b.phase ≡ true
seal_collects b free = collecting b.phase (all_put b) free

sealing : (phase : Phase) (all : Bool)
    → (if not (seals phase) then Some bus.NotSealed else if not all then Some bus.NotAllTaken else None) ≡ None
    → collects phase ≡ false
sealing Collect all e = absurd (let none : ⊥ = cc e in none)
sealing InSealed all e = refl
sealing Finished all e = absurd (let none : ⊥ = cc e in none)

pub advance_sealed : (w : WorldState) → step_refusal w Advance ≡ None → collects w.bus.phase ≡ false
advance_sealed w free = sealing w.bus.phase (all_taken w.bus) (no_bus (advance_refusal w.bus) free)

-- a take or an observe, of which each leaves the phase of the bus
abbrev pub is_late : Event → Bool
is_late (Take n) = true
is_late (Observe n) = true
is_late event = false

taken_phase : (w : WorldState) (n : ℕ) (c : Carried) → (taken w n c).bus.phase ≡ w.bus.phase
taken_phase w n Idle = refl
taken_phase w n (Knows window) = refl
taken_phase w n (Offers window offer) = refl
taken_phase w n (Waits window) = refl
taken_phase w n (Took window a b) = refl

observed_phase : (w : WorldState) (n : ℕ) (c : Carried) → (observed w n c).bus.phase ≡ w.bus.phase
observed_phase w n Idle = refl
observed_phase w n (Knows window) = refl
observed_phase w n (Offers window offer) = refl
observed_phase w n (Waits window) = refl
observed_phase w n (Took window a b) = refl

done_phase : (w : WorldState) (event : Event) → is_late event ≡ true → (step_done w event).bus.phase ≡ w.bus.phase
done_phase w (Commit n task buffer payload) late = absurd (let none : ⊥ = cc late in none)
done_phase w (Withdraw n task buffer) late = absurd (let none : ⊥ = cc late in none)
done_phase w (Read n task buffer) late = absurd (let none : ⊥ = cc late in none)
done_phase w (Pop n task) late = absurd (let none : ⊥ = cc late in none)
done_phase w (Look n) late = absurd (let none : ⊥ = cc late in none)
done_phase w (Fetch n) late = absurd (let none : ⊥ = cc late in none)
done_phase w (Put n) late = absurd (let none : ⊥ = cc late in none)
done_phase w (Take n) late = taken_phase w n (carried_at w n)
done_phase w (Observe n) late = observed_phase w n (carried_at w n)
done_phase w (Inject fault) late = absurd (let none : ⊥ = cc late in none)
done_phase w Seal late = absurd (let none : ⊥ = cc late in none)
done_phase w Advance late = absurd (let none : ⊥ = cc late in none)

abbrev bus_phase : WorldState → Phase
bus_phase w = w.bus.phase

late_phase : (w : WorldState) (event : Event) (answer : Answer) (new : WorldState) → is_late event ≡ true
    → Steps w event answer new → new.bus.phase ≡ w.bus.phase
late_phase w event (Ok reply) new late step = ap bus_phase step.2 ∙ done_phase w event late
late_phase w event (Err e) new late step = ap bus_phase step.1

late_phases : (w : WorldState) (events : List Event) (answers : List Answer) (new : WorldState)
    → list_all is_late events ≡ true → StepsAll w events answers new → new.bus.phase ≡ w.bus.phase
unfolding StepsAll
late_phases w [] [] new late steps = ap bus_phase steps
late_phases w [] (a ∷ answers) new late steps = absurd steps
late_phases w (e ∷ events) [] new late steps = absurd steps
late_phases w (e ∷ events) (a ∷ answers) new late steps =
    let both = and_parts (is_late e) (list_all is_late events) late in
    late_phases steps.0 events answers new both.1 steps.2 ∙ late_phase w e a steps.0 both.0 steps.1

-- ---- a list of events

abbrev pub is_plain : Event → Bool
is_plain event = not (is_seal event)

-- events without a seal
pub plain_steps : (w : WorldState) (events : List Event) (us vs : List Answer) (x y : WorldState)
    → list_all is_plain events ≡ true → StepsAll w events us x → StepsAll w events vs y → (us ≡ vs) × (x ≡ y)
unfolding StepsAll
plain_steps w [] [] [] x y plain first second = (refl, first ∙ sym second)
plain_steps w [] [] (b ∷ vs) x y plain first second = absurd second
plain_steps w [] (a ∷ us) vs x y plain first second = absurd first
plain_steps w (e ∷ events) [] vs x y plain first second = absurd first
plain_steps w (e ∷ events) (a ∷ us) [] x y plain first second = absurd second
plain_steps w (e ∷ events) (a ∷ us) (b ∷ vs) x y plain first second =
    let both = and_parts (is_plain e) (list_all is_plain events) plain in
    let one = plain_step w e a b first.0 second.0 (not-true (is_seal e) both.0) first.1 second.1 in
    let later = subst (λ (v : WorldState). StepsAll v events vs y) (sym one.1) second.2 in
    let rest = plain_steps first.0 events us vs x y both.1 first.2 later in
    (ap (λ (z : Answer). z ∷ us) one.0 ∙ ap (λ (zs : List Answer). b ∷ zs) rest.0, rest.1)

-- a list in which only takes and observes come after a seal
abbrev pub seals_last : List Event → Bool
seals_last [] = true
seals_last (event ∷ events) = cond (is_seal event) (list_all is_late events) (seals_last events)

-- two lists of answers to such events are the same, or the bus still collects at the end of one of them
abbrev pub AreSameOr : (us vs : List Answer) (x y : WorldState) → Type 0
AreSameOr us vs x y =
    ((us ≡ vs) × (x ≡ y)) ⊎ ((collects x.bus.phase ≡ true) ⊎ (collects y.bus.phase ≡ true))

starved_end : (w : WorldState) (e : Event) (a : Answer) (mid : WorldState) (events : List Event)
    (answers : List Answer) (new : WorldState) → seals_last (e ∷ events) ≡ true → IsStarved w e a mid
    → StepsAll mid events answers new → collects new.bus.phase ≡ true
starved_end w e a mid events answers new last starved steps =
    let late : list_all is_late events ≡ true =
    subst (λ (b : Bool). cond b (list_all is_late events) (seals_last events) ≡ true) starved.seals last in
    ap collects (late_phases mid events answers new late steps ∙ ap bus_phase starved.same)
    ∙ seal_collects w.bus starved.lawful

late_plain : (e : Event) → is_late e ≡ true → is_plain e ≡ true
late_plain (Commit n task buffer payload) late = refl
late_plain (Withdraw n task buffer) late = refl
late_plain (Read n task buffer) late = refl
late_plain (Pop n task) late = refl
late_plain (Look n) late = refl
late_plain (Fetch n) late = refl
late_plain (Put n) late = refl
late_plain (Take n) late = refl
late_plain (Observe n) late = refl
late_plain (Inject fault) late = refl
late_plain Seal late = absurd (let none : ⊥ = cc late in none)
late_plain Advance late = refl

all_late_plain : (es : List Event) → list_all is_late es ≡ true → list_all is_plain es ≡ true
all_late_plain [] late = refl
all_late_plain (e ∷ es) late =
    let both = and_parts (is_late e) (list_all is_late es) late in
    rw (late_plain e both.0, all_late_plain es both.1) refl

late_last : (es : List Event) → list_all is_late es ≡ true → seals_last es ≡ true
late_last [] late = refl
late_last (e ∷ es) late =
    let both = and_parts (is_late e) (list_all is_late es) late in
    rw (not-true (is_seal e) (late_plain e both.0), late_last es both.1) refl

later_last : (b : Bool) (es : List Event) → cond b (list_all is_late es) (seals_last es) ≡ true → seals_last es ≡ true
later_last true es last = late_last es last
later_last false es last = last

pub two_lists : (w : WorldState) (events : List Event) (us vs : List Answer) (x y : WorldState)
    → seals_last events ≡ true → StepsAll w events us x → StepsAll w events vs y → AreSameOr us vs x y
unfolding StepsAll
two_lists w [] [] [] x y last first second = inl (refl, first ∙ sym second)
two_lists w [] [] (b ∷ vs) x y last first second = absurd second
two_lists w [] (a ∷ us) vs x y last first second = absurd first
two_lists w (e ∷ events) [] vs x y last first second = absurd first
two_lists w (e ∷ events) (a ∷ us) [] x y last first second = absurd second
two_lists w (e ∷ events) (a ∷ us) (b ∷ vs) x y last first second =
    elim (one_step w e a b first.0 second.0 first.1 second.1) [
      | inr starved ↦
          elim starved [
            | inl s ↦ inr (inl (starved_end w e a first.0 events us x last s first.2))
            | inr s ↦ inr (inr (starved_end w e b second.0 events vs y last s second.2))
          ]
      | inl one ↦
          let later = subst (λ (v : WorldState). StepsAll v events vs y) (sym one.1) second.2 in
          elim (two_lists first.0 events us vs x y (later_last (is_seal e) events last) first.2 later) [
            | inl rest ↦
                inl (ap (λ (z : Answer). z ∷ us) one.0 ∙ ap (λ (zs : List Answer). b ∷ zs) rest.0, rest.1)
            | inr collecting ↦ inr collecting
          ]
    ]

-- ---- the events of a window

all_flat : {A : Type 0} (p : Event → Bool) (f : A → List Event) (xs : List A)
    → ((x : A) → list_all p (f x) ≡ true) → list_all p (flat_map f xs) ≡ true
all_flat p f [] each = refl
all_flat p f (x ∷ xs) each =
    list_all-append p (f x) (flat_map f xs) ∙ rw (each x, all_flat p f xs each) refl

plain_then : (xs ys : List Event) → list_all is_plain xs ≡ true → seals_last ys ≡ true → seals_last (xs ++ ys) ≡ true
plain_then [] ys plain last = last
plain_then (x ∷ xs) ys plain last =
    let both = and_parts (is_plain x) (list_all is_plain xs) plain in
    rw (not-true (is_seal x) both.0, plain_then xs ys both.1 last) refl

whole_last : (nodes : ℕ) → seals_last (whole_window nodes) ≡ true
whole_last nodes =
    plain_then (for_nodes offer_events nodes) (Seal ∷ for_nodes see_events nodes)
    (all_flat is_plain offer_events (range_with_len 0 nodes) (λ n. refl))
    (all_flat is_late see_events (range_with_len 0 nodes) (λ n. refl))

pub window_last : (nodes : ℕ) → seals_last (window_events nodes) ≡ true
window_last nodes =
    plain_then (for_nodes observe_events nodes) (whole_window nodes)
    (all_flat is_plain observe_events (range_with_len 0 nodes) (λ n. refl)) (whole_last nodes)

struck_line : (b : Bool) (line : FaultLine) → list_all is_plain (cond b (Inject line.fault ∷ []) []) ≡ true
struck_line true line = refl
struck_line false line = refl

pub struck_plain : (faults : List FaultLine) (sealed : List Recorded) (window : Option Opportunity)
    → list_all is_plain (struck_after faults sealed window) ≡ true
struck_plain faults sealed None = refl
struck_plain faults sealed (Some window) =
    all_flat is_plain (strike_events (run_cycle_after sealed window) window) faults
    (λ line. struck_line (strikes line (run_cycle_after sealed window) window) line)
