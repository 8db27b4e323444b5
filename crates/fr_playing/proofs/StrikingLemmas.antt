-- Events that are accepted, or tried, one after another.
use Rattle.std.proofs.Common.{◌≡◌, ℕ, ◌+◌, ◌<◌, ◌≤◌, false, List, [], ◌∷◌, ◌++◌, length, take, get_or, Result, Ok, Err}
use Rattle.std.proofs.Common.{Bool, cond, refl, ap, sym, subst, ◌∙◌, append-nil}
use Rattle.std.specs.List.{flat_map}
use Rattle.std.specs.Prelude.{OnOk}
use Rattle.std.proofs.lemmas.Grind.{flat_map-append}
use Rattle.std.proofs.lemmas.List.{take_all, take_more}
use Rattle.fr_core.specs.declared.error.StepError.{StepError}
use Rattle.fr_core.specs.declared.event.Event.{Event}
use Rattle.fr_core.specs.declared.event.Event.TheVariants.{Inject}
use Rattle.fr_core.specs.declared.event.Reply.{Reply}
use Rattle.fr_core.specs.Runs.{Answer, StepsAll}
use Rattle.fr_core.specs.Steps.{Steps}
use Rattle.fr_core.specs.Worlds.{WorldState}
use Rattle.fr_runs.specs.declared.fault_line.FaultLine.{FaultLine}
use Rattle.fr_runs.specs.Striking.{strikes}
use Rattle.fr_playing.specs.Striking.{first_of, refusal_among, Passes, Tells, Tries, strike_events}
use Rattle.fr_slots.specs.Windows.{Opportunity}

-- the events of one more element
pub flat-more : {X Y : Type 0} (f : X → List Y) (xs : List X) (i : ℕ) (x : X) → i < length xs → x ≡ get_or xs i x
    → flat_map f (take (i + 1) xs) ≡ flat_map f (take i xs) ++ f x
flat-more f xs i x lt is =
    ap (flat_map f) (take_more xs i x lt ∙ ap (λ y. take i xs ++ y ∷ []) (sym is))
    ∙ flat_map-append f (take i xs) (x ∷ [])
    ∙ ap (λ l. flat_map f (take i xs) ++ l) (append-nil (f x))

-- ---- accepted

pub passes_none : (w : WorldState) → Passes w [] w
unfolding Passes
passes_none w = refl

pub passes_one : (old : WorldState) (event : Event) (reply : Reply) (new : WorldState) → Steps old event (Ok reply) new
    → Passes old (event ∷ []) new
unfolding Passes
passes_one old event reply new step = (new, reply, step, refl)

pub passes_append : (old : WorldState) (xs : List Event) (mid : WorldState) (ys : List Event) (new : WorldState)
    → Passes old xs mid → Passes mid ys new
    → Passes old (xs ++ ys) new
unfolding Passes
passes_append old [] mid ys new first second = subst (λ (w : WorldState). Passes w ys new) first second
passes_append old (x ∷ xs) mid ys new first second =
    (first.0, first.1, first.2, passes_append first.0 xs mid ys new first.3 second)

pub passes_more : (events : List Event) (i : ℕ) (event : Event) (old mid new : WorldState) → i < length events
    → event ≡ get_or events i event
    → Passes old (take i events) mid → Passes mid (event ∷ []) new → Passes old (take (i + 1) events) new
passes_more events i event old mid new lt is first second =
    subst (λ (l : List Event). Passes old l new)
    (sym (take_more events i event lt ∙ ap (λ (y : Event). take i events ++ y ∷ []) (sym is)))
    (passes_append old (take i events) mid (event ∷ []) new first second)

-- ---- tried

pub tries_none : (w : WorldState) → Tries w [] w
unfolding StepsAll
tries_none w = ([], refl)

pub steps_append : (old : WorldState) (events : List Event) (answers : List Answer) (mid : WorldState)
    (events' : List Event) (answers' : List Answer) (new : WorldState)
    → StepsAll old events answers mid → StepsAll mid events' answers' new
    → StepsAll old (events ++ events') (answers ++ answers') new
unfolding StepsAll
steps_append old [] [] mid events' answers' new first second =
    subst (λ (w : WorldState). StepsAll w events' answers' new) first second
steps_append old [] (a ∷ answers) mid events' answers' new first second = absurd first
steps_append old (e ∷ events) [] mid events' answers' new first second = absurd first
steps_append old (e ∷ events) (a ∷ answers) mid events' answers' new first second =
    (first.0, first.1, steps_append first.0 events answers mid events' answers' new first.2 second)

-- ---- the first refusal

pub tells_none : (w : WorldState) → Tells w [] (Ok tt) w
unfolding StepsAll refusal_among
tells_none w = ([], refl, refl)

pub tells_accepted : (old : WorldState) (event : Event) (reply : Reply) (new : WorldState)
    → Steps old event (Ok reply) new
    → Tells old (event ∷ []) (Ok tt) new
unfolding StepsAll refusal_among
tells_accepted old event reply new step = (Ok reply ∷ [], (new, step, refl), refl)

pub tells_refused : (old : WorldState) (event : Event) (error : StepError) (new : WorldState)
    → Steps old event (Err error) new
    → Tells old (event ∷ []) (Err error) new
unfolding StepsAll refusal_among
tells_refused old event error new step = (Err error ∷ [], (new, step, refl), refl)

refusal_among_append : (answers answers' : List Answer)
    → first_of (refusal_among answers) (refusal_among answers') ≡ refusal_among (answers ++ answers')
unfolding refusal_among
refusal_among_append [] answers' = refl
refusal_among_append (Ok reply ∷ answers) answers' = refusal_among_append answers answers'
refusal_among_append (Err error ∷ answers) answers' = refl

tells_append : (old : WorldState) (xs : List Event) (before : Result (Unit {0}) StepError) (mid : WorldState)
    (ys : List Event) (next : Result (Unit {0}) StepError) (new : WorldState)
    → Tells old xs before mid → Tells mid ys next new → Tells old (xs ++ ys) (first_of before next) new
tells_append old xs before mid ys next new first second =
    let (answers, steps, is) = first in
    let (answers', steps', is') = second in (
      answers ++ answers',
      steps_append old xs answers mid ys answers' new steps steps',
      ap (λ (t : Result (Unit {0}) StepError). first_of t next) is
          ∙ ap (λ (t : Result (Unit {0}) StepError). first_of (refusal_among answers) t) is'
          ∙ refusal_among_append answers answers',
    )

-- events of which none was refused were all accepted
all_accepted : (old : WorldState) (events : List Event) (answers : List Answer) (new : WorldState) (done : Unit {0})
    → StepsAll old events answers new
    → Ok done ≡ refusal_among answers → Passes old events new
unfolding StepsAll refusal_among Passes
all_accepted old [] [] new done steps none = steps
all_accepted old [] (a ∷ answers) new done steps none = absurd steps
all_accepted old (e ∷ events) [] new done steps none = absurd steps
all_accepted old (e ∷ events) (Ok reply ∷ answers) new done steps none =
    (steps.0, reply, steps.1, all_accepted steps.0 events answers new done steps.2 none)
all_accepted old (e ∷ events) (Err error ∷ answers) new done steps none = absurd cc

pub tells_passes : (old : WorldState) (events : List Event) (told : Result (Unit {0}) StepError) (new : WorldState)
    → Tells old events told new
    → OnOk told (Passes old events new)
tells_passes old events (Ok done) new tells = all_accepted old events tells.0 new done tells.1 tells.2
tells_passes old events (Err error) new tells = tt

pub tells_tries : (old : WorldState) (events : List Event) (told : Result (Unit {0}) StepError) (new : WorldState)
    → Tells old events told new
    → Tries old events new
tells_tries old events told new tells = (tells.0, tells.1)

-- ---- faults

-- a line without effect in the window leads to no event
pub no_strike : (cycle : ℕ) (window : Opportunity) (line : FaultLine) (w : WorldState)
    → strikes line cycle window ≡ false
    → Tells w (strike_events cycle window line) (Ok tt) w
no_strike cycle window line w none =
    subst (λ (b : Bool). Tells w (cond b (Inject line.fault ∷ []) []) (Ok tt) w) (sym none) (tells_none w)

-- one line more
pub strikes_more : (cycle : ℕ) (window : Opportunity) (faults : List FaultLine) (i : ℕ) (line : FaultLine)
    (before next : Result (Unit {0}) StepError) (old mid new : WorldState)
    → i < length faults → line ≡ get_or faults i line → Tells old
    (flat_map (strike_events cycle window) (take i faults)) before mid
    → Tells mid (strike_events cycle window line) next new
    → Tells old (flat_map (strike_events cycle window) (take (i + 1) faults)) (first_of before next) new
strikes_more cycle window faults i line before next old mid new lt is first second =
    let xs = flat_map (strike_events cycle window) (take i faults) in
    let ys = strike_events cycle window line in
    subst (λ (l : List Event). Tells old l (first_of before next) new)
    (sym (flat-more (strike_events cycle window) faults i line lt is))
    (tells_append old xs before mid ys next new first second)

-- all lines
pub strikes_all : (cycle : ℕ) (window : Opportunity) (faults : List FaultLine) (i : ℕ)
    (told : Result (Unit {0}) StepError) (old new : WorldState)
    → length faults ≤ i → Tells old (flat_map (strike_events cycle window) (take i faults)) told new
    → Tells old (flat_map (strike_events cycle window) faults) told new
strikes_all cycle window faults i told old new all tells =
    subst (λ (l : List FaultLine). Tells old (flat_map (strike_events cycle window) l) told new)
    (take_all i faults all) tells
