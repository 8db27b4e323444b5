-- Events, calls, windows and cycles that come one after another.
use Rattle.std.proofs.Common.{◌≡◌, ℕ, zero, suc, ◌+◌, ◌<◌, true, false, List, [], ◌∷◌, ◌++◌, length, map, take, get_or}
use Rattle.std.proofs.Common.{Result, Ok, Err, Some, None, Bool, cond, refl, ap, ap₂, sym, subst, ◌∙◌, append-nil}
use Rattle.std.proofs.Common.{append_assoc, arith, eq-eqb, true≢false}
use Rattle.std.specs.Prelude.{◌==◌, OnOk}
use Rattle.std.proofs.lemmas.Bool.{eqb-true}
use Rattle.std.specs.List.{flat_map, range_with_len}
use Rattle.std.proofs.lemmas.Grind.{flat_map-append}
use Rattle.fr_core.specs.declared.event.Event.{Event}
use Rattle.fr_core.specs.declared.event.Event.TheVariants.{Advance}
use Rattle.fr_interface.specs.declared.call.Call.{Call}
use Rattle.fr_core.specs.declared.script.Line.{Line}
use Rattle.fr_core.specs.Scripts.{Scripted}
use Rattle.fr_core.specs.Worlds.{WorldState, opening_world}
use Rattle.fr_playing.specs.Calls.{Asked, asked_in, asked_in_line, asked_of, AddsCalls, DoesCall, DoesCalls}
use Rattle.fr_playing.specs.declared.call.ExecutedCall.{ExecutedCall}
use Rattle.fr_playing.specs.declared.play.Played.{Played}
use Rattle.fr_playing.specs.Playing.{AddsCycle, IsPlayed, PlaysCycles, asked_by}
use Rattle.fr_playing.specs.Windows.{PlaysWindow, PlaysWindows, PlaysWithin}
use Rattle.fr_runs.specs.declared.fault_line.FaultLine.{FaultLine}
use Rattle.fr_schedule.specs.Descriptions.{Description}
use Rattle.fr_playing.specs.Moving.{is_at_cycle, whole_window}
use Rattle.fr_playing.specs.Striking.{Passes, strike_events}
use Rattle.fr_playing.proofs.MovingLemmas.{range-more}
use Rattle.fr_playing.proofs.StrikingLemmas.{flat-more, passes_append}
use Rattle.fr_slots.specs.Windows.{Opportunity}

-- ---- lists

map_append : {X Y : Type 0} (f : X → Y) (xs ys : List X) → map f (xs ++ ys) ≡ map f xs ++ map f ys
map_append f [] ys = refl
map_append f (x ∷ xs) ys = ap (λ l. f x ∷ l) (map_append f xs ys)

-- ---- windows of events

-- the faults, the events that are due, and the advance
pub passes_window : (cycle : ℕ) (faults : List FaultLine) (due : List Event) (window : Opportunity)
    (old struck done new : WorldState) → old.bus.opened ≡ Some window
    → Passes old (flat_map (strike_events cycle window) faults) struck → Passes struck due done
    → Passes done (Advance ∷ []) new
    → PlaysWindow cycle faults due old new
passes_window cycle faults due window old struck done new opened first second last = (
  window,
  opened,
  passes_append old (flat_map (strike_events cycle window) faults ++ due) done (Advance ∷ []) new
      (passes_append old (flat_map (strike_events cycle window) faults) struck due done first second) last,
)

-- the same, if the last of them is the one that is executed last
pub ends_window : {A E : Type 0} (r : Result A E) (cycle : ℕ) (faults : List FaultLine) (due : List Event)
    (window : Opportunity) (old struck done new : WorldState)
    → old.bus.opened ≡ Some window → Passes old (flat_map (strike_events cycle window) faults) struck
    → Passes struck due done
    → OnOk r (Passes done (Advance ∷ []) new) → OnOk r (PlaysWindow cycle faults due old new)
ends_window (Ok x) cycle faults due window old struck done new opened first second last =
    passes_window cycle faults due window old struck done new opened first second last
ends_window (Err e) cycle faults due window old struck done new opened first second last = tt

-- ---- windows

pub within_none : (cycle : ℕ) (faults : List FaultLine) (due : List Event) (w : WorldState)
    → PlaysWithin cycle faults due 0 w w
unfolding PlaysWithin
within_none cycle faults due w = refl

within_next : (cycle : ℕ) (faults : List FaultLine) (due : List Event) (count : ℕ) (old mid new : WorldState)
    → PlaysWithin cycle faults due count old mid
    → PlaysWindow cycle faults due mid new → is_at_cycle new.bus.opened ≡ false
    → PlaysWithin cycle faults due (suc count) old new
unfolding PlaysWithin
within_next cycle faults due count old mid new so_far plays within = (mid, so_far, plays, within)

pub within_more : (cycle : ℕ) (faults : List FaultLine) (due : List Event) (count : ℕ) (old mid new : WorldState)
    → PlaysWithin cycle faults due count old mid
    → PlaysWindow cycle faults due mid new → is_at_cycle new.bus.opened ≡ false
    → PlaysWithin cycle faults due (count + 1) old new
within_more cycle faults due count old mid new so_far plays within =
    subst (λ k. PlaysWithin cycle faults due k old new) (omega arith)
    (within_next cycle faults due count old mid new so_far plays within)

-- ---- calls

does_append : (old : WorldState) (xs : List ExecutedCall) (mid : WorldState) (ys : List ExecutedCall) (new : WorldState)
    → DoesCalls old xs mid → DoesCalls mid ys new
    → DoesCalls old (xs ++ ys) new
unfolding DoesCalls
does_append old [] mid ys new first second = subst (λ (w : WorldState). DoesCalls w ys new) first second
does_append old (x ∷ xs) mid ys new first second = (first.0, first.1, does_append first.0 xs mid ys new first.2 second)

pub adds_none : (calls : List ExecutedCall) (w : WorldState) → AddsCalls calls calls w [] w
unfolding DoesCalls
adds_none calls w = ([], sym (append-nil calls), refl, refl)

pub adds_one : (before : List ExecutedCall) (call : ExecutedCall) (asked : Asked) (old new : WorldState)
    → DoesCall old call new → asked_of call ≡ asked
    → AddsCalls before (before ++ call ∷ []) old (asked ∷ []) new
unfolding DoesCalls
adds_one before call asked old new does is = (call ∷ [], refl, ap (λ (a : Asked). a ∷ []) is, (new, does, refl))

abbrev asked : ℕ → ℕ → ℕ → Call → Asked
asked node task cycle call = record { node = node; task = task; cycle = cycle; call = call }

-- a line of another cycle leads to no call
pub other_line : (cycle node task : ℕ) (line : Line) (calls : List ExecutedCall) (w : WorldState)
    → (line.cycle ≡ cycle → ⊥) → AddsCalls calls calls w (asked_in_line cycle node task line) w
other_line cycle node task line calls w other = by (line.cycle == cycle) refl
  where
    by : (b : Bool) → (line.cycle == cycle) ≡ b → AddsCalls calls calls w
        (cond b (asked node task cycle line.action ∷ []) []) w
    by true e = absurd (other (eqb-true line.cycle cycle e))
    by false e = adds_none calls w

-- a line of this cycle that was executed
pub one_line : (cycle node task : ℕ) (line : Line) (before after : List ExecutedCall) (call : ExecutedCall)
    (old new : WorldState) → line.cycle ≡ cycle → after ≡ before ++ call ∷ []
    → DoesCall old call new → (call.node ≡ node) × (call.task ≡ task) × (call.cycle ≡ cycle) ×
    (call.call ≡ line.action)
    → AddsCalls before after old (asked_in_line cycle node task line) new
one_line cycle node task line before after call old new same after_is does is =
    subst (λ (l : List ExecutedCall). AddsCalls before l old (asked_in_line cycle node task line) new) (sym after_is)
    (by (line.cycle == cycle) refl)
  where
    asked_is : asked_of call ≡ asked node task cycle line.action
    asked_is =
        ap₂ (λ n t. asked n t call.cycle call.call) is.0 is.1 ∙ ap₂ (λ c a. asked node task c a) is.2 is.3

    by : (b : Bool) → (line.cycle == cycle) ≡ b → AddsCalls before (before ++ call ∷ []) old
        (cond b (asked node task cycle line.action ∷ []) []) new
    by true e = adds_one before call (asked node task cycle line.action) old new does asked_is
    by false e = absurd (true≢false (sym (eq-eqb line.cycle cycle same) ∙ e))

pub adds_append : (before between after : List ExecutedCall) (xs ys : List Asked) (old mid new : WorldState)
    → AddsCalls before between old xs mid → AddsCalls between after mid ys new
    → AddsCalls before after old (xs ++ ys) new
adds_append before between after xs ys old mid new first second =
    let (calls, are, one, does) = first in
    let (more, are', two, does') = second in (
      calls ++ more,
      are' ∙ ap (λ (l : List ExecutedCall). l ++ more) are ∙ append_assoc before calls more,
      map_append asked_of calls more ∙ ap₂ (λ (a : List Asked) (b : List Asked). a ++ b) one two,
      does_append old calls mid more new does does',
    )

pub adds_more : {X : Type 0} (f : X → List Asked) (xs : List X) (i : ℕ) (x : X)
    (before between after : List ExecutedCall) (old mid new : WorldState) → i < length xs
    → x ≡ get_or xs i x → AddsCalls before between old (flat_map f (take i xs)) mid
    → AddsCalls between after mid (f x) new
    → AddsCalls before after old (flat_map f (take (i + 1) xs)) new
adds_more f xs i x before between after old mid new lt is first second =
    subst (λ (l : List Asked). AddsCalls before after old l new) (sym (flat-more f xs i x lt is))
    (adds_append before between after (flat_map f (take i xs)) (f x) old mid new first second)

-- ---- cycles

pub cycles_none : (scripts : List Scripted) (faults : List FaultLine) (due : List Event) (calls : List ExecutedCall)
    (w : WorldState) → calls ≡ []
    → PlaysCycles scripts faults due 0 w calls w
unfolding PlaysCycles
cycles_none scripts faults due calls w none = (none, refl)

cycles_next : (scripts : List Scripted) (faults : List FaultLine) (due : List Event) (count : ℕ)
    (before after : List ExecutedCall) (old mid new : WorldState)
    → PlaysCycles scripts faults due count old before mid → AddsCycle count scripts faults due before after mid new
    → PlaysCycles scripts faults due (suc count) old after new
unfolding PlaysCycles
cycles_next scripts faults due count before after old mid new so_far adds =
    (mid, before, adds.0, so_far, adds.2, adds.1)

pub cycles_more : (scripts : List Scripted) (faults : List FaultLine) (due : List Event) (count : ℕ)
    (before after : List ExecutedCall) (old mid new : WorldState)
    → PlaysCycles scripts faults due count old before mid → AddsCycle count scripts faults due before after mid new
    → PlaysCycles scripts faults due (count + 1) old after new
cycles_more scripts faults due count before after old mid new so_far adds =
    subst (λ k. PlaysCycles scripts faults due k old after new) (omega arith)
    (cycles_next scripts faults due count before after old mid new so_far adds)

asked_more : (count : ℕ) (scripts : List Scripted) → asked_by (suc count) scripts ≡ asked_by count scripts ++ asked_in
    count scripts
asked_more count scripts =
    let more : suc count ≡ count + 1 = omega arith in
    let here : 0 + count ≡ count = omega arith in
    let all = λ (cycle : ℕ). asked_in cycle scripts in
    ap (λ (n : ℕ). flat_map all (range_with_len 0 n)) more
    ∙ ap (flat_map all) (range-more 0 count ∙ ap (λ (n : ℕ). range_with_len 0 count ++ n ∷ []) here)
    ∙ flat_map-append all (range_with_len 0 count) (count ∷ [])
    ∙ ap (λ (l : List Asked). asked_by count scripts ++ l) (append-nil (asked_in count scripts))

-- the executed calls are those of the scripts
pub all_asked : (scripts : List Scripted) (faults : List FaultLine) (due : List Event) (count : ℕ)
    (calls : List ExecutedCall) (old new : WorldState)
    → PlaysCycles scripts faults due count old calls new → map asked_of calls ≡ asked_by count scripts
unfolding PlaysCycles
all_asked scripts faults due zero calls old new plays = ap (map asked_of) plays.0
all_asked scripts faults due (suc count) calls old new plays =
    let (mid, before, later, so_far, cycle, are) = plays in
    ap (map asked_of) are ∙ map_append asked_of before later
    ∙ ap₂ (λ (a : List Asked) (b : List Asked). a ++ b) (all_asked scripts faults due count before old mid so_far)
    cycle.1
    ∙ sym (asked_more count scripts)

-- a cycle whose windows are executed last
pub ends_cycle : {A E : Type 0} (r : Result A E) (cycle : ℕ) (scripts : List Scripted) (faults : List FaultLine)
    (due : List Event) (before after : List ExecutedCall)
    (old called new : WorldState) → AddsCalls before after old (asked_in cycle scripts) called
    → OnOk r (PlaysWindows cycle faults due called new)
    → OnOk r (AddsCycle cycle scripts faults due before after old new)
ends_cycle (Ok x) cycle scripts faults due before after old called new adds windows =
    let (calls, are, all, does) = adds in (calls, are, (called, all, does, windows))
ends_cycle (Err e) cycle scripts faults due before after old called new adds windows = tt

-- all cycles, from the opening world to the end of the run
pub is_played : (d : Description) (scripts : List Scripted) (faults : List FaultLine) (cycles : ℕ) (due : List Event)
    (opening : WorldState) (played : Played)
    → due ≡ whole_window (length d.plans) → opening ≡ opening_world d cycles
    → PlaysCycles scripts faults due cycles opening played.calls.items played.world
    → played.world.bus.opened ≡ None → IsPlayed d scripts faults cycles played
is_played d scripts faults cycles due opening played due_is opening_is plays over =
    let calls = played.calls.items in
    let new = played.world in
    record {
      cycles_are = subst (λ (l : List Event). PlaysCycles scripts faults l cycles (opening_world d cycles) calls new)
          due_is
          (subst (λ (w : WorldState). PlaysCycles scripts faults due cycles w calls new) opening_is plays);
      asked = all_asked scripts faults due cycles calls opening new plays;
      over = over;
    }
