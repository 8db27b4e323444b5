-- Calls, windows and cycles as accepted events.
use Rattle.std.proofs.Common.{◌≡◌, ℕ, zero, suc, ◌&&◌, Bool, true, false, cond, List, [], ◌∷◌, ◌++◌, Result, Ok, Err}
use Rattle.std.proofs.Common.{refl, sym, ap₂, subst, ◌∙◌, append-nil}
use Rattle.std.specs.List.{flat_map, list_all, range_with_len}
use Rattle.std.specs.Prelude.{OnErr}
use Rattle.std.proofs.lemmas.List.Folds.{list_all-append}
use Rattle.fr_core.specs.declared.event.Event.{Event}
use Rattle.fr_core.specs.declared.event.Event.TheVariants.{Inject, Seal, Advance}
use Rattle.fr_core.specs.Scripts.{Scripted}
use Rattle.fr_core.specs.Worlds.{WorldState}
use Rattle.fr_playing.proofs.StrikingLemmas.{passes_append, passes_none}
use Rattle.fr_playing.specs.Calls.{Asked, DoesCalls}
use Rattle.fr_playing.specs.declared.call.ExecutedCall.{ExecutedCall}
use Rattle.fr_playing.specs.Moving.{for_nodes, offer_events, see_events, whole_window}
use Rattle.fr_playing.specs.Playing.{PlaysCycle, PlaysCycles}
use Rattle.fr_playing.specs.Striking.{strike_events}
use Rattle.fr_playing.specs.Windows.{played_events, PlaysWindow, PlaysWithin, PlaysWindows}
use Rattle.fr_runs.specs.declared.fault_line.FaultLine.{FaultLine}
use Rattle.fr_runs.specs.Striking.{strikes}
use Rattle.fr_slots.specs.Windows.{Opportunity}
use Rattle.fr_streaming.specs.Streams.{is_silent, Executes, MakesCalls, PassesSilently, WithoutCalls}

pub on_err : {A E : Type 0} (r : Result A E) (P : Type 0) → P → OnErr r P
on_err (Ok x) P p = tt
on_err (Err e) P p = p

pub err_as : {A E : Type 0} (r : Result A E) (P Q : Type 0) → OnErr r P → (P → Q) → OnErr r Q
err_as (Ok x) P Q given means = tt
err_as (Err e) P Q given means = means given

-- ---- one after another

pub silent_none : (w : WorldState) → PassesSilently w w
silent_none w = ([], refl, passes_none w)

both_silent : (xs ys : List Event) → list_all is_silent xs ≡ true → list_all is_silent ys ≡ true
    → list_all is_silent (xs ++ ys) ≡ true
both_silent xs ys first second =
    list_all-append is_silent xs ys ∙ ap₂ (λ (a b : Bool). a && b) first second

pub silent_then : (w u v : WorldState) → PassesSilently w u → PassesSilently u v → PassesSilently w v
silent_then w u v first second = (
  first.0 ++ second.0,
  both_silent first.0 second.0 first.1 second.1,
  passes_append w first.0 u second.0 v first.2 second.2,
)

pub executes_silent : (w v : WorldState) → PassesSilently w v → Executes w [] v
unfolding Executes
executes_silent w v silent = silent

pub executes_none : (w : WorldState) → Executes w [] w
executes_none w = executes_silent w w (silent_none w)

silent_first : (w u : WorldState) (calls : List ExecutedCall) (v : WorldState) → PassesSilently w u
    → Executes u calls v → Executes w calls v
unfolding Executes
silent_first w u [] v first second = silent_then w u v first second
silent_first w u (call ∷ calls) v first second =
    let (before, after, silent, does, rest) = second in
    (before, after, silent_then w u before first silent, does, rest)

pub executes_then : (w : WorldState) (xs : List ExecutedCall) (u : WorldState) (ys : List ExecutedCall)
    (v : WorldState) → Executes w xs u → Executes u ys v → Executes w (xs ++ ys) v
unfolding Executes
executes_then w [] u ys v first second = silent_first w u ys v first second
executes_then w (x ∷ xs) u ys v first second =
    let (before, after, silent, does, rest) = first in
    (before, after, silent, does, executes_then after xs u ys v rest second)

pub calls_executed : (w : WorldState) (calls : List ExecutedCall) (v : WorldState) → DoesCalls w calls v
    → Executes w calls v
unfolding DoesCalls Executes
calls_executed w [] v does = subst (λ (u : WorldState). PassesSilently w u) (sym does) (silent_none w)
calls_executed w (call ∷ calls) v does =
    let (between, here, rest) = does in
    (w, between, silent_none w, here, calls_executed between calls v rest)

pub made_executed : (xs : List Asked) (w : WorldState) (calls : List ExecutedCall) (v : WorldState)
    → MakesCalls xs w calls v → Executes w calls v
made_executed xs w calls v made = calls_executed w calls v made.1

-- ---- the events of a window

flat_silent : {X : Type 0} (f : X → List Event) → ((x : X) → list_all is_silent (f x) ≡ true) → (xs : List X)
    → list_all is_silent (flat_map f xs) ≡ true
flat_silent f each [] = refl
flat_silent f each (x ∷ xs) = both_silent (f x) (flat_map f xs) (each x) (flat_silent f each xs)

struck_silent : (line : FaultLine) (b : Bool) → list_all is_silent (cond b (Inject line.fault ∷ []) []) ≡ true
struck_silent line true = refl
struck_silent line false = refl

pub whole_silent : (nodes : ℕ) → list_all is_silent (whole_window nodes) ≡ true
whole_silent nodes =
    both_silent (for_nodes offer_events nodes) (Seal ∷ for_nodes see_events nodes)
    (flat_silent offer_events (λ n. refl) (range_with_len 0 nodes))
    (flat_silent see_events (λ n. refl) (range_with_len 0 nodes))

-- ---- windows

module _ (cycle : ℕ) (faults : List FaultLine) (due : List Event) (silent : list_all is_silent due ≡ true) where
  played_silent : (window : Opportunity) → list_all is_silent (played_events cycle faults due window) ≡ true
  played_silent window =
      both_silent (flat_map (strike_events cycle window) faults ++ due) (Advance ∷ [])
      (both_silent (flat_map (strike_events cycle window) faults) due
      (flat_silent (strike_events cycle window) (λ line. struck_silent line (strikes line cycle window)) faults) silent)
      refl

  window_silent : (w v : WorldState) → PlaysWindow cycle faults due w v → PassesSilently w v
  window_silent w v plays = (played_events cycle faults due plays.0, played_silent plays.0, plays.2)

  within_silent : (count : ℕ) (w v : WorldState) → PlaysWithin cycle faults due count w v → PassesSilently w v
  unfolding PlaysWithin
  within_silent zero w v plays = subst (λ (u : WorldState). PassesSilently w u) (sym plays) (silent_none w)
  within_silent (suc count) w v plays =
      let (mid, before, window, within) = plays in
      silent_then w mid v (within_silent count w mid before) (window_silent mid v window)

  windows_silent : (w v : WorldState) → PlaysWindows cycle faults due w v → PassesSilently w v
  windows_silent w v plays =
      let (count, before, within, window, ends) = plays in
      silent_then w before v (within_silent count w before within) (window_silent before v window)

  pub window_executed : (w : WorldState) (calls : List ExecutedCall) (v : WorldState)
      → WithoutCalls (PlaysWindow cycle faults due) w calls v → Executes w calls v
  window_executed w calls v plays =
      subst (λ (cs : List ExecutedCall). Executes w cs v) (sym plays.0)
      (executes_silent w v (window_silent w v plays.1))

  pub within_executed : (count : ℕ) (w : WorldState) (calls : List ExecutedCall) (v : WorldState)
      → WithoutCalls (PlaysWithin cycle faults due count) w calls v → Executes w calls v
  within_executed count w calls v plays =
      subst (λ (cs : List ExecutedCall). Executes w cs v) (sym plays.0)
      (executes_silent w v (within_silent count w v plays.1))

  pub windows_executed : (w : WorldState) (calls : List ExecutedCall) (v : WorldState)
      → WithoutCalls (PlaysWindows cycle faults due) w calls v → Executes w calls v
  windows_executed w calls v plays =
      subst (λ (cs : List ExecutedCall). Executes w cs v) (sym plays.0)
      (executes_silent w v (windows_silent w v plays.1))

-- ---- cycles

module _ (scripts : List Scripted) (faults : List FaultLine) (due : List Event)
    (silent : list_all is_silent due ≡ true) where
  pub cycle_executed : (cycle : ℕ) (w : WorldState) (calls : List ExecutedCall) (v : WorldState)
      → PlaysCycle cycle scripts faults due w calls v → Executes w calls v
  cycle_executed cycle w calls v plays =
      let (called, are, does, windows) = plays in
      subst (λ (cs : List ExecutedCall). Executes w cs v) (append-nil calls)
      (executes_then w calls called [] v (calls_executed w calls called does)
      (executes_silent called v (windows_silent cycle faults due silent called v windows)))

  pub cycles_executed : (count : ℕ) (w : WorldState) (calls : List ExecutedCall) (v : WorldState)
      → PlaysCycles scripts faults due count w calls v → Executes w calls v
  unfolding PlaysCycles
  cycles_executed zero w calls v plays =
      subst (λ (cs : List ExecutedCall). Executes w cs v) (sym plays.0)
      (subst (λ (u : WorldState). Executes w [] u) (sym plays.1) (executes_none w))
  cycles_executed (suc count) w calls v plays =
      let (mid, before, later, so_far, cycle, are) = plays in
      subst (λ (cs : List ExecutedCall). Executes w cs v) (sym are)
      (executes_then w before mid later v (cycles_executed count w before mid so_far)
      (cycle_executed count mid later v cycle))
