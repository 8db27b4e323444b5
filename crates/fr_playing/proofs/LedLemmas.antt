-- The steps of windows and cycles are lists of events.
use Rattle.std.proofs.Common.{◌≡◌, ℕ, zero, suc, List, [], ◌∷◌, ◌++◌, Option, Some, None, inl, inr, refl}
use Rattle.fr_core.specs.declared.error.StepError.{StepError}
use Rattle.fr_core.specs.declared.event.Event.{Event}
use Rattle.fr_core.specs.declared.event.Event.TheVariants.{Advance}
use Rattle.fr_core.specs.Runs.{Answer, StepsAll}
use Rattle.fr_core.specs.Steps.{Steps}
use Rattle.fr_core.specs.Worlds.{WorldState}
use Rattle.fr_playing.specs.Laws.{IsLed}
use Rattle.fr_playing.specs.Moving.{struck_events, MovesOn, WithinCycle, most_windows, EndsCycle, PassesCycles}
use Rattle.fr_playing.specs.Moving.{RunsCycles}
use Rattle.fr_playing.proofs.StrikingLemmas.{steps_append}
use Rattle.fr_runs.specs.declared.fault_line.FaultLine.{FaultLine}

pub led_same : (old new : WorldState) → new ≡ old → IsLed old new
unfolding StepsAll
led_same old new is = ([], [], is)

pub led_step : (old : WorldState) (event : Event) (answer : Answer) (new : WorldState) → Steps old event answer new
    → IsLed old new
unfolding StepsAll
led_step old event answer new step = (event ∷ [], answer ∷ [], (new, step, refl))

pub led_on : (old mid new : WorldState) → IsLed old mid → IsLed mid new → IsLed old new
led_on old mid new first second =
    let (events, answers, steps) = first in
    let (events', answers', steps') = second in
    (events ++ events', answers ++ answers', steps_append old events answers mid events' answers' new steps steps')

pub led_window : (faults : List FaultLine) (due : List Event) (old : WorldState) (found : Option StepError)
    (new : WorldState) → MovesOn faults due old found new → IsLed old new
led_window faults due old found new moves =
    let (struck, between, kept, last, strikes, all, step, is) = moves in
    let (answers, steps, is') = all in
    led_on old struck new (struck_events faults old.bus, strikes.0, strikes.1)
    (led_on struck between new (due, answers, steps) (led_step between Advance last new step))

led_within : (faults : List FaultLine) (due : List Event) (count : ℕ) (old new : WorldState)
    → WithinCycle faults due count old new → IsLed old new
unfolding WithinCycle
led_within faults due zero old new within = led_same old new within
led_within faults due (suc count) old new within =
    led_on old within.0 new (led_within faults due count old within.0 within.1)
    (led_window faults due within.0 None new within.2)

led_cycle : (faults : List FaultLine) (due : List Event) (old : WorldState) (found : Option StepError)
    (new : WorldState) → EndsCycle faults due old found new → IsLed old new
led_cycle faults due old found new (inl ends) =
    let (count, before, within, moves, due_is) = ends in
    led_on old before new (led_within faults due count old before within) (led_window faults due before found new moves)
led_cycle faults due old found new (inr all) = led_within faults due most_windows old new all.0

led_passes : (faults : List FaultLine) (due : List Event) (count : ℕ) (old new : WorldState)
    → PassesCycles faults due count old new → IsLed old new
unfolding PassesCycles
led_passes faults due zero old new passes = led_same old new passes
led_passes faults due (suc count) old new passes =
    led_on old passes.0 new (led_passes faults due count old passes.0 passes.1)
    (led_cycle faults due passes.0 None new passes.2)

pub led_runs : (faults : List FaultLine) (due : List Event) (cycles : ℕ) (old : WorldState) (found : Option StepError)
    (new : WorldState)
    → RunsCycles faults due cycles old found new → IsLed old new
led_runs faults due cycles old None new runs = led_passes faults due cycles old new runs
led_runs faults due cycles old (Some e) new runs =
    let (done, before, few, passes, ends) = runs in
    led_on old before new (led_passes faults due done old before passes) (led_cycle faults due before (Some e) new ends)
