-- A run is a list of events.
use Rattle.std.proofs.Common.{ℕ, zero, suc, List, [], ◌∷◌, length, Ok}
use Rattle.fr_core.specs.declared.event.Event.{Event}
use Rattle.fr_core.specs.Scripts.{Scripted}
use Rattle.fr_core.specs.Worlds.{WorldState, opening_world}
use Rattle.fr_core.specs.Steps.{event_of}
use Rattle.fr_playing.specs.Calls.{DoesCalls}
use Rattle.fr_playing.specs.declared.call.ExecutedCall.{ExecutedCall}
use Rattle.fr_playing.specs.declared.play.Played.{Played}
use Rattle.fr_playing.specs.Playing.{IsPlayed, PlaysCycles}
use Rattle.fr_playing.specs.Windows.{PlaysWindow, PlaysWindows, PlaysWithin}
use Rattle.fr_playing.specs.Striking.{Passes}
use Rattle.fr_runs.specs.declared.fault_line.FaultLine.{FaultLine}
use Rattle.fr_schedule.specs.Descriptions.{Description}
use Rattle.fr_playing.specs.Laws.{IsLed}
use Rattle.fr_playing.specs.Moving.{whole_window}
use Rattle.fr_playing.proofs.LedLemmas.{led_on, led_same, led_step}

led_passes : (old : WorldState) (events : List Event) (new : WorldState) → Passes old events new → IsLed old new
unfolding Passes
led_passes old [] new passes = led_same old new passes
led_passes old (event ∷ events) new passes =
    let (between, reply, step, rest) = passes in
    led_on old between new (led_step old event (Ok reply) between step) (led_passes between events new rest)

led_calls : (old : WorldState) (calls : List ExecutedCall) (new : WorldState) → DoesCalls old calls new → IsLed old new
unfolding DoesCalls
led_calls old [] new does = led_same old new does
led_calls old (call ∷ calls) new does =
    let (between, here, rest) = does in
    led_on old between new (led_step old (event_of call.node call.task call.call) (Ok call.reply) between here.0)
    (led_calls between calls new rest)

led_window : (cycle : ℕ) (faults : List FaultLine) (due : List Event) (old new : WorldState)
    → PlaysWindow cycle faults due old new → IsLed old new
led_window cycle faults due old new plays = led_passes old _ new plays.2

led_within : (cycle : ℕ) (faults : List FaultLine) (due : List Event) (count : ℕ) (old new : WorldState)
    → PlaysWithin cycle faults due count old new
    → IsLed old new
unfolding PlaysWithin
led_within cycle faults due zero old new plays = led_same old new plays
led_within cycle faults due (suc count) old new plays =
    let (mid, before, window, within) = plays in
    led_on old mid new (led_within cycle faults due count old mid before) (led_window cycle faults due mid new window)

led_windows : (cycle : ℕ) (faults : List FaultLine) (due : List Event) (old new : WorldState)
    → PlaysWindows cycle faults due old new → IsLed old new
led_windows cycle faults due old new plays =
    let (count, before, within, window, at_cycle) = plays in
    led_on old before new (led_within cycle faults due count old before within)
    (led_window cycle faults due before new window)

led_cycles : (scripts : List Scripted) (faults : List FaultLine) (due : List Event) (count : ℕ) (old : WorldState)
    (calls : List ExecutedCall) (new : WorldState)
    → PlaysCycles scripts faults due count old calls new → IsLed old new
unfolding PlaysCycles
led_cycles scripts faults due zero old calls new plays = led_same old new plays.1
led_cycles scripts faults due (suc count) old calls new plays =
    let (mid, before, later, so_far, cycle, are) = plays in
    let (called, asked, does, windows) = cycle in
    led_on old mid new (led_cycles scripts faults due count old before mid so_far)
    (led_on mid called new (led_calls mid later called does) (led_windows count faults due called new windows))

pub led_by : (d : Description) (scripts : List Scripted) (faults : List FaultLine) (cycles : ℕ) (played : Played)
    → IsPlayed d scripts faults cycles played
    → IsLed (opening_world d cycles) played.world
led_by d scripts faults cycles played is =
    led_cycles scripts faults (whole_window (length d.plans)) cycles
    (opening_world d cycles) played.calls.items played.world is.cycles_are
