-- Laws of worlds that are led by events.
use Rattle.std.specs.Prelude.{List}
use Rattle.fr_core.specs.declared.event.Event.{Event}
use Rattle.fr_core.specs.Runs.{Answer, StepsAll}
use Rattle.fr_core.specs.Worlds.{WorldState}

-- some list of events leads from `old` to `new`
abbrev pub IsLed : WorldState → WorldState → Type 0
IsLed old new = (events : List Event) × (answers : List Answer) × StepsAll old events answers new
