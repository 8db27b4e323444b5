-- Events that a world accepts one by one, without injected faults (project-defined).
use Rattle.std.specs.Prelude.{◌≡◌, Bool, true, false, List}
use Rattle.std.specs.List.{list_all}
use Rattle.std.specs.Result.{is_ok}
use Rattle.fr_core.specs.declared.event.Event.{Event}
use Rattle.fr_core.specs.declared.event.Event.TheVariants.{Commit, Withdraw, Read, Pop, Look, Fetch, Put, Take, Observe}
use Rattle.fr_core.specs.declared.event.Event.TheVariants.{Inject, Seal, Advance}
use Rattle.fr_core.specs.Runs.{Answer, StepsAll}
use Rattle.fr_core.specs.Worlds.{WorldState}

abbrev pub is_faultless : Event → Bool
is_faultless (Commit n task buffer payload) = true
is_faultless (Withdraw n task buffer) = true
is_faultless (Read n task buffer) = true
is_faultless (Pop n task) = true
is_faultless (Look n) = true
is_faultless (Fetch n) = true
is_faultless (Put n) = true
is_faultless (Take n) = true
is_faultless (Observe n) = true
is_faultless (Inject fault) = false
is_faultless Seal = true
is_faultless Advance = true

-- Some events lead from one world to the other. Each is accepted, and none injects a fault.
pub record Leads (old new : WorldState) : Type 0 where
  pub events : List Event
  pub answers : List Answer
  pub steps : StepsAll old events answers new
  pub accepted : list_all is_ok answers ≡ true
  pub faultless : list_all is_faultless events ≡ true
