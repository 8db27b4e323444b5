-- A session of a scenario's fault lines, against the single-threaded run of the scenario (project-defined).
use Rattle.std.specs.Prelude.{◌≡◌, ◌≤◌, ℕ, List, [], ◌∷◌, ◌++◌, map}
use Rattle.fr_concord.specs.Determined.{ServesFreely}
use Rattle.fr_concord.specs.Spelled.{spelled}
use Rattle.fr_core.specs.Worlds.{opening_world}
use Rattle.fr_playing.specs.declared.play.Played.{Played}
use Rattle.fr_playing.specs.Playing.{IsPlayed}
use Rattle.fr_runs.specs.declared.fault_line.FaultLine.{FaultLine}
use Rattle.fr_runs.specs.Suiting.{IsFaultAfter}
use Rattle.fr_scenario.specs.Spelled.{IsSaidFaultLine}
use Rattle.fr_schedule.specs.Descriptions.{Description}
use Rattle.fr_session.specs.declared.request.Request.TheVariants as request
use Rattle.fr_session.specs.Sessions.{SessionState, opening, terms_of}
use Rattle.fr_slots.specs.History.{AllAfter}
use Rattle.fr_slots.specs.Plans.{Each}

abbrev pub fault_text : FaultLine → List ℕ
fault_text line = spelled (request.Fault line)

-- the lines of the session: each fault line, and then a run of so many cycles
abbrev pub lines_of : List FaultLine → ℕ → List (List ℕ)
lines_of faults cycles = map fault_text faults ++ spelled (request.Run cycles) ∷ []

-- a run accepts the lines
pub record AreLinesOf (d : Description) (cycles : ℕ) (faults : List FaultLine) : Type 0 where
  pub spelled : Each IsSaidFaultLine faults
  pub suit : AllAfter (IsFaultAfter d cycles) [] faults
  pub few_cycles : cycles ≤ 1024

-- A session that has these lines, and in which nothing hinders the run, leads to the world of the single-threaded run
-- with these faults and no calls of tasks.
abbrev pub AreSessionsPlayed : Type 0
AreSessionsPlayed = (d : Description) (faults : List FaultLine) (cycles : ℕ) (played : Played)
    (replies : List ℕ) (new : SessionState)
    → AreLinesOf d cycles faults → IsPlayed d [] faults cycles played
    → ServesFreely (terms_of d cycles) (opening (opening_world d cycles)) 1 (lines_of faults cycles) replies new
    → new.world ≡ played.world
