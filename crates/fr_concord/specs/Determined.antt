-- A session's lines, and a single-threaded run's scenario, determine the result, unless an allocation fails
-- (project-defined).
use Rattle.std.specs.Prelude.{◌≡◌, ◌≢◌, ℕ, ◌+◌, ◌⊎◌, false, List, [], ◌∷◌, ◌++◌, Option, Some, None}
use Rattle.fr_bus.specs.declared.error.BusError.TheVariants.{Memory}
use Rattle.fr_bus.specs.States.{BusState, collects}
use Rattle.fr_core.specs.declared.error.StepError.{StepError}
use Rattle.fr_core.specs.declared.error.StepError.TheVariants.{Bus}
use Rattle.fr_core.specs.declared.event.Event.{Event}
use Rattle.fr_core.specs.Scripts.{Scripted}
use Rattle.fr_core.specs.Worlds.{WorldState}
use Rattle.fr_lines.specs.Spelling.{line_text}
use Rattle.fr_playing.specs.declared.play.Played.{Played}
use Rattle.fr_playing.specs.Moving.{WithinCycle, PassesCycles, most_windows}
use Rattle.fr_playing.specs.Playing.{IsPlayed}
use Rattle.fr_runs.specs.declared.fault_line.FaultLine.{FaultLine}
use Rattle.fr_schedule.specs.Descriptions.{Description}
use Rattle.fr_session.specs.declared.request.Request.{Request}
use Rattle.fr_session.specs.declared.request.Request.TheVariants as request
use Rattle.fr_session.specs.Queries.{memory_text}
use Rattle.fr_session.specs.Reading.{asked_in}
use Rattle.fr_session.specs.Replies.{refusal_words}
use Rattle.fr_session.specs.Sessions.{Terms, SessionState, Does, terms_of}

-- ---- replies

abbrev pub refusal_text : StepError → List ℕ
refusal_text error = line_text (refusal_words error)

-- the reply isn't that of a failed allocation, neither of the session nor of the bus
pub record HasMemory (reply : List ℕ) : Type 0 where
  pub of_session : reply ≢ memory_text
  pub of_bus : reply ≢ refusal_text (Bus Memory)

-- nothing hindered the bus
abbrev pub IsUnhindered : List ℕ → Type 0
IsUnhindered reply = (error : StepError) → reply ≢ refusal_text error

-- the open window is sealed, or the run is over
abbrev pub IsPastOffers : BusState → Type 0
IsPastOffers b = collects b.phase ≡ false

-- after any number of cycles, the next one has fewer windows left than `run` tries
abbrev pub HasShortCycles : List FaultLine → List Event → WorldState → Type 0
HasShortCycles faults due old = (n : ℕ) (mid new : WorldState) → PassesCycles faults due n old mid
    → WithinCycle faults due most_windows mid new → ⊥

-- ---- sessions

-- A request that moves the bus on isn't hindered. A failed allocation could stand behind a hindrance, unless the bus is
-- past its seal.
abbrev pub MovesFreely : Terms → SessionState → SessionState → Option Request → List ℕ → Type 0
MovesFreely terms old new None reply = Unit {0}
MovesFreely terms old new (Some (request.Event event)) reply = Unit {0}
MovesFreely terms old new (Some (request.Receive node task buffer)) reply = Unit {0}
MovesFreely terms old new (Some (request.Next node task)) reply = Unit {0}
MovesFreely terms old new (Some (request.Fault line)) reply = Unit {0}
MovesFreely terms old new (Some (request.Faults a b)) reply = Unit {0}
MovesFreely terms old new (Some request.Forget) reply = Unit {0}
MovesFreely terms old new (Some request.Window) reply = IsUnhindered reply ⊎ IsPastOffers new.world.bus
MovesFreely terms old new (Some (request.Run cycles)) reply =
    IsUnhindered reply × HasShortCycles old.noted.faults terms.due old.world
MovesFreely terms old new (Some request.Now) reply = Unit {0}
MovesFreely terms old new (Some request.At) reply = Unit {0}
MovesFreely terms old new (Some (request.Report node)) reply = Unit {0}
MovesFreely terms old new (Some (request.Status node channel)) reply = Unit {0}
MovesFreely terms old new (Some (request.Trace node)) reply = Unit {0}
MovesFreely terms old new (Some (request.Origin node)) reply = Unit {0}
MovesFreely terms old new (Some (request.Record window)) reply = Unit {0}

-- the line is answered, and no allocation fails
pub record DoesFreely (terms : Terms) (old : SessionState) (number : ℕ) (line reply : List ℕ) (new : SessionState)
    : Type 0 where
  pub does : Does terms old number line reply new
  pub memory : HasMemory reply
  pub free : MovesFreely terms old new (asked_in line) reply

-- so are all lines, one after another; the first has this number
unfoldable pub ServesFreely : Terms → SessionState → ℕ → List (List ℕ) → List ℕ → SessionState → Type 0
ServesFreely terms old number [] replies new = (replies ≡ []) × (new ≡ old)
ServesFreely terms old number (line ∷ lines) replies new =
    (between : SessionState) × (reply : List ℕ) × (later : List ℕ) × DoesFreely terms old number line reply between
    × (replies ≡ reply ++ later) × ServesFreely terms between (number + 1) lines later new

-- two sessions from one state with the same lines have the same replies, and lead to the same state
abbrev pub AreSessionsDetermined : Type 0
AreSessionsDetermined = (d : Description) (cycles : ℕ) (old : SessionState) (number : ℕ) (lines : List (List ℕ))
    (replies other_replies : List ℕ) (new other : SessionState)
    → ServesFreely (terms_of d cycles) old number lines replies new
    → ServesFreely (terms_of d cycles) old number lines other_replies other
    → (replies ≡ other_replies) × (new ≡ other)

-- ---- single-threaded runs

-- two runs of a cluster with the same scenario for the same number of cycles have the same calls, and lead to the same
-- world
abbrev pub AreRunsDetermined : Type 0
AreRunsDetermined = (d : Description) (scripts : List Scripted) (faults : List FaultLine) (cycles : ℕ)
    (played other : Played) → IsPlayed d scripts faults cycles played → IsPlayed d scripts faults cycles other
    → (played.calls.items ≡ other.calls.items) × (played.world ≡ other.world)
