-- The calls of script lines in the world, one after another (project-defined).
use Rattle.std.specs.Prelude.{◌≡◌, ℕ, ◌==◌, List, [], ◌∷◌, ◌++◌, length, map, slice_get, Option, Some, None, Ok}
use Rattle.std.specs.Prelude.{if◌then◌else◌}
use Rattle.std.specs.List.{flat_map}
use Rattle.fr_interface.specs.declared.call.Call.{Call}
use Rattle.fr_core.specs.declared.script.Line.{Line}
use Rattle.fr_core.specs.Scripts.{Scripted}
use Rattle.fr_core.specs.Steps.{Steps, event_of}
use Rattle.fr_core.specs.Worlds.{WorldState}
use Rattle.fr_interface.specs.State.{State}
use Rattle.fr_playing.specs.declared.call.ExecutedCall.{ExecutedCall}

-- ---- the calls of the scripts

-- a call that a task of a node has in a cycle of the run
pub record Asked : Type 0 where
  pub node : ℕ
  pub task : ℕ
  pub cycle : ℕ
  pub call : Call

-- the call of a line in this cycle; none for a line of another cycle
abbrev pub asked_in_line : ℕ → ℕ → ℕ → Line → List Asked
asked_in_line cycle node task line =
    if line.cycle == cycle then record { node = node; task = task; cycle = cycle; call = line.action } ∷ [] else []

abbrev pub asked_in_script : ℕ → Scripted → List Asked
asked_in_script cycle script = flat_map (asked_in_line cycle script.node script.task) script.lines

-- the calls of a cycle, in the order of the scripts and of the lines of each
abbrev pub asked_in : ℕ → List Scripted → List Asked
asked_in cycle scripts = flat_map (asked_in_script cycle) scripts

-- ---- executed calls

abbrev pub asked_of : ExecutedCall → Asked
asked_of executed = record { node = executed.node; task = executed.task; cycle = executed.cycle; call = executed.call }

-- the number of entries of an interface, if there is one
abbrev pub entries_in : Option State → ℕ
entries_in None = 0
entries_in (Some s) = length s.entries

-- the call is accepted and has this answer, and the next entry of its node's journal is its entry
abbrev pub DoesCall : WorldState → ExecutedCall → WorldState → Type 0
DoesCall old executed new =
    Steps old (event_of executed.node executed.task executed.call) (Ok executed.reply) new
    × (executed.entry ≡ entries_in (slice_get old.interfaces executed.node))

-- the calls, one after another, lead from `old` to `new`
unfoldable pub DoesCalls : WorldState → List ExecutedCall → WorldState → Type 0
DoesCalls old [] new = new ≡ old
DoesCalls old (call ∷ calls) new = (between : WorldState) × DoesCall old call between × DoesCalls between calls new

-- after the calls `before` come those of the scripts, which lead from `old` to `new`
abbrev pub AddsCalls : List ExecutedCall → List ExecutedCall → WorldState → List Asked → WorldState → Type 0
AddsCalls before after old asked new =
    (calls : List ExecutedCall) × (after ≡ before ++ calls) × (map asked_of calls ≡ asked) × DoesCalls old calls new
