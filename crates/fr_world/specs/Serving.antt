-- The session of a run, with the world that it opens (project-defined).
use Rattle.std.specs.Prelude.{◌≡◌, ℕ, ◌≤◌, ◌<◌, List, [], true, length, Option, Some, None, Result, Ok, Err}
use Rattle.std.specs.Io.KnownBytes.{Keeps}
use Rattle.fr_auditing.specs.LongText.{long_body_text, long_text}
use Rattle.fr_bus.specs.Live.{cycles_suit}
use Rattle.fr_bus.specs.States.{cycles_fit}
use Rattle.fr_cli.specs.declared.world.WorldRun.{WorldRun}
use Rattle.fr_cli.specs.declared.world.WorldRun.TheVariants.{Kept, Endless}
use Rattle.fr_core.specs.Settling.{IsFirst}
use Rattle.fr_core.specs.Worlds.{OpensWorld, WorldState, interface_at, opening_world}
use Rattle.fr_endless.specs.declared.error.EndlessError.{EndlessError}
use Rattle.fr_endless.specs.declared.error.EndlessError.TheVariants as ending
use Rattle.fr_endless.specs.Serving.{EndsEndless, ServedEndless, endless_terms}
use Rattle.fr_endless.specs.Taps.{AddsEach, AddsFront, TapsState, head_at, record_of, traced_in}
use Rattle.fr_live.specs.LiveWorlds.{Entries, OpensLiveWorld, with_room}
use Rattle.fr_runs.specs.declared.check.RunRefusal.{RunRefusal}
use Rattle.fr_runs.specs.declared.check.RunRefusal.TheVariants.{NoRoom}
use Rattle.fr_runs.specs.Suiting.{HasRoom}
use Rattle.fr_schedule.specs.Descriptions.{Description}
use Rattle.fr_session.specs.Cuts.{EndsWorld}
use Rattle.fr_session.specs.declared.error.SessionError.{SessionError}
use Rattle.fr_session.specs.declared.error.SessionError.TheVariants.{Read, Write, Memory}
use Rattle.fr_session.specs.Sessions.{ServedWorld}
use Rattle.fr_showing.specs.Listening.{capture_of}
use Rattle.fr_slots.specs.Numbers.{last_host_limit, last_slot_limit}
use Rattle.fr_world.specs.declared.failure.WorldFailure.{WorldFailure}
use Rattle.fr_world.specs.declared.failure.WorldFailure.TheVariants as failure

-- ---- with history

-- the journal of the node has room for the windows of a run without scripts
abbrev pub HasWindowRoom : Description → ℕ → ℕ → Type 0
HasWindowRoom d cycles n = HasRoom d cycles [] n

-- the node that the refusal of a run names
abbrev pub node_named : RunRefusal → Option ℕ
node_named (NoRoom n) = Some n
node_named refusal = None

-- the first node without room, if a run may have so many cycles
abbrev pub IsFullNode : Description → ℕ → Option ℕ → Type 0
IsFullNode d cycles (Some n) = (cycles_fit cycles ≡ true) × IsFirst (HasWindowRoom d cycles) n
IsFullNode d cycles None = cycles_fit cycles ≡ true → (n : ℕ) → HasWindowRoom d cycles n

-- Each journal has room for the windows of a run of so many cycles. The opening world is served, and the session ends
-- with its input or early. Or nothing is taken or written, since a journal has no room or there is no such world.
abbrev pub ServesKept : Description → ℕ → Option (List ℕ) → Option (List ℕ) → Option (List ℕ) → Option (List ℕ)
    → Result (Unit {0}) WorldFailure → Type 0
ServesKept d cycles text left before after (Ok done) =
    (cycles_fit cycles ≡ true) × ((n : ℕ) → HasWindowRoom d cycles n) × (new : WorldState)
    × ServedWorld text before after (opening_world d cycles) new
ServesKept d cycles text left before after (Err (failure.Session error)) =
    (cycles_fit cycles ≡ true) × ((n : ℕ) → HasWindowRoom d cycles n) × (new : WorldState)
    × EndsWorld error text left before after (opening_world d cycles) new
ServesKept d cycles text left before after (Err (failure.Room n)) =
    (cycles_fit cycles ≡ true) × IsFirst (HasWindowRoom d cycles) n × Keeps text left × Keeps before after
ServesKept d cycles text left before after (Err (failure.World error)) =
    OpensWorld d cycles (Err error) × Keeps text left × Keeps before after
ServesKept d cycles text left before after (Err (failure.Words error)) = ⊥
ServesKept d cycles text left before after (Err failure.Memory) = ⊥
ServesKept d cycles text left before after (Err (failure.Text error)) = ⊥
ServesKept d cycles text left before after (Err (failure.Tap tap)) = ⊥
ServesKept d cycles text left before after (Err (failure.SameFile tap)) = ⊥

-- ---- without history

-- the most calls of host and controller that entry numbers allow
abbrev pub greatest_room : Entries
greatest_room = record { host = last_host_limit; slot = last_slot_limit }

abbrev pub endless_world : Description → ℕ → WorldState
endless_world d cycles = opening_world (with_room greatest_room d) cycles

-- the end of a session as that of the program
abbrev pub failure_of : EndlessError → WorldFailure
failure_of (ending.Session error) = failure.Session error
failure_of (ending.Tap tap) = failure.Tap tap

-- The record and the capture get all windows of this world, as `fr_view record` and `fr_view bus` have them. If a file
-- fails, each gets a front of its text.
abbrev pub HasWindows : TapsState → TapsState → WorldState → Type 0
HasWindows old new v =
    AddsFront new.failed old.recorded new.recorded (record_of old.params v.bus.sealed)
    × AddsFront new.failed old.captured new.captured (capture_of old.params v.bus.sealed)

-- the trace of each node of the cluster gets this text, or a front of it if a file fails
abbrev pub HasTraces : Description → TapsState → TapsState → (ℕ → List ℕ) → Type 0
HasTraces d old new texts =
    (n : ℕ) → n < length d.plans
    → AddsFront new.failed (traced_in old.traced n) (traced_in new.traced n) (texts n)

-- Windows and traces: each node's trace has version 4 of the text of its journal in this world. The room of the journal
-- is the greatest.
abbrev pub HasAll : Description → TapsState → TapsState → WorldState → Type 0
HasAll d old new v = HasWindows old new v × HasTraces d old new (λ n. long_text (interface_at v n))

-- the same without the last line of each trace
abbrev pub HasBegun : Description → TapsState → TapsState → WorldState → Type 0
HasBegun d old new v = HasWindows old new v × HasTraces d old new (λ n. long_body_text (interface_at v n))

-- if a stream fails, traces have no last line; if an allocation fails, traces alone have lines, which are their first
abbrev pub HasBegunUnless : Description → SessionError → TapsState → TapsState → WorldState → Type 0
HasBegunUnless d Read old new v = HasBegun d old new v × (new.failed ≡ None)
HasBegunUnless d Write old new v = HasBegun d old new v × (new.failed ≡ None)
HasBegunUnless d Memory old new v = AddsEach old new (head_at d greatest_room)

-- the same for a world without history: only the room of its journals is another, and files get its windows and entries
abbrev pub ServesLive : Description → ℕ → Option (List ℕ) → Option (List ℕ) → Option (List ℕ) → Option (List ℕ)
    → TapsState → TapsState → Result (Unit {0}) WorldFailure → Type 0
ServesLive d cycles text left before after old new (Ok done) =
    (cycles_suit d.params cycles ≡ true) × (v : WorldState)
    × ServedEndless (endless_terms d cycles (length old.kept)) text before after (endless_world d cycles) v
    × HasAll d old new v × (new.failed ≡ None)
ServesLive d cycles text left before after old new (Err (failure.Session error)) =
    (cycles_suit d.params cycles ≡ true) × (v : WorldState)
    × EndsEndless (endless_terms d cycles (length old.kept)) (ending.Session error) text left before after
    (endless_world d cycles) v
    × HasBegunUnless d error old new v
ServesLive d cycles text left before after old new (Err (failure.Tap tap)) =
    (cycles_suit d.params cycles ≡ true) × (v : WorldState)
    × EndsEndless (endless_terms d cycles (length old.kept)) (ending.Tap tap) text left before after
    (endless_world d cycles) v
    × HasAll d old new v × (new.failed ≡ Some tap)
ServesLive d cycles text left before after old new (Err (failure.World error)) =
    OpensLiveWorld d cycles greatest_room (Err error) × Keeps text left × Keeps before after × (new ≡ old)
ServesLive d cycles text left before after old new (Err (failure.Words error)) = ⊥
ServesLive d cycles text left before after old new (Err failure.Memory) = ⊥
ServesLive d cycles text left before after old new (Err (failure.Room n)) = ⊥
ServesLive d cycles text left before after old new (Err (failure.Text error)) = ⊥
ServesLive d cycles text left before after old new (Err (failure.SameFile tap)) = ⊥

-- ---- the run of a command

-- the most cycles that a run of the cluster without history may have
abbrev pub IsGreatest : Description → ℕ → Type 0
IsGreatest d cycles =
    (cycles_suit d.params cycles ≡ true) × ((other : ℕ) → cycles_suit d.params other ≡ true → other ≤ cycles)

abbrev pub ServesRun : WorldRun → Description → Option (List ℕ) → Option (List ℕ) → Option (List ℕ)
    → Option (List ℕ) → TapsState → TapsState → Result (Unit {0}) WorldFailure → Type 0
ServesRun (Kept cycles) d text left before after old new result =
    ServesKept d cycles text left before after result × (new ≡ old)
ServesRun (Endless (Some cycles)) d text left before after old new result =
    ServesLive d cycles text left before after old new result
ServesRun (Endless None) d text left before after old new result =
    (cycles : ℕ) × IsGreatest d cycles × ServesLive d cycles text left before after old new result
