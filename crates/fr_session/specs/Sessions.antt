-- The effect of a session on the lines that it reads.
use Rattle.std.specs.Prelude.{◌≡◌, ℕ, ◌+◌, true, Bool, false, List, [], ◌∷◌, ◌++◌, length, Option, Some, None}
use Rattle.std.specs.Prelude.{Result, Ok, Err, slice_get}
use Rattle.std.specs.Io.KnownBytes.{Appends, Keeps}
use Rattle.fr_core.specs.declared.error.StepError.{StepError}
use Rattle.fr_core.specs.declared.event.Event.{Event}
use Rattle.fr_core.specs.declared.event.Event.TheVariants.{Read, Pop}
use Rattle.fr_core.specs.Runs.{Answer}
use Rattle.fr_core.specs.Steps.{Steps}
use Rattle.fr_core.specs.Worlds.{WorldState, interface_at}
use Rattle.fr_interface.specs.State.{oldest_of, received_by}
use Rattle.fr_journal.specs.declared.entry.Arrival.{Arrival}
use Rattle.fr_lines.specs.declared.versions.Version.TheVariants.{Three}
use Rattle.fr_lines.specs.Spelling.{line_text}
use Rattle.fr_runs.specs.declared.fault_line.FaultLine.{FaultLine}
use Rattle.fr_schedule.specs.Descriptions.{Description}
use Rattle.fr_session.specs.declared.error.SessionError.{SessionError}
use Rattle.fr_session.specs.declared.error.SessionError.TheVariants as failure
use Rattle.fr_session.specs.declared.noted.Noted.{Noted}
use Rattle.fr_session.specs.declared.request.Request.{Request}
use Rattle.fr_session.specs.declared.request.Request.TheVariants as request
use Rattle.fr_session.specs.Keeping.{KeepsLine, KeepsBoth}
use Rattle.fr_session.specs.Latest.{is_fresh, no_entries, place_of, with_arrival}
use Rattle.fr_session.specs.Lines.{IsCut, Comes}
use Rattle.fr_playing.specs.Moving.{window_events, MovesOn, RunsCycles}
use Rattle.fr_session.specs.Queries.{now_text, moved_text, at_text, status_text, node_text, node_origin_text}
use Rattle.fr_session.specs.Queries.{IsBlockOf, IsRecordOf}
use Rattle.fr_session.specs.Reading.{asked_in}
use Rattle.fr_session.specs.Replies.{answer_text, bad_line_words, done_words, greeting, receipt_text}
use Rattle.fr_trace.specs.ReportText.{report_text}
use Rattle.fr_trace.specs.TraceText.{trace_text}

-- ---- the terms and the state of a session

-- All events that can be due in a window of the cluster's nodes, up to the bus's advance; and the cluster and the
-- number of cycles of the run, which fault lines have to suit. Without history, lines of the record are kept for so
-- many of the last windows.
pub record Terms : Type 0 where
  pub due : List Event
  pub cluster : Description
  pub cycles : ℕ
  pub keep : ℕ

abbrev pub terms_of : Description → ℕ → Terms
terms_of d cycles = record { due = window_events (length d.plans); cluster = d; cycles = cycles; keep = 0 }

-- the world is one of this cluster, in a run of so many cycles
abbrev pub IsOf : Description → ℕ → WorldState → Type 0
IsOf d cycles w = (w.bus.cluster ≡ d) × (w.bus.cycles ≡ cycles)

-- the terms of a session with this world
abbrev pub terms_with : WorldState → Terms
terms_with w = terms_of w.bus.cluster w.bus.cycles

-- the world, and what is noted: the fault lines that are kept, in their order, and the last frames of `receive`
pub record SessionState : Type 0 where
  pub world : WorldState
  pub noted : Noted

abbrev pub state_of : WorldState → Noted → SessionState
state_of w noted = record { world = w; noted = noted }

-- no fault line is kept at first, and `receive` returned no frame
abbrev pub nothing_noted : Noted
nothing_noted = record { faults = []; latest = no_entries }

abbrev pub opening : WorldState → SessionState
opening w = state_of w nothing_noted

-- the same with other fault lines
abbrev pub with_faults : Noted → List FaultLine → Noted
with_faults noted faults = record { faults = faults; latest = noted.latest }

-- ---- received frames

-- The frame of a buffer is the last one of it, once the step that reads it is accepted.
abbrev pub after_receipt : Noted → ℕ → Option Arrival → Answer → Noted
after_receipt noted place arrival (Ok reply) =
    record { faults = noted.faults; latest = with_arrival noted.latest place arrival }
after_receipt noted place arrival (Err error) = noted

-- The step is that of the read of a receive buffer. The reply has the frame that the buffer held.
abbrev pub Receives : SessionState → ℕ → ℕ → ℕ → List ℕ → SessionState → Type 0
Receives old node task buffer reply new =
    let arrival = received_by (interface_at old.world node) buffer in
    let place = place_of node buffer in
    (answer : Answer) × Steps old.world (Read node task buffer) answer new.world
    × (reply ≡ receipt_text (is_fresh old.noted.latest place arrival) arrival answer)
    × (new.noted ≡ after_receipt old.noted place arrival answer)

-- The step is that of a pop. The reply has the oldest frame of the receive FIFO, which is always new.
abbrev pub TakesNext : SessionState → ℕ → ℕ → List ℕ → SessionState → Type 0
TakesNext old node task reply new =
    (answer : Answer) × Steps old.world (Pop node task) answer new.world
    × (reply ≡ receipt_text true (oldest_of (interface_at old.world node)) answer) × (new.noted ≡ old.noted)

-- ---- one line

-- An event is one step of the world, and its reply is the text of the step's answer. Only fault lines and a forget
-- change the lines that are kept, and they leave the world unchanged.
abbrev pub DoesRequest : Terms → SessionState → Request → List ℕ → SessionState → Type 0
DoesRequest terms old (request.Event event) reply new =
    (answer : Answer) × Steps old.world event answer new.world × (reply ≡ answer_text answer)
    × (new.noted ≡ old.noted)
DoesRequest terms old (request.Receive node task buffer) reply new = Receives old node task buffer reply new
DoesRequest terms old (request.Next node task) reply new = TakesNext old node task reply new
DoesRequest terms old (request.Fault line) reply new =
    KeepsLine terms.cluster terms.cycles old.noted.faults line reply new.noted.faults × (new.world ≡ old.world)
    × (new.noted.latest ≡ old.noted.latest)
DoesRequest terms old (request.Faults a b) reply new =
    KeepsBoth terms.cluster terms.cycles old.noted.faults a b reply new.noted.faults × (new.world ≡ old.world)
    × (new.noted.latest ≡ old.noted.latest)
DoesRequest terms old request.Forget reply new =
    (reply ≡ line_text done_words) × (new ≡ state_of old.world (with_faults old.noted []))
DoesRequest terms old request.Window reply new =
    (hinders : Option StepError) × MovesOn old.noted.faults terms.due old.world hinders new.world
    × (reply ≡ moved_text hinders new.world.bus) × (new.noted ≡ old.noted)
DoesRequest terms old (request.Run cycles) reply new =
    (hinders : Option StepError) × RunsCycles old.noted.faults terms.due cycles old.world hinders new.world
    × (reply ≡ moved_text hinders new.world.bus) × (new.noted ≡ old.noted)
DoesRequest terms old request.Now reply new = (new ≡ old) × (reply ≡ now_text old.world.bus)
DoesRequest terms old request.At reply new = (new ≡ old) × (reply ≡ at_text terms.cluster.params old.world.bus)
DoesRequest terms old (request.Report node) reply new = (new ≡ old) × IsBlockOf report_text old.world node reply
DoesRequest terms old (request.Status node channel) reply new =
    (new ≡ old) × (reply ≡ node_text (status_text channel) old.world node)
DoesRequest terms old (request.Trace node) reply new = (new ≡ old) × IsBlockOf (trace_text Three) old.world node reply
DoesRequest terms old (request.Origin node) reply new = (new ≡ old) × (reply ≡ node_origin_text old.world node)
DoesRequest terms old (request.Record window) reply new =
    (new ≡ old) × IsRecordOf (slice_get old.world.bus.sealed window) reply

-- a line that is no request changes nothing
abbrev pub DoesIf : Terms → SessionState → ℕ → Option Request → List ℕ → SessionState → Type 0
DoesIf terms old number None reply new = (reply ≡ line_text (bad_line_words number)) × (new ≡ old)
DoesIf terms old number (Some asked) reply new = DoesRequest terms old asked reply new

-- the line of this number, counted from 1, is answered with these bytes, and leads to this state
abbrev pub Does : Terms → SessionState → ℕ → List ℕ → List ℕ → SessionState → Type 0
Does terms old number line reply new = DoesIf terms old number (asked_in line) reply new

-- ---- all lines

-- lines that are answered one after another; the first has this number
unfoldable pub Serves : Terms → SessionState → ℕ → List (List ℕ) → List ℕ → SessionState → Type 0
Serves terms old number [] replies new = (replies ≡ []) × (new ≡ old)
Serves terms old number (line ∷ lines) replies new =
    (between : SessionState) × (reply : List ℕ) × (later : List ℕ) × Does terms old number line reply between
    × (replies ≡ reply ++ later) × Serves terms between (number + 1) lines later new

-- the effect of a session on a known text: the first line is written, and then the replies
abbrev pub Served : Terms → Option (List ℕ) → Option (List ℕ) → Option (List ℕ) → SessionState → SessionState → Type 0
Served terms None before after old new = Unit {0}
Served terms (Some text) before after old new =
    (lines : List (List ℕ)) × (rest : List ℕ) × (replies : List ℕ) × IsCut text lines rest
    × Serves terms old 1 lines replies new × Appends before after (greeting ++ replies)

-- From an opening world to another world, with anything noted there. The terms are the opening world's own.
abbrev pub ServedWorld : Option (List ℕ) → Option (List ℕ) → Option (List ℕ) → WorldState → WorldState → Type 0
ServedWorld text before after old new =
    (noted : Noted) × Served (terms_with old) text before after (opening old) (state_of new noted)

-- ---- a failed allocation

-- the reader or the writer failed
abbrev pub IsOfStream : SessionError → Type 0
IsOfStream failure.Read = Unit {0}
IsOfStream failure.Write = Unit {0}
IsOfStream failure.Memory = ⊥

-- if an allocation fails, nothing was taken or written, and the world is unchanged
abbrev pub IsUntouched : {A : Type 0} → Result A SessionError → Option (List ℕ) → Option (List ℕ) → Option (List ℕ)
    → Option (List ℕ) → WorldState → WorldState → Type 0
IsUntouched (Ok done) text left before after old new = Unit {0}
IsUntouched (Err failure.Read) text left before after old new = Unit {0}
IsUntouched (Err failure.Write) text left before after old new = Unit {0}
IsUntouched (Err failure.Memory) text left before after old new = Keeps text left × Keeps before after × (new ≡ old)

-- ---- one line after another

-- the next line, if a whole one comes, is taken and answered before any byte after it is taken
abbrev pub AnswersNext : Terms → Bool → Option (List ℕ) → Option (List ℕ) → Option (List ℕ) → Option (List ℕ) → ℕ
    → SessionState → SessionState → Type 0
AnswersNext terms true text left before after number old new =
    (line : List ℕ) × (reply : List ℕ) × Comes true text left line × Does terms old number line reply new
    × Appends before after reply
AnswersNext terms false text left before after number old new =
    Comes false text left [] × (new ≡ old) × Keeps before after
