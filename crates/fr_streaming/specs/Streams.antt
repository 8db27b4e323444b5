-- Views of a run that are written as it goes, in a world that keeps no history (project-defined).
use Rattle.std.specs.Prelude.{◌≡◌, ℕ, ◌-◌, Bool, true, false, List, [], ◌∷◌, ◌++◌, length, map, Option}
use Rattle.std.specs.Prelude.{Some, None}
use Rattle.std.specs.Io.KnownBytes.{Appends}
use Rattle.std.specs.List.{flat_map, list_all}
use Rattle.fr_bus.specs.Record.{Recorded}
use Rattle.fr_capture.specs.Pcap.{file_header}
use Rattle.fr_core.specs.declared.event.Event.{Event}
use Rattle.fr_core.specs.declared.event.Event.TheVariants.{Commit, Withdraw, Read, Pop, Look, Fetch, Put, Take}
use Rattle.fr_core.specs.declared.event.Event.TheVariants.{Observe, Inject, Seal, Advance}
use Rattle.fr_core.specs.Worlds.{WorldState}
use Rattle.fr_endless.specs.Alike.{Alike}
use Rattle.fr_interface.specs.declared.call.Answer.{Answer}
use Rattle.fr_interface.specs.declared.call.Call.{Call}
use Rattle.fr_live.specs.LiveWorlds.{ForEachWorld, LiveState, IsWorldHistory}
use Rattle.fr_outcome.specs.OutcomeText.{outcome_text}
use Rattle.fr_playing.specs.Calls.{Asked, asked_of, DoesCall, DoesCalls}
use Rattle.fr_playing.specs.declared.call.ExecutedCall.{ExecutedCall}
use Rattle.fr_playing.specs.Striking.{Passes}
use Rattle.fr_scenario.specs.Contents.{Contents}
use Rattle.fr_showing.specs.AnswerText.{answer_line, answered_line, origin_answered, origin_line}
use Rattle.fr_showing.specs.Listening.{capture_of, window_records}
use Rattle.fr_showing.specs.Reasons.{reasons_in, reasons_text}
use Rattle.fr_showing.specs.RecordText.{record_text, window_text}
use Rattle.fr_showing.specs.Spans.{span_line, spans_text}
use Rattle.fr_schedule.specs.Descriptions.{Description}
use Rattle.fr_streaming.specs.CommitLog.{left_pending, AddsToLog, IsWholeLog}
use Rattle.fr_streaming.specs.declared.log.CallPlace.{CallPlace}
use Rattle.fr_streaming.specs.declared.log.NodeOffers.{NodeOffers}
use Rattle.fr_streaming.specs.declared.telling.Streamed.{Streamed}
use Rattle.fr_streaming.specs.declared.telling.Streamed.TheVariants.{Outcome, Answers, Commits, Record, Windows}
use Rattle.fr_streaming.specs.declared.telling.Streamed.TheVariants.{Reasons, Origins, Received, Heard}
use Rattle.fr_streaming.specs.LogSteps.{call_text, offers_in, sent_from, IsBetween}
use Rattle.fr_streaming.specs.Received.{received_in, received_text}

-- ---- the text as the run goes

-- the text is the view of a run that led to this world with these calls of tasks
abbrev pub IsTold : Streamed → Contents → Description → WorldState → List ExecutedCall → List ℕ → Type 0
IsTold Outcome s d w calls text = text ≡ outcome_text w.interfaces (length w.bus.sealed)
IsTold Answers s d w calls text = text ≡ flat_map (answer_line w) calls
IsTold Commits s d w calls text = IsWholeLog w text
IsTold Record s d w calls text = text ≡ record_text s d.params w.bus.sealed
IsTold Windows s d w calls text = text ≡ spans_text d.params w.bus.sealed
IsTold Reasons s d w calls text = text ≡ reasons_text s d w.bus.sealed
IsTold Origins s d w calls text = text ≡ flat_map (origin_line w) calls
IsTold Received s d w calls text = text ≡ received_text d w.bus.sealed
IsTold Heard s d w calls text = text ≡ capture_of d.params w.bus.sealed

-- what the view has before the first window
abbrev pub told_opening : Streamed → List ℕ
told_opening Outcome = []
told_opening Answers = []
told_opening Commits = []
told_opening Record = []
told_opening Windows = []
told_opening Reasons = []
told_opening Origins = []
told_opening Received = []
told_opening Heard = file_header

-- what the view has of a call at this place with this answer of its interface
abbrev pub told_call : Streamed → Asked → CallPlace → Answer → List ℕ
told_call Outcome asked place answer = []
told_call Answers asked place answer = answered_line asked answer
told_call Commits asked place answer = call_text asked.node asked.task place answer asked.call
told_call Record asked place answer = []
told_call Windows asked place answer = []
told_call Reasons asked place answer = []
told_call Origins asked place answer = origin_answered asked answer
told_call Received asked place answer = []
told_call Heard asked place answer = []

-- the commits that the nodes offer in the open window, as far as the view has any
abbrev pub offers_for : Streamed → LiveState → List NodeOffers
offers_for Outcome l = []
offers_for Answers l = []
offers_for Commits l = offers_in l.bus.bus.opened l.interfaces
offers_for Record l = []
offers_for Windows l = []
offers_for Reasons l = []
offers_for Origins l = []
offers_for Received l = []
offers_for Heard l = []

-- what the view has of the window that was sealed last, when so many cycles have begun, of these offers
abbrev pub told_last : Streamed → Contents → Description → ℕ → Option Recorded → List NodeOffers → List ℕ
told_last Outcome s d begun last offers = []
told_last Answers s d begun last offers = []
told_last Commits s d begun None offers = []
told_last Commits s d begun (Some r) offers = sent_from d r (begun - 1) 0 offers
told_last Record s d begun None offers = []
told_last Record s d begun (Some r) offers = window_text s d.params (begun - 1) r
told_last Windows s d begun None offers = []
told_last Windows s d begun (Some r) offers = span_line d.params (begun - 1) r
told_last Reasons s d begun None offers = []
told_last Reasons s d begun (Some r) offers = reasons_in s d (begun - 1) r
told_last Origins s d begun last offers = []
told_last Received s d begun None offers = []
told_last Received s d begun (Some r) offers = received_in d (begun - 1) r
told_last Heard s d begun None offers = []
told_last Heard s d begun (Some r) offers = window_records d.params (begun - 1) r

-- what the view has after the last window
abbrev pub told_closing : Streamed → WorldState → List ℕ
told_closing Outcome w = outcome_text w.interfaces (length w.bus.sealed)
told_closing Answers w = []
told_closing Commits w = left_pending w
told_closing Record w = []
told_closing Windows w = []
told_closing Reasons w = []
told_closing Origins w = []
told_closing Received w = []
told_closing Heard w = []

-- ---- calls of tasks among events

abbrev pub is_silent : Event → Bool
is_silent (Commit n task buffer payload) = false
is_silent (Withdraw n task buffer) = false
is_silent (Read n task buffer) = false
is_silent (Pop n task) = false
is_silent (Look n) = true
is_silent (Fetch n) = true
is_silent (Put n) = true
is_silent (Take n) = true
is_silent (Observe n) = true
is_silent (Inject fault) = true
is_silent Seal = true
is_silent Advance = true

-- accepted events, none of which is a call of a task, lead from `old` to `new`
abbrev pub PassesSilently : WorldState → WorldState → Type 0
PassesSilently old new = (events : List Event) × (list_all is_silent events ≡ true) × Passes old events new

-- accepted events lead from `old` to `new`, and these are the calls of tasks among them, in their order
unfoldable pub Executes : WorldState → List ExecutedCall → WorldState → Type 0
Executes old [] new = PassesSilently old new
Executes old (call ∷ calls) new =
    (before : WorldState) × (after : WorldState) × PassesSilently old before × DoesCall before call after
    × Executes after calls new

-- ---- worlds that lead to the kept data

-- What the view has of the way from a world to another, with these calls on it. For the record it is what the later
-- record has beyond the earlier one. For the commits it is what is added to the log, from a world between windows on.
abbrev pub TellsBetween : Streamed → Contents → Description → WorldState → List ExecutedCall → WorldState → List ℕ
    → Type 0
TellsBetween Outcome s d old calls new text = text ≡ []
TellsBetween Answers s d old calls new text = text ≡ flat_map (answer_line new) calls
TellsBetween Commits s d old calls new text = IsBetween d old → IsBetween d new × AddsToLog old new text
TellsBetween Record s d old calls new text =
    record_text s d.params new.bus.sealed ≡ record_text s d.params old.bus.sealed ++ text
TellsBetween Windows s d old calls new text =
    spans_text d.params new.bus.sealed ≡ spans_text d.params old.bus.sealed ++ text
TellsBetween Reasons s d old calls new text =
    reasons_text s d new.bus.sealed ≡ reasons_text s d old.bus.sealed ++ text
TellsBetween Origins s d old calls new text = text ≡ flat_map (origin_line new) calls
TellsBetween Received s d old calls new text =
    received_text d new.bus.sealed ≡ received_text d old.bus.sealed ++ text
TellsBetween Heard s d old calls new text =
    capture_of d.params new.bus.sealed ≡ capture_of d.params old.bus.sealed ++ text

-- Each world that leads to the data before is in this relation to one that leads to the data after, with some calls of
-- tasks. The same text is written of each.
abbrev pub Goes : (WorldState → List ExecutedCall → WorldState → List ℕ → Type 0)
    → (WorldState → List ExecutedCall → WorldState → Type 0) → LiveState → Option (List ℕ) → Option (List ℕ)
    → LiveState → Type 0
Goes Tells Relates old before after new =
    (text : List ℕ) × Appends before after text
    × Alike old (λ w v. (calls : List ExecutedCall) × Relates w calls v × Tells w calls v text) new

-- What was written when something hindered the run. From each world that leads to the data before, accepted events lead
-- to one of whose way this text was written, and perhaps not all.
abbrev pub Breaks : (WorldState → List ExecutedCall → WorldState → List ℕ → Type 0) → LiveState → Option (List ℕ)
    → Option (List ℕ) → Type 0
Breaks Tells old before after =
    (text : List ℕ) × Appends before after text
    × ((w : WorldState) → IsWorldHistory old w → (v : WorldState) × (calls : List ExecutedCall) × (rest : List ℕ)
    × Executes w calls v × Tells w calls v (text ++ rest))

-- What the view has after the last window was written, or a front of it, perhaps all.
abbrev pub Closes : Streamed → LiveState → Option (List ℕ) → Option (List ℕ) → Type 0
Closes streamed l before after =
    (text : List ℕ) × Appends before after text × ForEachWorld l (λ w. text ≡ told_closing streamed w)

abbrev pub ClosesShort : Streamed → LiveState → Option (List ℕ) → Option (List ℕ) → Type 0
ClosesShort streamed l before after =
    (front : List ℕ) × Appends before after front
    × ForEachWorld l (λ w. (rest : List ℕ) × (front ++ rest ≡ told_closing streamed w))

-- ---- calls and windows

-- these calls are executed one after another, each with some answer
abbrev pub MakesCalls : List Asked → WorldState → List ExecutedCall → WorldState → Type 0
MakesCalls asked old calls new = (map asked_of calls ≡ asked) × DoesCalls old calls new

-- the same without a call
abbrev pub WithoutCalls : (WorldState → WorldState → Type 0) → WorldState → List ExecutedCall → WorldState → Type 0
WithoutCalls Relates old calls new = (calls ≡ []) × Relates old new

-- a call that a task of a node has in a cycle of the run
abbrev pub asked : ℕ → ℕ → ℕ → Call → Asked
asked node task cycle call = record { node = node; task = task; cycle = cycle; call = call }
