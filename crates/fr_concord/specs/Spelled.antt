-- The one spelling of each request of a session, apart from its reading (project-defined).
use Rattle.std.specs.Prelude.{◌≡◌, ℕ, ◌<◌, ◌≤◌, ◌^◌, List, [], ◌∷◌, length, codes, Some}
use Rattle.std.specs.Fmt.{decimal}
use Rattle.fr_bus.specs.declared.fault.Fault.{Fault}
use Rattle.fr_bus.specs.declared.fault.Fault.TheVariants.{Babble, Mute, Corrupt}
use Rattle.fr_core.specs.declared.event.Event.{Event}
use Rattle.fr_core.specs.declared.event.Event.TheVariants as event
use Rattle.fr_frame.specs.Payload.{IsPayload}
use Rattle.fr_journal.specs.Entries.{AreBytes}
use Rattle.fr_lines.specs.Parts.{channels_word}
use Rattle.fr_runs.specs.declared.fault_line.FaultLine.{FaultLine}
use Rattle.fr_scenario.specs.Parts.{channel_word, cycles_word, place_word}
use Rattle.fr_scenario.specs.Spelled.{IsSpelledFault, IsSaidFaultLine}
use Rattle.fr_scenario.specs.Spelling.{fault_line_words}
use Rattle.fr_scenario.specs.StatementText.{fault_words_on, AreSaidFaultLines}
use Rattle.fr_session.specs.declared.request.Request.{Request}
use Rattle.fr_session.specs.declared.request.Request.TheVariants as request
use Rattle.fr_session.specs.Lines.{IsLine, longest_line}
use Rattle.fr_session.specs.Reading.{asked_in}
use Rattle.fr_slots.specs.declared.channel.Channels.TheVariants as channels
use Rattle.fr_text.specs.Spaces.{line_of}
use Rattle.fr_text.specs.Spelling.{hex_text}

-- ---- the words

-- a fault of the open window: the words of a fault line without cycles and place
abbrev pub injected_words : Fault → List (List ℕ)
injected_words (Babble node channel bytes) =
    codes "babble" ∷ decimal node ∷ channel_word channel ∷ hex_text bytes.items ∷ []
injected_words (Mute node channel) = codes "mute" ∷ decimal node ∷ channel_word channel ∷ []
injected_words (Corrupt channel bit) = codes "corrupt" ∷ channel_word channel ∷ decimal bit ∷ []

-- a fault on both channels
abbrev pub both_words : List ℕ → List ℕ → Fault → List (List ℕ)
both_words cycles place fault = fault_words_on (channels_word channels.Both) cycles place fault

abbrev pub both_line_words : FaultLine → List (List ℕ)
both_line_words f = both_words (cycles_word f.cycles) (place_word f.place) f.fault

abbrev pub event_words : Event → List (List ℕ)
event_words (event.Commit node task buffer payload) =
    codes "commit" ∷ decimal node ∷ decimal task ∷ decimal buffer ∷ hex_text payload ∷ []
event_words (event.Withdraw node task buffer) =
    codes "withdraw" ∷ decimal node ∷ decimal task ∷ decimal buffer ∷ []
event_words (event.Read node task buffer) = codes "read" ∷ decimal node ∷ decimal task ∷ decimal buffer ∷ []
event_words (event.Pop node task) = codes "pop" ∷ decimal node ∷ decimal task ∷ []
event_words (event.Look node) = codes "look" ∷ decimal node ∷ []
event_words (event.Fetch node) = codes "fetch" ∷ decimal node ∷ []
event_words (event.Put node) = codes "put" ∷ decimal node ∷ []
event_words (event.Take node) = codes "take" ∷ decimal node ∷ []
event_words (event.Observe node) = codes "observe" ∷ decimal node ∷ []
event_words (event.Inject fault) = injected_words fault
event_words event.Seal = codes "seal" ∷ []
event_words event.Advance = codes "advance" ∷ []

abbrev pub request_words : Request → List (List ℕ)
request_words (request.Event asked) = event_words asked
request_words (request.Receive node task buffer) =
    codes "receive" ∷ decimal node ∷ decimal task ∷ decimal buffer ∷ []
request_words (request.Next node task) = codes "next" ∷ decimal node ∷ decimal task ∷ []
request_words (request.Fault line) = fault_line_words line
request_words (request.Faults a b) = both_line_words a
request_words request.Forget = codes "forget" ∷ []
request_words request.Window = codes "window" ∷ []
request_words (request.Run cycles) = codes "run" ∷ decimal cycles ∷ []
request_words request.Now = codes "now" ∷ []
request_words request.At = codes "at" ∷ []
request_words (request.Report node) = codes "report" ∷ decimal node ∷ []
request_words (request.Status node channel) = codes "status" ∷ decimal node ∷ channel_word channel ∷ []
request_words (request.Trace node) = codes "trace" ∷ decimal node ∷ []
request_words (request.Origin node) = codes "origin" ∷ decimal node ∷ []
request_words (request.Record window) = codes "record" ∷ decimal window ∷ []

-- the line of a request, without its line feed
abbrev pub spelled : Request → List ℕ
spelled asked = line_of (request_words asked)

-- ---- the requests in range

-- nodes are 0 to 15
abbrev pub IsSpelledNode : ℕ → Type 0
IsSpelledNode node = node < 16

-- tasks are 0 to 7
abbrev pub IsSpelledTask : ℕ → Type 0
IsSpelledTask task = task < 8

-- buffers are 0 to 63
abbrev pub IsSpelledBuffer : ℕ → Type 0
IsSpelledBuffer buffer = buffer < 64

abbrev pub IsSpelledEvent : Event → Type 0
IsSpelledEvent (event.Commit node task buffer payload) =
    IsSpelledNode node × IsSpelledTask task × IsSpelledBuffer buffer × IsPayload payload × AreBytes payload
IsSpelledEvent (event.Withdraw node task buffer) =
    IsSpelledNode node × IsSpelledTask task × IsSpelledBuffer buffer
IsSpelledEvent (event.Read node task buffer) =
    IsSpelledNode node × IsSpelledTask task × IsSpelledBuffer buffer
IsSpelledEvent (event.Pop node task) = IsSpelledNode node × IsSpelledTask task
IsSpelledEvent (event.Look node) = IsSpelledNode node
IsSpelledEvent (event.Fetch node) = IsSpelledNode node
IsSpelledEvent (event.Put node) = IsSpelledNode node
IsSpelledEvent (event.Take node) = IsSpelledNode node
IsSpelledEvent (event.Observe node) = IsSpelledNode node
IsSpelledEvent (event.Inject fault) = IsSpelledFault fault
IsSpelledEvent event.Seal = Unit {0}
IsSpelledEvent event.Advance = Unit {0}

abbrev pub IsSpelledRequest : Request → Type 0
IsSpelledRequest (request.Event asked) = IsSpelledEvent asked
IsSpelledRequest (request.Receive node task buffer) =
    IsSpelledNode node × IsSpelledTask task × IsSpelledBuffer buffer
IsSpelledRequest (request.Next node task) = IsSpelledNode node × IsSpelledTask task
IsSpelledRequest (request.Fault line) = IsSaidFaultLine line
IsSpelledRequest (request.Faults a b) = AreSaidFaultLines a b
IsSpelledRequest request.Forget = Unit {0}
IsSpelledRequest request.Window = Unit {0}
IsSpelledRequest (request.Run cycles) = cycles ≤ 1024
IsSpelledRequest request.Now = Unit {0}
IsSpelledRequest request.At = Unit {0}
IsSpelledRequest (request.Report node) = IsSpelledNode node
IsSpelledRequest (request.Status node channel) = IsSpelledNode node
IsSpelledRequest (request.Trace node) = IsSpelledNode node
IsSpelledRequest (request.Origin node) = IsSpelledNode node
IsSpelledRequest (request.Record window) = window < 2 ^ 32

-- ---- the laws

-- the spelling is one line, and is read as its request
pub record IsReadAgain (asked : Request) : Type 0 where
  pub one_line : IsLine (spelled asked)
  pub short : length (spelled asked) ≤ longest_line
  pub read : asked_in (spelled asked) ≡ Some asked

abbrev pub AreReadAgain : Type 0
AreReadAgain = (asked : Request) → IsSpelledRequest asked → IsReadAgain asked
