-- The requests that the words of a line spell.
use Rattle.std.specs.Prelude.{ℕ, nat_lt, Bool, ◌||◌, List, [], ◌∷◌, codes, length, Option, Some, None, if◌then◌else◌}
use Rattle.std.specs.Str.{bytes_eq}
use Rattle.fr_bus.specs.declared.fault.Fault.{Fault}
use Rattle.fr_bus.specs.declared.fault.Fault.TheVariants.{Babble, Mute, Corrupt}
use Rattle.fr_core.specs.declared.event.Event.{Event}
use Rattle.fr_core.specs.declared.event.Event.TheVariants as event
use Rattle.fr_core.specs.Steps.{event_of}
use Rattle.fr_frame.specs.Payload.{most_frame_bytes}
use Rattle.fr_lines.specs.PartReading.{channel_in}
use Rattle.fr_scenario.specs.CallReading.{call_in}
use Rattle.fr_scenario.specs.declared.fault_lines.LineFaults.{LineFaults}
use Rattle.fr_scenario.specs.declared.fault_lines.LineFaults.TheVariants.{One, Both}
use Rattle.fr_scenario.specs.FaultLines.{faults_in}
use Rattle.fr_session.specs.Lines.{longest_line}
use Rattle.fr_session.specs.declared.request.Request.{Request}
use Rattle.fr_session.specs.declared.request.Request.TheVariants as request
use Rattle.fr_text.specs.Reading.{number_in, bytes_in, ◌>>=◌}
use Rattle.fr_text.specs.Spaces.{words_of}

-- ---- calls of tasks

unfoldable pub host_request : List ℕ → List (List ℕ) → Option Event
host_request kind (node ∷ task ∷ words) = do
  n ← number_in 16 node
  t ← number_in 8 task
  call ← call_in kind words
  Some (event_of n t call)
host_request kind words = None

-- ---- steps of controllers

unfoldable pub node_in : List (List ℕ) → Option ℕ
node_in (node ∷ []) = number_in 16 node
node_in words = None

unfoldable pub step_of : List ℕ → ℕ → Option Event
step_of kind n =
    if bytes_eq kind (codes "look") then Some (event.Look n)
    else if bytes_eq kind (codes "fetch") then Some (event.Fetch n)
    else if bytes_eq kind (codes "put") then Some (event.Put n)
    else if bytes_eq kind (codes "take") then Some (event.Take n)
    else if bytes_eq kind (codes "observe") then Some (event.Observe n)
    else None

unfoldable pub step_request : List ℕ → List (List ℕ) → Option Event
step_request kind words = do
  n ← node_in words
  step_of kind n

-- ---- faults

unfoldable pub babble_in : List (List ℕ) → Option Fault
babble_in (node ∷ channel ∷ bytes ∷ []) = do
  n ← number_in 16 node
  c ← channel_in channel
  b ← bytes_in most_frame_bytes bytes
  Some (Babble n c (record { items = b }))
babble_in words = None

unfoldable pub mute_in : List (List ℕ) → Option Fault
mute_in (node ∷ channel ∷ []) = do
  n ← number_in 16 node
  c ← channel_in channel
  Some (Mute n c)
mute_in words = None

unfoldable pub corrupt_in : List (List ℕ) → Option Fault
corrupt_in (channel ∷ bit ∷ []) = do
  c ← channel_in channel
  b ← number_in 65536 bit
  Some (Corrupt c b)
corrupt_in words = None

unfoldable pub fault_of : List ℕ → List (List ℕ) → Option Fault
fault_of kind words =
    if bytes_eq kind (codes "babble") then babble_in words
    else if bytes_eq kind (codes "mute") then mute_in words
    else if bytes_eq kind (codes "corrupt") then corrupt_in words
    else None

unfoldable pub fault_request : List ℕ → List (List ℕ) → Option Event
fault_request kind words = do
  f ← fault_of kind words
  Some (event.Inject f)

-- ---- conveniences and queries

unfoldable pub receive_in : List (List ℕ) → Option Request
receive_in (node ∷ task ∷ buffer ∷ []) = do
  n ← number_in 16 node
  t ← number_in 8 task
  b ← number_in 64 buffer
  Some (request.Receive n t b)
receive_in words = None

unfoldable pub next_in : List (List ℕ) → Option Request
next_in (node ∷ task ∷ []) = do
  n ← number_in 16 node
  t ← number_in 8 task
  Some (request.Next n t)
next_in words = None

unfoldable pub run_in : List (List ℕ) → Option Request
run_in (cycles ∷ []) = do
  n ← number_in 1025 cycles
  Some (request.Run n)
run_in words = None

unfoldable pub record_in : List (List ℕ) → Option Request
record_in (window ∷ []) = do
  n ← number_in 4294967296 window
  Some (request.Record n)
record_in words = None

unfoldable pub report_in : List (List ℕ) → Option Request
report_in words = do
  n ← node_in words
  Some (request.Report n)

unfoldable pub status_in : List (List ℕ) → Option Request
status_in (node ∷ channel ∷ []) = do
  n ← number_in 16 node
  c ← channel_in channel
  Some (request.Status n c)
status_in words = None

unfoldable pub trace_in : List (List ℕ) → Option Request
trace_in words = do
  n ← node_in words
  Some (request.Trace n)

unfoldable pub origin_in : List (List ℕ) → Option Request
origin_in words = do
  n ← node_in words
  Some (request.Origin n)

abbrev pub alone : List (List ℕ) → Request → Option Request
alone [] request = Some request
alone (word ∷ words) request = None

unfoldable pub query_request : List ℕ → List (List ℕ) → Option Request
query_request kind words =
    if bytes_eq kind (codes "now") then alone words request.Now
    else if bytes_eq kind (codes "at") then alone words request.At
    else if bytes_eq kind (codes "report") then report_in words
    else if bytes_eq kind (codes "status") then status_in words
    else if bytes_eq kind (codes "trace") then trace_in words
    else if bytes_eq kind (codes "origin") then origin_in words
    else if bytes_eq kind (codes "record") then record_in words
    else None

unfoldable pub other_request : List ℕ → List (List ℕ) → Option Request
other_request kind words =
    if bytes_eq kind (codes "seal") then alone words (request.Event event.Seal)
    else if bytes_eq kind (codes "advance") then alone words (request.Event event.Advance)
    else if bytes_eq kind (codes "window") then alone words request.Window
    else if bytes_eq kind (codes "cycle") then alone words (request.Run 1)
    else if bytes_eq kind (codes "forget") then alone words request.Forget
    else if bytes_eq kind (codes "run") then run_in words
    else if bytes_eq kind (codes "receive") then receive_in words
    else if bytes_eq kind (codes "next") then next_in words
    else query_request kind words

-- ---- a line, by its first word

abbrev pub is_fault_word : List ℕ → Bool
is_fault_word kind = bytes_eq kind (codes "babble") || bytes_eq kind (codes "mute") || bytes_eq kind (codes "corrupt")

abbrev pub is_step_word : List ℕ → Bool
is_step_word kind = bytes_eq kind (codes "look") || bytes_eq kind (codes "fetch") || bytes_eq kind (codes "put")
    || bytes_eq kind (codes "take") || bytes_eq kind (codes "observe")

abbrev pub is_host_word : List ℕ → Bool
is_host_word kind = bytes_eq kind (codes "commit") || bytes_eq kind (codes "withdraw") || bytes_eq kind (codes "read")
    || bytes_eq kind (codes "pop")

-- an event that has words after its first one
unfoldable pub event_request : List ℕ → List (List ℕ) → Option Event
event_request kind words =
    if is_fault_word kind then fault_request kind words
    else if is_step_word kind then step_request kind words
    else host_request kind words

abbrev pub begins_event : List ℕ → Bool
begins_event kind = is_host_word kind || is_step_word kind || is_fault_word kind

abbrev pub with_event : Option Event → Option Request
with_event None = None
with_event (Some e) = Some (request.Event e)

unfoldable pub request_in : List (List ℕ) → Option Request
request_in [] = None
request_in (kind ∷ words) =
    if begins_event kind then with_event (event_request kind words) else other_request kind words

-- ---- fault lines, as a line of a scenario of version 3 spells them

abbrev pub with_faults : Option LineFaults → Option Request
with_faults None = None
with_faults (Some (One line)) = Some (request.Fault line)
with_faults (Some (Both a b)) = Some (request.Faults a b)

-- The fault lines of a line that is no other request: it has more words than the event of the same name, and no event
-- begins with `lost`.
abbrev pub request_or_faults : Option Request → List ℕ → Option Request
request_or_faults None line = with_faults (faults_in line)
request_or_faults (Some asked) line = Some asked

-- ---- a line, given without its line feed

abbrev pub asked_in : List ℕ → Option Request
asked_in line =
    if nat_lt longest_line (length line) then None
    else request_or_faults (request_in (words_of line)) line
