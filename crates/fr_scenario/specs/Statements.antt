-- The statement that the words of a line of version 3 spell.
use Rattle.std.specs.Prelude.{ℕ, Bool, false, List, [], ◌∷◌, codes, Option, Some, None, if◌then◌else◌}
use Rattle.std.specs.Str.{bytes_eq}
use Rattle.fr_bus.specs.declared.fault.Fault.{Fault}
use Rattle.fr_bus.specs.declared.fault.Fault.TheVariants.{Babble, Mute, Corrupt}
use Rattle.fr_frame.specs.Payload.{most_frame_bytes}
use Rattle.fr_interface.specs.declared.call.Call.{Call}
use Rattle.fr_interface.specs.declared.call.Call.TheVariants.{Commit, Withdraw, Read, Pop}
use Rattle.fr_lines.specs.PartReading.{channels_in, payload_in}
use Rattle.fr_lines.specs.Spelling.{end_line}
use Rattle.fr_names.specs.Names.{NamesOfNode}
use Rattle.fr_runs.specs.declared.cycles.RunCycles.{RunCycles}
use Rattle.fr_runs.specs.declared.fault_line.FaultLine.{FaultLine}
use Rattle.fr_runs.specs.declared.fault_line.FaultPlace.{FaultPlace}
use Rattle.fr_runs.specs.declared.fault_line.FaultPlace.TheVariants.{EveryWindow}
use Rattle.fr_scenario.specs.BlankWords.{blank_words}
use Rattle.fr_scenario.specs.declared.statement.Statement.{Statement}
use Rattle.fr_scenario.specs.declared.statement.Statement.TheVariants as statement
use Rattle.fr_scenario.specs.StatementParts.{cycles_said, place_said, node_said, buffer_said}
use Rattle.fr_slots.specs.declared.channel.Channel.TheVariants.{A, B}
use Rattle.fr_slots.specs.declared.channel.Channels.{Channels}
use Rattle.fr_slots.specs.declared.channel.Channels.TheVariants as channels
use Rattle.fr_text.specs.Reading.{◌>>=◌, number_in, bytes_in}

-- ---- the calls of tasks

unfoldable pub commit_said : List NamesOfNode → ℕ → List (List ℕ) → Option Call
commit_said names node (buffer ∷ payload ∷ []) = do
  b ← buffer_said names node buffer
  p ← payload_in payload
  Some (Commit b p)
commit_said names node words = None

unfoldable pub withdraw_said : List NamesOfNode → ℕ → List (List ℕ) → Option Call
withdraw_said names node (buffer ∷ []) = do
  b ← buffer_said names node buffer
  Some (Withdraw b)
withdraw_said names node words = None

unfoldable pub read_said : List NamesOfNode → ℕ → List (List ℕ) → Option Call
read_said names node (buffer ∷ []) = do
  b ← buffer_said names node buffer
  Some (Read b)
read_said names node words = None

unfoldable pub pop_said : List (List ℕ) → Option Call
pop_said [] = Some Pop
pop_said (word ∷ words) = None

-- by its kind
unfoldable pub call_said : List NamesOfNode → List ℕ → ℕ → List (List ℕ) → Option Call
call_said names kind node words =
    if bytes_eq kind (codes "commit") then commit_said names node words
    else if bytes_eq kind (codes "withdraw") then withdraw_said names node words
    else if bytes_eq kind (codes "read") then read_said names node words
    else if bytes_eq kind (codes "pop") then pop_said words
    else None

unfoldable pub calls_said : List NamesOfNode → List ℕ → List (List ℕ) → Option Statement
calls_said names kind (node ∷ task ∷ cycles ∷ words) = do
  n ← node_said names node
  t ← number_in 8 task
  y ← cycles_said cycles
  call ← call_said names kind n words
  Some (statement.Calls n t y call)
calls_said names kind words = None

-- ---- faults

abbrev pub fault_at : Fault → RunCycles → FaultPlace → FaultLine
fault_at fault cycles place = record { fault = fault; cycles = cycles; place = place }

-- of a fault on channel A and one on channel B, those of the channels
abbrev pub faults_on : Channels → Fault → Fault → RunCycles → FaultPlace → Statement
faults_on channels.A a b cycles place = statement.Fault (fault_at a cycles place)
faults_on channels.B a b cycles place = statement.Fault (fault_at b cycles place)
faults_on channels.Both a b cycles place = statement.Faults (fault_at a cycles place) (fault_at b cycles place)

unfoldable pub babble_said : List NamesOfNode → List (List ℕ) → Option Statement
babble_said names (node ∷ channels ∷ cycles ∷ place ∷ bytes ∷ []) = do
  n ← node_said names node
  c ← channels_in channels
  y ← cycles_said cycles
  p ← place_said place
  b ← bytes_in most_frame_bytes bytes
  Some (faults_on c (Babble n A (record { items = b })) (Babble n B (record { items = b })) y p)
babble_said names words = None

unfoldable pub mute_said : List NamesOfNode → List (List ℕ) → Option Statement
mute_said names (node ∷ channels ∷ cycles ∷ place ∷ []) = do
  n ← node_said names node
  c ← channels_in channels
  y ← cycles_said cycles
  p ← place_said place
  Some (faults_on c (Mute n A) (Mute n B) y p)
mute_said names words = None

unfoldable pub corrupt_said : List (List ℕ) → Option Statement
corrupt_said (channels ∷ cycles ∷ place ∷ bit ∷ []) = do
  c ← channels_in channels
  y ← cycles_said cycles
  p ← place_said place
  b ← number_in 65536 bit
  Some (faults_on c (Corrupt A b) (Corrupt B b) y p)
corrupt_said words = None

-- all offers of the node are lost: a mute on both channels in every window
unfoldable pub lost_said : List NamesOfNode → List (List ℕ) → Option Statement
lost_said names (node ∷ cycles ∷ []) = do
  n ← node_said names node
  y ← cycles_said cycles
  Some (faults_on channels.Both (Mute n A) (Mute n B) y EveryWindow)
lost_said names words = None

-- ---- what a receive buffer must hold at the end of each of these cycles

unfoldable pub expect_said : List NamesOfNode → List (List ℕ) → Option Statement
expect_said names (node ∷ cycles ∷ buffer ∷ payload ∷ []) = do
  n ← node_said names node
  y ← cycles_said cycles
  b ← buffer_said names n buffer
  p ← payload_in payload
  Some (statement.Expected n y b (Some p))
expect_said names words = None

-- no frame
unfoldable pub expect_none_said : List NamesOfNode → List (List ℕ) → Option Statement
expect_none_said names (node ∷ cycles ∷ buffer ∷ []) = do
  n ← node_said names node
  y ← cycles_said cycles
  b ← buffer_said names n buffer
  Some (statement.Expected n y b None)
expect_none_said names words = None

-- ---- a line, by its first word

-- of a line that isn't a fault's
unfoldable pub other_said : List NamesOfNode → List ℕ → List (List ℕ) → Option Statement
other_said names kind words =
    if bytes_eq kind (codes "expect") then expect_said names words
    else if bytes_eq kind (codes "expect-none") then expect_none_said names words
    else calls_said names kind words

unfoldable pub statement_said : List NamesOfNode → List (List ℕ) → Option Statement
statement_said names [] = Some statement.Nothing
statement_said names (kind ∷ words) =
    if bytes_eq kind (codes "babble") then babble_said names words
    else if bytes_eq kind (codes "mute") then mute_said names words
    else if bytes_eq kind (codes "corrupt") then corrupt_said words
    else if bytes_eq kind (codes "lost") then lost_said names words
    else other_said names kind words

abbrev pub statement_in : List NamesOfNode → List ℕ → Option Statement
statement_in names line = statement_said names (blank_words line)

-- ---- the last line

abbrev pub are_end : List (List ℕ) → Bool
are_end [] = false
are_end (word ∷ []) = bytes_eq word end_line
are_end (word ∷ other ∷ words) = false

abbrev pub is_last : List ℕ → Bool
is_last line = are_end (blank_words line)
