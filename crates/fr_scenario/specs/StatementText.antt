-- The values in the ranges of version 3, and one spelling of each: numbers in place of names, one space between two
-- words, no comment, and no line `lost`.
use Rattle.std.specs.Prelude.{◌≡◌, ℕ, ◌<◌, List, [], ◌∷◌, codes, Option, Some, None, IfSome}
use Rattle.std.specs.Fmt.{decimal}
use Rattle.fr_bus.specs.declared.fault.Fault.{Fault}
use Rattle.fr_bus.specs.declared.fault.Fault.TheVariants.{Babble, Mute, Corrupt}
use Rattle.fr_frame.specs.Payload.{IsPayload}
use Rattle.fr_interface.specs.declared.call.Call.{Call}
use Rattle.fr_journal.specs.Entries.{AreBytes}
use Rattle.fr_runs.specs.declared.cycles.RunCycles.{RunCycles}
use Rattle.fr_runs.specs.declared.fault_line.FaultLine.{FaultLine}
use Rattle.fr_scenario.specs.declared.statement.Statement.{Statement}
use Rattle.fr_scenario.specs.declared.statement.Statement.TheVariants as statement
use Rattle.fr_scenario.specs.declared.version.Version.TheVariants.{Two}
use Rattle.fr_scenario.specs.Parts.{channel_word, cycles_word, place_word}
use Rattle.fr_scenario.specs.Spelled.{AreSaidCycles, IsSaidFaultLine, IsSpelledCall}
use Rattle.fr_scenario.specs.Spelling.{call_words, kind_word}
use Rattle.fr_slots.specs.declared.channel.Channel.{Channel}
use Rattle.fr_slots.specs.declared.channel.Channel.TheVariants.{A, B}
use Rattle.fr_text.specs.Spaces.{line_of}
use Rattle.fr_text.specs.Spelling.{hex_text}

-- ---- values

-- the same fault on this channel
abbrev pub on_channel : Channel → Fault → Fault
on_channel c (Babble node channel bytes) = Babble node c bytes
on_channel c (Mute node channel) = Mute node c
on_channel c (Corrupt channel bit) = Corrupt c bit

-- the two lines of a line for both channels: they differ in the channel alone
pub record AreSaidFaultLines (a b : FaultLine) : Type 0 where
  pub first : IsSaidFaultLine a
  pub on_a : a.fault ≡ on_channel A a.fault
  pub on_b : b ≡ record { fault = on_channel B a.fault; cycles = a.cycles; place = a.place }

abbrev pub IsSaidPayload : List ℕ → Type 0
IsSaidPayload payload = IsPayload payload × AreBytes payload

pub record AreSaidCalls (node task : ℕ) (cycles : RunCycles) (call : Call) : Type 0 where
  pub node_fits : node < 16
  pub task_fits : task < 8
  pub cycles_fit : AreSaidCycles cycles
  pub call_fits : IsSpelledCall Two call

pub record IsSaidExpectation (node : ℕ) (cycles : RunCycles) (buffer : ℕ) (payload : Option (List ℕ)) : Type 0 where
  pub node_fits : node < 16
  pub cycles_fit : AreSaidCycles cycles
  pub buffer_fits : buffer < 64
  pub payload_fits : IfSome payload IsSaidPayload

abbrev pub IsSaid : Statement → Type 0
IsSaid statement.Nothing = Unit {0}
IsSaid (statement.Calls node task cycles call) = AreSaidCalls node task cycles call
IsSaid (statement.Fault f) = IsSaidFaultLine f
IsSaid (statement.Faults a b) = AreSaidFaultLines a b
IsSaid (statement.Expected node cycles buffer payload) = IsSaidExpectation node cycles buffer payload

-- ---- spellings

-- the words of a fault line, with this word for its channels
abbrev pub fault_words_on : List ℕ → List ℕ → List ℕ → Fault → List (List ℕ)
fault_words_on channels cycles place (Babble node channel bytes) =
    codes "babble" ∷ decimal node ∷ channels ∷ cycles ∷ place ∷ hex_text bytes.items ∷ []
fault_words_on channels cycles place (Mute node channel) =
    codes "mute" ∷ decimal node ∷ channels ∷ cycles ∷ place ∷ []
fault_words_on channels cycles place (Corrupt channel bit) =
    codes "corrupt" ∷ channels ∷ cycles ∷ place ∷ decimal bit ∷ []

abbrev pub fault_words_of : List ℕ → FaultLine → List (List ℕ)
fault_words_of channels f = fault_words_on channels (cycles_word f.cycles) (place_word f.place) f.fault

abbrev pub channel_of : Fault → Channel
channel_of (Babble node channel bytes) = channel
channel_of (Mute node channel) = channel
channel_of (Corrupt channel bit) = channel

abbrev pub expected_words : ℕ → RunCycles → ℕ → Option (List ℕ) → List (List ℕ)
expected_words node cycles buffer (Some payload) =
    codes "expect" ∷ decimal node ∷ cycles_word cycles ∷ decimal buffer ∷ hex_text payload ∷ []
expected_words node cycles buffer None =
    codes "expect-none" ∷ decimal node ∷ cycles_word cycles ∷ decimal buffer ∷ []

abbrev pub statement_words : Statement → List (List ℕ)
statement_words statement.Nothing = []
statement_words (statement.Calls node task cycles call) =
    kind_word call ∷ decimal node ∷ decimal task ∷ cycles_word cycles ∷ call_words call
statement_words (statement.Fault f) = fault_words_of (channel_word (channel_of f.fault)) f
statement_words (statement.Faults a b) = fault_words_of (codes "AB") a
statement_words (statement.Expected node cycles buffer payload) = expected_words node cycles buffer payload

-- the line, without its line feed
abbrev pub statement_text : Statement → List ℕ
statement_text s = line_of (statement_words s)

-- a line stands for this statement alone, or for none
abbrev pub said_alone : Statement → List Statement
said_alone statement.Nothing = []
said_alone (statement.Calls node task cycles call) = statement.Calls node task cycles call ∷ []
said_alone (statement.Fault f) = statement.Fault f ∷ []
said_alone (statement.Faults a b) = statement.Faults a b ∷ []
said_alone (statement.Expected node cycles buffer payload) = statement.Expected node cycles buffer payload ∷ []
