-- The lines of a scenario, each as its words.
use Rattle.std.specs.Prelude.{ℕ, List, [], ◌∷◌, codes}
use Rattle.std.specs.Fmt.{decimal}
use Rattle.fr_bus.specs.declared.fault.Fault.{Fault}
use Rattle.fr_bus.specs.declared.fault.Fault.TheVariants.{Babble, Mute, Corrupt}
use Rattle.fr_interface.specs.declared.call.Call.{Call}
use Rattle.fr_interface.specs.declared.call.Call.TheVariants.{Commit, Withdraw, Read, Pop}
use Rattle.fr_core.specs.declared.script.Line.{Line}
use Rattle.fr_runs.specs.declared.fault_line.FaultLine.{FaultLine}
use Rattle.fr_scenario.specs.declared.spelled.SpelledLine.{SpelledLine}
use Rattle.fr_scenario.specs.declared.spelled.SpelledLine.TheVariants.{Host, Fault as FaultOf}
use Rattle.fr_scenario.specs.Parts.{channel_word, cycles_word, place_word}
use Rattle.fr_text.specs.Spelling.{hex_text}

-- ---- the calls of tasks

abbrev pub kind_word : Call → List ℕ
kind_word (Commit buffer payload) = codes "commit"
kind_word (Withdraw buffer) = codes "withdraw"
kind_word (Read buffer) = codes "read"
kind_word Pop = codes "pop"

-- the words after the kind
abbrev pub call_words : Call → List (List ℕ)
call_words (Commit buffer payload) = decimal buffer ∷ hex_text payload ∷ []
call_words (Withdraw buffer) = decimal buffer ∷ []
call_words (Read buffer) = decimal buffer ∷ []
call_words Pop = []

-- the call of a task of a node in a cycle
abbrev pub placed_words : ℕ → ℕ → ℕ → Call → List (List ℕ)
placed_words node task cycle call =
    kind_word call ∷ decimal node ∷ decimal task ∷ decimal cycle ∷ call_words call

-- its answer isn't spelled
abbrev pub host_words : ℕ → ℕ → Line → List (List ℕ)
host_words node task line = placed_words node task line.cycle line.action

-- ---- faults

abbrev pub fault_words : List ℕ → List ℕ → Fault → List (List ℕ)
fault_words cycles place (Babble node channel bytes) =
    codes "babble" ∷ decimal node ∷ channel_word channel ∷ cycles ∷ place ∷ hex_text bytes.items ∷ []
fault_words cycles place (Mute node channel) = codes "mute" ∷ decimal node ∷ channel_word channel ∷ cycles ∷ place ∷ []
fault_words cycles place (Corrupt channel bit) =
    codes "corrupt" ∷ channel_word channel ∷ cycles ∷ place ∷ decimal bit ∷ []

abbrev pub fault_line_words : FaultLine → List (List ℕ)
fault_line_words f = fault_words (cycles_word f.cycles) (place_word f.place) f.fault

-- ---- a line

abbrev pub line_words : SpelledLine → List (List ℕ)
line_words (Host node task line) = host_words node task line
line_words (FaultOf f) = fault_line_words f
