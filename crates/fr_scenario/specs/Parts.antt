-- The spelling of the parts of a scenario's line. Std's `decimal` defines the spelling of a number.
use Rattle.std.specs.Prelude.{ℕ, List, ◌∷◌, ◌++◌, codes}
use Rattle.std.specs.Fmt.{decimal}
use Rattle.fr_runs.specs.declared.cycles.RunCycles.{RunCycles}
use Rattle.fr_runs.specs.declared.cycles.RunCycles.TheVariants.{Every, Only, Span}
use Rattle.fr_runs.specs.declared.fault_line.FaultPlace.{FaultPlace}
use Rattle.fr_runs.specs.declared.fault_line.FaultPlace.TheVariants.{EveryWindow, EverySlot, Slot, Slots}
use Rattle.fr_runs.specs.declared.fault_line.FaultPlace.TheVariants.{EveryMinislot, Minislot, Dynamic}
use Rattle.fr_slots.specs.declared.channel.Channel.{Channel}
use Rattle.fr_slots.specs.declared.channel.Channel.TheVariants.{A, B}

-- the word for all
abbrev pub star : List ℕ
star = codes "*"

abbrev pub channel_word : Channel → List ℕ
channel_word A = codes "A"
channel_word B = codes "B"

abbrev pub cycles_word : RunCycles → List ℕ
cycles_word Every = star
cycles_word (Only cycle) = decimal cycle
cycles_word (Span first last step) = decimal first ++ codes "-" ++ decimal last ++ codes "/" ++ decimal step

-- the letter s before static slots, m before minislots, and d before a dynamic slot
abbrev pub place_word : FaultPlace → List ℕ
place_word EveryWindow = star
place_word EverySlot = 115 ∷ star
place_word (Slot slot) = 115 ∷ decimal slot
place_word (Slots first last) = 115 ∷ decimal first ++ codes "-" ++ decimal last
place_word EveryMinislot = 109 ∷ star
place_word (Minislot minislot) = 109 ∷ decimal minislot
place_word (Dynamic slot) = 100 ∷ decimal slot
