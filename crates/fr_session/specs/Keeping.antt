-- The fault lines that a session keeps.
use Rattle.std.specs.Prelude.{◌≡◌, ◌↔◌, ℕ, Bool, true, false, List, [], ◌∷◌, ◌++◌, length, ◌⊎◌, IsTrue}
use Rattle.fr_lines.specs.Spelling.{line_text}
use Rattle.fr_runs.specs.declared.fault_line.FaultLine.{FaultLine}
use Rattle.fr_runs.specs.Suiting.{IsFaultAfter}
use Rattle.fr_schedule.specs.Descriptions.{Description}
use Rattle.fr_session.specs.Queries.{memory_text}
use Rattle.fr_session.specs.Replies.{done_words, bad_fault_words}

-- More lines are kept after the others, unless an allocation fails. Lines that don't suit are refused with the number
-- of the others.
abbrev pub KeepsIf : Bool → List FaultLine → List FaultLine → List ℕ → List FaultLine → Type 0
KeepsIf true old more reply new =
    ((reply ≡ line_text done_words) × (new ≡ old ++ more)) ⊎ ((reply ≡ memory_text) × (new ≡ old))
KeepsIf false old more reply new = (reply ≡ line_text (bad_fault_words (length old))) × (new ≡ old)

-- A line suits if a run of this cluster for this number of cycles, which has the lines that are kept, can have it too.
abbrev pub KeepsLine : Description → ℕ → List FaultLine → FaultLine → List ℕ → List FaultLine → Type 0
KeepsLine d cycles old line reply new =
    (suits : Bool) × (IsTrue suits ↔ IsFaultAfter d cycles old line) × KeepsIf suits old (line ∷ []) reply new

-- the first suits, and the second suits after it
abbrev pub AreFaultsAfter : Description → ℕ → List FaultLine → FaultLine → FaultLine → Type 0
AreFaultsAfter d cycles old a b = IsFaultAfter d cycles old a × IsFaultAfter d cycles (old ++ a ∷ []) b

-- two lines are both kept, in this order, or neither is
abbrev pub KeepsBoth : Description → ℕ → List FaultLine → FaultLine → FaultLine → List ℕ → List FaultLine → Type 0
KeepsBoth d cycles old a b reply new =
    (suit : Bool) × (IsTrue suit ↔ AreFaultsAfter d cycles old a b) × KeepsIf suit old (a ∷ b ∷ []) reply new
