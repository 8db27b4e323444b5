-- The state that the code keeps of the line at which a text is refused: places in the text.
use Rattle.std.specs.Prelude.{◌≡◌, ℕ, ◌-◌, ◌≤◌, List, [], length, take, drop, Result, Ok, Err}
use Rattle.fr_interface.specs.State.{IsNodeInterface}
use Rattle.fr_trace.specs.Audit.{IsOfText}
use Rattle.fr_trace.specs.declared.error.TraceError.{TraceError}
use Rattle.fr_trace.specs.declared.error.TraceError.TheVariants.{Read, Write, Memory}
use Rattle.fr_trace.specs.Refusals.{feed_count, longest_text}
use Rattle.fr_trace.specs.Stream.{Progress, reading, Phase, fresh, take_bytes, outcome_of}
use Rattle.fr_why.specs.declared.finding.FaultyLine.{FaultyLine}
use Rattle.fr_why.specs.declared.finding.Found.{Found}
use Rattle.fr_why.specs.declared.finding.Found.TheVariants.{Accepted, Refused}
use Rattle.fr_why.specs.declared.head.Head.{Head}
use Rattle.fr_why.specs.Faults.{IsAtFault}
use Rattle.fr_why.specs.Heads.{head_of, Tells}

-- the bytes from one place up to another
abbrev pub between : ℕ → ℕ → List ℕ → List ℕ
between start end text = take (end - start) (drop start text)

-- the text is refused at this line, and the lines before lead to this state
pub record IsFaultIn (text : List ℕ) (f : FaultyLine) : Type 0 where
  pub of_text : IsOfText f.error
  pub starts : f.start ≤ f.end
  pub ends : f.end ≤ length text
  pub at_fault : IsAtFault f.error text (take f.start text) (between f.start f.end text) (drop f.end text)
  pub counted : f.before ≡ feed_count (take f.start text)
  pub told : Tells (take f.start text) f.head

-- the text is accepted as this interface, with this number of lines, and so isn't too long; or it is refused at this
-- line
abbrev pub IsFound : List ℕ → Found → Type 0
IsFound text (Accepted s lines) = (outcome_of (take_bytes fresh text) ≡ Ok s) × IsNodeInterface s
    × (lines ≡ feed_count text) × (length text ≤ longest_text)
IsFound text (Refused f) = IsFaultIn text f

-- An error that doesn't come from the text ends the search. An auditor has no reader and no writer, so memory ran out.
abbrev pub found_of : TraceError → FaultyLine → Result Found TraceError
found_of Read f = Err Memory
found_of Write f = Err Memory
found_of Memory f = Err Memory
found_of e f = Ok (Refused f)

-- an auditor that has read whole lines of a text, which end at this place, and the state that was kept of them
pub record StandsAt (text : List ℕ) (start before : ℕ) (h : Head) (auditor : Progress) : Type 0 where
  pub within : start ≤ length text
  pub few : before ≤ start
  pub counted : before ≡ feed_count (take start text)
  pub phase : Phase
  pub came : take_bytes fresh (take start text) ≡ reading phase []
  pub read : auditor ≡ reading phase []
  pub told : h ≡ head_of phase
