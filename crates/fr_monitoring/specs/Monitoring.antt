-- The text of a recording that is audited, and the result of a command that reads one (project-defined).
use Rattle.std.specs.Prelude.{◌≡◌, ℕ, Bool, true, false, List, [], ◌∷◌, ◌++◌, Option, Some, None, Result, Ok, Err, ◌⊎◌}
use Rattle.std.specs.Prelude.{if◌then◌else◌}
use Rattle.std.specs.Io.KnownBytes.{Appends, Keeps}
use Rattle.std.specs.List.{fold}
use Rattle.fr_judging.specs.Judging.{State, judge, finish, fresh as fresh_state, has_finding, lane_on}
use Rattle.fr_judging.specs.Rules.{no_clock_on}
use Rattle.fr_judging.specs.declared.rules.Rules.{Rules}
use Rattle.fr_slots.specs.declared.channel.Channel.{Channel}
use Rattle.fr_slots.specs.declared.channel.Channel.TheVariants.{A, B}
use Rattle.fr_recording.specs.Records.{Record}
use Rattle.fr_recording.specs.Stream.{Progress, fresh, take_bytes, records_from, refusal_of, is_refused}
use Rattle.fr_monitoring.specs.FrameText.{frames_text, last_text, waiting_on}
use Rattle.fr_monitoring.specs.LineText.{lines_text}
use Rattle.fr_monitoring.specs.SummaryText.{summary_text}
use Rattle.fr_monitoring.specs.declared.error.MonitorError.{MonitorError}
use Rattle.fr_monitoring.specs.declared.frames.Waiting.{Waiting}
use Rattle.fr_monitoring.specs.declared.error.StreamError.{StreamError}
use Rattle.fr_monitoring.specs.declared.error.StreamError.TheVariants as stream
use Rattle.fr_monitoring.specs.declared.error.MonitorError.TheVariants.{NoClock, Capture, Read, Memory}

-- ---- records

-- the state after these records
abbrev pub judged : State → List Record → State
judged s records = fold judge s records

-- what a record shows: the lines of its frame, if frames have lines, and then the findings
abbrev pub record_text : Bool → State → Record → List ℕ
record_text frames s r = (if frames then frames_text s (judge s r) r else []) ++ lines_text (judge s r).lines

-- what the records show
unfoldable pub told : Bool → State → List Record → List ℕ
told frames s [] = []
told frames s (r ∷ records) = record_text frames s r ++ told frames (judge s r) records

-- ---- a recording

abbrev pub state_after : Rules → List ℕ → State
state_after r bytes = judged (fresh_state r) (records_from fresh bytes)

-- the state at its end; the input is over, or the recording is refused
abbrev pub state_at_end : Rules → List ℕ → Bool → State
state_at_end r bytes over = finish (state_after r bytes) over

-- the text of the end, with the frames that waited up to it
abbrev pub end_with : Bool → Option Waiting → Option Waiting → State → ℕ → List ℕ
end_with frames a b s blocks =
    (if frames then last_text a b s else []) ++ (lines_text s.lines ++ summary_text s blocks)

-- the same, by the states before the end and after it
abbrev pub end_text : Bool → State → State → ℕ → List ℕ
end_text frames s t blocks = end_with frames (waiting_on (lane_on s A)) (waiting_on (lane_on s B)) t blocks

-- the text of the recording in these bytes
abbrev pub recording_text : Bool → Rules → List ℕ → Bool → List ℕ
recording_text frames r bytes over =
    told frames (fresh_state r) (records_from fresh bytes)
    ++ end_text frames (state_after r bytes) (state_at_end r bytes over) (take_bytes fresh bytes).state.skipped

-- ---- the command

abbrev pub clock_on : Channel → Option ℕ → Option MonitorError → Option MonitorError
clock_on channel None others = others
clock_on channel (Some cycle) others = Some (NoClock channel cycle)

-- the refusal of a cluster in which a channel has no clock
abbrev pub clock_refusal : Rules → Option MonitorError
clock_refusal r = clock_on A (no_clock_on r A) (clock_on B (no_clock_on r B) None)

-- A front of the input was read, of which this holds, if the bytes of the reader are known.
abbrev pub ReadFront : Option (List ℕ) → Option (List ℕ) → (List ℕ → List ℕ → Type 0) → Type 0
ReadFront None rest P = Unit {0}
ReadFront (Some text) None P = ⊥
ReadFront (Some text) (Some rest) P = (front : List ℕ) × (text ≡ front ++ rest) × P front rest

-- the input is over, or the rest of it isn't looked at
abbrev pub StopsThere : List ℕ → List ℕ → Type 0
StopsThere front rest = (rest ≡ []) ⊎ (is_refused (take_bytes fresh front).state.phase ≡ true)

-- A channel has no clock or an allocation failed, and nothing was read or written. Or the whole input was read and
-- accepted, or a front of it shows the refusal, or a front of it was read before the reader failed. Then the text of
-- what was read is written, and the result says whether there is a finding.
abbrev pub Monitors : Bool → Rules → Option (List ℕ) → Option (List ℕ) → Option (List ℕ) → Option (List ℕ)
    → Result Bool MonitorError → Type 0
Monitors frames r text rest old new (Ok some) = ReadFront text rest (λ front left.
    (left ≡ []) × (refusal_of (take_bytes fresh front) ≡ None) × (some ≡ has_finding (state_at_end r front true))
    × Appends old new (recording_text frames r front true))
Monitors frames r text rest old new (Err (Capture refusal)) = ReadFront text rest (λ front left.
    StopsThere front left × (refusal_of (take_bytes fresh front) ≡ Some refusal)
    × Appends old new (recording_text frames r front false))
Monitors frames r text rest old new (Err Read) = ReadFront text rest (λ front left.
    Appends old new (recording_text frames r front false))
Monitors frames r text rest old new (Err (NoClock channel cycle)) =
    (clock_refusal r ≡ Some (NoClock channel cycle)) × Keeps text rest × Keeps old new
Monitors frames r text rest old new (Err Memory) = Keeps text rest × Keeps old new
Monitors frames r text rest old new (Err e) = Unit {0}

-- ---- the steps of the command

-- The records of the front have been judged from this state on, and their lines are written.
pub record IsFollowed (frames : Bool) (p : Progress) (s : State) (q : Progress) (t : State) (old : Option (List ℕ))
    (new : Option (List ℕ)) (front : List ℕ) : Type 0 where
  pub progress_is : q ≡ take_bytes p front
  pub state_is : t ≡ judged s (records_from p front)
  pub text_is : Appends old new (told frames s (records_from p front))

-- the result of reading through
abbrev pub Follows : Bool → Progress → State → Option (List ℕ) → Option (List ℕ) → Progress → State → Option (List ℕ)
    → Option (List ℕ) → Result (Unit {0}) StreamError → Type 0
Follows frames p s text rest q t old new (Ok x) = ReadFront text rest (λ front left.
    IsFollowed frames p s q t old new front × ((left ≡ []) ⊎ (is_refused q.state.phase ≡ true)))
Follows frames p s text rest q t old new (Err stream.Read) = ReadFront text rest (λ front left.
    IsFollowed frames p s q t old new front)
Follows frames p s text rest q t old new (Err stream.Write) = Unit {0}

-- the result at the end of what was read
abbrev pub Ends : Bool → Progress → State → Result (Unit {0}) StreamError → Option (List ℕ) → Option (List ℕ)
    → Result Bool MonitorError → Type 0
Ends frames q t followed old new (Ok some) =
    (followed ≡ Ok tt) × (refusal_of q ≡ None) × (some ≡ has_finding (finish t true))
    × Appends old new (end_text frames t (finish t true) q.state.skipped)
Ends frames q t followed old new (Err (Capture refusal)) =
    (followed ≡ Ok tt) × (refusal_of q ≡ Some refusal) × Appends old new
    (end_text frames t (finish t false) q.state.skipped)
Ends frames q t followed old new (Err Read) =
    (followed ≡ Err stream.Read) × Appends old new (end_text frames t (finish t false) q.state.skipped)
Ends frames q t followed old new (Err (NoClock channel cycle)) = ⊥
Ends frames q t followed old new (Err Memory) = ⊥
Ends frames q t followed old new (Err e) = Unit {0}
