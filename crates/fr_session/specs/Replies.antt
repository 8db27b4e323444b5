-- The replies to events, each as its words.
use Rattle.std.specs.Prelude.{ℕ, Bool, true, false, List, [], ◌∷◌, ◌++◌, codes, Option, Some, None, Result, Ok, Err}
use Rattle.std.specs.Fmt.{decimal}
use Rattle.fr_core.specs.declared.error.StepError.{StepError}
use Rattle.fr_core.specs.declared.event.Reply.{Reply}
use Rattle.fr_core.specs.declared.event.Reply.TheVariants as reply
use Rattle.fr_core.specs.ErrorNames.{step_error_text}
use Rattle.fr_frame.specs.Fields.{Fields}
use Rattle.fr_journal.specs.declared.entry.Arrival.{Arrival}
use Rattle.fr_lines.specs.Parts.{absent, indicators, optional_number}
use Rattle.fr_lines.specs.Spelling.{line_text}
use Rattle.fr_slots.specs.Admission.{letter_of}
use Rattle.fr_slots.specs.Windows.{Opportunity}
use Rattle.fr_text.specs.Spelling.{hex_text}

-- ---- the first line, with the version of the protocol

abbrev pub greeting : List ℕ
greeting = line_text (codes "frworld" ∷ codes "1" ∷ [])

-- ---- refusals

abbrev pub refusal_words : StepError → List (List ℕ)
refusal_words error = codes "refused" ∷ step_error_text error ∷ []

-- the line of this number is no request
abbrev pub bad_line_words : ℕ → List (List ℕ)
bad_line_words number = codes "refused" ∷ codes "BadLine" ∷ decimal number ∷ []

-- a fault line that a run couldn't have beside those that are kept, with their number
abbrev pub bad_fault_words : ℕ → List (List ℕ)
bad_fault_words kept = codes "refused" ∷ codes "BadFault" ∷ decimal kept ∷ []

-- ---- executed requests

abbrev pub done_words : List (List ℕ)
done_words = codes "done" ∷ []

-- ---- frames and windows

abbrev pub frame_words : Fields → List (List ℕ)
frame_words f = codes "frame" ∷ decimal f.cycle ∷ decimal f.id ∷ indicators f ∷ hex_text f.payload ∷ []

abbrev pub frame_reply : Option Fields → List (List ℕ)
frame_reply None = codes "frame" ∷ absent ∷ []
frame_reply (Some f) = frame_words f

-- a frame that is new since the last such request, or not
abbrev pub age_word : Bool → List ℕ
age_word true = codes "new"
age_word false = codes "old"

-- the reply of a frame, with the channel on which it came and the cycle of the run
abbrev pub received_words : Bool → Option Arrival → List (List ℕ)
received_words fresh None = frame_reply None
received_words fresh (Some a) =
    frame_words a.frame ++ letter_of a.origin.channel ∷ decimal a.cycle ∷ age_word fresh ∷ []

-- the end of that line
abbrev pub coming_text : Bool → Arrival → List ℕ
coming_text fresh a = 32 ∷ line_text (letter_of a.origin.channel ∷ decimal a.cycle ∷ age_word fresh ∷ [])

abbrev pub window_words : List ℕ → Opportunity → List (List ℕ)
window_words kind w = kind ∷ decimal w.number ∷ decimal w.cycle ∷ decimal w.minislot ∷ optional_number w.a
    ∷ optional_number w.b ∷ []

abbrev pub withdrawn_words : Option ℕ → List (List ℕ)
withdrawn_words of = codes "withdrawn" ∷ optional_number of ∷ []

-- ---- the reply to an event

abbrev pub reply_words : Reply → List (List ℕ)
reply_words (reply.Committed receipt) = codes "committed" ∷ decimal receipt.entry ∷ []
reply_words (reply.Withdrawn of) = withdrawn_words of
reply_words (reply.Frame frame) = frame_reply frame
reply_words (reply.Window window) = window_words (codes "window") window
reply_words reply.Done = done_words

abbrev pub answer_words : Result Reply StepError → List (List ℕ)
answer_words (Ok answered) = reply_words answered
answer_words (Err error) = refusal_words error

-- the reply to a request that makes the step of this answer, and returns this frame if the step is accepted
abbrev pub receipt_words : Bool → Option Arrival → Result Reply StepError → List (List ℕ)
receipt_words fresh arrival (Ok answered) = received_words fresh arrival
receipt_words fresh arrival (Err error) = refusal_words error

abbrev pub receipt_text : Bool → Option Arrival → Result Reply StepError → List ℕ
receipt_text fresh arrival answer = line_text (receipt_words fresh arrival answer)

abbrev pub answer_text : Result Reply StepError → List ℕ
answer_text answer = line_text (answer_words answer)
