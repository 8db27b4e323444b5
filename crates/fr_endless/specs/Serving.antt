-- The effect of an endless session on the lines that it reads (project-defined).
use Rattle.std.specs.Prelude.{⊤, ◌≡◌, ◌⊎◌, ℕ, ◌+◌, Bool, true, false, List, [], ◌∷◌, ◌++◌, length, Option, Some, None}
use Rattle.std.specs.Prelude.{Result, Ok, Err, min, slice_get}
use Rattle.std.specs.Io.KnownBytes.{Appends, Keeps}
use Rattle.std.specs.List.{flat_map}
use Rattle.fr_bus.specs.Standing.{roomless}
use Rattle.fr_endless.specs.Answers.{no_history_text}
use Rattle.fr_endless.specs.declared.error.EndlessError.{EndlessError}
use Rattle.fr_endless.specs.declared.error.EndlessError.TheVariants as failure
use Rattle.fr_endless.specs.declared.taps.Tap.{Tap}
use Rattle.fr_endless.specs.Kept.{IsKeptRecord, is_kept}
use Rattle.fr_endless.specs.Taps.{TapsState, Tells, TellsWhole, ToldAlike, ToldBy, ToldState}
use Rattle.fr_core.specs.Worlds.{WorldState}
use Rattle.fr_lines.specs.Spelling.{line_text}
use Rattle.fr_live.specs.LiveWorlds.{LiveState, ForEachWorld}
use Rattle.fr_schedule.specs.Descriptions.{Description}
use Rattle.fr_session.specs.declared.error.SessionError.TheVariants.{Read, Write, Memory}
use Rattle.fr_session.specs.declared.noted.Noted.{Noted}
use Rattle.fr_session.specs.declared.request.Request.{Request}
use Rattle.fr_session.specs.declared.request.Request.TheVariants as request
use Rattle.fr_session.specs.Cuts.{EndsEarly, IsFront}
use Rattle.fr_session.specs.Lines.{AreLines, IsCut, Comes, TakesPart, with_feed}
use Rattle.fr_session.specs.Reading.{asked_in}
use Rattle.fr_session.specs.Replies.{bad_line_words, greeting}
use Rattle.fr_session.specs.Sessions.{DoesRequest, Receives, SessionState, TakesNext, Terms, opening}
use Rattle.fr_session.specs.Sessions.{state_of, terms_of}

-- ---- the terms

-- A fault line names cycles 0 to 1023 at most. The lines of the record are kept for so many windows.
abbrev pub endless_terms : Description → ℕ → ℕ → Terms
endless_terms d cycles keep = record (terms_of d (min cycles 1024)) { keep = keep }

-- ---- one line

-- Every request does what it does in a session with history, and gets the same reply, with three exceptions. A trace
-- and an origin aren't known. A window of the record is known only if it is one of the last ones.
abbrev pub DoesEndless : Terms → SessionState → Request → List ℕ → SessionState → Type 0
DoesEndless terms old (request.Event event) reply new = DoesRequest terms old (request.Event event) reply new
DoesEndless terms old (request.Receive node task buffer) reply new =
    DoesRequest terms old (request.Receive node task buffer) reply new
DoesEndless terms old (request.Next node task) reply new = DoesRequest terms old (request.Next node task) reply new
DoesEndless terms old (request.Fault line) reply new = DoesRequest terms old (request.Fault line) reply new
DoesEndless terms old (request.Faults a b) reply new = DoesRequest terms old (request.Faults a b) reply new
DoesEndless terms old request.Forget reply new = DoesRequest terms old request.Forget reply new
DoesEndless terms old request.Window reply new = DoesRequest terms old request.Window reply new
DoesEndless terms old (request.Run cycles) reply new = DoesRequest terms old (request.Run cycles) reply new
DoesEndless terms old request.Now reply new = DoesRequest terms old request.Now reply new
DoesEndless terms old request.At reply new = DoesRequest terms old request.At reply new
DoesEndless terms old (request.Report node) reply new = DoesRequest terms old (request.Report node) reply new
DoesEndless terms old (request.Status node channel) reply new =
    DoesRequest terms old (request.Status node channel) reply new
DoesEndless terms old (request.Trace node) reply new = (new ≡ old) × (reply ≡ no_history_text)
DoesEndless terms old (request.Origin node) reply new = (new ≡ old) × (reply ≡ no_history_text)
DoesEndless terms old (request.Record window) reply new =
    let sealed = old.world.bus.sealed in
    (new ≡ old) × IsKeptRecord (is_kept terms.keep (length sealed) window) (slice_get sealed window) reply

-- a line that is no request changes nothing
abbrev pub DoesEndlessIf : Terms → SessionState → ℕ → Option Request → List ℕ → SessionState → Type 0
DoesEndlessIf terms old number None reply new = (reply ≡ line_text (bad_line_words number)) × (new ≡ old)
DoesEndlessIf terms old number (Some asked) reply new = DoesEndless terms old asked reply new

-- the line of this number, counted from 1, is answered with these bytes, and leads to this state
abbrev pub Does : Terms → SessionState → ℕ → List ℕ → List ℕ → SessionState → Type 0
Does terms old number line reply new = DoesEndlessIf terms old number (asked_in line) reply new

-- ---- all lines

-- lines that are answered one after another; the first has this number
unfoldable pub Serves : Terms → SessionState → ℕ → List (List ℕ) → List ℕ → SessionState → Type 0
Serves terms old number [] replies new = (replies ≡ []) × (new ≡ old)
Serves terms old number (line ∷ lines) replies new =
    (between : SessionState) × (reply : List ℕ) × (later : List ℕ) × Does terms old number line reply between
    × (replies ≡ reply ++ later) × Serves terms between (number + 1) lines later new

-- the effect of a session on a known text: the first line is written, and then the replies
abbrev pub Served : Terms → Option (List ℕ) → Option (List ℕ) → Option (List ℕ) → SessionState → SessionState → Type 0
Served terms None before after old new = Unit {0}
Served terms (Some text) before after old new =
    (lines : List (List ℕ)) × (rest : List ℕ) × (replies : List ℕ) × IsCut text lines rest
    × Serves terms old 1 lines replies new × Appends before after (greeting ++ replies)

-- from an opening world to another world, with anything noted there
abbrev pub ServedEndless : Terms → Option (List ℕ) → Option (List ℕ) → Option (List ℕ) → WorldState → WorldState
    → Type 0
ServedEndless terms text before after old new =
    (kept : Noted) × Served terms text before after (opening old) (state_of new kept)

-- ---- by the kept data

-- Each world that leads to the data is one of this cluster, in a run of so many cycles. Only the room of its journals
-- may be another.
abbrev pub IsOf : Description → ℕ → LiveState → Type 0
IsOf d cycles l = ForEachWorld l (λ w. (roomless w.bus.cluster ≡ roomless d) × (w.bus.cycles ≡ cycles))

-- The request of each world that leads to the data gets this reply, and the files get the windows that it seals.
abbrev pub DoesAlike : Terms → ToldState → Noted → Request → List ℕ → ToldState → Noted → Type 0
DoesAlike terms old kept asked reply new keeps =
    ToldBy terms.keep old (λ w v. DoesEndless terms (state_of w kept) asked reply (state_of v keeps)) new

-- the same of the frame that a buffer holds, and of the next frame of a receive FIFO
abbrev pub ReceivesAlike : ToldState → Noted → ℕ → ℕ → ℕ → List ℕ → ToldState → Noted → Type 0
ReceivesAlike old noted node task buffer reply new notes =
    ToldAlike old (λ w v. Receives (state_of w noted) node task buffer reply (state_of v notes)) new

abbrev pub TakesNextAlike : ToldState → Noted → ℕ → ℕ → List ℕ → ToldState → Noted → Type 0
TakesNextAlike old noted node task reply new notes =
    ToldAlike old (λ w v. TakesNext (state_of w noted) node task reply (state_of v notes)) new

abbrev pub DoesAlikeIf : Terms → ToldState → Noted → ℕ → Option Request → List ℕ → ToldState
    → Noted → Type 0
DoesAlikeIf terms old kept number asked reply new keeps =
    ToldBy terms.keep old (λ w v. DoesEndlessIf terms (state_of w kept) number asked reply (state_of v keeps)) new

-- the next line, if a whole one comes, is taken and answered before any byte after it is taken
abbrev pub AnswersNextAlike : Terms → Bool → Option (List ℕ) → Option (List ℕ) → Option (List ℕ) → Option (List ℕ) → ℕ
    → ToldState → Noted → ToldState → Noted → Type 0
AnswersNextAlike terms true text left before after number old kept new keeps =
    (line : List ℕ) × (reply : List ℕ) × Comes true text left line
    × DoesAlikeIf terms old kept number (asked_in line) reply new keeps × Appends before after reply
AnswersNextAlike terms false text left before after number old kept new keeps =
    Comes false text left [] × (new ≡ old) × (keeps ≡ kept) × Keeps before after

-- The next line isn't answered whole. If a file fails, the line is executed, and nothing of its reply is written.
abbrev pub FailsNextAlike : Terms → EndlessError → Option (List ℕ) → Option (List ℕ) → Option (List ℕ)
    → Option (List ℕ) → ℕ → ToldState → Noted → ToldState → Noted → Type 0
FailsNextAlike terms (failure.Session Read) text left before after number old kept new keeps =
    TakesPart text left × Keeps before after × (new ≡ old) × (keeps ≡ kept)
FailsNextAlike terms (failure.Session Write) text left before after number old kept new keeps =
    (line : List ℕ) × (reply : List ℕ) × (front : List ℕ) × Comes true text left line
    × DoesAlikeIf terms old kept number (asked_in line) reply new keeps × IsFront front reply
    × Appends before after front
FailsNextAlike terms (failure.Session Memory) text left before after number old kept new keeps = ⊥
FailsNextAlike terms (failure.Tap tap) text left before after number old kept new keeps =
    (line : List ℕ) × (reply : List ℕ) × Comes true text left line
    × DoesAlikeIf terms old kept number (asked_in line) reply new keeps × Keeps before after

-- ---- a file fails

-- the header of a capture can't be written, so that nothing is taken or answered
abbrev pub EndsUnopened : List ℕ → List ℕ → Option (List ℕ) → Option (List ℕ) → SessionState → SessionState → Type 0
EndsUnopened text left before after old new = (left ≡ text) × Keeps before after × (new ≡ old)

-- The lines are answered, and then one more line is executed. Nothing of its reply is written.
abbrev pub EndsUnanswered : Terms → List ℕ → List ℕ → Option (List ℕ) → Option (List ℕ) → SessionState → SessionState
    → Type 0
EndsUnanswered terms text left before after old new =
    (lines : List (List ℕ)) × (line : List ℕ) × (replies : List ℕ) × (reply : List ℕ) × (between : SessionState)
    × (text ≡ flat_map with_feed (lines ++ line ∷ []) ++ left) × AreLines (lines ++ line ∷ [])
    × Serves terms old 1 lines replies between × Does terms between (1 + length lines) line reply new
    × Appends before after (greeting ++ replies)

-- the effect of a session on a text, of which this is left, when a file fails
abbrev pub EndsByFile : Terms → Option (List ℕ) → Option (List ℕ) → Option (List ℕ) → Option (List ℕ) → SessionState
    → SessionState → Type 0
EndsByFile terms None left before after old new = ⊤
EndsByFile terms (Some text) None before after old new = ⊥
EndsByFile terms (Some text) (Some left) before after old new =
    EndsUnopened text left before after old new ⊎ EndsUnanswered terms text left before after old new

-- ---- any failure

-- the effect of a session on a text, when the session ends with the error
abbrev pub EndsBefore : Terms → EndlessError → Option (List ℕ) → Option (List ℕ) → Option (List ℕ) → Option (List ℕ)
    → SessionState → SessionState → Type 0
EndsBefore terms (failure.Session error) text left before after old new =
    EndsEarly (Does terms) (Serves terms) error text left before after old new
EndsBefore terms (failure.Tap tap) text left before after old new = EndsByFile terms text left before after old new

-- All lines are answered as in a session that ends with its input, and then the last line of a trace can't be written.
abbrev pub EndsAnswered : Terms → EndlessError → Option (List ℕ) → Option (List ℕ) → Option (List ℕ) → SessionState
    → SessionState → Type 0
EndsAnswered terms (failure.Session error) text before after old new = ⊥
EndsAnswered terms (failure.Tap tap) text before after old new = Served terms text before after old new

-- a session from an opening world to another world, with anything noted there, that ends with the error
abbrev pub EndsEndless : Terms → EndlessError → Option (List ℕ) → Option (List ℕ) → Option (List ℕ)
    → Option (List ℕ) → WorldState → WorldState → Type 0
EndsEndless terms error text left before after old new =
    (kept : Noted) × (EndsBefore terms error text left before after (opening old) (state_of new kept)
    ⊎ EndsAnswered terms error text before after (opening old) (state_of new kept))

-- the file that failed: none if the session ended with its input or by a stream
abbrev pub FailedBy : {A : Type 0} → Result A EndlessError → Option Tap → Option Tap → Type 0
FailedBy (Ok done) before after = after ≡ None
FailedBy (Err (failure.Session Read)) before after = after ≡ None
FailedBy (Err (failure.Session Write)) before after = after ≡ None
FailedBy (Err (failure.Session Memory)) before after = after ≡ before
FailedBy (Err (failure.Tap tap)) before after = after ≡ Some tap

-- ---- the errors of parts of a session

-- a line that was read isn't answered whole
abbrev pub IsOfLine : EndlessError → Type 0
IsOfLine (failure.Session Read) = ⊥
IsOfLine (failure.Session Write) = ⊤
IsOfLine (failure.Session Memory) = ⊥
IsOfLine (failure.Tap tap) = ⊤

-- nothing is written if a file failed
abbrev pub KeepsUnlessSent : {A : Type 0} → Result A EndlessError → Option (List ℕ) → Option (List ℕ) → Type 0
KeepsUnlessSent (Ok done) before after = ⊤
KeepsUnlessSent (Err (failure.Session error)) before after = ⊤
KeepsUnlessSent (Err (failure.Tap tap)) before after = Keeps before after

-- the allocations of the session have succeeded
abbrev pub IsAfterMemory : EndlessError → Type 0
IsAfterMemory (failure.Session Read) = ⊤
IsAfterMemory (failure.Session Write) = ⊤
IsAfterMemory (failure.Session Memory) = ⊥
IsAfterMemory (failure.Tap tap) = ⊤

-- ---- a failed allocation

-- The header of a capture is written unless an allocation failed. Traces aren't ended if a stream fails.
abbrev pub TellsUnless : EndlessError → TapsState → TapsState → WorldState → WorldState → Type 0
TellsUnless (failure.Session Read) old new w v = Tells old new w v
TellsUnless (failure.Session Write) old new w v = Tells old new w v
TellsUnless (failure.Session Memory) old new w v = new ≡ old
TellsUnless (failure.Tap tap) old new w v = TellsWhole old new w v

-- if an allocation fails, nothing was taken or written, and the data are unchanged
abbrev pub IsUntouched : {A : Type 0} → Result A EndlessError → Option (List ℕ) → Option (List ℕ) → Option (List ℕ)
    → Option (List ℕ) → ToldState → ToldState → Type 0
IsUntouched (Ok done) text left before after old new = ⊤
IsUntouched (Err (failure.Session Read)) text left before after old new = ⊤
IsUntouched (Err (failure.Session Write)) text left before after old new = ⊤
IsUntouched (Err (failure.Session Memory)) text left before after old new =
    Keeps text left × Keeps before after × (new ≡ old)
IsUntouched (Err (failure.Tap tap)) text left before after old new = ⊤
