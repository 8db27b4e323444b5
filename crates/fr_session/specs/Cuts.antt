-- Sessions that a stream cuts short, and what the writer has got by then.
use Rattle.std.specs.Prelude.{◌≡◌, ℕ, ◌+◌, List, [], ◌∷◌, ◌++◌, length, Option, Some, None, ◌⊎◌, true}
use Rattle.std.specs.Prelude.{Result, Ok, Err}
use Rattle.std.specs.List.{flat_map}
use Rattle.std.specs.Io.KnownBytes.{Appends, Keeps}
use Rattle.fr_core.specs.Worlds.{WorldState}
use Rattle.fr_session.specs.declared.noted.Noted.{Noted}
use Rattle.fr_session.specs.declared.error.SessionError.{SessionError}
use Rattle.fr_session.specs.declared.error.SessionError.TheVariants.{Read, Write, Memory}
use Rattle.fr_session.specs.Lines.{AreLines, Comes, IsLine, TakesPart, with_feed}
use Rattle.fr_session.specs.Replies.{greeting}
use Rattle.fr_session.specs.Sessions.{Does, Serves, SessionState, opening, state_of, terms_with}

-- ---- a text that is written in part

-- the text begins with this front
abbrev pub IsFront : List ℕ → List ℕ → Type 0
IsFront front text = (rest : List ℕ) × (text ≡ front ++ rest)

-- the writer gets the text, or a front of it if it fails
abbrev pub Hands : {W A E : Type 0} → (W → Option (List ℕ)) → W → W → Result A E → List ℕ → Type 0
Hands contents old new (Ok done) text = Appends (contents old) (contents new) text
Hands contents old new (Err error) text =
    (front : List ℕ) × IsFront front text × Appends (contents old) (contents new) front

-- the writer gets such a reply, or a front of it if it fails
abbrev pub Sends : {W A E : Type 0} → (W → Option (List ℕ)) → W → W → Result A E → (List ℕ → Type 0) → Type 0
Sends contents old new result IsReply = (reply : List ℕ) × IsReply reply × Hands contents old new result reply

-- ---- the end of a session, where one line does this, and lines do that one after another

module _ (DoesLine : SessionState → ℕ → List ℕ → List ℕ → SessionState → Type 0)
    (DoesLines : SessionState → ℕ → List (List ℕ) → List ℕ → SessionState → Type 0) where
  -- Each whole line that was taken is answered, and nothing more is written. Bytes of one more line may be taken.
  abbrev pub EndsReading : List ℕ → List ℕ → Option (List ℕ) → Option (List ℕ) → SessionState → SessionState → Type 0
  EndsReading text left before after old new =
      (lines : List (List ℕ)) × (part : List ℕ) × (replies : List ℕ)
      × (text ≡ flat_map with_feed lines ++ (part ++ left)) × AreLines lines × IsLine part
      × DoesLines old 1 lines replies new × Appends before after (greeting ++ replies)

  -- nothing is taken, and a front of the first line is written
  abbrev pub EndsGreeting : List ℕ → List ℕ → Option (List ℕ) → Option (List ℕ) → SessionState → SessionState → Type 0
  EndsGreeting text left before after old new =
      (front : List ℕ) × IsFront front greeting × Appends before after front × (left ≡ text) × (new ≡ old)

  -- The lines are answered, and then one more line is executed. A front of its reply is written.
  abbrev pub EndsWriting : List ℕ → List ℕ → Option (List ℕ) → Option (List ℕ) → SessionState → SessionState → Type 0
  EndsWriting text left before after old new =
      (lines : List (List ℕ)) × (line : List ℕ) × (replies : List ℕ) × (reply : List ℕ) × (front : List ℕ)
      × (between : SessionState)
      × (text ≡ flat_map with_feed (lines ++ line ∷ []) ++ left) × AreLines (lines ++ line ∷ [])
      × DoesLines old 1 lines replies between × DoesLine between (1 + length lines) line reply new
      × IsFront front reply × Appends before after (greeting ++ replies ++ front)

  abbrev pub EndsBy : SessionError → List ℕ → List ℕ → Option (List ℕ) → Option (List ℕ) → SessionState
      → SessionState → Type 0
  EndsBy Read text left before after old new = EndsReading text left before after old new
  EndsBy Write text left before after old new =
      EndsGreeting text left before after old new ⊎ EndsWriting text left before after old new
  EndsBy Memory text left before after old new = (left ≡ text) × Keeps before after × (new ≡ old)

  -- the effect of a session on a known text, of which this is left, when the session ends with the error
  abbrev pub EndsEarly : SessionError → Option (List ℕ) → Option (List ℕ) → Option (List ℕ) → Option (List ℕ)
      → SessionState → SessionState → Type 0
  EndsEarly error None left before after old new = Unit {0}
  EndsEarly error (Some text) None before after old new = ⊥
  EndsEarly error (Some text) (Some left) before after old new = EndsBy error text left before after old new

  -- the next line isn't answered whole
  abbrev pub FailsNext : SessionError → Option (List ℕ) → Option (List ℕ) → Option (List ℕ) → Option (List ℕ) → ℕ
      → SessionState → SessionState → Type 0
  FailsNext Read text left before after number old new =
      TakesPart text left × Keeps before after × (new ≡ old)
  FailsNext Write text left before after number old new =
      (line : List ℕ) × (reply : List ℕ) × (front : List ℕ) × Comes true text left line
      × DoesLine old number line reply new × IsFront front reply × Appends before after front
  FailsNext Memory text left before after number old new = ⊥

-- a session from an opening world to another world, with anything noted there
abbrev pub EndsWorld : SessionError → Option (List ℕ) → Option (List ℕ) → Option (List ℕ) → Option (List ℕ)
    → WorldState → WorldState → Type 0
EndsWorld error text left before after old new =
    (noted : Noted) × EndsEarly (Does (terms_with old)) (Serves (terms_with old)) error text left before after
    (opening old) (state_of new noted)
