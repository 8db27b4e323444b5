-- The line at which a text is refused, and the state after the lines before it (project-defined).
use Rattle.std.specs.Prelude.{◌≡◌, ℕ, ◌+◌, Bool, true, false, List, [], ◌∷◌, ◌++◌, Option, Some, None, Err, IfSome}
use Rattle.std.specs.Prelude.{count_by}
use Rattle.fr_interface.specs.State.{State}
use Rattle.fr_journal.specs.Forms.{Entry}
use Rattle.fr_journal.specs.declared.entry.Entry.TheVariants as entry
use Rattle.fr_text.specs.Plain.{has_no_feed}
use Rattle.fr_trace.specs.Audit.{HasNoFault}
use Rattle.fr_trace.specs.declared.error.TraceError.{TraceError}
use Rattle.fr_trace.specs.Feeds.{held}
use Rattle.fr_trace.specs.Refusals.{feed_count, line_of_error}
use Rattle.fr_trace.specs.Stream.{Phase, magic, params, node, lines, body, finished, Progress, reading, failed}
use Rattle.fr_trace.specs.Stream.{fresh, take_bytes, outcome_of}

-- ---- the line

-- The fault shows in this line after `front`; `rest` is the rest of the text. It shows at the line feed of the line, or
-- at the end of the text if the line has none.
abbrev pub ShowsIn : TraceError → List ℕ → List ℕ → List ℕ → Type 0
ShowsIn e front line [] = outcome_of (take_bytes fresh (front ++ line)) ≡ Err e
ShowsIn e front line (b ∷ rest) = (b ≡ 10) × (take_bytes fresh (front ++ (line ++ b ∷ [])) ≡ failed e)

-- The audit of the text returns this error, and this is the line at fault. Before it stand whole lines without a fault,
-- and the fault shows in it. `line` has no line feed, and `rest` comes after it.
pub record IsAtFault (e : TraceError) (text front line rest : List ℕ) : Type 0 where
  pub parts : text ≡ front ++ (line ++ rest)
  -- the audit's answer
  pub refused : outcome_of (take_bytes fresh text) ≡ Err e
  -- the lines before
  pub before : HasNoFault front
  pub whole : held (take_bytes fresh front) ≡ []
  -- the line
  pub plain : has_no_feed line ≡ true
  pub shows : ShowsIn e front line rest
  -- if the error names a line, it is this one, by the line feeds before it
  pub named : IfSome (line_of_error e) (λ n. n ≡ feed_count front + 1)

-- ---- the state before the line

-- the state of the interface, once its plan is complete
abbrev pub state_in : Phase → Option State
state_in magic = None
state_in (params v) = None
state_in (node v p) = None
state_in (lines v p plan) = None
state_in (body v s) = Some s
state_in (finished v s) = Some s

abbrev pub state_at : Progress → Option State
state_at (reading p line) = state_in p
state_at (failed e) = None

-- ---- windows

abbrev pub is_fetch : Entry → Bool
is_fetch (entry.Commit task buffer payload) = false
is_fetch (entry.Withdraw task buffer of) = false
is_fetch (entry.Read task buffer from) = false
is_fetch (entry.Pop task from) = false
is_fetch (entry.Fetch window a b) = true
is_fetch (entry.Observe window a b) = false

-- the number of windows that were fetched
abbrev pub window_count : List Entry → ℕ
window_count entries = count_by is_fetch entries

abbrev pub windows_of : Option State → ℕ
windows_of None = 0
windows_of (Some s) = window_count s.entries
