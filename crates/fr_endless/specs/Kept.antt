-- The lines of the record that a session keeps for the windows that were sealed last (project-defined).
use Rattle.std.specs.Prelude.{◌≡◌, ◌≤◌, ℕ, ◌+◌, ◌%◌, nat_le, max, Bool, true, false, List, [], ◌∷◌, length, codes}
use Rattle.std.specs.Prelude.{Option, Some, None, replicate, slice_get, slice_index_or, slice_set}
use Rattle.fr_bus.specs.Record.{Recorded}
use Rattle.fr_endless.specs.Answers.{if_numbered, windows_by}
use Rattle.fr_lines.specs.Spelling.{line_text}
use Rattle.fr_session.specs.Queries.{IsBlock, IsRecordOf, memory_text, sealed_text}

-- ---- the texts

-- the lines of the window, unless an allocation failed
abbrev pub IsTextOf : Option (List ℕ) → Recorded → Type 0
IsTextOf None r = Unit {0}
IsTextOf (Some text) r = text ≡ sealed_text r

-- the text of the window of this number, at its place
abbrev pub text_at : List (Option (List ℕ)) → ℕ → Option (List ℕ)
text_at kept number = slice_index_or kept (number % length kept) None

-- the texts are those of the last windows, as many as there are places
abbrev pub HoldsLast : List (Option (List ℕ)) → List Recorded → Type 0
HoldsLast kept rs =
    (number : ℕ) (r : Recorded) → slice_get rs number ≡ Some r → length rs ≤ number + length kept
    → IsTextOf (text_at kept number) r

-- no text is known
abbrev pub forgotten : List (Option (List ℕ)) → List (Option (List ℕ))
forgotten kept = replicate (length kept) None

-- the text of one more window takes the place of an older one
abbrev pub KeepsNext : List (Option (List ℕ)) → Recorded → List (Option (List ℕ)) → Type 0
KeepsNext old r new =
    (text : Option (List ℕ)) × IsTextOf text r × (new ≡ slice_set old (r.window.number % length old) text)

abbrev pub KeepsLast : List (Option (List ℕ)) → Option Recorded → List (Option (List ℕ)) → Type 0
KeepsLast old None new = new ≡ old
KeepsLast old (Some r) new = KeepsNext old r new

-- ---- the reply to `record`

-- the window is one of the last ones, of which so many are kept; the last one always is
abbrev pub is_kept : ℕ → ℕ → ℕ → Bool
is_kept keep windows number = nat_le windows (number + max 1 keep)

abbrev pub not_kept_text : List ℕ
not_kept_text = line_text (codes "refused" ∷ codes "NotKept" ∷ [])

-- A window that is kept gets its block. One that is sealed and isn't kept gets a refusal of its own.
abbrev pub IsKeptRecord : Bool → Option Recorded → List ℕ → Type 0
IsKeptRecord kept None reply = IsRecordOf None reply
IsKeptRecord true (Some r) reply = IsRecordOf (Some r) reply
IsKeptRecord false (Some r) reply = reply ≡ not_kept_text

-- ---- the same by the data that are kept

-- the block of a text, unless an allocation fails or failed
abbrev pub IsTextReply : Option (List ℕ) → List ℕ → Type 0
IsTextReply None reply = reply ≡ memory_text
IsTextReply (Some text) reply = IsBlock text reply

-- for a window before the last one: whether its number is past all windows, and whether it has a place
abbrev pub IsOlderBy : Bool → Bool → Option (List ℕ) → List ℕ → Type 0
IsOlderBy true placed text reply = IsRecordOf None reply
IsOlderBy false true text reply = IsTextReply text reply
IsOlderBy false false text reply = reply ≡ not_kept_text

abbrev pub IsOlder : List (Option (List ℕ)) → ℕ → ℕ → List ℕ → Type 0
IsOlder kept windows number reply =
    IsOlderBy (nat_le windows number) (nat_le windows (number + length kept)) (text_at kept number) reply

abbrev pub IsLastOr : Option Recorded → Type 0 → List ℕ → Type 0
IsLastOr None Older reply = Older
IsLastOr (Some r) Older reply = IsBlock (sealed_text r) reply

abbrev pub IsRecordBy : Option Recorded → List (Option (List ℕ)) → ℕ → List ℕ → Type 0
IsRecordBy last kept number reply =
    IsLastOr (if_numbered number last) (IsOlder kept (windows_by last) number reply) reply
