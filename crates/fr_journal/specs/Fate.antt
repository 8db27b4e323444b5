-- The fate of each commit, and the tally of a buffer (project-defined).
use Rattle.std.specs.Prelude.{ℕ, ◌+◌, ◌==◌, Bool, true, false, ◌||◌, List, [], ◌∷◌, ◌++◌, length, drop, Option, Some}
use Rattle.std.specs.Prelude.{None, if◌then◌else◌, count_by}
use Rattle.std.specs.List.{list_any}
use Rattle.std.specs.Option.{option_and_then}
use Rattle.fr_journal.specs.Forms.{Entry}
use Rattle.fr_journal.specs.declared.entry.Entry.TheVariants.{Commit, Withdraw, Read, Pop, Fetch, Observe}
use Rattle.fr_journal.specs.declared.entry.Offered.{Offered}
use Rattle.fr_journal.specs.declared.entry.Offered.TheVariants.{Nothing, Null, Data}
use Rattle.fr_journal.specs.declared.fate.Fate.{Fate}
use Rattle.fr_journal.specs.declared.fate.Fate.TheVariants.{Sent, Withdrawn, Overwritten, Pending}
use Rattle.fr_journal.specs.declared.fate.Tally.{Tally}
use Rattle.fr_slots.specs.History.{last_after}

-- ---- commits

abbrev pub is_commit_on : ℕ → Entry → Bool
is_commit_on buffer (Commit task b payload) = b == buffer
is_commit_on buffer (Withdraw task b of) = false
is_commit_on buffer (Read task b from) = false
is_commit_on buffer (Pop task from) = false
is_commit_on buffer (Fetch window a b) = false
is_commit_on buffer (Observe window a b) = false

-- the number, if this entry is a commit on the buffer
abbrev pub commit_at : ℕ → ℕ → Entry → Option ℕ
commit_at buffer number e = if is_commit_on buffer e then Some number else None

abbrev pub commit_on : ℕ → List Entry → Entry → Option ℕ
commit_on buffer before e = commit_at buffer (length before) e

-- the number of the last commit on a buffer
abbrev pub last_commit : ℕ → List Entry → Option ℕ
last_commit buffer entries = last_after (commit_on buffer) [] entries

-- ---- the fate of a commit, by the entries after it

abbrev pub is_data_of : ℕ → Offered → Bool
is_data_of commit Nothing = false
is_data_of commit Null = false
is_data_of commit (Data entry) = entry == commit

-- a fetch that hands this commit to the bus, on one channel or on both
abbrev pub sends : ℕ → Entry → Bool
sends commit (Commit task buffer payload) = false
sends commit (Withdraw task buffer of) = false
sends commit (Read task buffer from) = false
sends commit (Pop task from) = false
sends commit (Fetch window a b) = is_data_of commit a || is_data_of commit b
sends commit (Observe window a b) = false

abbrev pub is_number : ℕ → Option ℕ → Bool
is_number commit None = false
is_number commit (Some entry) = entry == commit

-- a withdraw that found this commit pending
abbrev pub takes_back : ℕ → Entry → Bool
takes_back commit (Commit task buffer payload) = false
takes_back commit (Withdraw task buffer of) = is_number commit of
takes_back commit (Read task buffer from) = false
takes_back commit (Pop task from) = false
takes_back commit (Fetch window a b) = false
takes_back commit (Observe window a b) = false

-- The fate of a commit, by the later entries. The first case that holds counts: a fetch hands the commit to the bus
-- (sent); a withdraw removes it (withdrawn); there is another commit on its buffer (overwritten). Otherwise the commit
-- is pending.
abbrev pub fate_of : ℕ → ℕ → List Entry → Fate
fate_of buffer commit later =
    if list_any (sends commit) later then Sent
    else if list_any (takes_back commit) later then Withdrawn
    else if list_any (is_commit_on buffer) later then Overwritten
    else Pending

-- The fate of each commit on a buffer, in the order of the commits. The first entry has this number.
unfoldable pub fates_from : ℕ → ℕ → List Entry → List Fate
fates_from buffer number [] = []
fates_from buffer number (e ∷ later) =
    (if is_commit_on buffer e then fate_of buffer number later ∷ [] else []) ++ fates_from buffer (number + 1) later

abbrev pub fates : ℕ → List Entry → List Fate
fates buffer entries = fates_from buffer 0 entries

abbrev pub is_sent : Fate → Bool
is_sent Sent = true
is_sent Withdrawn = false
is_sent Overwritten = false
is_sent Pending = false

abbrev pub is_withdrawn : Fate → Bool
is_withdrawn Sent = false
is_withdrawn Withdrawn = true
is_withdrawn Overwritten = false
is_withdrawn Pending = false

abbrev pub is_overwritten : Fate → Bool
is_overwritten Sent = false
is_overwritten Withdrawn = false
is_overwritten Overwritten = true
is_overwritten Pending = false

abbrev pub is_pending : Fate → Bool
is_pending Sent = false
is_pending Withdrawn = false
is_pending Overwritten = false
is_pending Pending = true

-- the number of commits on a buffer with each fate
abbrev pub tally_of : ℕ → List Entry → Tally
tally_of buffer entries = record {
  committed = length (fates buffer entries);
  sent = count_by is_sent (fates buffer entries);
  overwritten = count_by is_overwritten (fates buffer entries);
  pending = count_by is_pending (fates buffer entries);
  withdrawn = count_by is_withdrawn (fates buffer entries);
}

-- ---- the last commit, if it is pending

abbrev pub if_pending : ℕ → List Entry → ℕ → Option ℕ
if_pending buffer entries commit = if is_pending (fate_of buffer commit (drop (commit + 1) entries)) then Some commit
    else None

abbrev pub pending_commit : ℕ → List Entry → Option ℕ
pending_commit buffer entries = option_and_then (if_pending buffer entries) (last_commit buffer entries)

-- ---- the commit that a buffer holds

abbrev pub unless_withdrawn : ℕ → List Entry → ℕ → Option ℕ
unless_withdrawn buffer entries commit = if is_withdrawn (fate_of buffer commit (drop (commit + 1) entries)) then None
    else Some commit

-- The commit that a transmit buffer holds: the last one, sent or not, unless it is withdrawn. Then the buffer is empty,
-- and no earlier commit comes back.
abbrev pub held_commit : ℕ → List Entry → Option ℕ
held_commit buffer entries = option_and_then (unless_withdrawn buffer entries) (last_commit buffer entries)
