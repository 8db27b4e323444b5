-- What happens to the commits of a journal, which the log spells, and from which the fates and the sendings of the view
-- of all commits after a run follow (project-defined).
use Rattle.std.specs.Prelude.{◌≡◌, ℕ, ◌+◌, ◌==◌, true, List, [], ◌∷◌, ◌++◌, codes, length, slice_get, take, drop}
use Rattle.std.specs.Prelude.{Option}
use Rattle.std.specs.Prelude.{Some, None, if◌then◌else◌, IsSomeAnd}
use Rattle.std.specs.List.{flat_map}
use Rattle.fr_journal.specs.Cycles.{run_cycle}
use Rattle.fr_core.specs.Worlds.{WorldState}
use Rattle.fr_interface.specs.State.{State, IsLegalInterface}
use Rattle.fr_journal.specs.declared.entry.Entry.TheVariants.{Commit, Withdraw, Read, Pop, Fetch, Observe}
use Rattle.fr_journal.specs.declared.entry.Offered.{Offered}
use Rattle.fr_journal.specs.declared.entry.Offered.TheVariants.{Nothing, Null, Data}
use Rattle.fr_journal.specs.Fate.{is_commit_on, pending_commit}
use Rattle.fr_journal.specs.Forms.{Entry}
use Rattle.fr_showing.specs.CommitText.{entries_at, recorded_of, Committed}
use Rattle.fr_showing.specs.declared.fates.Became.{Became}
use Rattle.fr_showing.specs.declared.fates.Became.TheVariants as became
use Rattle.fr_showing.specs.declared.fates.Sending.{Sending}
use Rattle.fr_showing.specs.Fates.{became, sendings}
use Rattle.fr_journal.specs.Cycles.{cycles_of}
use Rattle.fr_slots.specs.declared.channel.Channel.TheVariants.{A, B}
use Rattle.fr_slots.specs.History.{each_after}
use Rattle.fr_streaming.specs.CommitLog.{commit_after, commit_text, ended_text, if_sealed, node_lines, sending}
use Rattle.fr_streaming.specs.CommitLog.{sent_line}

-- ---- what happens

-- A commit is made. A pending commit is overwritten or withdrawn, in a cycle of the run and by an entry. A commit is
-- handed to the bus.
pub data Happening : Type 0 where
  makes : Committed → Happening
  overwrites : ℕ → ℕ → ℕ → Happening
  withdraws : ℕ → ℕ → ℕ → Happening
  hands : ℕ → Sending → Happening

abbrev pub ended_by : (ℕ → ℕ → ℕ → Happening) → Option ℕ → ℕ → ℕ → List Happening
ended_by ends None cycle entry = []
ended_by ends (Some of) cycle entry = ends of cycle entry ∷ []

abbrev pub handed_by : Offered → Sending → List Happening
handed_by Nothing s = []
handed_by Null s = []
handed_by (Data commit) s = hands commit s ∷ []

-- what an entry of a node's journal does, by those before it
abbrev pub happenings_by : ℕ → List Entry → Entry → List Happening
happenings_by node before (Commit task buffer payload) =
    ended_by overwrites (pending_commit buffer before) (cycles_of before) (length before)
    ++ makes (commit_after node before buffer task payload) ∷ []
happenings_by node before (Withdraw task buffer of) = ended_by withdraws of (cycles_of before) (length before)
happenings_by node before (Read task buffer from) = []
happenings_by node before (Pop task from) = []
happenings_by node before (Fetch window a b) =
    handed_by a (sending (run_cycle (before ++ Fetch window a b ∷ [])) window A)
    ++ handed_by b (sending (run_cycle (before ++ Fetch window a b ∷ [])) window B)
happenings_by node before (Observe window a b) = []

-- what happens in a journal, in its order, and what happens after a commit
abbrev pub happenings : ℕ → List Entry → List Happening
happenings node entries = each_after (happenings_by node) [] entries

abbrev pub happenings_after : ℕ → List Entry → ℕ → List Happening
happenings_after node entries commit =
    each_after (happenings_by node) (take (commit + 1) entries) (drop (commit + 1) entries)

-- ---- the lines

-- As long as its window isn't sealed, a sending has no line.
abbrev pub lines_of : WorldState → ℕ → Happening → List (List ℕ)
lines_of w node (makes c) = commit_text c ∷ []
lines_of w node (overwrites of cycle entry) = ended_text (codes "overwritten") node of cycle entry ∷ []
lines_of w node (withdraws of cycle entry) = ended_text (codes "withdrawn") node of cycle entry ∷ []
lines_of w node (hands commit s) = if_sealed (recorded_of w s) (sent_line w node commit s)

-- The log spells what happens to the commits of each node.
abbrev pub LogIsSpelled : Type 0
LogIsSpelled = (w : WorldState) (n : ℕ)
    → node_lines w n ≡ flat_map (lines_of w n) (happenings n (entries_at w n))

-- ---- a commit

-- the first thing that happens to the commit, or none
abbrev pub fate_among : ℕ → List Happening → Became
fate_among commit [] = became.Pending
fate_among commit (makes c ∷ later) = fate_among commit later
fate_among commit (overwrites of cycle entry ∷ later) =
    if of == commit then became.Overwritten cycle entry else fate_among commit later
fate_among commit (withdraws of cycle entry ∷ later) =
    if of == commit then became.Withdrawn cycle entry else fate_among commit later
fate_among commit (hands of s ∷ later) = if of == commit then became.Sent else fate_among commit later

abbrev pub sending_of : ℕ → Happening → List Sending
sending_of commit (makes c) = []
sending_of commit (overwrites of cycle entry) = []
sending_of commit (withdraws of cycle entry) = []
sending_of commit (hands of s) = if of == commit then s ∷ [] else []

-- What happens to a commit decides its fate and its sendings, as the view of all commits after a run has them.
abbrev pub LogHasFates : Type 0
LogHasFates = (s : State) (node buffer commit : ℕ) → IsLegalInterface s
    → IsSomeAnd (slice_get s.entries commit) (λ e. is_commit_on buffer e ≡ true)
    → became buffer s.entries commit ≡ fate_among commit (happenings_after node s.entries commit)

abbrev pub LogHasSendings : Type 0
LogHasSendings = (node commit : ℕ) (entries : List Entry)
    → sendings entries commit ≡ flat_map (sending_of commit) (happenings_after node entries commit)
