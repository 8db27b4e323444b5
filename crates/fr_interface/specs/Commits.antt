-- The commits of an interface, and their fates (project-defined).
use Rattle.std.specs.Prelude.{◌≡◌, ℕ, ◌+◌, Bool, true, false, length, count_by}
use Rattle.std.specs.List.{sum_by, range_with_len}
use Rattle.fr_interface.specs.State.{State}
use Rattle.fr_journal.specs.Forms.{Entry}
use Rattle.fr_journal.specs.declared.entry.Entry.TheVariants.{Commit, Withdraw, Read, Pop, Fetch, Observe}
use Rattle.fr_journal.specs.Fate.{tally_of}

abbrev pub is_commit : Entry → Bool
is_commit (Commit task buffer payload) = true
is_commit (Withdraw task buffer of) = false
is_commit (Read task buffer from) = false
is_commit (Pop task from) = false
is_commit (Fetch window a b) = false
is_commit (Observe window a b) = false

-- the number of commits of the interface
abbrev pub commits_of : State → ℕ
commits_of s = count_by is_commit s.entries

-- the number of commits on the buffer that are sent, overwritten, pending or withdrawn
abbrev pub met_on : State → ℕ → ℕ
met_on s buffer =
    (tally_of buffer s.entries).sent
    + (tally_of buffer s.entries).overwritten
    + (tally_of buffer s.entries).pending
    + (tally_of buffer s.entries).withdrawn

-- the same for all buffers of the plan
abbrev pub met_of : State → ℕ
met_of s = sum_by (met_on s) (range_with_len 0 (length s.plan.buffers))

-- each commit of the interface is sent, overwritten, withdrawn or pending, on one of its buffers
abbrev pub AreAccounted : State → Type 0
AreAccounted s = commits_of s ≡ met_of s
