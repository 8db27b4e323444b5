-- The fate of a commit, with the entry of its journal and the cycle of the run that decided it, and the windows in
-- which it was sent (project-defined).
use Rattle.std.specs.Prelude.{ℕ, ◌+◌, List, [], ◌∷◌, ◌++◌, length, take, drop, Option, Some, None, unwrap_or}
use Rattle.std.specs.Prelude.{if◌then◌else◌}
use Rattle.std.specs.Option.{option_or}
use Rattle.fr_journal.specs.Cycles.{cycles_of, run_cycle}
use Rattle.fr_journal.specs.Forms.{Entry}
use Rattle.fr_journal.specs.declared.entry.Entry.TheVariants.{Commit, Withdraw, Read, Pop, Fetch, Observe}
use Rattle.fr_journal.specs.declared.entry.Offered.{Offered}
use Rattle.fr_journal.specs.declared.fate.Fate.{Fate}
use Rattle.fr_journal.specs.declared.fate.Fate.TheVariants as fate
use Rattle.fr_journal.specs.Fate.{fate_of, is_commit_on, is_data_of, takes_back}
use Rattle.fr_showing.specs.declared.fates.Became.{Became}
use Rattle.fr_showing.specs.declared.fates.Became.TheVariants.{Sent, Withdrawn, Overwritten, Pending}
use Rattle.fr_showing.specs.declared.fates.Sending.{Sending}
use Rattle.fr_slots.specs.declared.channel.Channel.{Channel}
use Rattle.fr_slots.specs.declared.channel.Channel.TheVariants.{A, B}
use Rattle.fr_slots.specs.History.{each_after}
use Rattle.fr_slots.specs.Windows.{Opportunity}

-- ---- the fate

-- the result of the first entry that gives one
unfoldable pub first_after : (List Entry → Entry → Option Became) → List Entry → List Entry → Option Became
first_after f before [] = None
first_after f before (e ∷ later) = option_or (f before e) (first_after f (before ++ e ∷ []) later)

abbrev pub withdrawn_by : ℕ → List Entry → Entry → Option Became
withdrawn_by commit before e = if takes_back commit e then Some (Withdrawn (cycles_of before) (length before)) else None

abbrev pub overwritten_by : ℕ → List Entry → Entry → Option Became
overwritten_by buffer before e = if is_commit_on buffer e then Some (Overwritten (cycles_of before) (length before))
    else None

-- The fate of a commit. If a later entry withdrew or overwrote it, the first such entry is given.
abbrev pub told_by : Fate → Option Became → Option Became → Became
told_by fate.Sent withdrawn overwritten = Sent
told_by fate.Withdrawn withdrawn overwritten = unwrap_or withdrawn Pending
told_by fate.Overwritten withdrawn overwritten = unwrap_or overwritten Pending
told_by fate.Pending withdrawn overwritten = Pending

-- the fate of the commit of this number on the buffer, from the entries up to it and those after it
abbrev pub became_in : ℕ → ℕ → List Entry → List Entry → Became
became_in buffer commit before later =
    told_by (fate_of buffer commit later) (first_after (withdrawn_by commit) before later)
    (first_after (overwritten_by buffer) before later)

abbrev pub became : ℕ → List Entry → ℕ → Became
became buffer entries commit = became_in buffer commit (take (commit + 1) entries) (drop (commit + 1) entries)

-- ---- the windows in which it was sent

-- a cycle of the run, a window and a channel, if the commit is the offer there
abbrev pub sending_if : ℕ → ℕ → Opportunity → Channel → Offered → List Sending
sending_if commit cycle window channel o =
    if is_data_of commit o then record { cycle = cycle; window = window; channel = channel } ∷ [] else []

abbrev pub sendings_by : ℕ → List Entry → Entry → List Sending
sendings_by commit before (Commit task buffer payload) = []
sendings_by commit before (Withdraw task buffer of) = []
sendings_by commit before (Read task buffer from) = []
sendings_by commit before (Pop task from) = []
sendings_by commit before (Fetch window a b) =
    sending_if commit (run_cycle (before ++ Fetch window a b ∷ [])) window A a
    ++ sending_if commit (run_cycle (before ++ Fetch window a b ∷ [])) window B b
sendings_by commit before (Observe window a b) = []

-- all windows and channels in which a later entry hands it to the bus
abbrev pub sendings : List Entry → ℕ → List Sending
sendings entries commit = each_after (sendings_by commit) (take (commit + 1) entries) (drop (commit + 1) entries)
