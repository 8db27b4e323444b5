-- The effect of one entry on a commit that was pending before it, as the code goes along a journal. The proofs show
-- that the first entry with an effect decides.
use Rattle.std.specs.Prelude.{ℕ, Bool, true, false, if◌then◌else◌}
use Rattle.fr_journal.specs.Forms.{Entry}
use Rattle.fr_journal.specs.Fate.{is_commit_on, sends, takes_back}
use Rattle.fr_showing.specs.declared.fates.Became.{Became}
use Rattle.fr_showing.specs.declared.fates.Became.TheVariants.{Sent, Withdrawn, Overwritten, Pending}

abbrev pub became_with : ℕ → ℕ → ℕ → ℕ → Entry → Became
became_with buffer commit cycle number e =
    if sends commit e then Sent
    else if takes_back commit e then Withdrawn cycle number
    else if is_commit_on buffer e then Overwritten cycle number
    else Pending

abbrev pub is_pending : Became → Bool
is_pending Sent = false
is_pending (Withdrawn cycle entry) = false
is_pending (Overwritten cycle entry) = false
is_pending Pending = true
