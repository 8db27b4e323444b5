-- The entries of the host and of the controller, and the ranges of an entry's numbers and bytes.
use Rattle.std.specs.Prelude.{ℕ, ◌<◌, ◌≤◌, ◌^◌, Bool, true, false, not, List, length, slice_index, Option, Some, None}
use Rattle.std.specs.Prelude.{IfSome}
use Rattle.fr_frame.specs.Payload.{IsPayload, most_frame_bytes}
use Rattle.fr_journal.specs.Forms.{Entry}
use Rattle.fr_journal.specs.declared.entry.Entry.TheVariants.{Commit, Withdraw, Read, Pop, Fetch, Observe}
use Rattle.fr_journal.specs.declared.entry.Offered.{Offered}
use Rattle.fr_journal.specs.declared.entry.Offered.TheVariants as offered
use Rattle.fr_journal.specs.declared.entry.Origin.{Origin}
use Rattle.fr_slots.specs.Windows.{Opportunity, IsInRange}
use Rattle.fr_status.specs.Forms.{Seen}
use Rattle.fr_status.specs.declared.seen.Seen.TheVariants as seen

-- ---- the host's and the controller's

abbrev pub is_host : Entry → Bool
is_host (Commit task buffer payload) = true
is_host (Withdraw task buffer of) = true
is_host (Read task buffer from) = true
is_host (Pop task from) = true
is_host (Fetch window a b) = false
is_host (Observe window a b) = false

abbrev pub is_slot : Entry → Bool
is_slot e = not (is_host e)

-- ---- ranges

abbrev pub AreBytes : List ℕ → Type 0
AreBytes bytes = (place : ℕ) → slice_index bytes place < 256

abbrev pub IsOrigin : Option Origin → Type 0
IsOrigin None = Unit {0}
IsOrigin (Some origin) = origin.entry < 2 ^ 32

abbrev pub IsOffered : Offered → Type 0
IsOffered offered.Nothing = Unit {0}
IsOffered offered.Null = Unit {0}
IsOffered (offered.Data commit) = commit < 2 ^ 32

-- at most as many bytes as the longest frame has
abbrev pub IsSeen : Seen → Type 0
IsSeen seen.Silence = Unit {0}
IsSeen seen.Own = Unit {0}
IsSeen seen.Conflict = Unit {0}
IsSeen seen.Noise = Unit {0}
IsSeen seen.Overrun = Unit {0}
IsSeen (seen.Bytes bytes) = (length bytes.items ≤ most_frame_bytes) × AreBytes bytes.items

pub record IsFetched (window : Opportunity) (a b : Offered) : Type 0 where
  pub window_is : IsInRange window
  pub a_fits : IsOffered a
  pub b_fits : IsOffered b

-- the numbers and bytes of an entry are in their ranges
abbrev pub IsEntry : Entry → Type 0
IsEntry (Commit task buffer payload) = (task < 8) × (buffer < 256) × IsPayload payload × AreBytes payload
IsEntry (Withdraw task buffer of) = (task < 8) × (buffer < 256) × IfSome of (λ commit. commit < 2 ^ 32)
IsEntry (Read task buffer from) = (task < 8) × (buffer < 256) × IsOrigin from
IsEntry (Pop task from) = (task < 8) × IsOrigin from
IsEntry (Fetch window a b) = IsFetched window a b
IsEntry (Observe window a b) = (window < 2 ^ 32) × IsSeen a × IsSeen b
