-- Short entries, and the entries that they restore with bytes from a pool.
use Rattle.std.specs.Prelude.{◌≡◌, ℕ, ◌+◌, ◌*◌, ◌-◌, ◌%◌, ◌≤◌, List, [], ◌++◌, length, slice_range}
use Rattle.fr_frame.specs.Payload.{most_payload_bytes, most_frame_bytes}
use Rattle.fr_journal.specs.Forms.{Entry, ShortEntry, ShortSeen, with_parts}
use Rattle.fr_journal.specs.declared.entry.Entry.TheVariants.{Commit, Withdraw, Read, Pop, Fetch, Observe}
use Rattle.fr_journal.specs.declared.short.Stretch.{Stretch}
use Rattle.fr_status.specs.Forms.{Seen, with_seen_bytes}
use Rattle.fr_status.specs.declared.seen.Seen.TheVariants as seen

abbrev pub bytes_at : List ℕ → Stretch → List ℕ
bytes_at pool s = slice_range pool s.start s.end

abbrev pub restored_seen : List ℕ → ShortSeen → Seen
restored_seen pool seen = with_seen_bytes (λ s. record { items = bytes_at pool s }) seen

abbrev pub restored : List ℕ → ShortEntry → Entry
restored pool entry = with_parts (bytes_at pool) (restored_seen pool) (λ m. m.number) entry

-- ---- the bytes in the pool

abbrev pub bytes_in_seen : Seen → List ℕ
bytes_in_seen seen.Silence = []
bytes_in_seen seen.Own = []
bytes_in_seen seen.Conflict = []
bytes_in_seen seen.Noise = []
bytes_in_seen seen.Overrun = []
bytes_in_seen (seen.Bytes bytes) = bytes.items

-- the greatest number of bytes in an entry of the controller: a frame on each channel
abbrev pub most_seen_bytes : ℕ
most_seen_bytes = 2 * most_frame_bytes

-- a stretch of at most so many bytes, within a pool of this size
pub record IsStretch (size most : ℕ) (s : Stretch) : Type 0 where
  pub order : s.start ≤ s.end
  pub within : s.end ≤ size
  pub few : s.end ≤ s.start + most

abbrev pub IsShortSeen : ℕ → ShortSeen → Type 0
IsShortSeen size seen.Silence = Unit {0}
IsShortSeen size seen.Own = Unit {0}
IsShortSeen size seen.Conflict = Unit {0}
IsShortSeen size seen.Noise = Unit {0}
IsShortSeen size seen.Overrun = Unit {0}
IsShortSeen size (seen.Bytes s) = IsStretch size most_frame_bytes s

-- the stretches of the entry are within a pool of this size, and have lengths that its bytes may have
abbrev pub IsShort : ℕ → ShortEntry → Type 0
IsShort size (Commit task buffer payload) =
    IsStretch size most_payload_bytes payload × ((payload.end - payload.start) % 2 ≡ 0)
IsShort size (Withdraw task buffer of) = Unit {0}
IsShort size (Read task buffer from) = Unit {0}
IsShort size (Pop task from) = Unit {0}
IsShort size (Fetch window a b) = Unit {0}
IsShort size (Observe window a b) = IsShortSeen size a × IsShortSeen size b

-- ---- the pool with one more entry

abbrev pub bytes_in : Entry → List ℕ
bytes_in (Commit task buffer payload) = payload
bytes_in (Withdraw task buffer of) = []
bytes_in (Read task buffer from) = []
bytes_in (Pop task from) = []
bytes_in (Fetch window a b) = []
bytes_in (Observe window a b) = bytes_in_seen a ++ bytes_in_seen b

-- The entry's bytes, at most so many, are appended to the pool. The short entry restores the entry from that pool.
pub record IsShortened (before after : List ℕ) (most : ℕ) (short : ShortEntry) (entry : Entry) : Type 0 where
  pub entry_is : restored after short ≡ entry
  pub within : IsShort (length after) short
  pub pool_is : after ≡ before ++ bytes_in entry
  pub few : length (bytes_in entry) ≤ most
