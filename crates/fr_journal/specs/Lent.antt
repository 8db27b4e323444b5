-- Entries that borrow their bytes.
use Rattle.fr_frame.specs.Payload.{IsPayload}
use Rattle.fr_journal.specs.declared.entry.Entry.TheVariants.{Commit, Withdraw, Read, Pop, Fetch, Observe}
use Rattle.fr_journal.specs.Forms.{Entry, LentEntry, with_parts}
use Rattle.fr_status.specs.Forms.{whole_seen}

-- the same entry with its own bytes
abbrev pub whole : LentEntry → Entry
whole entry = with_parts (λ payload. payload.now) whole_seen (λ number. number) entry

-- a commit's bytes are a payload
abbrev pub HasPayload : LentEntry → Type 0
HasPayload (Commit task buffer payload) = IsPayload payload.now
HasPayload (Withdraw task buffer of) = Unit {0}
HasPayload (Read task buffer from) = Unit {0}
HasPayload (Pop task from) = Unit {0}
HasPayload (Fetch window a b) = Unit {0}
HasPayload (Observe number a b) = Unit {0}
