-- The entry that consists of a bare entry and the bytes beside it.
use Rattle.std.specs.Prelude.{ℕ}
use Rattle.fr_journal.specs.declared.entry.Entry.{Entry as EntryOf}
use Rattle.fr_journal.specs.declared.entry.Entry.TheVariants.{Commit, Withdraw, Read, Pop, Fetch, Observe}
use Rattle.fr_journal.specs.Forms.{Entry}
use Rattle.fr_lines.specs.declared.bare.EntryBytes.{EntryBytes}

abbrev pub BareEntry : Type 0
BareEntry = EntryOf (Unit {0}) (Unit {0}) ℕ

abbrev pub with_bytes : EntryBytes → BareEntry → Entry
with_bytes bytes (Commit task buffer payload) = Commit task buffer bytes.payload
with_bytes bytes (Withdraw task buffer of) = Withdraw task buffer of
with_bytes bytes (Read task buffer from) = Read task buffer from
with_bytes bytes (Pop task from) = Pop task from
with_bytes bytes (Fetch window a b) = Fetch window a b
with_bytes bytes (Observe window a b) = Observe window bytes.a bytes.b
