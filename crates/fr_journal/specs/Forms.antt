-- The forms of an entry: with its own bytes, with borrowed bytes, and with bytes in a pool.
use Rattle.std.specs.Prelude.{ℕ, List}
use Rattle.std.specs.Borrow.{Bor}
use Rattle.fr_journal.specs.declared.entry.Entry.{Entry as EntryOf}
use Rattle.fr_journal.specs.declared.entry.Entry.TheVariants.{Commit, Withdraw, Read, Pop, Fetch, Observe}
use Rattle.fr_journal.specs.declared.short.Marked.{Marked}
use Rattle.fr_journal.specs.declared.short.Stretch.{Stretch}
use Rattle.fr_status.specs.declared.seen.Seen.{Seen as SeenOf}
use Rattle.fr_status.specs.Forms.{Seen, LentSeen}

abbrev pub Entry : Type 0
Entry = EntryOf (List ℕ) Seen ℕ

abbrev pub LentEntry : Type 0
LentEntry = EntryOf (Bor (List ℕ)) LentSeen ℕ

abbrev pub ShortSeen : Type 0
ShortSeen = SeenOf Stretch

abbrev pub ShortEntry : Type 0
ShortEntry = EntryOf Stretch ShortSeen Marked

-- the same entry with its parts in other forms
abbrev pub with_parts : {P Q S T V W : Type 0} → (P → Q) → (S → T) → (V → W) → EntryOf P S V → EntryOf Q T W
with_parts p s w (Commit task buffer payload) = Commit task buffer (p payload)
with_parts p s w (Withdraw task buffer of) = Withdraw task buffer of
with_parts p s w (Read task buffer from) = Read task buffer from
with_parts p s w (Pop task from) = Pop task from
with_parts p s w (Fetch window a b) = Fetch window a b
with_parts p s w (Observe window a b) = Observe (w window) (s a) (s b)
