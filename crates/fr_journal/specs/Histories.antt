-- A history of entries, with the room that it has, and what notes tell of an entry.
use Rattle.std.specs.Prelude.{ℕ, ◌-◌, ◌<◌, List, Option, Some, None, count_by}
use Rattle.fr_journal.specs.declared.entry.Entry.TheVariants.{Commit, Observe}
use Rattle.fr_journal.specs.declared.history.CommitNote.{CommitNote}
use Rattle.fr_journal.specs.declared.history.ObserveNote.{ObserveNote}
use Rattle.fr_journal.specs.Entries.{is_host, is_slot}
use Rattle.fr_journal.specs.Forms.{Entry}

-- the numbers of entries of the host and of the controller for which there is room
pub record Limits : Type 0 where
  pub host : ℕ
  pub slot : ℕ

-- one more entry of the host fits, as always without limits
abbrev pub HasHostRoom : Option Limits → List Entry → Type 0
HasHostRoom None entries = Unit {0}
HasHostRoom (Some limits) entries = 0 < limits.host - count_by is_host entries

-- one more entry of the controller fits, as always without limits
abbrev pub HasSlotRoom : Option Limits → List Entry → Type 0
HasSlotRoom None entries = Unit {0}
HasSlotRoom (Some limits) entries = 0 < limits.slot - count_by is_slot entries

-- ---- notes

abbrev pub commit_told : CommitNote → Entry
commit_told note = Commit note.task note.buffer note.payload.now

abbrev pub observe_told : ObserveNote → Entry
observe_told note = Observe note.window note.a.now note.b.now
