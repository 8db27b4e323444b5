-- The calls of a host: when each is refused, what an accepted one is answered, and the entry that it is.
use Rattle.std.specs.Prelude.{ℕ, length, Option}
use Rattle.fr_interface.specs.declared.call.Answer.{Answer}
use Rattle.fr_interface.specs.declared.call.Answer.TheVariants.{Committed, Withdrawn, Frame}
use Rattle.fr_interface.specs.declared.call.Call.{Call}
use Rattle.fr_interface.specs.declared.call.Call.TheVariants.{Commit, Withdraw, Read, Pop}
use Rattle.fr_interface.specs.declared.errors.HostError.{HostError}
use Rattle.fr_interface.specs.State.{State, withdraw_entry, read_entry, pop_entry, received_by, oldest_of}
use Rattle.fr_interface.specs.State.{commit_refusal, withdraw_refusal, read_refusal, pop_refusal}
use Rattle.fr_journal.specs.declared.entry.Entry.TheVariants as entries
use Rattle.fr_journal.specs.Fate.{pending_commit}
use Rattle.fr_journal.specs.Forms.{Entry}

abbrev pub call_refusal : State → ℕ → Call → Option HostError
call_refusal s task (Commit buffer payload) = commit_refusal s task buffer payload
call_refusal s task (Withdraw buffer) = withdraw_refusal s task buffer
call_refusal s task (Read buffer) = read_refusal s task buffer
call_refusal s task Pop = pop_refusal s task

abbrev pub call_answer : State → ℕ → Call → Answer
call_answer s task (Commit buffer payload) = Committed (record { task = task; entry = length s.entries })
call_answer s task (Withdraw buffer) = Withdrawn (pending_commit buffer s.entries)
call_answer s task (Read buffer) = Frame (received_by s buffer)
call_answer s task Pop = Frame (oldest_of s)

abbrev pub call_entry : State → ℕ → Call → Entry
call_entry s task (Commit buffer payload) = entries.Commit task buffer payload
call_entry s task (Withdraw buffer) = withdraw_entry s task buffer
call_entry s task (Read buffer) = read_entry s task buffer
call_entry s task Pop = pop_entry s task
