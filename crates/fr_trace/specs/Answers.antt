-- An entry of a trace and the entry that its call makes are equal.
use Rattle.std.specs.Prelude.{ℕ, ◌==◌, Bool, true, false, ◌&&◌, Option, Some, None, is_some, if◌then◌else◌}
use Rattle.fr_journal.specs.Forms.{Entry}
use Rattle.fr_journal.specs.declared.entry.Entry.TheVariants.{Commit, Withdraw, Read, Pop, Fetch, Observe}
use Rattle.fr_journal.specs.declared.entry.Offered.{Offered}
use Rattle.fr_journal.specs.declared.entry.Offered.TheVariants.{Nothing, Null, Data}
use Rattle.fr_journal.specs.declared.entry.Origin.{Origin}
use Rattle.fr_interface.specs.State.{State, withdraw_entry, read_entry, pop_entry, fetch_entry, commit_refusal}
use Rattle.fr_interface.specs.State.{withdraw_refusal, read_refusal, pop_refusal, fetch_refusal, observe_refusal}
use Rattle.fr_slots.specs.declared.channel.Channel.{Channel}
use Rattle.fr_slots.specs.declared.channel.Channel.TheVariants as channel
use Rattle.fr_trace.specs.declared.error.TraceError.{TraceError}
use Rattle.fr_trace.specs.declared.error.TraceError.TheVariants.{Refused, WrongAnswer}

-- ---- answers that are equal

abbrev pub same_channel : Channel → Channel → Bool
same_channel channel.A channel.A = true
same_channel channel.A channel.B = false
same_channel channel.B channel.A = false
same_channel channel.B channel.B = true

abbrev pub same_number : Option ℕ → Option ℕ → Bool
same_number None None = true
same_number None (Some told) = false
same_number (Some made) None = false
same_number (Some made) (Some told) = made == told

abbrev pub same_origin : Option Origin → Option Origin → Bool
same_origin None None = true
same_origin None (Some told) = false
same_origin (Some made) None = false
same_origin (Some made) (Some told) = made.entry == told.entry && same_channel made.channel told.channel

abbrev pub same_offered : Offered → Offered → Bool
same_offered Nothing Nothing = true
same_offered Null Null = true
same_offered (Data made) (Data told) = made == told
same_offered made told = false

-- ---- calls

-- the interface refuses the call of an entry
abbrev pub is_refused : State → Entry → Bool
is_refused s (Commit task buffer payload) = is_some (commit_refusal s task buffer payload)
is_refused s (Withdraw task buffer of) = is_some (withdraw_refusal s task buffer)
is_refused s (Read task buffer from) = is_some (read_refusal s task buffer)
is_refused s (Pop task from) = is_some (pop_refusal s task)
is_refused s (Fetch window a b) = is_some (fetch_refusal s window)
is_refused s (Observe window a b) = is_some (observe_refusal s window)

-- the entry that the call appends: this entry with the call's own answers
abbrev pub made_by : State → Entry → Entry
made_by s (Commit task buffer payload) = Commit task buffer payload
made_by s (Withdraw task buffer of) = withdraw_entry s task buffer
made_by s (Read task buffer from) = read_entry s task buffer
made_by s (Pop task from) = pop_entry s task
made_by s (Fetch window a b) = fetch_entry s window
made_by s (Observe window a b) = Observe window a b

-- two entries of one call have the same answers
abbrev pub same_answer : Entry → Entry → Bool
same_answer (Withdraw task buffer made) (Withdraw t b told) = same_number made told
same_answer (Read task buffer made) (Read t b told) = same_origin made told
same_answer (Pop task made) (Pop t told) = same_origin made told
same_answer (Fetch window made_a made_b) (Fetch w told_a told_b) = same_offered made_a told_a
    && same_offered made_b told_b
same_answer made told = true

-- the answers in the trace are those of the call
abbrev pub is_answered : State → Entry → Bool
is_answered s e = same_answer (made_by s e) e

-- none if the call is refused; otherwise the answers in the trace are those of the call, or not
abbrev pub answer_of : State → Entry → Option Bool
answer_of s e = if is_refused s e then None else Some (is_answered s e)

-- the fault of an entry on the line of this number
abbrev pub fault_of : ℕ → State → Entry → Option TraceError
fault_of line s e = if is_refused s e then Some (Refused line) else if is_answered s e then None
    else Some (WrongAnswer line)
