-- The executed calls of a task, by the journal of its node, and their equality with its script (project-defined).
use Rattle.std.specs.Prelude.{◌≡◌, ℕ, ◌==◌, Bool, true, false, ◌&&◌, List, [], length, slice_get, Option, Some, None}
use Rattle.std.specs.Prelude.{IfSome, option_to_list, if◌then◌else◌}
use Rattle.std.specs.List.{list_any}
use Rattle.std.specs.Option.{option_and_then}
use Rattle.fr_core.specs.declared.event.Reply.{Reply}
use Rattle.fr_core.specs.declared.event.Reply.TheVariants.{Committed, Withdrawn, Frame}
use Rattle.fr_interface.specs.declared.call.Call.{Call}
use Rattle.fr_interface.specs.declared.call.Call.TheVariants as host_call
use Rattle.fr_core.specs.declared.script.Line.{Line}
use Rattle.fr_interface.specs.State.{State}
use Rattle.fr_journal.specs.Forms.{Entry}
use Rattle.fr_journal.specs.declared.entry.Entry.TheVariants.{Commit, Withdraw, Read, Pop, Fetch, Observe}
use Rattle.fr_journal.specs.declared.entry.Origin.{Origin}
use Rattle.fr_journal.specs.Held.{frame_named}
use Rattle.fr_slots.specs.History.{each_after}

-- the calls that a task of a node is to make, line by line
pub record Scripted : Type 0 where
  pub node : ℕ
  pub task : ℕ
  pub lines : List Line

-- ---- executed calls

-- an executed call, and its answer
abbrev pub Executed : Type 0
Executed = Call × Reply

-- the reply with the frame of this origin, or without a frame
abbrev pub frame_reply : State → Option Origin → Reply
frame_reply s from = Frame (option_and_then (frame_named s.params s.entries) from)

-- the executed call of this entry of the host, with its answer
abbrev pub call_in : State → ℕ → ℕ → Entry → Option Executed
call_in s task number (Commit t buffer payload) =
    if t == task then Some (host_call.Commit buffer payload, Committed (record { task = t; entry = number }))
    else None
call_in s task number (Withdraw t buffer of) =
    if t == task then Some (host_call.Withdraw buffer, Withdrawn of) else None
call_in s task number (Read t buffer from) =
    if t == task then Some (host_call.Read buffer, frame_reply s from) else None
call_in s task number (Pop t from) = if t == task then Some (host_call.Pop, frame_reply s from) else None
call_in s task number (Fetch window a b) = None
call_in s task number (Observe window a b) = None

abbrev pub call_at : State → ℕ → List Entry → Entry → List Executed
call_at s task before e = option_to_list (call_in s task (length before) e)

-- all executed calls of the task, in order
abbrev pub calls_of : State → ℕ → List Executed
calls_of s task = each_after (call_at s task) [] s.entries

abbrev pub calls_in : Option State → ℕ → List Executed
calls_in None task = []
calls_in (Some s) task = calls_of s task

-- a node that doesn't exist executed no call
abbrev pub calls_at : List State → ℕ → ℕ → List Executed
calls_at is n task = calls_in (slice_get is n) task

-- ---- scripts

-- the line is the executed call, in any cycle, and the line's answer, if it has one, is the call's
pub record IsLine (line : Line) (d : Executed) : Type 0 where
  pub action_is : line.action ≡ d.0
  pub answer_is : IfSome line.answer (λ answer. answer ≡ d.1)

-- the lines are the executed calls, one by one
pub record AreLines (lines : List Line) (calls : List Executed) : Type 0 where
  pub as_many : length lines ≡ length calls
  pub each : (k : ℕ) (line : Line) (d : Executed) → slice_get lines k ≡ Some line → slice_get calls k ≡ Some d
      → IsLine line d

abbrev pub is_for : ℕ → ℕ → Scripted → Bool
is_for n task script = script.node == n && script.task == task

-- the script, if it is for the task, has the task's executed calls as its lines
abbrev pub IsScript : List State → ℕ → ℕ → Scripted → Type 0
IsScript is n task script = is_for n task script ≡ true → AreLines script.lines (calls_at is n task)

abbrev pub IsScriptAt : List State → List Scripted → ℕ → ℕ → ℕ → Type 0
IsScriptAt is scripts n task k = IfSome (slice_get scripts k) (IsScript is n task)

-- each script for the task has the task's executed calls as its lines, and a task without a script executed none
pub record ScriptAgrees (is : List State) (scripts : List Scripted) (n task : ℕ) : Type 0 where
  pub given : (k : ℕ) → IsScriptAt is scripts n task k
  pub missing : list_any (is_for n task) scripts ≡ false → calls_at is n task ≡ []
