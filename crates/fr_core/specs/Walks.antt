-- The progress of a walk along the journal of a node, beside the record and the scripts, and its findings.
use Rattle.std.specs.Prelude.{◌≡◌, ℕ, ◌+◌, ◌<◌, ◌≤◌, ◌==◌, nat_lt, ◌↔◌, IsTrue, Bool, true, false, ◌&&◌, ◌||◌}
use Rattle.std.specs.Prelude.{if◌then◌else◌, List, [], length, map, take, replicate, slice_get}
use Rattle.std.specs.Prelude.{Option, Some, None, option_map, IfSome}
use Rattle.std.specs.List.{list_any}
use Rattle.fr_bus.specs.Record.{Recorded}
use Rattle.fr_core.specs.Agreeing.{Handed, Sight, sight_of, handed_at, sight_at, offers_of, sights_of}
use Rattle.fr_core.specs.declared.event.Reply.TheVariants.{Committed, Withdrawn}
use Rattle.fr_interface.specs.declared.call.Call.TheVariants as host_call
use Rattle.fr_core.specs.declared.script.Line.{Line}
use Rattle.fr_core.specs.declared.settle.Differences.{Differences}
use Rattle.fr_core.specs.declared.tasks.Course.{Course}
use Rattle.fr_core.specs.declared.walk.Fetches.{Fetches}
use Rattle.fr_core.specs.declared.walk.Findings.{Findings}
use Rattle.fr_core.specs.declared.walk.Observes.{Observes}
use Rattle.fr_core.specs.Scripts.{Scripted, IsLine, AreLines, ScriptAgrees, is_for, Executed, call_at, calls_of}
use Rattle.fr_core.specs.Scripts.{calls_in}
use Rattle.fr_core.specs.Scripts.{frame_reply}
use Rattle.fr_core.specs.Settling.{IsFirst, EachTask, IfThere, HasWindows, WindowsAgree, IsHandedAt, IsShownAt}
use Rattle.fr_core.specs.Settling.{fetches_at, observes_at, windows_of}
use Rattle.fr_interface.specs.Handing.{bytes_handed, offered_on}
use Rattle.fr_interface.specs.State.{State}
use Rattle.fr_journal.specs.Forms.{Entry}
use Rattle.fr_journal.specs.declared.entry.Entry.TheVariants.{Commit, Withdraw, Read, Pop, Fetch, Observe}
use Rattle.fr_journal.specs.declared.entry.Offered.{Offered}
use Rattle.fr_journal.specs.declared.entry.Offered.TheVariants.{Nothing, Null, Data}
use Rattle.fr_journal.specs.OpenWindow.{open_window}
use Rattle.fr_slots.specs.declared.channel.Channel.{Channel}
use Rattle.fr_slots.specs.declared.channel.Channel.TheVariants.{A, B}
use Rattle.fr_slots.specs.History.{each_after}
use Rattle.fr_slots.specs.Numbers.{last_node, last_task, most_tasks}
use Rattle.fr_slots.specs.Parameters.{Parameters}
use Rattle.fr_slots.specs.Windows.{Opportunity}

-- ---- searches

-- none fails, or this is the first that fails
abbrev pub Finds : (ℕ → Type 0) → Option ℕ → Type 0
Finds P None = (n : ℕ) → P n
Finds P (Some n) = IsFirst P n

-- none fails below the number, or this is the first that fails
abbrev pub FindsBelow : ℕ → (ℕ → Type 0) → Option ℕ → Type 0
FindsBelow upto P None = (n : ℕ) → n < upto → P n
FindsBelow upto P (Some n) = IsFirst P n

-- an earlier finding is kept; otherwise the place itself is found, if it fails
abbrev pub FindsNext : Type 0 → ℕ → Option ℕ → Option ℕ → Type 0
FindsNext Same place (Some k) next = next ≡ Some k
FindsNext Same place None None = Same
FindsNext Same place None (Some k) = (k ≡ place) × ¬ Same

abbrev pub FindsTask : (ℕ → Type 0) → Option ℕ → Type 0
FindsTask P None = EachTask P
FindsTask P (Some task) = (task ≤ last_task) × IsFirst P task

-- among the nodes below the number, the first node that fails, and its first place
abbrev pub FindsPlaceBelow : ℕ → (ℕ → ℕ → Type 0) → Option (ℕ × ℕ) → Type 0
FindsPlaceBelow upto P None = (n : ℕ) → n < upto → (k : ℕ) → P n k
FindsPlaceBelow upto P (Some found) =
    (found.0 ≤ last_node) × IsFirst (λ n. (k : ℕ) → P n k) found.0 × IsFirst (P found.0) found.1

-- the same for all nodes
abbrev pub FindsPlace : (ℕ → ℕ → Type 0) → Option (ℕ × ℕ) → Type 0
FindsPlace P found = FindsPlaceBelow (last_node + 1) P found

-- among the nodes below the number, the first node that fails, and its first task
abbrev pub FindsScriptBelow : ℕ → (ℕ → ℕ → Type 0) → Option (ℕ × ℕ) → Type 0
FindsScriptBelow upto P None = (n : ℕ) → n < upto → EachTask (P n)
FindsScriptBelow upto P (Some found) = IsFirst (λ n. EachTask (P n)) found.0 × IsFirst (P found.0) found.1

-- an earlier finding, or the finding of this node
abbrev pub found_or : Option (ℕ × ℕ) → ℕ → Option ℕ → Option (ℕ × ℕ)
found_or (Some found) node here = Some found
found_or None node None = None
found_or None node (Some here) = Some (node, here)

-- none fails, or this is the least node that fails
abbrev pub FindsLeast : (ℕ → Type 0) → Option ℕ → Type 0
FindsLeast P None = (n : ℕ) → P n
FindsLeast P (Some n) = (n ≤ last_node) × IsFirst P n

abbrev pub lesser_node : Option ℕ → ℕ → ℕ
lesser_node None n = n
lesser_node (Some least) n = if nat_lt n least then n else least

-- the finding before this place, unless the node found here is a lesser one
abbrev pub or_lesser : Option (ℕ × ℕ) → Option ℕ → ℕ → Option (ℕ × ℕ)
or_lesser found None place = found
or_lesser None (Some here) place = Some (here, place)
or_lesser (Some found) (Some here) place = if nat_lt here found.0 then Some (here, place) else Some found

-- among the windows before this place, the least node that fails, and its first place
pub record IsLeastBefore (P : ℕ → ℕ → Type 0) (upto : ℕ) (found : ℕ × ℕ) : Type 0 where
  pub few : found.0 ≤ last_node
  pub fails : ¬ P found.0 found.1
  pub places : (k : ℕ) → k < found.1 → P found.0 k
  pub nodes : (n : ℕ) → n < found.0 → (k : ℕ) → k < upto → P n k

abbrev pub FindsLeastBefore : (ℕ → ℕ → Type 0) → ℕ → Option (ℕ × ℕ) → Type 0
FindsLeastBefore P upto None = (n k : ℕ) → k < upto → P n k
FindsLeastBefore P upto (Some found) = IsLeastBefore P upto found

-- the finding of the lesser node, and for the same node that of the lesser place
abbrev pub is_before : ℕ × ℕ → ℕ × ℕ → Bool
is_before x y = nat_lt x.0 y.0 || (x.0 == y.0 && nat_lt x.1 y.1)

abbrev pub earlier : Option (ℕ × ℕ) → Option (ℕ × ℕ) → Option (ℕ × ℕ)
earlier None y = y
earlier (Some x) None = Some x
earlier (Some x) (Some y) = if is_before y x then Some y else Some x

-- ---- the effect of an entry

-- the offers that the fetch of this number handed to the bus, if it opened this window
abbrev pub handed_by : State → ℕ → Opportunity → Handed
handed_by s number window =
    record { window = window; a = bytes_handed s number A; b = bytes_handed s number B }

abbrev pub is_nothing : Offered → Bool
is_nothing Nothing = true
is_nothing Null = false
is_nothing (Data commit) = false

-- the entry handed nothing to the bus on the channel
abbrev pub is_silent : Channel → Entry → Bool
is_silent channel (Commit task buffer payload) = true
is_silent channel (Withdraw task buffer of) = true
is_silent channel (Read task buffer from) = true
is_silent channel (Pop task from) = true
is_silent channel (Fetch window a b) = is_nothing (offered_on channel a b)
is_silent channel (Observe number a b) = true

-- the window that is open after an entry, if this one is open before it
abbrev pub opened_after : Option Opportunity → Entry → Option Opportunity
opened_after opened (Commit task buffer payload) = opened
opened_after opened (Withdraw task buffer of) = opened
opened_after opened (Read task buffer from) = opened
opened_after opened (Pop task from) = opened
opened_after opened (Fetch window a b) = Some window
opened_after opened (Observe number a b) = None

-- the observation of an entry, if this window is open before it
abbrev pub sight_told : Option Opportunity → Entry → Option Sight
sight_told opened (Commit task buffer payload) = None
sight_told opened (Withdraw task buffer of) = None
sight_told opened (Read task buffer from) = None
sight_told opened (Pop task from) = None
sight_told opened (Fetch window a b) = None
sight_told opened (Observe number a b) = option_map (sight_of a b) opened

-- the task and the executed call of the entry of this number
abbrev pub done_by : State → ℕ → Entry → Option (ℕ × Executed)
done_by s number (Commit t buffer payload) =
    Some (t, (host_call.Commit buffer payload, Committed (record { task = t; entry = number })))
done_by s number (Withdraw t buffer of) = Some (t, (host_call.Withdraw buffer, Withdrawn of))
done_by s number (Read t buffer from) = Some (t, (host_call.Read buffer, frame_reply s from))
done_by s number (Pop t from) = Some (t, (host_call.Pop, frame_reply s from))
done_by s number (Fetch window a b) = None
done_by s number (Observe window a b) = None

-- ---- fetches and observes

-- the window at this place of the record
abbrev pub window_at : List Recorded → ℕ → Option Opportunity
window_at rs place = option_map (λ (r : Recorded). r.window) (slice_get rs place)

-- The values that the entries give were compared with a list, after so many entries: the number of these values, and
-- the first place at which both differ.
pub record IsCompared {X A : Type 0} (f : List X → X → List A) (xs : List X) (ys : List A) (k place : ℕ)
    (found : Option ℕ) : Type 0 where
  pub as_many : length (each_after f [] (take k xs)) ≡ place
  pub few : place ≤ k
  pub finds : FindsBelow place (λ j. slice_get (each_after f [] xs) j ≡ slice_get ys j) found

-- the findings of the fetches among so many entries
pub record AreFetches (s : State) (n : ℕ) (rs : List Recorded) (k : ℕ) (x : Fetches) : Type 0 where
  pub windows : IsCompared fetches_at s.entries (windows_of rs) k x.count x.window
  pub offers : IsCompared (handed_at s.params s.plan) s.entries (map (offers_of n) rs) k x.count x.offer

-- the findings with the entry of this number
abbrev pub FetchesNext : State → ℕ → List Recorded → ℕ → Fetches → Entry → Fetches → Type 0
FetchesNext s n rs k x (Commit task buffer payload) y = y ≡ x
FetchesNext s n rs k x (Withdraw task buffer of) y = y ≡ x
FetchesNext s n rs k x (Read task buffer from) y = y ≡ x
FetchesNext s n rs k x (Pop task from) y = y ≡ x
FetchesNext s n rs k x (Fetch window a b) y =
    (y.count ≡ x.count + 1)
    × FindsNext (window_at rs x.count ≡ Some window) x.count x.window y.window
    × FindsNext (option_map (offers_of n) (slice_get rs x.count) ≡ Some (handed_by s k window)) x.count x.offer y.offer
FetchesNext s n rs k x (Observe number a b) y = y ≡ x

-- the findings of the observes among so many entries
pub record AreObserves (p : Parameters) (s : State) (n : ℕ) (rs : List Recorded) (k : ℕ) (x : Observes) : Type 0 where
  pub opened : x.opened ≡ open_window (take k s.entries)
  pub windows : IsCompared observes_at s.entries (windows_of rs) k x.count x.window
  pub sights : IsCompared sight_at s.entries (map (sights_of p n) rs) k x.count x.sight

-- the findings with the observation of an entry, if it has one
abbrev pub SightsNext : Parameters → ℕ → List Recorded → Observes → Option Sight → Observes → Type 0
SightsNext p n rs x None y = (y.count ≡ x.count) × (y.window ≡ x.window) × (y.sight ≡ x.sight)
SightsNext p n rs x (Some sight) y =
    (y.count ≡ x.count + 1)
    × FindsNext (window_at rs x.count ≡ Some sight.window) x.count x.window y.window
    × FindsNext (option_map (sights_of p n) (slice_get rs x.count) ≡ Some sight) x.count x.sight y.sight

pub record ObservesNext (p : Parameters) (n : ℕ) (rs : List Recorded) (x : Observes) (e : Entry)
    (y : Observes) : Type 0 where
  pub opened : y.opened ≡ opened_after x.opened e
  pub sights : SightsNext p n rs x (sight_told x.opened e) y

-- ---- tasks

-- there is a line, and it is the executed call
abbrev pub HasLine : Option Line → Executed → Type 0
HasLine None d = ⊥
HasLine (Some line) d = IsLine line d

-- the script at this place, if it is for the task, has the executed call as its line at that place
abbrev pub HasLineAt : List Scripted → ℕ → ℕ → ℕ → Executed → ℕ → Type 0
HasLineAt scripts n task j d k =
    IfSome (slice_get scripts k) (λ script. is_for n task script ≡ true → HasLine (slice_get script.lines j) d)

-- so does each script
abbrev pub HaveLines : List Scripted → ℕ → ℕ → ℕ → Executed → Type 0
HaveLines scripts n task j d = (k : ℕ) → HasLineAt scripts n task j d k

-- each script for the task has the task's executed call at this place
abbrev pub FitsAt : List Scripted → ℕ → ℕ → List Executed → ℕ → Type 0
FitsAt scripts n task calls j = (d : Executed) → slice_get calls j ≡ Some d → HaveLines scripts n task j d

-- the progress of the task beside its scripts after so many entries
pub record IsCourse (s : State) (scripts : List Scripted) (n task k : ℕ) (x : Course) : Type 0 where
  pub as_many : length (each_after (call_at s task) [] (take k s.entries)) ≡ x.calls
  pub few : x.calls ≤ k
  pub fits : IsTrue x.agrees ↔ ((j : ℕ) → j < x.calls → FitsAt scripts n task (calls_of s task) j)

-- the courses of all tasks
pub record AreCourses (s : State) (scripts : List Scripted) (n k : ℕ) (xs : List Course) : Type 0 where
  pub as_many : length xs ≡ most_tasks
  pub each : (task : ℕ) (x : Course) → slice_get xs task ≡ Some x → IsCourse s scripts n task k x

-- the course of a task after this executed call
pub record CourseNext (scripts : List Scripted) (n task : ℕ) (d : Executed) (x y : Course) : Type 0 where
  pub calls : y.calls ≡ x.calls + 1
  pub agrees : IsTrue y.agrees ↔ (IsTrue x.agrees × HaveLines scripts n task x.calls d)

-- the progress of the task beside its scripts after all its executed calls
pub record IsWhole (scripts : List Scripted) (n task : ℕ) (calls : List Executed) (x : Course) : Type 0 where
  pub as_many : length calls ≡ x.calls
  pub fits : IsTrue x.agrees ↔ ((j : ℕ) → j < x.calls → FitsAt scripts n task calls j)

abbrev pub IsAsLongAt : List Scripted → ℕ → ℕ → ℕ → ℕ → Type 0
IsAsLongAt scripts n task calls k =
    IfSome (slice_get scripts k) (λ script. is_for n task script ≡ true → length script.lines ≡ calls)

-- the course of a task that executed its scripts
pub record Suits (scripts : List Scripted) (n task : ℕ) (x : Course) : Type 0 where
  pub agrees : IsTrue x.agrees
  pub given : (k : ℕ) → IsAsLongAt scripts n task x.calls k
  pub missing : list_any (is_for n task) scripts ≡ false → x.calls ≡ 0

-- tasks that executed no call
abbrev pub new_courses : List Course
new_courses = replicate most_tasks (record { calls = 0; agrees = true })

-- the same for the task of this number
abbrev pub SuitsAt : List Scripted → ℕ → List Course → ℕ → Type 0
SuitsAt scripts n xs task = (x : Course) → slice_get xs task ≡ Some x → Suits scripts n task x

-- each script for the task has its executed calls as lines, and a task without a script executed none
pub record AreScripts (scripts : List Scripted) (n task : ℕ) (calls : List Executed) : Type 0 where
  pub given : (k : ℕ) → IfSome (slice_get scripts k) (λ script. is_for n task script ≡ true
      → AreLines script.lines calls)
  pub missing : list_any (is_for n task) scripts ≡ false → calls ≡ []

-- ---- nodes

-- the findings of a node, whose interface may not exist
pub record AreFindings (p : Parameters) (o : Option State) (rs : List Recorded) (given : List Scripted) (n : ℕ)
    (x : Findings) : Type 0 where
  pub windows : IsTrue x.has_windows ↔ IfThere o (HasWindows rs)
  pub offers : Finds (λ k. IfThere o (IsHandedAt rs n k)) x.offer
  pub sights : Finds (λ k. IfThere o (IsShownAt p rs n k)) x.sight
  pub scripts : FindsTask (λ task. AreScripts given n task (calls_in o task)) x.task

-- the findings of the first nodes, each at its place
abbrev pub AreFirstFindings : Parameters → List State → List Recorded → List Scripted → List Findings → Type 0
AreFirstFindings p is rs given xs =
    (n : ℕ) (x : Findings) → slice_get xs n ≡ Some x → AreFindings p (slice_get is n) rs given n x

-- the findings of the nodes below the number
pub record AreDifferences (p : Parameters) (is : List State) (rs : List Recorded) (given : List Scripted) (upto : ℕ)
    (x : Differences) : Type 0 where
  pub windows : FindsBelow upto (WindowsAgree is rs) x.window
  pub offers : FindsPlaceBelow upto (λ n k. IfThere (slice_get is n) (IsHandedAt rs n k)) x.offer
  pub sights : FindsPlaceBelow upto (λ n k. IfThere (slice_get is n) (IsShownAt p rs n k)) x.sight
  pub scripts : FindsScriptBelow upto (ScriptAgrees is given) x.script
