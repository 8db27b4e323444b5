-- The log of a run's commits: a line for each thing that happens to a commit, as the run goes (project-defined).
use Rattle.std.specs.Prelude.{◌≡◌, ℕ, ◌==◌, List, [], ◌∷◌, ◌++◌, codes, length, Option, Some, None, if◌then◌else◌}
use Rattle.std.specs.Fmt.{decimal}
use Rattle.std.specs.List.{flat_map, range_with_len}
use Rattle.fr_bus.specs.Record.{Recorded}
use Rattle.fr_journal.specs.Cycles.{run_cycle}
use Rattle.fr_core.specs.Worlds.{WorldState, interface_at}
use Rattle.fr_interface.specs.State.{State}
use Rattle.fr_journal.specs.declared.entry.Entry.TheVariants.{Commit, Withdraw, Read, Pop, Fetch, Observe}
use Rattle.fr_journal.specs.declared.entry.Offered.{Offered}
use Rattle.fr_journal.specs.declared.entry.Offered.TheVariants.{Nothing, Null, Data}
use Rattle.fr_journal.specs.Fate.{pending_commit}
use Rattle.fr_journal.specs.Forms.{Entry}
use Rattle.fr_lines.specs.Spelling.{line_text}
use Rattle.fr_showing.specs.CommitText.{entries_at, made_text, recorded_of, sending_words, Committed}
use Rattle.fr_showing.specs.declared.fates.Sending.{Sending}
use Rattle.fr_journal.specs.Cycles.{cycles_of}
use Rattle.fr_slots.specs.declared.channel.Channel.{Channel}
use Rattle.fr_slots.specs.declared.channel.Channel.TheVariants.{A, B}
use Rattle.fr_slots.specs.History.{each_after}
use Rattle.fr_slots.specs.Windows.{Opportunity}

-- ---- the lines

-- the commit that was made
abbrev pub commit_text : Committed → List ℕ
commit_text c = line_text (codes "commit" ∷ made_text c ∷ [])

-- the node's commit that was pending, and the cycle of the run and the entry that ended this
abbrev pub ended_text : List ℕ → ℕ → ℕ → ℕ → ℕ → List ℕ
ended_text word node of cycle entry =
    line_text (word ∷ decimal node ∷ decimal of ∷ decimal cycle ∷ decimal entry ∷ [])

abbrev pub ended_lines : List ℕ → ℕ → Option ℕ → ℕ → ℕ → List (List ℕ)
ended_lines word node None cycle entry = []
ended_lines word node (Some of) cycle entry = ended_text word node of cycle entry ∷ []

-- the node's commit, and its sending in the words of the view of all commits after a run
abbrev pub sent_line : WorldState → ℕ → ℕ → Sending → List ℕ
sent_line w node commit s =
    line_text (codes "sent" ∷ decimal node ∷ decimal commit ∷ sending_words w node s)

-- As long as the window isn't sealed there is no line.
abbrev pub if_sealed : Option Recorded → List ℕ → List (List ℕ)
if_sealed None line = []
if_sealed (Some r) line = line ∷ []

-- the line of a node's offer, if it is a commit
abbrev pub offer_lines : WorldState → ℕ → Offered → Sending → List (List ℕ)
offer_lines w node Nothing s = []
offer_lines w node Null s = []
offer_lines w node (Data commit) s = if_sealed (recorded_of w s) (sent_line w node commit s)

-- ---- the lines of an entry of a journal, by those before it

-- the offer on the channel of a window in a cycle of the run
abbrev pub sending : ℕ → Opportunity → Channel → Sending
sending cycle window channel = record { cycle = cycle; window = window; channel = channel }

-- the commit that an entry after these makes
abbrev pub commit_after : ℕ → List Entry → ℕ → ℕ → List ℕ → Committed
commit_after node before buffer task payload = record {
  node = node;
  buffer = buffer;
  task = task;
  cycle = cycles_of before;
  entry = length before;
  payload = payload;
}

-- A commit overwrites the pending one on its buffer. A fetch sends its offers.
abbrev pub entry_lines : WorldState → ℕ → List Entry → Entry → List (List ℕ)
entry_lines w node before (Commit task buffer payload) =
    ended_lines (codes "overwritten") node (pending_commit buffer before) (cycles_of before) (length before)
    ++ commit_text (commit_after node before buffer task payload) ∷ []
entry_lines w node before (Withdraw task buffer of) =
    ended_lines (codes "withdrawn") node of (cycles_of before) (length before)
entry_lines w node before (Read task buffer from) = []
entry_lines w node before (Pop task from) = []
entry_lines w node before (Fetch window a b) =
    offer_lines w node a (sending (run_cycle (before ++ Fetch window a b ∷ [])) window A)
    ++ offer_lines w node b (sending (run_cycle (before ++ Fetch window a b ∷ [])) window B)
entry_lines w node before (Observe window a b) = []

-- the lines of a node's journal, in its order
abbrev pub node_lines : WorldState → ℕ → List (List ℕ)
node_lines w node = each_after (entry_lines w node) [] (entries_at w node)

-- ---- the log

-- a line of the log, and the node of its commit
pub record NodeLine : Type 0 where
  pub node : ℕ
  pub line : List ℕ

abbrev pub text_of : List NodeLine → List ℕ
text_of lines = flat_map (λ l. l.line) lines

abbrev pub line_if : ℕ → NodeLine → List (List ℕ)
line_if node l = if l.node == node then l.line ∷ [] else []

-- the lines of a node among these, in their order
abbrev pub lines_at : ℕ → List NodeLine → List (List ℕ)
lines_at node lines = flat_map (line_if node) lines

-- The text has the lines of each node's journal, in its order. Those of different nodes may come in any order.
pub record IsLog (w : WorldState) (text : List ℕ) : Type 0 where
  pub lines : List NodeLine
  pub text_is : text ≡ text_of lines
  pub each : (n : ℕ) → node_lines w n ≡ lines_at n lines

-- ---- what is left at the end

abbrev pub pending_text : ℕ → Option ℕ → List ℕ
pending_text node None = []
pending_text node (Some commit) = line_text (codes "pending" ∷ decimal node ∷ decimal commit ∷ [])

-- the pending commit of each of the node's buffers, in their order
abbrev pub pending_on : ℕ → State → ℕ → List ℕ
pending_on node s buffer = pending_text node (pending_commit buffer s.entries)

abbrev pub pending_in : WorldState → ℕ → List ℕ
pending_in w node =
    flat_map (pending_on node (interface_at w node))
    (range_with_len 0 (length (interface_at w node).plan.buffers))

-- the pending commits of all nodes, in their order
abbrev pub left_pending : WorldState → List ℕ
left_pending w = flat_map (pending_in w) (range_with_len 0 (length w.interfaces))

-- the log of a run up to its end in this world
abbrev pub IsWholeLog : WorldState → List ℕ → Type 0
IsWholeLog w text = (log : List ℕ) × IsLog w log × (text ≡ log ++ left_pending w)

-- ---- the log between two worlds

-- the text has the lines by which each node's lines grow
pub record AddsToLog (old new : WorldState) (text : List ℕ) : Type 0 where
  pub lines : List NodeLine
  pub text_is : text ≡ text_of lines
  pub each : (n : ℕ) → node_lines new n ≡ node_lines old n ++ lines_at n lines
