-- The text of one entry and of one node, as the code goes along journals. The proofs show that it agrees with
-- `CommitText`.
use Rattle.std.specs.Prelude.{ℕ, Bool, true, false, List, [], ◌++◌, Option, Some}
use Rattle.std.specs.List.{flat_map}
use Rattle.fr_core.specs.Worlds.{WorldState}
use Rattle.fr_journal.specs.Forms.{Entry}
use Rattle.fr_journal.specs.declared.entry.Entry.TheVariants.{Commit, Withdraw, Read, Pop, Fetch, Observe}
use Rattle.fr_showing.specs.CommitText.{commit_by, line_in, sending_text, Committed}
use Rattle.fr_showing.specs.declared.commits.Commitment.{Commitment}
use Rattle.fr_showing.specs.declared.ends.End.{End}
use Rattle.fr_showing.specs.declared.ends.End.TheVariants.{Alone, Turned}
use Rattle.fr_showing.specs.Fates.{sending_if}
use Rattle.fr_slots.specs.declared.channel.Channel.TheVariants.{A, B}
use Rattle.fr_slots.specs.History.{each_after}

-- a transmission that passed alone can be stored
abbrev pub is_takeable : Option End → Bool
is_takeable (Some Alone) = true
is_takeable (Some Turned) = true
is_takeable end = false

-- the transmission by which an entry of this cycle of the run hands the node's commit to the bus
abbrev pub handed_text : WorldState → ℕ → ℕ → ℕ → Entry → List ℕ
handed_text w node commit cycle (Commit task buffer payload) = []
handed_text w node commit cycle (Withdraw task buffer of) = []
handed_text w node commit cycle (Read task buffer from) = []
handed_text w node commit cycle (Pop task from) = []
handed_text w node commit cycle (Fetch window a b) =
    flat_map (sending_text w node) (sending_if commit cycle window A a)
    ++ flat_map (sending_text w node) (sending_if commit cycle window B b)
handed_text w node commit cycle (Observe window a b) = []

-- the commit that the code keeps
abbrev pub committed : Commitment → Committed
committed c = record {
  node = c.node;
  buffer = c.buffer;
  task = c.task;
  cycle = c.cycle;
  entry = c.entry;
  payload = c.payload.now;
}

-- the line of the entry of this number, made in this cycle, if it is a commit
abbrev pub entry_text : WorldState → ℕ → List Entry → ℕ → ℕ → Entry → List ℕ
entry_text w node entries cycle number (Commit task buffer payload) =
    line_in w entries (record {
      node = node;
      buffer = buffer;
      task = task;
      cycle = cycle;
      entry = number;
      payload = payload;
    })
entry_text w node entries cycle number (Withdraw task buffer of) = []
entry_text w node entries cycle number (Read task buffer from) = []
entry_text w node entries cycle number (Pop task from) = []
entry_text w node entries cycle number (Fetch window a b) = []
entry_text w node entries cycle number (Observe window a b) = []

-- the lines of a node's commits
abbrev pub node_text : WorldState → ℕ → List Entry → List ℕ
node_text w node entries = flat_map (line_in w entries) (each_after (commit_by node) [] entries)
