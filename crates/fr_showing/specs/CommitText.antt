-- The commits of a run, each with its fate (project-defined).
use Rattle.std.specs.Prelude.{ℕ, List, [], ◌∷◌, ◌++◌, codes, length, slice_get, Option, Some}
use Rattle.std.specs.Fmt.{decimal}
use Rattle.std.specs.List.{flat_map, range_with_len}
use Rattle.fr_bus.specs.Record.{Recorded}
use Rattle.fr_core.specs.Worlds.{WorldState, interface_at}
use Rattle.fr_journal.specs.Forms.{Entry}
use Rattle.fr_journal.specs.declared.entry.Entry.TheVariants.{Commit, Withdraw, Read, Pop, Fetch, Observe}
use Rattle.fr_lines.specs.Parts.{optional_number}
use Rattle.fr_lines.specs.Spelling.{line_text}
use Rattle.fr_showing.specs.declared.fates.Became.{Became}
use Rattle.fr_showing.specs.declared.fates.Became.TheVariants.{Sent, Withdrawn, Overwritten, Pending}
use Rattle.fr_showing.specs.declared.ends.End.{End}
use Rattle.fr_showing.specs.declared.ends.End.TheVariants.{Alone, Turned}
use Rattle.fr_showing.specs.declared.fates.Sending.{Sending}
use Rattle.fr_capture.specs.declared.takers.Taker.{Taker}
use Rattle.fr_showing.specs.Ends.{ended_word, offer_end}
use Rattle.fr_showing.specs.Fates.{became, sendings}
use Rattle.fr_journal.specs.Cycles.{cycles_of}
use Rattle.fr_capture.specs.Takers.{takers_word}
use Rattle.fr_schedule.specs.Descriptions.{Description}
use Rattle.fr_showing.specs.Takers.{takers_by_plans, takers_in}
use Rattle.fr_slots.specs.declared.channel.Channel.{Channel}
use Rattle.fr_slots.specs.Admission.{letter_of}
use Rattle.fr_slots.specs.History.{each_after}
use Rattle.fr_slots.specs.Windows.{slot_of}
use Rattle.fr_text.specs.Spaces.{line_of}
use Rattle.fr_text.specs.Spelling.{hex_text}

-- ---- the commits

-- a commit: its node, its buffer and its task, the cycle of the run in which it was made, its entry and its bytes
pub record Committed : Type 0 where
  pub node : ℕ
  pub buffer : ℕ
  pub task : ℕ
  pub cycle : ℕ
  pub entry : ℕ
  pub payload : List ℕ

abbrev pub commit_by : ℕ → List Entry → Entry → List Committed
commit_by node before (Commit task buffer payload) =
    record {
      node = node;
      buffer = buffer;
      task = task;
      cycle = cycles_of before;
      entry = length before;
      payload = payload;
    } ∷ []
commit_by node before (Withdraw task buffer of) = []
commit_by node before (Read task buffer from) = []
commit_by node before (Pop task from) = []
commit_by node before (Fetch window a b) = []
commit_by node before (Observe window a b) = []

abbrev pub entries_at : WorldState → ℕ → List Entry
entries_at w node = (interface_at w node).entries

-- the commits of a node's journal, in its order
abbrev pub commits_in : WorldState → ℕ → List Committed
commits_in w node = each_after (commit_by node) [] (entries_at w node)

-- the commits of all journals, in the order of the nodes
abbrev pub commits : WorldState → List Committed
commits w = flat_map (commits_in w) (range_with_len 0 (length w.interfaces))

-- ---- the windows in which they were sent

-- the recorded window of a sending
abbrev pub recorded_of : WorldState → Sending → Option Recorded
recorded_of w s = slice_get w.bus.sealed s.window.number

-- the end of the node's offer there
abbrev pub end_in : WorldState → ℕ → Sending → Option End
end_in w node s = offer_end w.bus.cluster.params (recorded_of w s) s.channel node

-- A transmission that didn't pass alone has no receiver.
abbrev pub takers_by : Option End → List Taker → List Taker
takers_by (Some Alone) takers = takers
takers_by (Some Turned) takers = takers
takers_by end takers = []

-- its receivers, by its end
unfoldable pub taken_text : WorldState → Sending → Option End → List ℕ
taken_text w s end =
    takers_word (takers_by end (takers_in w.bus.cluster.params w.interfaces (recorded_of w s) s.channel))

-- a cycle of the run, the slot and the channel, its end there, and its receivers
abbrev pub sending_words : WorldState → ℕ → Sending → List (List ℕ)
sending_words w node s =
    decimal s.cycle ∷ optional_number (slot_of s.window s.channel) ∷ letter_of s.channel ∷ ended_word (end_in w node s)
    ∷ taken_text w s (end_in w node s)
    ∷ []

-- the same after a space
unfoldable pub sending_text : WorldState → ℕ → Sending → List ℕ
sending_text w node s = 32 ∷ line_of (sending_words w node s)

-- ---- the same by a cluster and a recorded window

-- the receivers of a transmission with this end, by the plans of all nodes
unfoldable pub received_text : Description → Recorded → Channel → Option End → List ℕ
received_text d r channel end = takers_word (takers_by end (takers_by_plans d.params r channel 0 d.plans))

-- the end of the node's offer
abbrev pub end_on : Description → Recorded → ℕ → Channel → Option End
end_on d r node channel = offer_end d.params (Some r) channel node

-- a cycle of the run, and the words of the node's transmission in the recorded window
abbrev pub words_by : Description → Recorded → ℕ → ℕ → Channel → List (List ℕ)
words_by d r cycle node channel =
    decimal cycle ∷ optional_number (slot_of r.window channel) ∷ letter_of channel
    ∷ ended_word (end_on d r node channel)
    ∷ received_text d r channel (end_on d r node channel)
    ∷ []

-- ---- the sendings of a commit

abbrev pub sendings_text : WorldState → ℕ → List Entry → ℕ → List ℕ
sendings_text w node entries commit = flat_map (sending_text w node) (sendings entries commit)

-- ---- their fates

abbrev pub became_text : WorldState → ℕ → List Entry → ℕ → Became → List ℕ
became_text w node entries commit Sent = codes "sent" ++ sendings_text w node entries commit
became_text w node entries commit (Withdrawn cycle entry) =
    line_of (codes "withdrawn" ∷ decimal cycle ∷ decimal entry ∷ [])
became_text w node entries commit (Overwritten cycle entry) =
    line_of (codes "overwritten" ∷ decimal cycle ∷ decimal entry ∷ [])
became_text w node entries commit Pending = codes "pending"

-- ---- lines

-- the commit
unfoldable pub made_text : Committed → List ℕ
made_text c =
    line_of (decimal c.node ∷ decimal c.buffer ∷ decimal c.task ∷ decimal c.cycle ∷ decimal c.entry ∷ hex_text c.payload
    ∷ [])

-- the commit, and its fate by the entries of its journal
abbrev pub line_in : WorldState → List Entry → Committed → List ℕ
line_in w entries c =
    line_text (made_text c ∷ codes "="
    ∷ became_text w c.node entries c.entry (became c.buffer entries c.entry)
    ∷ [])

abbrev pub commit_line : WorldState → Committed → List ℕ
commit_line w c = line_in w (entries_at w c.node) c
