-- The text of the log of commits, as the code writes it of the kept data. The proofs show that it agrees with
-- `CommitLog`.
use Rattle.std.specs.Prelude.{◌≡◌, ℕ, ◌+◌, ◌<◌, List, [], ◌∷◌, ◌++◌, codes, length, map, Option, Some, None}
use Rattle.std.specs.Prelude.{slice_get}
use Rattle.std.specs.Fmt.{decimal}
use Rattle.std.specs.List.{flat_map, range_with_len, All}
use Rattle.fr_bus.specs.Record.{Recorded}
use Rattle.fr_bus.specs.Windows.{cycles_begun}
use Rattle.fr_core.specs.Agreement.{IsWorld}
use Rattle.fr_core.specs.Worlds.{WorldState}
use Rattle.fr_interface.specs.declared.call.Answer.{Answer}
use Rattle.fr_interface.specs.declared.call.Answer.TheVariants as answer
use Rattle.fr_interface.specs.declared.call.Call.{Call}
use Rattle.fr_interface.specs.declared.call.Call.TheVariants.{Commit, Withdraw, Read, Pop}
use Rattle.fr_interface.specs.Sending.{outgoing_on, pending_at}
use Rattle.fr_interface.specs.Standing.{Standing, entries_before}
use Rattle.fr_journal.specs.declared.entry.Entry.TheVariants as entries
use Rattle.fr_journal.specs.declared.entry.Offered.{Offered}
use Rattle.fr_journal.specs.declared.entry.Offered.TheVariants.{Nothing, Null, Data}
use Rattle.fr_journal.specs.Forms.{Entry}
use Rattle.fr_lines.specs.Spelling.{line_text}
use Rattle.fr_live.specs.LiveWorlds.{Entries, LiveState, standing_at, with_room}
use Rattle.fr_schedule.specs.Descriptions.{Description}
use Rattle.fr_showing.specs.CommitText.{entries_at, words_by, Committed}
use Rattle.fr_journal.specs.Cycles.{cycles_of}
use Rattle.fr_slots.specs.declared.channel.Channel.{Channel}
use Rattle.fr_slots.specs.declared.channel.Channel.TheVariants.{A, B}
use Rattle.fr_slots.specs.Windows.{Opportunity}
use Rattle.fr_streaming.specs.CommitLog.{commit_text, ended_text, pending_text}
use Rattle.fr_streaming.specs.declared.log.CallPlace.{CallPlace}
use Rattle.fr_streaming.specs.declared.log.NodeOffers.{NodeOffers}

-- ---- a call

-- the pending commit that a call overwrites
abbrev pub overwritten_by : Standing → Call → Option ℕ
overwritten_by h (Commit buffer payload) = pending_at h.transmit buffer
overwritten_by h (Withdraw buffer) = None
overwritten_by h (Read buffer) = None
overwritten_by h Pop = None

-- the place of a call of a node's task
abbrev pub place_in : LiveState → ℕ → Call → CallPlace
place_in l node call = record {
  overwritten = overwritten_by (standing_at l node) call;
  entry = entries_before (standing_at l node);
  cycle = l.bus.bus.course.begun;
}

-- the line of a commit that isn't pending any more, if there is one
abbrev pub end_text : List ℕ → ℕ → Option ℕ → CallPlace → List ℕ
end_text word node None place = []
end_text word node (Some of) place = ended_text word node of place.cycle place.entry

abbrev pub withdrawn_by : Answer → Option ℕ
withdrawn_by (answer.Committed receipt) = None
withdrawn_by (answer.Withdrawn of) = of
withdrawn_by (answer.Frame arrival) = None

-- the commit that is made at this place
abbrev pub commit_at : ℕ → ℕ → CallPlace → ℕ → List ℕ → Committed
commit_at node task place buffer payload = record {
  node = node;
  buffer = buffer;
  task = task;
  cycle = place.cycle;
  entry = place.entry;
  payload = payload;
}

-- the lines of a call with this answer
abbrev pub call_text : ℕ → ℕ → CallPlace → Answer → Call → List ℕ
call_text node task place reply (Commit buffer payload) =
    end_text (codes "overwritten") node place.overwritten place
    ++ commit_text (commit_at node task place buffer payload)
call_text node task place reply (Withdraw buffer) =
    end_text (codes "withdrawn") node (withdrawn_by reply) place
call_text node task place reply (Read buffer) = []
call_text node task place reply Pop = []

-- ---- a window

-- the commit whose data an offer has
abbrev pub data_in : Offered → Option ℕ
data_in Nothing = None
data_in Null = None
data_in (Data commit) = Some commit

abbrev pub offers_of : Opportunity → Standing → NodeOffers
offers_of window h = record {
  a = data_in (outgoing_on h.plan h.transmit window A).offered;
  b = data_in (outgoing_on h.plan h.transmit window B).offered;
}

-- the commits that the nodes offer in the window
abbrev pub offers_in : Option Opportunity → List Standing → List NodeOffers
offers_in None hs = []
offers_in (Some window) hs = map (offers_of window) hs

-- the line of a commit that a node sent in the window on the channel
abbrev pub sent_on : Description → Recorded → ℕ → ℕ → Channel → Option ℕ → List ℕ
sent_on d r cycle node channel None = []
sent_on d r cycle node channel (Some commit) =
    line_text (codes "sent" ∷ decimal node ∷ decimal commit ∷ words_by d r cycle node channel)

abbrev pub sent_at : Description → Recorded → ℕ → ℕ → NodeOffers → List ℕ
sent_at d r cycle node offers =
    sent_on d r cycle node A offers.a ++ sent_on d r cycle node B offers.b

-- the lines of the nodes from this one on, with these offers
abbrev pub sent_from : Description → Recorded → ℕ → ℕ → List NodeOffers → List ℕ
sent_from d r cycle node [] = []
sent_from d r cycle node (o ∷ os) = sent_at d r cycle node o ++ sent_from d r cycle (node + 1) os

-- ---- the end

abbrev pub left_on : ℕ → Standing → ℕ → List ℕ
left_on node h buffer = pending_text node (pending_at h.transmit buffer)

-- the pending commits of a node with so many buffers
abbrev pub left_at : ℕ → Standing → ℕ → List ℕ
left_at node h count = flat_map (left_on node h) (range_with_len 0 count)

-- those of all nodes, each with its number of buffers
abbrev pub left_in : List Standing → List ℕ → ℕ → List ℕ
left_in [] counts node = []
left_in (h ∷ hs) [] node = []
left_in (h ∷ hs) (count ∷ counts) node = left_at node h count ++ left_in hs counts (node + 1)

-- ---- worlds between windows

-- the window of a fetch is sealed
abbrev pub IsSealedIn : List Recorded → Entry → Type 0
IsSealedIn rs (entries.Commit task buffer payload) = Unit {0}
IsSealedIn rs (entries.Withdraw task buffer of) = Unit {0}
IsSealedIn rs (entries.Read task buffer from) = Unit {0}
IsSealedIn rs (entries.Pop task from) = Unit {0}
IsSealedIn rs (entries.Fetch window a b) = (r : Recorded) × (slice_get rs window.number ≡ Some r)
IsSealedIn rs (entries.Observe window a b) = Unit {0}

-- A world of the cluster, in which each window that a node fetched is sealed. Each node has fetched the first window of
-- each cycle that began.
pub record IsBetween (d : Description) (w : WorldState) : Type 0 where
  pub world : IsWorld w
  pub room : Entries
  pub cluster : w.bus.cluster ≡ with_room room d
  pub sealed : (n : ℕ) → All (IsSealedIn w.bus.sealed) (entries_at w n)
  pub begun : (n : ℕ) → n < length w.interfaces → cycles_of (entries_at w n) ≡ cycles_begun w.bus.sealed
