-- The lines of the scripts of a run, each with its answer (project-defined).
use Rattle.std.specs.Prelude.{ℕ, List, [], ◌∷◌, ◌++◌, codes, slice_get, take, Option, Some, None, option_map}
use Rattle.std.specs.Fmt.{decimal}
use Rattle.std.specs.Option.{option_and_then}
use Rattle.fr_core.specs.declared.event.Reply.{Reply}
use Rattle.fr_core.specs.declared.event.Reply.TheVariants.{Committed, Withdrawn, Frame, Window, Done}
use Rattle.fr_core.specs.Steps.{reply_of}
use Rattle.fr_core.specs.Worlds.{WorldState}
use Rattle.fr_frame.specs.Fields.{Fields}
use Rattle.fr_interface.specs.declared.call.Answer.{Answer}
use Rattle.fr_interface.specs.declared.call.Answer.TheVariants as answer
use Rattle.fr_interface.specs.declared.call.Call.{Call}
use Rattle.fr_interface.specs.State.{State}
use Rattle.fr_journal.specs.Cycles.{run_cycle}
use Rattle.fr_journal.specs.declared.entry.Arrival.{Arrival}
use Rattle.fr_journal.specs.Forms.{Entry}
use Rattle.fr_journal.specs.declared.entry.Entry.TheVariants as entry
use Rattle.fr_journal.specs.declared.entry.Origin.{Origin}
use Rattle.fr_lines.specs.Parts.{absent, optional_number}
use Rattle.fr_lines.specs.Spelling.{line_feed}
use Rattle.fr_playing.specs.Calls.{Asked, asked_of}
use Rattle.fr_playing.specs.declared.call.ExecutedCall.{ExecutedCall}
use Rattle.fr_scenario.specs.Spelling.{kind_word, call_words}
use Rattle.fr_slots.specs.Admission.{letter_of}
use Rattle.fr_slots.specs.declared.channel.Channel.{Channel}
use Rattle.fr_text.specs.Spaces.{line_of}
use Rattle.fr_text.specs.Spelling.{hex_text}

-- ---- the origin of a frame

-- the origin of the frame of a read or a pop, from its entry
abbrev pub origin_of : Entry → Option Origin
origin_of (entry.Commit task buffer payload) = None
origin_of (entry.Withdraw task buffer of) = None
origin_of (entry.Read task buffer from) = from
origin_of (entry.Pop task from) = from
origin_of (entry.Fetch window a b) = None
origin_of (entry.Observe window a b) = None

abbrev pub channel_at : Option Entry → Option Channel
channel_at e = option_map (λ (origin : Origin). origin.channel) (option_and_then origin_of e)

-- the channel of the frame of the entry of this number
abbrev pub channel_in : Option State → ℕ → Option Channel
channel_in None number = None
channel_in (Some s) number = channel_at (slice_get s.entries number)

-- the cycle of the run in which the frame of an entry of this journal came
abbrev pub came_at : List Entry → Option Entry → Option ℕ
came_at entries e =
    option_map (λ (origin : Origin). run_cycle (take origin.entry entries)) (option_and_then origin_of e)

-- the same of the entry of this number
abbrev pub came_in : Option State → ℕ → Option ℕ
came_in None number = None
came_in (Some s) number = came_at s.entries (slice_get s.entries number)

-- ---- words

-- the call in the words of a scenario, without its places
abbrev pub told_words : Call → List (List ℕ)
told_words call = kind_word call ∷ call_words call

abbrev pub channel_word : Option Channel → List ℕ
channel_word None = absent
channel_word (Some channel) = letter_of channel

-- a frame: its cycle count, its slot, its channel and its payload
abbrev pub frame_words : Option Channel → Fields → List (List ℕ)
frame_words channel f = decimal f.cycle ∷ decimal f.id ∷ channel_word channel ∷ hex_text f.payload ∷ []

abbrev pub answer_words : Option Channel → Reply → List (List ℕ)
answer_words channel (Committed receipt) = decimal receipt.entry ∷ []
answer_words channel (Withdrawn None) = absent ∷ []
answer_words channel (Withdrawn (Some commit)) = decimal commit ∷ []
answer_words channel (Frame None) = absent ∷ []
answer_words channel (Frame (Some f)) = frame_words channel f
answer_words channel (Window window) = absent ∷ []
answer_words channel Done = absent ∷ []

-- ---- a line

-- the node, the task, the cycle of the run, the call, and this reply with the channel of its frame
abbrev pub reply_text : Option Channel → Asked → Reply → List ℕ
reply_text channel asked reply =
    line_of (decimal asked.node ∷ decimal asked.task ∷ decimal asked.cycle ∷ line_of (told_words asked.call)
    ∷ codes "=" ∷ line_of (answer_words channel reply) ∷ [])

abbrev pub reply_line : Option Channel → Asked → Reply → List ℕ
reply_line channel asked reply = reply_text channel asked reply ++ line_feed

-- the same of an executed call
abbrev pub answer_line : WorldState → ExecutedCall → List ℕ
answer_line w call =
    reply_line (channel_in (slice_get w.interfaces call.node) call.entry) (asked_of call) call.reply

-- ---- a line by the answer of an interface

-- the channel of the frame in the answer
abbrev pub channel_answered : Answer → Option Channel
channel_answered (answer.Committed receipt) = None
channel_answered (answer.Withdrawn of) = None
channel_answered (answer.Frame arrival) = option_map (λ (a : Arrival). a.origin.channel) arrival

abbrev pub answered_line : Asked → Answer → List ℕ
answered_line asked answer = reply_line (channel_answered answer) asked (reply_of answer)

-- ---- a line with the cycle of the run in which the frame came

-- the cycle of a frame, after a space
abbrev pub came_text : Option ℕ → Reply → List ℕ
came_text came (Committed receipt) = []
came_text came (Withdrawn of) = []
came_text came (Frame None) = []
came_text came (Frame (Some f)) = 32 ∷ optional_number came
came_text came (Window window) = []
came_text came Done = []

-- the words of the line of the reply, and the cycle of the run in which its frame came
abbrev pub came_line : Option ℕ → Option Channel → Asked → Reply → List ℕ
came_line came channel asked reply = reply_text channel asked reply ++ came_text came reply ++ line_feed

-- the same of an executed call, by the origin of its frame
abbrev pub origin_line : WorldState → ExecutedCall → List ℕ
origin_line w call =
    came_line (came_in (slice_get w.interfaces call.node) call.entry)
    (channel_in (slice_get w.interfaces call.node) call.entry) (asked_of call) call.reply

-- by the answer of an interface
abbrev pub came_answered : Answer → Option ℕ
came_answered (answer.Committed receipt) = None
came_answered (answer.Withdrawn of) = None
came_answered (answer.Frame arrival) = option_map (λ (a : Arrival). a.cycle) arrival

abbrev pub origin_answered : Asked → Answer → List ℕ
origin_answered asked answer = came_line (came_answered answer) (channel_answered answer) asked (reply_of answer)
