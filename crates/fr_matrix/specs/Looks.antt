-- The content of a cell, which follows from a window of the record: the observation, the sender, and the results of the
-- other transmissions (project-defined).
use Rattle.std.specs.Prelude.{ℕ, ◌/◌, nat_lt, length, Bool, true, false, ◌&&◌, List, Option, Some, None, is_some}
use Rattle.std.specs.Prelude.{codes, option_map, if◌then◌else◌}
use Rattle.std.specs.List.{find, list_any}
use Rattle.fr_bus.specs.declared.outcome.SentFate.{SentFate}
use Rattle.fr_bus.specs.declared.outcome.SentFate.TheVariants.{Passed, Blocked, Muted}
use Rattle.fr_bus.specs.declared.outcome.Sent.{Sent}
use Rattle.fr_bus.specs.Outcome.{passed_on}
use Rattle.fr_bus.specs.Record.{Recorded, corrupt_on, heard, seen_by}
use Rattle.fr_frame.specs.Decoding.{decoded}
use Rattle.fr_frame.specs.Fields.{Fields}
use Rattle.fr_matrix.specs.declared.look.Look.{Look}
use Rattle.fr_matrix.specs.declared.look.Look.TheVariants as look
use Rattle.fr_matrix.specs.declared.look.Marks.{Marks}
use Rattle.fr_matrix.specs.declared.view.View.{View}
use Rattle.fr_slots.specs.Admission.{is_channel}
use Rattle.fr_slots.specs.declared.channel.Channel.{Channel}
use Rattle.fr_slots.specs.Parameters.{Parameters}
use Rattle.fr_status.specs.Forms.{Seen}
use Rattle.fr_status.specs.declared.seen.Seen.TheVariants as seen

-- ---- observations

abbrev pub look_read : Option Fields → Look
look_read None = look.Broken
look_read (Some f) = if f.has_data then look.Data else look.Null

abbrev pub look_of : Channel → Seen → Look
look_of channel seen.Silence = look.Silence
look_of channel seen.Own = look.Own
look_of channel seen.Conflict = look.Collision
look_of channel seen.Noise = look.Collision
look_of channel seen.Overrun = look.Overrun
look_of channel (seen.Bytes bytes) = look_read (decoded channel bytes.items)

-- the observation of the node, or without one that of a passive listener
abbrev pub sight_in : Parameters → Channel → Recorded → Option ℕ → Seen
sight_in p channel r (Some node) = seen_by p r channel node
sight_in p channel r None = heard p r channel

abbrev pub look_in : Parameters → View → Recorded → Look
look_in p v r = look_of v.channel (sight_in p v.channel r v.node)

-- the sender of the first transmission that passed on the channel
abbrev pub sender_in : Channel → List Sent → Option ℕ
sender_in channel sent = option_map (λ (t : Sent). t.node) (find (passed_on channel) sent)

-- ---- the results of the other transmissions

abbrev pub was_blocked : SentFate → Bool
was_blocked Passed = false
was_blocked Blocked = true
was_blocked Muted = false

abbrev pub was_lost : SentFate → Bool
was_lost Passed = false
was_lost Blocked = false
was_lost Muted = true

abbrev pub is_blocked : Channel → Sent → Bool
is_blocked channel t = is_channel t.channel channel && was_blocked t.fate

abbrev pub is_lost : Channel → Sent → Bool
is_lost channel t = is_channel t.channel channel && was_lost t.fate

-- The bit is flipped if the bytes that came through have it: not if several transmissions passed, or none, or one that
-- was too long.
abbrev pub turned_in : Option ℕ → Seen → Option ℕ
turned_in None sight = None
turned_in (Some bit) seen.Silence = None
turned_in (Some bit) seen.Own = None
turned_in (Some bit) seen.Conflict = None
turned_in (Some bit) seen.Noise = None
turned_in (Some bit) seen.Overrun = None
turned_in (Some bit) (seen.Bytes bytes) = if nat_lt (bit / 8) (length bytes.items) then Some bit else None

abbrev pub turned_bit : Parameters → Channel → Recorded → Option ℕ
turned_bit p channel r = turned_in (corrupt_on r channel) (heard p r channel)

abbrev pub marks_in : Parameters → Channel → Recorded → Marks
marks_in p channel r = record {
  blocked = list_any (is_blocked channel) r.sent;
  lost = list_any (is_lost channel) r.sent;
  turned = is_some (turned_bit p channel r);
}

-- ---- words

abbrev pub look_word : Look → List ℕ
look_word look.Silence = codes "silence"
look_word look.Own = codes "own"
look_word look.Data = codes "data"
look_word look.Null = codes "null"
look_word look.Broken = codes "broken"
look_word look.Collision = codes "collision"
look_word look.Overrun = codes "overrun"

-- the sign after the sender's number
abbrev pub sign : Look → List ℕ
sign look.Silence = codes ""
sign look.Own = codes "="
sign look.Data = codes ""
sign look.Null = codes "-"
sign look.Broken = codes "?"
sign look.Collision = codes "X"
sign look.Overrun = codes "+"
