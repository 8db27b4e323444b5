-- The outcome of the transmissions of a window, and each node's observation (project-defined; bus guardians are those
-- of chapter 5).
use Rattle.std.specs.Prelude.{ℕ, ◌+◌, ◌-◌, ◌*◌, ◌==◌, nat_lt, max, Bool, true, false, ◌&&◌, List, [], ◌∷◌, ◌++◌, length}
use Rattle.std.specs.Prelude.{map, Option, Some, None, if◌then◌else◌}
use Rattle.std.specs.List.{list_any, filter, fold}
use Rattle.arrayvec.specs.ArrayVec.{ArrayVec}
use Rattle.fr_bus.specs.Corruption.{corrupted}
use Rattle.fr_bus.specs.declared.outcome.SentFate.{SentFate}
use Rattle.fr_bus.specs.declared.outcome.SentFate.TheVariants.{Passed, Blocked, Muted}
use Rattle.fr_bus.specs.declared.outcome.Sent.{Sent}
use Rattle.fr_bus.specs.declared.station.Side.{Side}
use Rattle.fr_bus.specs.Stations.{Station}
use Rattle.fr_guardian.specs.Guarding.{passes}
use Rattle.fr_minislot.specs.DynamicRows.{minislots_filled_by}
use Rattle.fr_schedule.specs.Descriptions.{Description}
use Rattle.fr_slots.specs.Admission.{is_channel}
use Rattle.fr_slots.specs.declared.channel.Channel.{Channel}
use Rattle.fr_slots.specs.declared.channel.Channel.TheVariants.{A, B}
use Rattle.fr_slots.specs.Parameters.{Parameters}
use Rattle.fr_slots.specs.Windows.{Opportunity, slot_of, is_static}
use Rattle.fr_status.specs.Forms.{Seen}
use Rattle.fr_status.specs.declared.seen.Seen.TheVariants.{Silence, Own, Conflict, Noise, Overrun, Bytes}

-- ---- transmissions

-- a muted offer is lost before the guardian; every other transmission passes if the guardian lets it pass
abbrev pub fate_of : Bool → Bool → SentFate
fate_of muted let_pass = if muted then Muted else if let_pass then Passed else Blocked

-- a transmission has bytes
abbrev pub transmission : ℕ → Channel → Bool → SentFate → Option (ArrayVec ℕ) → List Sent
transmission node channel babble fate None = []
transmission node channel babble fate (Some bytes) =
    if length bytes.items == 0 then []
    else record { node = node; channel = channel; babble = babble; bytes = bytes; fate = fate } ∷ []

-- the transmissions of a node on a channel with a slot: its offer, then its babble
abbrev pub sent_on : Description → Opportunity → ℕ → Channel → Side → List Sent
sent_on d w node channel side =
    transmission node channel false (fate_of side.mute (passes d node w channel)) side.offer
    ++ transmission node channel true (fate_of false (passes d node w channel)) side.babble

-- there is no transmission on a channel without a slot
abbrev pub sent_in : Description → Opportunity → ℕ → Channel → Side → Option ℕ → List Sent
sent_in d w node channel side None = []
sent_in d w node channel side (Some slot) = sent_on d w node channel side

-- the transmissions of a node: channel A before channel B
abbrev pub sent_of : Description → Opportunity → ℕ → Station → List Sent
sent_of d w node s = sent_in d w node A s.a (slot_of w A) ++ sent_in d w node B s.b (slot_of w B)

-- the transmissions of the stations from this node on, in the order of the nodes
abbrev pub sent_from : Description → Opportunity → ℕ → List Station → List Sent
sent_from d w node [] = []
sent_from d w node (s ∷ ss) = sent_of d w node s ++ sent_from d w (node + 1) ss

-- ---- transmissions that passed

abbrev pub is_passed : SentFate → Bool
is_passed Passed = true
is_passed Blocked = false
is_passed Muted = false

abbrev pub passed_on : Channel → Sent → Bool
passed_on channel t = is_channel t.channel channel && is_passed t.fate

abbrev pub all_passed : Channel → List Sent → List Sent
all_passed channel sent = filter (passed_on channel) sent

-- the greatest number of bytes that passed on the channel, or 0
abbrev pub longest : Channel → List Sent → ℕ
longest channel sent = fold max 0 (map (λ (t : Sent). length t.bytes.items) (all_passed channel sent))

-- ---- observations

-- the bytes are too long for a static slot, or for the rest of the dynamic segment
abbrev pub overruns : Parameters → Opportunity → ℕ → Bool
overruns p w bytes =
    if is_static w then nat_lt (8 + 2 * p.static_words) bytes
    else nat_lt p.minislots (w.minislot - 1 + minislots_filled_by p bytes)

-- the other nodes' observation of the only transmission that passed
abbrev pub received : Parameters → Opportunity → Option ℕ → ArrayVec ℕ → Seen
received p w corrupt bytes = if overruns p w (length bytes.items) then Overrun else Bytes (corrupted bytes corrupt)

abbrev pub is_of : ℕ → Sent → Bool
is_of node t = t.node == node

-- the observation of a node that sends nothing, if these passed
abbrev pub heard_of : Parameters → Opportunity → Option ℕ → List Sent → Seen
heard_of p w corrupt [] = Silence
heard_of p w corrupt (t ∷ []) = received p w corrupt t.bytes
heard_of p w corrupt (t ∷ u ∷ ts) = Noise

-- the observation of a node, if these passed
abbrev pub seen_of : Parameters → Opportunity → Option ℕ → ℕ → List Sent → Seen
seen_of p w corrupt node [] = Silence
seen_of p w corrupt node (t ∷ []) = if is_of node t then Own else received p w corrupt t.bytes
seen_of p w corrupt node (t ∷ u ∷ ts) = if list_any (is_of node) (t ∷ u ∷ ts) then Conflict else Noise
