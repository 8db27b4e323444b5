-- The record of a window.
use Rattle.std.specs.Prelude.{◌≡◌, ℕ, ◌==◌, Bool, not, ◌&&◌, List, [], ◌∷◌, length, Option, Some, None, if◌then◌else◌}
use Rattle.arrayvec.specs.ArrayVec.{ArrayVec}
use Rattle.fr_bus.specs.declared.outcome.Sent.{Sent}
use Rattle.fr_bus.specs.declared.station.Side.{Side}
use Rattle.fr_bus.specs.Stations.{Station}
use Rattle.fr_bus.specs.Outcome.{sent_from, heard_of, seen_of, all_passed, is_of}
use Rattle.fr_slots.specs.Admission.{is_channel}
use Rattle.fr_schedule.specs.Descriptions.{Description}
use Rattle.fr_slots.specs.declared.channel.Channel.{Channel}
use Rattle.fr_slots.specs.declared.channel.Channel.TheVariants.{A, B}
use Rattle.fr_slots.specs.Parameters.{Parameters}
use Rattle.fr_slots.specs.Windows.{Opportunity}
use Rattle.fr_status.specs.Forms.{Seen}
use Rattle.fr_status.specs.declared.seen.Seen.TheVariants.{Silence}

-- the window, its transmissions, and the bits that were to be flipped
pub record Recorded : Type 0 where
  pub window : Opportunity
  pub sent : List Sent
  pub corrupt_a : Option ℕ
  pub corrupt_b : Option ℕ

abbrev pub corrupt_on : Recorded → Channel → Option ℕ
corrupt_on r A = r.corrupt_a
corrupt_on r B = r.corrupt_b

-- the observation of a node on a channel of a recorded window
abbrev pub seen_by : Parameters → Recorded → Channel → ℕ → Seen
seen_by p r channel node = seen_of p r.window (corrupt_on r channel) node (all_passed channel r.sent)

-- the observation on a channel of a recorded window, for a node that sends nothing there
abbrev pub heard : Parameters → Recorded → Channel → Seen
heard p r channel = heard_of p r.window (corrupt_on r channel) (all_passed channel r.sent)

-- the same on the channel of the last window, or silence before the first one
abbrev pub heard_last : Parameters → Option Recorded → Channel → Seen
heard_last p None channel = Silence
heard_last p (Some r) channel = heard p r channel

-- some offers and faults of the cluster's nodes have this outcome
pub record IsOutcome (d : Description) (r : Recorded) : Type 0 where
  pub stations : List Station
  pub one_each : length stations ≡ length d.plans
  pub sent_is : r.sent ≡ sent_from d r.window 0 stations

-- ---- the offer of a node

abbrev pub side_on : Channel → Station → Side
side_on A s = s.a
side_on B s = s.b

abbrev pub is_offer_of : Channel → ℕ → Sent → Bool
is_offer_of channel node t = is_of node t && is_channel t.channel channel && not t.babble

-- the bytes of the node's offer among these
abbrev pub offer_in : Channel → ℕ → List Sent → Option (ArrayVec ℕ)
offer_in channel node [] = None
offer_in channel node (t ∷ ts) = if is_offer_of channel node t then Some t.bytes else offer_in channel node ts

-- an offer without bytes is no offer
abbrev pub if_bytes : Option (ArrayVec ℕ) → Option (ArrayVec ℕ)
if_bytes None = None
if_bytes (Some bytes) = if length bytes.items == 0 then None else Some bytes

-- on a channel without a slot there is no offer
abbrev pub recordable : Option ℕ → Option (ArrayVec ℕ) → Option (ArrayVec ℕ)
recordable None offer = None
recordable (Some slot) offer = if_bytes offer
