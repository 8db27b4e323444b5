-- The passive listener of a capture of the bus, against the observations of a node that sends nothing
-- (project-defined).
use Rattle.std.specs.Prelude.{◌≡◌, ℕ, ◌⊎◌, Bool, true, false, Option}
use Rattle.std.specs.List.{list_any}
use Rattle.arrayvec.specs.ArrayVec.{ArrayVec}
use Rattle.fr_bus.specs.Outcome.{all_passed, is_of}
use Rattle.fr_bus.specs.Record.{Recorded, seen_by, heard}
use Rattle.fr_capture.specs.Pcap.{record_seen}
use Rattle.fr_showing.specs.Listening.{heard_record}
use Rattle.fr_slots.specs.declared.channel.Channel.{Channel}
use Rattle.fr_slots.specs.Parameters.{Parameters}
use Rattle.fr_status.specs.declared.seen.Seen.TheVariants.{Own, Conflict}

-- a transmission of the node passed on the channel
abbrev pub sends_there : Recorded → Channel → ℕ → Bool
sends_there r channel node = list_any (is_of node) (all_passed channel r.sent)

-- a node of which nothing passed observes what the listener does
abbrev pub IsHeardAlike : Type 0
IsHeardAlike = (p : Parameters) (r : Recorded) (channel : Channel) (node : ℕ) → sends_there r channel node ≡ false
    → seen_by p r channel node ≡ heard p r channel

-- A capture of the bus has the record that the capture of such a node has for the window, whichever of its own frames
-- that one shows.
abbrev pub IsCapturedAlike : Type 0
IsCapturedAlike = (p : Parameters) (r : Recorded) (channel : Channel) (node time : ℕ) (own : Bool)
    (handed : Option (ArrayVec ℕ)) → sends_there r channel node ≡ false
    → record_seen own time channel (seen_by p r channel node) handed ≡ heard_record time channel (heard p r channel)

-- a node of which something passed observes its own transmission or a collision
abbrev pub IsOwnOrConflict : Type 0
IsOwnOrConflict = (p : Parameters) (r : Recorded) (channel : Channel) (node : ℕ) → sends_there r channel node ≡ true
    → (seen_by p r channel node ≡ Own) ⊎ (seen_by p r channel node ≡ Conflict)
