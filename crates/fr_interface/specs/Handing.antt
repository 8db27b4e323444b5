-- The frames that the fetches of a journal handed to the bus, by the numbers of their entries (chapters 5 and 9).
use Rattle.std.specs.Prelude.{ℕ, List, Option, None, take, slice_get}
use Rattle.std.specs.Option.{option_and_then}
use Rattle.arrayvec.specs.ArrayVec.{ArrayVec}
use Rattle.fr_interface.specs.State.{State}
use Rattle.fr_journal.specs.Forms.{Entry}
use Rattle.fr_journal.specs.declared.entry.Entry.TheVariants.{Commit, Withdraw, Read, Pop, Fetch, Observe}
use Rattle.fr_journal.specs.declared.entry.Offered.{Offered}
use Rattle.fr_interface.specs.declared.interface.Offer.{Offer}
use Rattle.fr_journal.specs.Offers.{frame_with, frame_offered, bytes_of}
use Rattle.fr_slots.specs.declared.channel.Channel.{Channel}
use Rattle.fr_slots.specs.declared.channel.Channel.TheVariants.{A, B}
use Rattle.fr_slots.specs.Parameters.{Parameters}
use Rattle.fr_slots.specs.Plans.{Plan}
use Rattle.fr_slots.specs.Windows.{Opportunity}

-- the offer on one of the two channels
abbrev pub offered_on : Channel → Offered → Offered → Offered
offered_on A a b = a
offered_on B a b = b

-- the bytes that an entry handed to the bus on a channel, with the entries before it
abbrev pub bytes_in_entry : Parameters → Plan → List Entry → Channel → Entry → Option (ArrayVec ℕ)
bytes_in_entry params plan before channel (Commit task buffer payload) = None
bytes_in_entry params plan before channel (Withdraw task buffer of) = None
bytes_in_entry params plan before channel (Read task buffer from) = None
bytes_in_entry params plan before channel (Pop task from) = None
bytes_in_entry params plan before channel (Fetch window a b) =
    bytes_of channel (frame_with params plan before window channel (offered_on channel a b))
bytes_in_entry params plan before channel (Observe window a b) = None

-- the bytes that the fetch of this number handed to the bus on the channel
abbrev pub bytes_handed : State → ℕ → Channel → Option (ArrayVec ℕ)
bytes_handed s number channel =
    option_and_then (bytes_in_entry s.params s.plan (take number s.entries) channel) (slice_get s.entries number)

-- the bytes that a fetch of the window hands to the bus on both channels
abbrev pub offer_of : State → Opportunity → Offer
offer_of s window = record {
  a = bytes_of A (frame_offered s.params s.plan s.entries window A);
  b = bytes_of B (frame_offered s.params s.plan s.entries window B);
}
