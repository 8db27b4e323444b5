-- The end of a transmission, as views print it, against what nodes observe (project-defined).
use Rattle.std.specs.Prelude.{◌≡◌, ℕ, List, ◌∷◌, ◌++◌, Some}
use Rattle.fr_bus.specs.Corruption.{corrupted}
use Rattle.fr_bus.specs.declared.outcome.Sent.{Sent}
use Rattle.fr_bus.specs.declared.outcome.SentFate.TheVariants as fate
use Rattle.fr_bus.specs.Record.{Recorded, corrupt_on, heard}
use Rattle.fr_showing.specs.declared.ends.End.{End}
use Rattle.fr_showing.specs.declared.ends.End.TheVariants.{Alone, Turned, Overrun, Collided, Muted, Blocked}
use Rattle.fr_showing.specs.Ends.{end_of}
use Rattle.fr_slots.specs.Parameters.{Parameters}
use Rattle.fr_status.specs.declared.seen.Seen.TheVariants as seen

-- A listener hears the bytes of a transmission with this end, as they were sent or with one bit flipped, an overrun or
-- noise. Or the transmission didn't pass.
abbrev pub IsHeardWith : Parameters → Recorded → Sent → End → Type 0
IsHeardWith p r t Alone = heard p r t.channel ≡ seen.Bytes t.bytes
IsHeardWith p r t Turned =
    (bit : ℕ) × (corrupt_on r t.channel ≡ Some bit)
    × (heard p r t.channel ≡ seen.Bytes (corrupted t.bytes (Some bit)))
IsHeardWith p r t Overrun = heard p r t.channel ≡ seen.Overrun
IsHeardWith p r t Collided = heard p r t.channel ≡ seen.Noise
IsHeardWith p r t Muted = t.fate ≡ fate.Muted
IsHeardWith p r t Blocked = t.fate ≡ fate.Blocked

-- each transmission of a recorded window is heard with its end
abbrev pub AreEndsHeard : Type 0
AreEndsHeard = (p : Parameters) (r : Recorded) (before : List Sent) (t : Sent) (after : List Sent)
    → r.sent ≡ before ++ t ∷ after → IsHeardWith p r t (end_of p r t)
