-- The forms of an observation: with its own bytes, and with borrowed bytes.
use Rattle.std.specs.Prelude.{ℕ, List}
use Rattle.std.specs.Borrow.{Bor}
use Rattle.arrayvec.specs.ArrayVec.{ArrayVec}
use Rattle.fr_status.specs.declared.seen.Seen.{Seen as SeenOf}
use Rattle.fr_status.specs.declared.seen.Seen.TheVariants.{Silence, Own, Conflict, Noise, Overrun, Bytes}

abbrev pub Seen : Type 0
Seen = SeenOf (ArrayVec ℕ)

abbrev pub LentSeen : Type 0
LentSeen = SeenOf (Bor (List ℕ))

-- the same observation with its bytes in another form
abbrev pub with_seen_bytes : {B C : Type 0} → (B → C) → SeenOf B → SeenOf C
with_seen_bytes f Silence = Silence
with_seen_bytes f Own = Own
with_seen_bytes f Conflict = Conflict
with_seen_bytes f Noise = Noise
with_seen_bytes f Overrun = Overrun
with_seen_bytes f (Bytes bytes) = Bytes (f bytes)

abbrev pub whole_seen : LentSeen → Seen
whole_seen seen = with_seen_bytes (λ bytes. record { items = bytes.now }) seen
