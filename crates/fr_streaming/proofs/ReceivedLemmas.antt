-- The words of an observation: bytes with the status of a frame are a frame.
use Rattle.std.proofs.Common.{◌≡◌, ℕ, true, List, ◌++◌, Option, Some, None, refl}
use Rattle.std.specs.Prelude.{Result, Ok, Err, OnOk, is_some, if◌then◌else◌}
use Rattle.std.specs.Io.KnownBytes.{Appends}
use Rattle.std.proofs.KnownBytes.{Appends-trans}
use Rattle.arrayvec.specs.ArrayVec.{ArrayVec}
use Rattle.fr_frame.specs.Decoding.{decoded, fields_of}
use Rattle.fr_frame.specs.Fields.{Fields}
use Rattle.fr_frame.specs.Refusal.{refusal}
use Rattle.fr_frame.specs.declared.decode.DecodeError.{DecodeError}
use Rattle.fr_slots.specs.declared.channel.Channel.{Channel}
use Rattle.fr_slots.specs.Parameters.{Parameters}
use Rattle.fr_slots.specs.Windows.{Opportunity}
use Rattle.fr_status.specs.Status.{judged, status_in}
use Rattle.fr_status.specs.declared.seen.Seen.TheVariants.{Bytes}
use Rattle.fr_streaming.specs.Received.{is_frame, status_at}

judged_frame : (e : Option DecodeError) (f : Fields) (p : Parameters) (cycle slot : ℕ)
    → is_frame (Some (judged p cycle slot (if is_some e then None else Some f))) ≡ true → e ≡ None
judged_frame None f p cycle slot is = refl
judged_frame (Some e) f p cycle slot is = absurd (let no : ⊥ = cc is in no)

pub spells_frame : (p : Parameters) (w : Opportunity) (channel : Channel) (b : ArrayVec ℕ) (slot : Option ℕ)
    → is_frame (status_at p w channel (Bytes b) slot) ≡ true → refusal channel b.items ≡ None
unfolding status_in decoded
spells_frame p w channel b None is = absurd (let no : ⊥ = cc is in no)
spells_frame p w channel b (Some slot) is =
    judged_frame (refusal channel b.items) (fields_of b.items) p w.cycle slot is

-- the last step appends its text to the text of the steps before it
pub appends-last : {A E : Type 0} (r : Result A E) (old mid new : Option (List ℕ)) (front back : List ℕ)
    → Appends old mid front → OnOk r (Appends mid new back) → OnOk r (Appends old new (front ++ back))
appends-last (Ok x) old mid new front back before last = Appends-trans old mid new front back before last
appends-last (Err e) old mid new front back before last = tt
