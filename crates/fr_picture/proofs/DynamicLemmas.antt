-- The parts of a dynamic segment.
use Rattle.std.proofs.Common.{◌≡◌, ℕ, List, ◌++◌, Option, Some, None, Result, Ok, Err, refl}
use Rattle.std.specs.Prelude.{OnOk}
use Rattle.std.specs.Io.KnownBytes.{Appends}
use Rattle.std.proofs.KnownBytes.{Appends-trans}
use Rattle.fr_picture.specs.Dynamics.{AreSlotTexts, IsRoomText, dynamic_box}
use Rattle.fr_picture.specs.Owners.{Adds}
use Rattle.fr_picture.specs.Shares.{room_left, room_length}
use Rattle.fr_schedule.specs.Descriptions.{Description}
use Rattle.fr_slots.specs.declared.channel.Channel.{Channel}
use Rattle.fr_slots.specs.Plans.{Plan}

pub no_plan : (o : Option Plan) (plan : Plan) → None ≡ o → o ≡ Some plan → ⊥
no_plan o plan none some = let clash : ⊥ = cc (none, some) in clash

-- a text of one kind is one of the other
pub adds_other : {A E : Type 0} (r : Result A E) (P Q : List ℕ → Type 0) (old new : Option (List ℕ))
    → ((text : List ℕ) → P text → Q text) → OnOk r (Adds P old new) → OnOk r (Adds Q old new)
adds_other (Ok x) P Q old new other written =
    let (text, is, added) = written in
    (text, other text is, added)
adds_other (Err e) P Q old new other written = tt

pub room_done : {A E : Type 0} (r : Result A E) (d : Description) (cycle : ℕ) (channel : Channel)
    (old mid new : Option (List ℕ))
    → Appends old mid (dynamic_box (room_left d.params) (room_length d.params) channel)
    → OnOk r (Adds (AreSlotTexts d cycle channel 2047) mid new) → OnOk r (Adds (IsRoomText d cycle channel) old new)
room_done (Ok x) d cycle channel old mid new box rest =
    let (slots, slots_are, added) = rest in
    let front = dynamic_box (room_left d.params) (room_length d.params) channel in
    (front ++ slots, (slots, slots_are, refl), Appends-trans old mid new front slots box added)
room_done (Err e) d cycle channel old mid new box rest = tt
