-- The slot statuses of some frames, computed from their bytes. The cluster has three static slots of one word.
use Rattle.std.proofs.Common.{◌≡◌, ℕ, List, [], ◌∷◌, None, refl}
use Rattle.fr_slots.specs.declared.channel.Channel.TheVariants.{A}
use Rattle.fr_slots.specs.Parameters.{Parameters}
use Rattle.fr_frame.specs.Bits.{bits_of, number_of}
use Rattle.fr_frame.specs.Crc.{xor_front, divide_once, divide}
use Rattle.fr_frame.specs.Decoding.{decoded, fields_of}
use Rattle.fr_status.specs.declared.seen.Seen.TheVariants.{Bytes}
use Rattle.fr_status.specs.Status.{status_in, frame_in, valid_frame, content_error}
use Rattle.std.specs.Prelude.{Some}

abbrev one_word : Parameters
one_word = record {
  static_slots = 3;
  minislots = 4;
  static_words = 1;
  static_mt = 20;
  minislot_mt = 5;
  symbol_mt = 0;
  nit_mt = 10;
  cycle_mt = 90;
  idle = 0;
  words_per_minislot = 5;
}

-- these bytes are a content error on channel A, in this slot of cycle 0
abbrev IsContentError : ℕ → List ℕ → Type 0
IsContentError slot bytes = (status_in one_word 0 slot A (Bytes (record { items = bytes })) ≡ content_error) ×
    (frame_in one_word 0 slot A (Bytes (record { items = bytes })) ≡ None)

abbrev IsValidFrame : ℕ → List ℕ → Type 0
IsValidFrame slot bytes = (status_in one_word 0 slot A (Bytes (record { items = bytes })) ≡ valid_frame) ×
    (frame_in one_word 0 slot A (Bytes (record { items = bytes })) ≡ Some (fields_of bytes))

abbrev two_words : List ℕ
two_words = 0x20 ∷ 0x02 ∷ 0x04 ∷ 0xe2 ∷ 0x80 ∷ 0x0a ∷ 0x0b ∷ 0x0c ∷ 0x0d ∷ 0x11 ∷ 0xee ∷ 0xd6 ∷ []

abbrev of_slot_three : List ℕ
of_slot_three = 0x20 ∷ 0x03 ∷ 0x03 ∷ 0xbc ∷ 0x00 ∷ 0x0a ∷ 0x0b ∷ 0x3e ∷ 0x8b ∷ 0xc8 ∷ []

abbrev of_cycle_one : List ℕ
of_cycle_one = 0x20 ∷ 0x02 ∷ 0x03 ∷ 0xc1 ∷ 0x41 ∷ 0x0a ∷ 0x0b ∷ 0xaa ∷ 0x4d ∷ 0x43 ∷ []

abbrev startup_without_sync : List ℕ
startup_without_sync = 0x28 ∷ 0x02 ∷ 0x03 ∷ 0x79 ∷ 0x00 ∷ 0x0a ∷ 0x0b ∷ 0x83 ∷ 0x03 ∷ 0x20 ∷ []

abbrev null_in_slot_four : List ℕ
null_in_slot_four = 0x00 ∷ 0x04 ∷ 0x02 ∷ 0xce ∷ 0xc0 ∷ 0x0a ∷ 0x0b ∷ 0x5e ∷ 0x1e ∷ 0x7e ∷ []

abbrev null_in_slot_two : List ℕ
null_in_slot_two = 0x00 ∷ 0x02 ∷ 0x03 ∷ 0xc1 ∷ 0x40 ∷ 0x00 ∷ 0x00 ∷ 0xd8 ∷ 0x20 ∷ 0x38 ∷ []

-- two words in place of one, the ID of another slot, the count of another cycle, and startup without sync
pub content_errors_in_a_static_slot : IsContentError 2 two_words × IsContentError 2 of_slot_three
    × IsContentError 2 of_cycle_one × IsContentError 2 startup_without_sync
unfolding status_in frame_in decoded bits_of number_of xor_front divide_once divide
content_errors_in_a_static_slot = ((refl, refl), (refl, refl), (refl, refl), (refl, refl))

-- a null frame is valid in a static slot, and a content error in a dynamic slot
pub a_null_frame_belongs_in_a_static_slot : IsValidFrame 2 null_in_slot_two × IsContentError 4 null_in_slot_four
unfolding status_in frame_in decoded bits_of number_of xor_front divide_once divide
a_null_frame_belongs_in_a_static_slot = ((refl, refl), (refl, refl))
