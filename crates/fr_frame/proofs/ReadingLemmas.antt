-- The fields that a decoder reads from the header.
use Rattle.std.proofs.Common.{◌≡◌, ℕ, ◌+◌, ◌-◌, ◌*◌, ◌/◌, ◌^◌, ◌≤◌, ◌<◌, Bool, true, false, eqb, ltb, List, length}
use Rattle.std.proofs.Common.{take, drop, Some, None, refl, sym, ap, ◌∙◌, arith, bit_and}
use Rattle.std.proofs.lemmas.List.{length-take, length-drop, take_all, drop-take}
use Rattle.std.proofs.Math.Nat.{div-one}
use Rattle.std.proofs.lemmas.Bool.{le-ltb, eq-eqb, ne_eqb}
use Rattle.fr_slots.specs.declared.channel.Channel.{Channel}
use Rattle.fr_frame.specs.declared.decode.DecodeError.TheVariants.{LengthMismatch, HeaderCrc, FrameCrc}
use Rattle.fr_frame.specs.Bits.{bits_of, number_of, bits_of_bytes}
use Rattle.fr_frame.specs.Crc.{header_check, frame_check}
use Rattle.fr_frame.specs.Decoding.{payload_of, fields_of}
use Rattle.fr_frame.specs.Header.{bits_at, number_at, flag_at}
use Rattle.fr_frame.specs.Refusal.{refusal}
use Rattle.fr_frame.proofs.FieldLemmas.{field-bits, field-number, number-read}

pub refused_length : (channel : Channel) (bytes : List ℕ) → ltb (length bytes) 8 ≡ false
    → eqb (length bytes) (8 + 2 * number_at 16 7 bytes) ≡ false
    → refusal channel bytes ≡ Some LengthMismatch
refused_length channel bytes t1 t2 = rw (t1, t2) refl

pub refused_header : (channel : Channel) (bytes : List ℕ) → ltb (length bytes) 8 ≡ false
    → eqb (length bytes) (8 + 2 * number_at 16 7 bytes) ≡ true
    → eqb (number_at 23 11 bytes) (number_of (header_check (bits_at 3 20 bytes))) ≡ false
    → refusal channel bytes ≡ Some HeaderCrc
refused_header channel bytes t1 t2 t3 = rw (t1, t2, t3) refl

pub refused_frame : (channel : Channel) (bytes : List ℕ) → ltb (length bytes) 8 ≡ false
    → eqb (length bytes) (8 + 2 * number_at 16 7 bytes) ≡ true
    → eqb (number_at 23 11 bytes) (number_of (header_check (bits_at 3 20 bytes))) ≡ true
    → eqb (number_of (bits_of_bytes (drop (length bytes - 3) bytes)))
    (number_of (frame_check channel (take (length bytes - 3) bytes))) ≡ false
    → refusal channel bytes ≡ Some FrameCrc
refused_frame channel bytes t1 t2 t3 t4 = rw (t1, t2, t3, t4) refl

pub not_refused : (channel : Channel) (bytes : List ℕ) → ltb (length bytes) 8 ≡ false
    → eqb (length bytes) (8 + 2 * number_at 16 7 bytes) ≡ true
    → eqb (number_at 23 11 bytes) (number_of (header_check (bits_at 3 20 bytes))) ≡ true
    → eqb (number_of (bits_of_bytes (drop (length bytes - 3) bytes)))
    (number_of (frame_check channel (take (length bytes - 3) bytes))) ≡ true
    → refusal channel bytes ≡ None
not_refused channel bytes t1 t2 t3 t4 = rw (t1, t2, t3, t4) refl

-- ---- the tests of the code

pub long_enough : (n : ℕ) → 8 ≤ n → ltb n 8 ≡ false
long_enough n h = le-ltb n 8 h

-- the words that the code computes are those of the bits
pub words_is : (h : ℕ) (bytes : List ℕ) → bits_of 40 h ≡ bits_of_bytes (take 5 bytes)
    → number_at 16 7 bytes ≡ bit_and (h / 131072) 127
words_is h bytes e = field-number 16 7 17 h (bits_of_bytes (take 5 bytes)) e

pub stored_is : (h : ℕ) (bytes : List ℕ) → bits_of 40 h ≡ bits_of_bytes (take 5 bytes)
    → number_at 23 11 bytes ≡ bit_and (h / 64) 2047
stored_is h bytes e = field-number 23 11 6 h (bits_of_bytes (take 5 bytes)) e

pub covered_is : (h : ℕ) (bytes : List ℕ) → bits_of 40 h ≡ bits_of_bytes (take 5 bytes)
    → bits_at 3 20 bytes ≡ bits_of 20 (bit_and (h / 131072) 1048575)
covered_is h bytes e = field-bits 3 20 17 h (bits_of_bytes (take 5 bytes)) e

pub header_read : (h : ℕ) (bytes : List ℕ) → 5 ≤ length bytes
    → bits_of (8 * length (take 5 bytes)) h ≡ bits_of_bytes (take 5 bytes) → bits_of 40 h ≡ bits_of_bytes (take 5 bytes)
header_read h bytes long e =
    let five : 40 ≡ 8 * length (take 5 bytes) = omega (arith, length-take 5 bytes) in
    ap (λ (m : ℕ). bits_of m h) five ∙ e

-- ---- the four tests, by the code's comparisons

pub length_test : (h : ℕ) (bytes : List ℕ) → bits_of 40 h ≡ bits_of_bytes (take 5 bytes)
    → length bytes ≡ 8 + 2 * bit_and (h / 131072) 127 → eqb (length bytes) (8 + 2 * number_at 16 7 bytes) ≡ true
length_test h bytes e is = eq-eqb _ _ (is ∙ ap (λ (w : ℕ). 8 + 2 * w) (sym (words_is h bytes e)))

pub length_test_fails : (h : ℕ) (bytes : List ℕ) → bits_of 40 h ≡ bits_of_bytes (take 5 bytes)
    → (length bytes ≡ 8 + 2 * bit_and (h / 131072) 127 → ⊥) → eqb (length bytes) (8 + 2 * number_at 16 7 bytes) ≡ false
length_test_fails h bytes e not_is = ne_eqb _ _ (λ same. not_is (same ∙ ap (λ (w : ℕ). 8 + 2 * w) (words_is h bytes e)))

header_crc_is : (h crc : ℕ) (bytes : List ℕ) → bits_of 40 h ≡ bits_of_bytes (take 5 bytes)
    → crc ≡ number_of (header_check (bits_of 20 (bit_and (h / 131072) 1048575)))
    → number_of (header_check (bits_at 3 20 bytes)) ≡ crc
header_crc_is h crc bytes e is = ap (λ (t : List Bool). number_of (header_check t)) (covered_is h bytes e) ∙ sym is

pub header_test : (h crc : ℕ) (bytes : List ℕ) → bits_of 40 h ≡ bits_of_bytes (take 5 bytes)
    → crc ≡ number_of (header_check (bits_of 20 (bit_and (h / 131072) 1048575)))
    → bit_and (h / 64) 2047 ≡ crc → eqb (number_at 23 11 bytes) (number_of (header_check (bits_at 3 20 bytes))) ≡ true
header_test h crc bytes e is same = eq-eqb _ _ (stored_is h bytes e ∙ same ∙ sym (header_crc_is h crc bytes e is))

pub header_test_fails : (h crc : ℕ) (bytes : List ℕ) → bits_of 40 h ≡ bits_of_bytes (take 5 bytes)
    → crc ≡ number_of (header_check (bits_of 20 (bit_and (h / 131072) 1048575)))
    → (bit_and (h / 64) 2047 ≡ crc → ⊥) → eqb (number_at 23 11 bytes) (number_of (header_check (bits_at 3 20 bytes)))
    ≡ false
header_test_fails h crc bytes e is other = ne_eqb _ _ (λ same. other
    (sym (stored_is h bytes e) ∙ same ∙ header_crc_is h crc bytes e is))

-- the slice of the last three bytes
pub last_part : (bytes : List ℕ) → take (length bytes - (length bytes - 3)) (drop (length bytes - 3) bytes) ≡ drop
    (length bytes - 3) bytes
last_part bytes = take_all (length bytes - (length bytes - 3)) (drop (length bytes - 3) bytes)
    (omega (arith, length-drop (length bytes - 3) bytes))

last_is : (n : ℕ) (bytes part : List ℕ) → part ≡ drop (length bytes - 3) bytes
    → bits_of (8 * length part) n ≡ bits_of_bytes part → n < 2 ^ (8 * length part)
    → number_of (bits_of_bytes (drop (length bytes - 3) bytes)) ≡ n
last_is n bytes part is read fits = ap (λ (t : List ℕ). number_of (bits_of_bytes t)) (sym is)
    ∙ number-read part n read fits

pub frame_test : (channel : Channel) (n crc : ℕ) (bytes part : List ℕ) → part ≡ drop (length bytes - 3) bytes
    → bits_of (8 * length part) n ≡ bits_of_bytes part → n < 2 ^ (8 * length part)
    → crc ≡ number_of (frame_check channel (take (length bytes - 3) bytes)) → n ≡ crc
    → eqb (number_of (bits_of_bytes (drop (length bytes - 3) bytes)))
    (number_of (frame_check channel (take (length bytes - 3) bytes))) ≡ true
frame_test channel n crc bytes part is read fits crc_is same =
    eq-eqb _ _ (last_is n bytes part is read fits ∙ same ∙ crc_is)

pub frame_test_fails : (channel : Channel) (n crc : ℕ) (bytes part : List ℕ) → part ≡ drop (length bytes - 3) bytes
    → bits_of (8 * length part) n ≡ bits_of_bytes part → n < 2 ^ (8 * length part)
    → crc ≡ number_of (frame_check channel (take (length bytes - 3) bytes)) → (n ≡ crc → ⊥)
    → eqb (number_of (bits_of_bytes (drop (length bytes - 3) bytes)))
    (number_of (frame_check channel (take (length bytes - 3) bytes))) ≡ false
frame_test_fails channel n crc bytes part is read fits crc_is other =
    ne_eqb _ _ (λ same. other (sym (last_is n bytes part is read fits) ∙ same ∙ sym crc_is))

-- ---- the fields

flag_read : (place low h : ℕ) (bytes : List ℕ) → bits_of (place + (1 + low)) h ≡ bits_of_bytes (take 5 bytes)
    → eqb (bit_and (h / 2 ^ low) 1) 1 ≡ flag_at place bytes
flag_read place low h bytes e = ap (λ (x : ℕ). eqb x 1) (sym
    (field-number place 1 low h (bits_of_bytes (take 5 bytes)) e))

cycle_read : (h : ℕ) (bytes : List ℕ) → bits_of 40 h ≡ bits_of_bytes (take 5 bytes)
    → bit_and h 63 ≡ number_at 34 6 bytes
cycle_read h bytes e =
    sym (field-number 34 6 0 h (bits_of_bytes (take 5 bytes)) e ∙ ap (λ (x : ℕ). bit_and x 63) (div-one h))

-- the slice of the bytes in the middle
payload_read : (bytes : List ℕ) → 8 ≤ length bytes → take (length (take (length bytes - 3) bytes) - 5)
    (drop 5 (take (length bytes - 3) bytes)) ≡ payload_of bytes
payload_read bytes long =
    let sum : length bytes - 3 ≡ 5 + (length bytes - 8) = omega arith in
    take_all (length (take (length bytes - 3) bytes) - 5) (drop 5 (take (length bytes - 3) bytes))
    (omega (arith, length-drop 5 (take (length bytes - 3) bytes)))
    ∙ ap (λ (n : ℕ). drop 5 (take n bytes)) sum ∙ drop-take 5 (length bytes - 8) bytes

pub fields_read : (h cycle : ℕ) (payload bytes : List ℕ) → 8 ≤ length bytes
    → bits_of 40 h ≡ bits_of_bytes (take 5 bytes)
    → payload ≡ take (length (take (length bytes - 3) bytes) - 5) (drop 5 (take (length bytes - 3) bytes))
    → cycle ≡ bit_and h 63
    → record {
      preamble = eqb (bit_and (h / 274877906944) 1) 1;
      has_data = eqb (bit_and (h / 137438953472) 1) 1;
      sync = eqb (bit_and (h / 68719476736) 1) 1;
      startup = eqb (bit_and (h / 34359738368) 1) 1;
      id = bit_and (h / 16777216) 2047;
      payload = payload;
      cycle = cycle;
    } ≡ fields_of bytes
fields_read h cycle payload bytes long e payload_is cycle_is = λ i. record {
  preamble = flag_read 1 38 h bytes e i;
  has_data = flag_read 2 37 h bytes e i;
  sync = flag_read 3 36 h bytes e i;
  startup = flag_read 4 35 h bytes e i;
  id = sym (field-number 5 11 24 h (bits_of_bytes (take 5 bytes)) e) i;
  payload = (payload_is ∙ payload_read bytes long) i;
  cycle = (cycle_is ∙ cycle_read h bytes e) i;
}
