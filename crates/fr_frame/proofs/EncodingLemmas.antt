-- The bytes of a frame spell it, and decode to it.
use Rattle.std.proofs.Common.{◌≡◌, ℕ, zero, suc, ◌+◌, ◌*◌, ◌/◌, ◌%◌, ◌^◌, ◌<◌, ◌≤◌, Bool, false, cond, List, ◌∷◌, ◌++◌}
use Rattle.std.proofs.Common.{length, Some, refl, sym, ap, ◌∙◌, arith, bit_or, lit≤, length-append}
use Rattle.std.specs.Int.{byte_at, bytes_high_first}
use Rattle.std.proofs.Math.Nat.{mod-eq_of_lt, div-one, pow-suc}
use Rattle.std.proofs.lemmas.List.Concat.{flat_map-cons}
use Rattle.std.proofs.lemmas.Nat.{pow-add}
use Rattle.fr_slots.specs.declared.channel.Channel.{Channel}
use Rattle.fr_frame.specs.Bits.{bits_of, number_of, bits_of_bytes}
use Rattle.fr_frame.specs.Crc.{header_check, frame_check}
use Rattle.fr_frame.specs.Decoding.{decoded}
use Rattle.fr_frame.specs.Encoding.{checked_bytes, encoded}
use Rattle.fr_frame.specs.Fields.{Fields, IsFrame}
use Rattle.fr_frame.specs.Spelling.{covered, header, SpellsCanonically}
use Rattle.fr_frame.proofs.BitLemmas.{length-bits_of, bits_of-mod, number_of-bits_of}
use Rattle.fr_frame.proofs.CoveredLemmas.{digits, digits_fit, digits_joined, bits_of-digits}
use Rattle.fr_frame.proofs.DecodingLemmas.{length-frame_check, spelled_is_decoded}
use Rattle.fr_frame.proofs.FieldLemmas.{bits_of-split}
use Rattle.fr_frame.proofs.NumberLemmas.{or_is, bits_of-none, bits_of-joined, bits_of-digit, bits_of-spelled}
use Rattle.fr_frame.proofs.SpellingLemmas.{length-covered, length-header_check}

-- ---- the bytes of a number have its bits

pow_of_bytes : (k : ℕ) → 256 ^ k ≡ 2 ^ (8 * k)
pow_of_bytes zero = refl
pow_of_bytes (suc k) =
    let wide : 8 * k + 8 ≡ 8 * suc k = omega arith in
    pow-suc 256 k ∙ ap (λ (n : ℕ). n * 256) (pow_of_bytes k) ∙ sym (pow-add 2 (8 * k) 8) ∙ ap (λ (m : ℕ). 2 ^ m) wide

byte_at-is : (k n : ℕ) → byte_at k n ≡ n / 2 ^ (8 * k) % 2 ^ 8
byte_at-is zero n = ap (λ (x : ℕ). x % 256) (sym (div-one n))
byte_at-is (suc k) n = ap (λ (x : ℕ). n / x % 256) (pow_of_bytes (suc k))

length-bytes_high_first : (k n : ℕ) → length (bytes_high_first k n) ≡ k
length-bytes_high_first zero n = refl
length-bytes_high_first (suc k) n = omega (arith, length-bytes_high_first k n)

pub bits_of_bytes-high_first : (k n : ℕ) → bits_of_bytes (bytes_high_first k n) ≡ bits_of (8 * k) n
bits_of_bytes-high_first zero n = sym (bits_of-none n)
bits_of_bytes-high_first (suc k) n =
    let wide : 8 + 8 * k ≡ 8 * suc k = omega arith in
    let byte : bits_of 8 (byte_at k n) ≡ bits_of 8 (n / 2 ^ (8 * k)) =
    ap (bits_of 8) (byte_at-is k n) ∙ bits_of-mod 8 (n / 2 ^ (8 * k)) in
    flat_map-cons (bits_of 8) (byte_at k n) (bytes_high_first k n)
    ∙ ap (λ (t : List Bool). t ++ bits_of_bytes (bytes_high_first k n)) byte
    ∙ ap (λ (t : List Bool). bits_of 8 (n / 2 ^ (8 * k)) ++ t) (bits_of_bytes-high_first k n)
    ∙ sym (bits_of-split 8 (8 * k) n)
    ∙ ap (λ (m : ℕ). bits_of m n) wide

-- bits in bytes
in_bytes : (k : ℕ) (bits : List Bool) → length bits ≡ 8 * k → bits_of_bytes (bytes_high_first k (number_of bits)) ≡ bits
in_bytes k bits len = bits_of_bytes-high_first k (number_of bits) ∙ bits_of-spelled (8 * k) bits len

-- ---- the spelling

length-header : (r : Bool) (f : Fields) → length (header r f) ≡ 40
unfolding header
length-header r f =
    omega (
      arith,
      length-append (covered f ++ header_check (covered f)) (bits_of 6 f.cycle),
      length-append (covered f) (header_check (covered f)),
      length-covered f,
      length-header_check (covered f),
      length-bits_of 6 f.cycle,
    )

-- the bytes of a frame are a canonical spelling of it
pub encoded_is_canonical : (f : Fields) (channel : Channel) → IsFrame f
    → SpellsCanonically f channel (encoded f channel)
unfolding encoded
encoded_is_canonical f channel is_frame = record {
  spelled = record {
    reserved = false;
    first = bytes_high_first 5 (number_of (header false f));
    last = bytes_high_first 3 (number_of (frame_check channel (checked_bytes f)));
    first_len = length-bytes_high_first 5 (number_of (header false f));
    last_len = length-bytes_high_first 3 (number_of (frame_check channel (checked_bytes f)));
    parts = refl;
    header_is = in_bytes 5 (header false f) (length-header false f);
    check_is = in_bytes 3 (frame_check channel (checked_bytes f)) (length-frame_check channel (checked_bytes f));
    id_fits = is_frame.id_fits;
    cycle_fits = is_frame.cycle_fits;
    payload_fits = is_frame.payload_fits;
  };
  reserved_is = refl;
}

-- every frame has bytes, with any payload
pub length-encoded : (f : Fields) (channel : Channel) → 8 ≤ length (encoded f channel)
unfolding encoded
length-encoded f channel =
    omega (
      arith,
      length-append (checked_bytes f) (bytes_high_first 3 (number_of (frame_check channel (checked_bytes f)))),
      length-append (bytes_high_first 5 (number_of (header false f))) f.payload,
      length-bytes_high_first 5 (number_of (header false f)),
      length-bytes_high_first 3 (number_of (frame_check channel (checked_bytes f))),
    )

-- these bytes decode to the frame
pub encoded_is_decoded : (f : Fields) (channel : Channel) → IsFrame f → decoded channel (encoded f channel) ≡ Some f
encoded_is_decoded f channel is_frame = spelled_is_decoded f channel (encoded f channel)
    (encoded_is_canonical f channel is_frame).spelled

-- ---- the header as the code joins it

pub header_joined : (f : Fields) (p d c check cycle : ℕ) → p ≡ cond f.preamble 1 0 → d ≡ cond f.has_data 1 0
    → c < 2 ^ 20 → bits_of 20 c ≡ covered f → check < 2 ^ 11 → bits_of 11 check ≡ header_check (bits_of 20 c)
    → cycle ≡ f.cycle → f.cycle < 64
    → bit_or (bit_or (bit_or (bit_or (p * 2 % 2 ^ 64) d * 1048576 % 2 ^ 64) c * 2048 % 2 ^ 64) check * 64 % 2 ^ 64)
    cycle ≡ number_of (header false f)
unfolding header
header_joined f p d c check cycle p_is d_is c_fits c_is check_fits check_is cycle_is cycle_fits =
    let indicators = digits f.preamble f.has_data in
    let small : indicators < 2 ^ 2 = digits_fit f.preamble f.has_data in
    let upper = indicators * 1048576 + c in
    let whole = (upper * 2048 + check) * 64 + f.cycle in
    let first : bit_or (bit_or (p * 2 % 2 ^ 64) d * 1048576 % 2 ^ 64) c ≡ upper =
    ap (λ (x : ℕ). bit_or (x * 1048576 % 2 ^ 64) c) (digits_joined 64 f.preamble f.has_data p d (lit≤ tt) p_is d_is)
    ∙ or_is 2 20 64 indicators c small c_fits (lit≤ tt) in
    let second : bit_or (bit_or (bit_or (p * 2 % 2 ^ 64) d * 1048576 % 2 ^ 64) c * 2048 % 2 ^ 64) check ≡ upper * 2048
    + check =
    ap (λ (x : ℕ). bit_or (x * 2048 % 2 ^ 64) check) first ∙ or_is 22 11 64 upper check
    (omega (arith, small)) check_fits (lit≤ tt) in
    let third : bit_or (bit_or (bit_or (bit_or (p * 2 % 2 ^ 64) d * 1048576 % 2 ^ 64) c * 2048 % 2 ^ 64) check * 64 % 2
    ^ 64) cycle ≡ whole =
    ap (λ (x : ℕ). bit_or (x * 64 % 2 ^ 64) cycle) second ∙ ap (bit_or ((upper * 2048 + check) * 64 % 2 ^ 64)) cycle_is
    ∙ or_is 33 6 64 (upper * 2048 + check) f.cycle (omega (arith, small)) cycle_fits (lit≤ tt) in
    let crc : bits_of 11 check ≡ header_check (covered f) = check_is ∙ ap header_check c_is in
    let front : bits_of 22 upper ≡ f.preamble ∷ f.has_data ∷ covered f =
    bits_of-joined 2 20 indicators c c_fits ∙ ap (λ (t : List Bool). t ++ bits_of 20 c)
    (bits_of-digits f.preamble f.has_data)
    ∙ ap (λ (t : List Bool). f.preamble ∷ f.has_data ∷ t) c_is in
    let low : bits_of 39 whole ≡ f.preamble ∷ f.has_data ∷ (covered f ++ header_check (covered f)) ++ bits_of 6 f.cycle
    =
    bits_of-joined 33 6 (upper * 2048 + check) f.cycle cycle_fits
    ∙ ap (λ (t : List Bool). t ++ bits_of 6 f.cycle) (bits_of-joined 22 11 upper check check_fits)
    ∙ ap (λ (t : List Bool). (t ++ bits_of 11 check) ++ bits_of 6 f.cycle) front
    ∙ ap (λ (t : List Bool). f.preamble ∷ f.has_data ∷ (covered f ++ t) ++ bits_of 6 f.cycle) crc in
    let below : whole < 2 ^ 39 = omega (arith, small) in
    let wide : 40 ≡ 1 + 39 = omega arith in
    let none : whole ≡ 0 * 2 ^ 39 + whole = omega arith in
    let all : bits_of 40 whole ≡ header false f =
    ap (λ (m : ℕ). bits_of m whole) wide ∙ ap (bits_of (1 + 39)) none ∙ bits_of-joined 1 39 0 whole below
    ∙ ap (λ (t : List Bool). t ++ bits_of 39 whole) (bits_of-digit false) ∙ ap (λ (t : List Bool). false ∷ t) low in
    let in_range : whole % 2 ^ 40 ≡ whole = mod-eq_of_lt (omega (arith, below)) in
    third ∙ sym in_range ∙ sym (number_of-bits_of 40 whole) ∙ ap number_of all
