-- The bits that the header CRC covers, as fields of the header.
use Rattle.std.proofs.Common.{◌≡◌, ℕ, ◌+◌, ◌*◌, ◌/◌, ◌^◌, ◌≤◌, Bool, eqb, List, ◌∷◌, ◌++◌, length, take, drop, []}
use Rattle.std.proofs.Common.{get_or, refl, sym, ap, ◌∙◌, arith, bit_and, length-append}
use Rattle.std.proofs.lemmas.List.{append_assoc, length-take, length-drop, take-append-drop, drop-drop, take_at}
use Rattle.fr_frame.specs.Bits.{bits_of, number_of, bits_of_bytes}
use Rattle.fr_frame.specs.Header.{bits_at, number_at}
use Rattle.fr_frame.specs.Spelling.{covered}
use Rattle.fr_frame.proofs.FieldLemmas.{field-number}
use Rattle.fr_frame.proofs.NumberLemmas.{bits_of-spelled, flag_is, length-bits_of_bytes}
use Rattle.fr_logged.specs.Headers.{header_in}
use Rattle.fr_logged.specs.Logged.{fields_by}

abbrev flag : ℕ → List Bool → Bool
flag place bits = eqb (number_of (take 1 (drop place bits))) 1

abbrev covered_part : List Bool → List Bool
covered_part bits = flag 3 bits ∷ flag 4 bits ∷ take 11 (drop 5 bits) ++ take 7 (drop 16 bits)

-- the bits after the first five, in three parts
rest_parts : (rest : List Bool) → rest ≡ (take 11 rest ++ take 7 (drop 11 rest)) ++ drop 18 rest
rest_parts rest =
    let second : take 7 (drop 11 rest) ++ drop 18 rest ≡ drop 11 rest =
    ap (λ (t : List Bool). take 7 (drop 11 rest) ++ t) (sym (drop-drop 7 11 rest)) ∙ take-append-drop 7
    (drop 11 rest) in
    sym (append_assoc (take 11 rest) (take 7 (drop 11 rest)) (drop 18 rest)
    ∙ ap (λ (t : List Bool). take 11 rest ++ t) second
    ∙ take-append-drop 11 rest)

header_parts : (bits : List Bool) → 5 ≤ length bits
    → drop 3 bits ≡ covered_part bits ++ drop 23 bits
header_parts (a ∷ b ∷ c ∷ d ∷ e ∷ rest) long =
    rw (flag_is d, flag_is e) (ap (λ (t : List Bool). d ∷ e ∷ t) (rest_parts rest))
header_parts bits long = absurd (omega arith)

length-take_drop : (place count : ℕ) (bits : List Bool) → place + count ≤ length bits
    → length (take count (drop place bits)) ≡ count
length-take_drop place count bits fits = omega (arith, length-take count (drop place bits), length-drop place bits)

covered_part-at : (bits : List Bool) → length bits ≡ 40 → take 20 (drop 3 bits) ≡ covered_part bits
covered_part-at bits len =
    let part_len : length (covered_part bits) ≡ 20 =
    omega (
      arith,
      length-append (take 11 (drop 5 bits)) (take 7 (drop 16 bits)),
      length-take_drop 5 11 bits (omega (arith, len)),
      length-take_drop 16 7 bits (omega (arith, len)),
    ) in
    ap (take 20) (header_parts bits (omega (arith, len)))
    ∙ take_at (covered_part bits) (drop 23 bits) 20 part_len

pub covered_by : (bytes : List ℕ) → 5 + 2 * number_at 16 7 bytes ≤ length bytes
    → covered (fields_by (header_in bytes) bytes) ≡ bits_at 3 20 bytes
unfolding covered
covered_by bytes long =
    let bits = bits_of_bytes (take 5 bytes) in
    let len : length bits ≡ 40 = omega (arith, length-bits_of_bytes (take 5 bytes), length-take 5 bytes) in
    let payload = take (2 * number_at 16 7 bytes) (drop 5 bytes) in
    let size : length payload ≡ 2 * number_at 16 7 bytes =
    omega (arith, length-take (2 * number_at 16 7 bytes) (drop 5 bytes), length-drop 5 bytes) in
    let words : length payload / 2 ≡ number_at 16 7 bytes = omega arith in
    let id : bits_of 11 (number_at 5 11 bytes) ≡ take 11 (drop 5 bits) =
    bits_of-spelled 11 (take 11 (drop 5 bits)) (length-take_drop 5 11 bits (omega (arith, len))) in
    let count : bits_of 7 (length payload / 2) ≡ take 7 (drop 16 bits) =
    ap (bits_of 7) words ∙ bits_of-spelled 7 (take 7 (drop 16 bits))
    (length-take_drop 16 7 bits (omega (arith, len))) in
    ap (λ (t : List Bool). flag 3 bits ∷ flag 4 bits ∷ t ++ bits_of 7 (length payload / 2)) id
    ∙ ap (λ (t : List Bool). flag 3 bits ∷ flag 4 bits ∷ take 11 (drop 5 bits) ++ t) count
    ∙ sym (covered_part-at bits len)

-- ---- the fields as the code takes them

flag_read : (place low h : ℕ) (bits : List Bool) → bits_of (place + (1 + low)) h ≡ bits
    → eqb (bit_and (h / 2 ^ low) 1) 1 ≡ eqb (number_of (take 1 (drop place bits))) 1
flag_read place low h bits e = ap (λ (n : ℕ). eqb n 1) (sym (field-number place 1 low h bits e))

pub header_read : (h cycle : ℕ) (bytes : List ℕ) → bits_of 40 h ≡ bits_of_bytes (take 5 bytes) → cycle ≡ bit_and h 63
    → record {
      preamble = eqb (bit_and (h / 274877906944) 1) 1;
      has_data = eqb (bit_and (h / 137438953472) 1) 1;
      sync = eqb (bit_and (h / 68719476736) 1) 1;
      startup = eqb (bit_and (h / 34359738368) 1) 1;
      id = bit_and (h / 16777216) 2047;
      words = bit_and (h / 131072) 127;
      crc = bit_and (h / 64) 2047;
      cycle = cycle;
    } ≡ header_in bytes
header_read h cycle bytes e cycle_is =
    let bits = bits_of_bytes (take 5 bytes) in
    let one : h / 2 ^ 0 ≡ h = omega arith in
    let cycle_read : bit_and h 63 ≡ number_at 34 6 bytes =
    ap (λ (n : ℕ). bit_and n 63) (sym one) ∙ sym (field-number 34 6 0 h bits e) in
    λ i. record {
      preamble = flag_read 1 38 h bits e i;
      has_data = flag_read 2 37 h bits e i;
      sync = flag_read 3 36 h bits e i;
      startup = flag_read 4 35 h bits e i;
      id = sym (field-number 5 11 24 h bits e) i;
      words = sym (field-number 16 7 17 h bits e) i;
      crc = sym (field-number 23 11 6 h bits e) i;
      cycle = (cycle_is ∙ cycle_read) i;
    }

-- the first four bytes of a header
pub front_four : (bytes : List ℕ) → 4 ≤ length bytes
    → take 4 bytes ≡ get_or bytes 0 0 ∷ get_or bytes 1 0 ∷ get_or bytes 2 0 ∷ get_or bytes 3 0 ∷ []
front_four (a ∷ b ∷ c ∷ d ∷ bytes) long = refl
front_four bytes long = absurd (omega arith)
