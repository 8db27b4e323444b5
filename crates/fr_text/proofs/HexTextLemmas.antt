-- A word is the hex text of at most one list of bytes.
use Rattle.std.proofs.Common.{◌≡◌, ℕ, ◌+◌, ◌*◌, ◌<◌, ◌≤◌, ◌==◌, ◌&&◌, inl, inr, List, [], ◌∷◌, length, Option, Some}
use Rattle.std.proofs.Common.{None, Result, Ok, Err, refl, ap, arith, leb}
use Rattle.std.proofs.lemmas.Bool.{and_parts, cases_Bool, leb-true, le-leb, eqb-true}
use Rattle.std.proofs.lemmas.Slice.Eq.{bytes_eq-Decides}
use Rattle.std.specs.Str.{bytes_eq}
use Rattle.hex.proofs.HexLemmas.{length-encode_with, decode_of-encode_lower, decode_of-ok}
use Rattle.hex.specs.Hex.{decode_of, encode_lower, lower_digits, IsBytes}
use Rattle.hex.specs.declared.error.FromHexError.{FromHexError}
use Rattle.fr_text.specs.Reading.{bytes_as, bytes_in}
use Rattle.fr_text.specs.Spelling.{hex_text}

-- bytes that are read have the word as their spelling
pub as_takes : (most : ℕ) (digits bs : List ℕ) (r : Result (List ℕ) FromHexError) → bytes_as most digits r ≡ Some bs
    → (r ≡ Ok bs) × (encode_lower bs ≡ digits) × (length bs ≤ most)
as_takes most digits bs (Err e) read = cc read
as_takes most digits bs (Ok found) read =
    elim (cases_Bool (bytes_eq (encode_lower found) digits && leb (length found) most)) [
      | inl pass ↦
          let parts = and_parts (bytes_eq (encode_lower found) digits) (leb (length found) most) pass in
          let is : found ≡ bs = cc (rw pass at read) in
          rw (← is)
          (refl, (bytes_eq-Decides (encode_lower found) digits).0 parts.0, leb-true (length found) most parts.1)
      | inr fail ↦ cc (rw fail at read)
    ]

pub none_from : (o : Option (List ℕ)) → ((bs : List ℕ) → o ≡ Some bs → ⊥) → o ≡ None
none_from None h = refl
none_from (Some bs) h = absurd (h bs refl)

-- more digits than `most` bytes have
pub too_long : (most : ℕ) (digits : List ℕ) → 2 * most < length digits → bytes_as most digits (decode_of digits) ≡ None
too_long most digits long =
    none_from (bytes_as most digits (decode_of digits)) (λ bs read.
    let taken = as_takes most digits bs (decode_of digits) read in
    let len = length-encode_with lower_digits bs in
    let same : length (encode_lower bs) ≡ length digits = ap length taken.1 in
    let few = taken.2 in
    omega arith)

pub bytes_takes : (most : ℕ) (word bs : List ℕ) → bytes_in most word ≡ Some bs
    → (word ≡ hex_text bs) × (length bs ≤ most) × IsBytes bs
unfolding bytes_in
bytes_takes most [] bs read = cc read
bytes_takes most (mark ∷ digits) bs read =
    elim (cases_Bool (mark == 120)) [
      | inl pass ↦
          let taken = as_takes most digits bs (decode_of digits) (rw pass at read) in
          let x : mark ≡ 120 = eqb-true mark 120 pass in
          let bytes = (decode_of-ok digits bs taken.0).3 in
          (rw (x, taken.1) refl, taken.2, bytes)
      | inr fail ↦ cc (rw fail at read)
    ]

-- the spelling of bytes is read as these bytes
pub bytes_again : (most : ℕ) (bs : List ℕ) → IsBytes bs → length bs ≤ most → bytes_in most (hex_text bs) ≡ Some bs
unfolding bytes_in
bytes_again most bs fits few =
    let digits_same = (bytes_eq-Decides (encode_lower bs) (encode_lower bs)).1 refl in
    rw (decode_of-encode_lower bs fits, digits_same, le-leb (length bs) most few) refl

pub length-hex_text : (bs : List ℕ) → length (hex_text bs) ≡ 1 + 2 * length bs
length-hex_text bs = let digits = length-encode_with lower_digits bs in omega arith
