-- `decoded` gives the frame that the bytes spell, and no other.
use Rattle.std.proofs.Common.{◌≡◌, ℕ, ◌+◌, ◌-◌, ◌*◌, ◌/◌, ◌^◌, ◌≤◌, ◌<◌, Bool, true, false, not, cond, eqb, List, []}
use Rattle.std.proofs.Common.{◌∷◌, ◌++◌, length, take, drop, Option, Some, None, Result, Ok, Err, refl, sym, ap, subst}
use Rattle.std.proofs.Common.{◌∙◌, arith, lit<, ltb-false, eqb-true, length-append}
use Rattle.std.specs.Prelude.{IfOk}
use Rattle.std.specs.Option.{is_some}
use Rattle.std.specs.Result.{result_ok, result_err}
use Rattle.std.proofs.lemmas.List.{append_assoc, length-take, length-drop, take-append-drop, take-take, drop-take}
use Rattle.std.proofs.lemmas.List.{drop-drop, take_at, take_all}
use Rattle.fr_slots.specs.declared.channel.Channel.{Channel}
use Rattle.fr_frame.specs.declared.decode.DecodeError.{DecodeError}
use Rattle.fr_frame.specs.Bits.{bits_of, number_of, bits_of_bytes}
use Rattle.fr_frame.specs.Crc.{header_check, frame_check, initial_of}
use Rattle.fr_frame.specs.Decoding.{payload_of, fields_of, decoded}
use Rattle.fr_frame.specs.Fields.{Fields}
use Rattle.fr_frame.specs.Header.{bits_at, number_at, flag_at}
use Rattle.fr_frame.specs.Refusal.{refusal}
use Rattle.fr_frame.specs.Spelling.{covered, header, Spells}
use Rattle.fr_frame.proofs.BitLemmas.{length-bits_of}
use Rattle.fr_frame.proofs.LoopLemmas.{length-divided}
use Rattle.fr_frame.proofs.NumberLemmas.{number_of-fits, bits_of-spelled, same_bits, length-bits_of_bytes, flag_is}
use Rattle.fr_frame.proofs.SpellingLemmas.{length-header_check, spelled_is_granted, spelled_once}

-- ---- a test that was passed

passed : {E : Type 0} (test : Bool) (error : E) (others : Option E) → cond test (Some error) others ≡ None
    → test ≡ false
passed true error others e = absurd cc
passed false error others e = refl

others_passed : {E : Type 0} (test : Bool) (error : E) (others : Option E) → cond test (Some error) others ≡ None
    → others ≡ None
others_passed true error others e = absurd cc
others_passed false error others e = e

is_equal : (a b : ℕ) → not (eqb a b) ≡ false → a ≡ b
is_equal a b e = eqb-true a b (no_longer_not (eqb a b) e)
  where
    no_longer_not : (t : Bool) → not t ≡ false → t ≡ true
    no_longer_not true e = refl
    no_longer_not false e = absurd cc

-- the results of all four tests for accepted bytes
record IsGranted (channel : Channel) (bytes : List ℕ) : Type 0 where
  long : 8 ≤ length bytes
  length_is : length bytes ≡ 8 + 2 * number_at 16 7 bytes
  header_is : number_at 23 11 bytes ≡ number_of (header_check (bits_at 3 20 bytes))
  frame_is : number_of (bits_of_bytes (drop (length bytes - 3) bytes)) ≡ number_of
      (frame_check channel (take (length bytes - 3) bytes))

granted : (channel : Channel) (bytes : List ℕ) → refusal channel bytes ≡ None → IsGranted channel bytes
granted channel bytes e =
    let e2 = others_passed _ _ _ e in
    let e3 = others_passed _ _ _ e2 in
    let e4 = others_passed _ _ _ e3 in
    record {
      long = ltb-false _ _ (passed _ _ _ e);
      length_is = is_equal _ _ (passed _ _ _ e2);
      header_is = is_equal _ _ (passed _ _ _ e3);
      frame_is = is_equal _ _ (passed _ _ _ e4);
    }

-- ---- a header and its parts

abbrev flag : ℕ → List Bool → Bool
flag place bits = eqb (number_of (take 1 (drop place bits))) 1

-- the bits after the first five, in four parts
rest_parts : (rest : List Bool) → rest ≡ ((take 11 rest ++ take 7 (drop 11 rest)) ++ take 11 (drop 18 rest)) ++ drop 29
    rest
rest_parts rest =
    let third : take 11 (drop 18 rest) ++ drop 29 rest ≡ drop 18 rest =
    ap (λ (t : List Bool). take 11 (drop 18 rest) ++ t) (sym (drop-drop 11 18 rest)) ∙ take-append-drop 11
    (drop 18 rest) in
    let second : take 7 (drop 11 rest) ++ drop 18 rest ≡ drop 11 rest =
    ap (λ (t : List Bool). take 7 (drop 11 rest) ++ t) (sym (drop-drop 7 11 rest)) ∙ take-append-drop 7
    (drop 11 rest) in
    sym (append_assoc (take 11 rest ++ take 7 (drop 11 rest)) (take 11 (drop 18 rest)) (drop 29 rest)
    ∙ ap (λ (t : List Bool). (take 11 rest ++ take 7 (drop 11 rest)) ++ t) third
    ∙ append_assoc (take 11 rest) (take 7 (drop 11 rest)) (drop 18 rest)
    ∙ ap (λ (t : List Bool). take 11 rest ++ t) second
    ∙ take-append-drop 11 rest)

abbrev covered_part : List Bool → List Bool
covered_part bits = flag 3 bits ∷ flag 4 bits ∷ take 11 (drop 5 bits) ++ take 7 (drop 16 bits)

header_parts : (bits : List Bool) → 5 ≤ length bits
    → bits ≡ (flag 0 bits ∷ flag 1 bits ∷ flag 2 bits ∷ []) ++ covered_part bits ++ take 11
    (drop 23 bits) ++ drop 34 bits
header_parts (a ∷ b ∷ c ∷ d ∷ e ∷ rest) long =
    rw (flag_is a, flag_is b, flag_is c, flag_is d, flag_is e)
    (ap (λ (t : List Bool). a ∷ b ∷ c ∷ d ∷ e ∷ t) (rest_parts rest))
header_parts bits long = absurd (omega arith)

-- ---- accepted bytes are spelled

pub length-frame_check : (channel : Channel) (bytes : List ℕ) → length (frame_check channel bytes) ≡ 24
length-frame_check channel bytes =
    let start = bits_of 24 (initial_of channel) in
    let wide : length start ≡ 24 = length-bits_of 24 (initial_of channel) in
    length-divided (bits_of 24 0x5D6DCB) start (bits_of_bytes bytes) (length-bits_of 24 0x5D6DCB ∙ sym wide)
    (rw wide (lit< tt)) ∙ wide

length-take_drop : (place count : ℕ) (bits : List Bool) → place + count ≤ length bits
    → length (take count (drop place bits)) ≡ count
length-take_drop place count bits fits = omega (arith, length-take count (drop place bits), length-drop place bits)

number-fits : (w : ℕ) (bits : List Bool) → length bits ≡ w → number_of bits < 2 ^ w
number-fits w bits is = let below : number_of bits < 2 ^ length bits = number_of-fits bits in rw (← is) below

length-payload_of : (channel : Channel) (bytes : List ℕ) → IsGranted channel bytes
    → length (payload_of bytes) ≡ 2 * number_at 16 7 bytes
length-payload_of channel bytes g =
    omega (arith, length-take (length bytes - 8) (drop 5 bytes), length-drop 5 bytes, g.long, g.length_is)

header_bits-length : (bytes : List ℕ) → 8 ≤ length bytes → length (bits_of_bytes (take 5 bytes)) ≡ 40
header_bits-length bytes long = omega (arith, length-bits_of_bytes (take 5 bytes), length-take 5 bytes)

covered_is_part : (channel : Channel) (bytes : List ℕ) → IsGranted channel bytes
    → covered (fields_of bytes) ≡ covered_part (bits_of_bytes (take 5 bytes))
unfolding covered
covered_is_part channel bytes g =
    let bits = bits_of_bytes (take 5 bytes) in
    let len : length bits ≡ 40 = header_bits-length bytes g.long in
    let words : length (payload_of bytes) / 2 ≡ number_at 16 7 bytes =
    omega (arith, length-payload_of channel bytes g) in
    let id : bits_of 11 (number_at 5 11 bytes) ≡ take 11 (drop 5 bits) =
    bits_of-spelled 11 (take 11 (drop 5 bits)) (length-take_drop 5 11 bits (omega (arith, len))) in
    let count : bits_of 7 (length (payload_of bytes) / 2) ≡ take 7 (drop 16 bits) =
    ap (bits_of 7) words ∙ bits_of-spelled 7 (take 7 (drop 16 bits))
    (length-take_drop 16 7 bits (omega (arith, len))) in
    ap (λ (t : List Bool). flag 3 bits ∷ flag 4 bits ∷ t ++ bits_of 7 (length (payload_of bytes) / 2)) id
    ∙ ap (λ (t : List Bool). flag 3 bits ∷ flag 4 bits ∷ take 11 (drop 5 bits) ++ t) count

-- the twenty bits that are checked are those of the fields
covered_part-at : (bits : List Bool) → length bits ≡ 40 → take 20 (drop 3 bits) ≡ covered_part bits
covered_part-at bits len =
    let parts = header_parts bits (omega (arith, len)) in
    let part_len : length (covered_part bits) ≡ 20 =
    omega (
      arith,
      length-append (take 11 (drop 5 bits)) (take 7 (drop 16 bits)),
      length-take_drop 5 11 bits (omega (arith, len)),
      length-take_drop 16 7 bits (omega (arith, len)),
    ) in
    ap (λ (t : List Bool). take 20 (drop 3 t)) parts
    ∙ ap (take 20) (append_assoc (covered_part bits) (take 11 (drop 23 bits)) (drop 34 bits))
    ∙ take_at (covered_part bits) (take 11 (drop 23 bits) ++ drop 34 bits) 20 part_len

header_is_spelled : (channel : Channel) (bytes : List ℕ) → IsGranted channel bytes
    → bits_of_bytes (take 5 bytes) ≡ header (flag_at 0 bytes) (fields_of bytes)
unfolding header
header_is_spelled channel bytes g =
    let bits = bits_of_bytes (take 5 bytes) in
    let f = fields_of bytes in
    let len : length bits ≡ 40 = header_bits-length bytes g.long in
    let covered_is : covered f ≡ covered_part bits = covered_is_part channel bytes g in
    let check : take 11 (drop 23 bits) ≡ header_check (covered f) =
    same_bits 11 (take 11 (drop 23 bits)) (header_check (covered f)) (length-take_drop 23 11 bits (omega (arith, len)))
    (length-header_check (covered f))
    (g.header_is ∙ ap (λ (t : List Bool). number_of (header_check t)) (covered_part-at bits len ∙ sym covered_is)) in
    let six : take 6 (drop 34 bits) ≡ drop 34 bits = take_all 6 (drop 34 bits) (omega (arith, length-drop 34 bits, len))
    in
    let cycle : drop 34 bits ≡ bits_of 6 f.cycle = sym (bits_of-spelled 6 (take 6 (drop 34 bits))
    (length-take_drop 34 6 bits (omega (arith, len))) ∙ six) in
    let start = flag 0 bits ∷ flag 1 bits ∷ flag 2 bits ∷ [] in
    header_parts bits (omega (arith, len))
    ∙ ap (λ (t : List Bool). start ++ t ++ take 11 (drop 23 bits) ++ drop 34 bits) (sym covered_is)
    ∙ ap (λ (t : List Bool). start ++ covered f ++ t ++ drop 34 bits) check
    ∙ ap (λ (t : List Bool). start ++ covered f ++ header_check (covered f) ++ t) cycle

-- the bytes before the trailer are the header and the payload
front_is : (bytes : List ℕ) → 8 ≤ length bytes → take 5 bytes ++ payload_of bytes ≡ take (length bytes - 3) bytes
front_is bytes long =
    let sum : length bytes - 3 ≡ 5 + (length bytes - 8) = omega arith in
    let five : take 5 bytes ≡ take 5 (take (length bytes - 3) bytes) =
    sym (take-take 5 (length bytes - 3) bytes (omega arith)) in
    let rest : payload_of bytes ≡ drop 5 (take (length bytes - 3) bytes) =
    sym (ap (λ (n : ℕ). drop 5 (take n bytes)) sum ∙ drop-take 5 (length bytes - 8) bytes) in
    ap (λ (t : List ℕ). t ++ payload_of bytes) five ∙ ap (λ (t : List ℕ). take 5 (take (length bytes - 3) bytes) ++ t)
    rest
    ∙ take-append-drop 5 (take (length bytes - 3) bytes)

granted_is_spelled : (channel : Channel) (bytes : List ℕ) → IsGranted channel bytes
    → Spells (fields_of bytes) channel bytes
granted_is_spelled channel bytes g =
    let bits = bits_of_bytes (take 5 bytes) in
    let len : length bits ≡ 40 = header_bits-length bytes g.long in
    let last = drop (length bytes - 3) bytes in
    let front : take 5 bytes ++ payload_of bytes ≡ take (length bytes - 3) bytes = front_is bytes g.long in
    let last_len : length last ≡ 3 = omega (arith, length-drop (length bytes - 3) bytes, g.long) in
    let payload_len : length (payload_of bytes) ≡ 2 * number_at 16 7 bytes = length-payload_of channel bytes g in
    let few : number_at 16 7 bytes < 2 ^ 7 = number-fits 7 (take 7 (drop 16 bits))
    (length-take_drop 16 7 bits (omega (arith, len))) in
    record {
      reserved = flag_at 0 bytes;
      first = take 5 bytes;
      last = last;
      first_len = omega (arith, length-take 5 bytes, g.long);
      last_len = last_len;
      parts = sym (ap (λ (t : List ℕ). t ++ last) front ∙ take-append-drop (length bytes - 3) bytes);
      header_is = header_is_spelled channel bytes g;
      check_is = same_bits 24 (bits_of_bytes last) (frame_check channel (take 5 bytes ++ payload_of bytes))
          (omega (arith, length-bits_of_bytes last, last_len))
          (length-frame_check channel (take 5 bytes ++ payload_of bytes))
          (g.frame_is ∙ ap (λ (t : List ℕ). number_of (frame_check channel t)) (sym front));
      id_fits = number-fits 11 (take 11 (drop 5 bits)) (length-take_drop 5 11 bits (omega (arith, len)));
      cycle_fits = number-fits 6 (take 6 (drop 34 bits)) (length-take_drop 34 6 bits (omega (arith, len)));
      payload_fits = record { short = omega (arith, payload_len, few); even = omega (arith, payload_len) };
    }

-- ---- the function and the relation

if_none : {T E : Type 0} (refused : Option E) (x y : T) → cond (is_some refused) None (Some x) ≡ Some y → refused ≡ None
if_none None x y e = refl
if_none (Some error) x y e = absurd cc

some_is : {T E : Type 0} (refused : Option E) (x y : T) → cond (is_some refused) None (Some x) ≡ Some y → x ≡ y
some_is None x y e = cc
some_is (Some error) x y e = absurd cc

-- a decoded frame is spelled by the bytes
pub decoded_is_spelled : (f : Fields) (channel : Channel) (bytes : List ℕ) → decoded channel bytes ≡ Some f
    → Spells f channel bytes
unfolding decoded
decoded_is_spelled f channel bytes e =
    subst (λ (g : Fields). Spells g channel bytes) (some_is (refusal channel bytes) (fields_of bytes) f e)
    (granted_is_spelled channel bytes (granted channel bytes (if_none (refusal channel bytes) (fields_of bytes) f e)))

-- a spelled frame is decoded
pub spelled_is_decoded : (f : Fields) (channel : Channel) (bytes : List ℕ) → Spells f channel bytes
    → decoded channel bytes ≡ Some f
unfolding decoded
spelled_is_decoded f channel bytes s =
    let none : refusal channel bytes ≡ None = spelled_is_granted f channel bytes s in
    let same : fields_of bytes ≡ f = spelled_once (fields_of bytes) f channel bytes
    (granted_is_spelled channel bytes (granted channel bytes none)) s in
    ap (λ (refused : Option DecodeError). cond (is_some refused) None (Some (fields_of bytes))) none ∙ ap
    (λ (g : Fields). Some g) same

-- refused bytes aren't decoded
pub refused_is_none : (error : DecodeError) (channel : Channel) (bytes : List ℕ) → refusal channel bytes ≡ Some error
    → decoded channel bytes ≡ None
unfolding decoded
refused_is_none error channel bytes e = ap (λ (refused : Option DecodeError). cond (is_some refused) None
    (Some (fields_of bytes))) e

-- ---- a decoder that refuses bytes in order, and otherwise reads the fields

pub decoded-from : (channel : Channel) (bytes : List ℕ) (r : Result Fields DecodeError)
    → result_err r ≡ refusal channel bytes → IfOk r (λ f. f ≡ fields_of bytes)
    → result_ok r ≡ decoded channel bytes
unfolding decoded
decoded-from channel bytes (Ok f) refused read =
    ap (λ (g : Fields). Some g) read ∙ ap (λ (refused : Option DecodeError). cond (is_some refused) None
    (Some (fields_of bytes))) refused
decoded-from channel bytes (Err error) refused read = sym (refused_is_none error channel bytes (sym refused))

pub found-from : (channel : Channel) (bytes : List ℕ) (r : Result Fields DecodeError)
    → result_ok r ≡ decoded channel bytes → IfOk r (λ f. Spells f channel bytes)
found-from channel bytes (Ok f) e = decoded_is_spelled f channel bytes (sym e)
found-from channel bytes (Err error) e = tt

pub only-from : (channel : Channel) (bytes : List ℕ) (r : Result Fields DecodeError)
    → result_ok r ≡ decoded channel bytes
    → (f : Fields) → Spells f channel bytes → r ≡ Ok f
only-from channel bytes (Ok g) e f s =
    let same : Some g ≡ Some f = e ∙ spelled_is_decoded f channel bytes s in
    let here : g ≡ f = cc in
    ap (λ (x : Fields). Ok x) here
only-from channel bytes (Err error) e f s = let none : None ≡ Some f =
    e ∙ spelled_is_decoded f channel bytes s in absurd cc
