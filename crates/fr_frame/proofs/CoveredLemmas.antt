-- The bits that a header CRC covers, as the code joins them.
use Rattle.std.proofs.Common.{◌≡◌, ℕ, ◌+◌, ◌*◌, ◌/◌, ◌%◌, ◌^◌, ◌≤◌, ◌<◌, Bool, true, false, cond, List, [], ◌∷◌, ◌++◌}
use Rattle.std.proofs.Common.{length, refl, sym, ap, subst, ◌∙◌, arith, bit_or, lit≤}
use mir.Val.{bool_byte}
use Rattle.fr_frame.specs.Bits.{bits_of}
use Rattle.fr_frame.specs.Fields.{Fields}
use Rattle.fr_frame.specs.Payload.{IsPayload}
use Rattle.fr_frame.specs.Spelling.{covered}
use Rattle.fr_frame.proofs.NumberLemmas.{or_is, bits_of-joined, bits_of-digit}

-- the number that a bool converts to
pub digit_is : (bit : Bool) → bool_byte bit ≡ cond bit 1 0
digit_is true = refl
digit_is false = refl

digit_fits : (bit : Bool) → cond bit 1 0 < 2
digit_fits true = omega arith
digit_fits false = omega arith

-- two bits as one number
abbrev pub digits : Bool → Bool → ℕ
digits a b = cond a 1 0 * 2 + cond b 1 0

pub digits_fit : (a b : Bool) → digits a b < 4
digits_fit a b = omega (arith, digit_fits a, digit_fits b)

pub bits_of-digits : (a b : Bool) → bits_of 2 (digits a b) ≡ a ∷ b ∷ []
bits_of-digits a b =
    bits_of-joined 1 1 (cond a 1 0) (cond b 1 0) (digit_fits b)
    ∙ ap (λ (t : List Bool). t ++ bits_of 1 (cond b 1 0)) (bits_of-digit a)
    ∙ ap (λ (t : List Bool). a ∷ t) (bits_of-digit b)

-- the same, as the code joins them in an integer of `m` bits
pub digits_joined : (m : ℕ) (a b : Bool) (x y : ℕ) → 2 ≤ m → x ≡ cond a 1 0 → y ≡ cond b 1 0
    → bit_or (x * 2 % 2 ^ m) y ≡ digits a b
digits_joined m a b x y fits x_is y_is =
    ap (λ (n : ℕ). bit_or (n * 2 % 2 ^ m) y) x_is ∙ ap (bit_or (cond a 1 0 * 2 % 2 ^ m)) y_is
    ∙ or_is 1 1 m (cond a 1 0) (cond b 1 0) (digit_fits a) (digit_fits b) fits

-- the number that the covered bits spell, for a payload of so many bytes
abbrev covered_number : Bool → Bool → ℕ → ℕ → ℕ
covered_number sync startup id size = (digits sync startup * 2048 + id) * 128 + size / 2

covered_number-joined : (sync startup : Bool) (id size s t i words : ℕ) → s ≡ cond sync 1 0 → t ≡ cond startup 1 0
    → i ≡ id → words ≡ size / 2
    → id < 2 ^ 11 → size ≤ 254
    → bit_or (bit_or (bit_or (s * 2 % 2 ^ 32) t * 2048 % 2 ^ 32) i * 128 % 2 ^ 32) words
    ≡ covered_number sync startup id size
covered_number-joined sync startup id size s t i words s_is t_is i_is words_is id_fits short =
    let indicators = digits sync startup in
    let small : indicators < 2 ^ 2 = digits_fit sync startup in
    let few : size / 2 < 2 ^ 7 = omega (arith, short) in
    let second : bit_or (bit_or (s * 2 % 2 ^ 32) t * 2048 % 2 ^ 32) i ≡ indicators * 2048 + id =
    ap (λ (x : ℕ). bit_or (x * 2048 % 2 ^ 32) i) (digits_joined 32 sync startup s t (lit≤ tt) s_is t_is)
    ∙ ap (bit_or (indicators * 2048 % 2 ^ 32)) i_is
    ∙ or_is 2 11 32 indicators id small id_fits (lit≤ tt) in
    ap (λ (x : ℕ). bit_or (x * 128 % 2 ^ 32) words) second ∙ ap
    (bit_or ((indicators * 2048 + id) * 128 % 2 ^ 32)) words_is
    ∙ or_is 13 7 32 (indicators * 2048 + id) (size / 2) (omega arith) few (lit≤ tt)

pub covered_joined : (f : Fields) (s t i words : ℕ) → s ≡ cond f.sync 1 0 → t ≡ cond f.startup 1 0 → i ≡ f.id
    → words ≡ length f.payload / 2
    → f.id < 2 ^ 11 → IsPayload f.payload
    → bits_of 20 (bit_or (bit_or (bit_or (s * 2 % 2 ^ 32) t * 2048 % 2 ^ 32) i * 128 % 2 ^ 32) words) ≡ covered f
unfolding covered
covered_joined f s t i words s_is t_is i_is words_is id_fits payload_fits =
    let indicators = digits f.sync f.startup in
    let few : length f.payload / 2 < 2 ^ 7 = omega (arith, payload_fits.short) in
    ap (bits_of 20) (covered_number-joined f.sync f.startup f.id
    (length f.payload) s t i words s_is t_is i_is words_is id_fits payload_fits.short)
    ∙ bits_of-joined 13 7 (indicators * 2048 + f.id) (length f.payload / 2) few
    ∙ ap (λ (t : List Bool). t ++ bits_of 7 (length f.payload / 2)) (bits_of-joined 2 11 indicators f.id id_fits)
    ∙ ap (λ (t : List Bool). (t ++ bits_of 11 f.id) ++ bits_of 7 (length f.payload / 2))
    (bits_of-digits f.sync f.startup)

pub covered_fits : (sync startup : Bool) (id size s t i words : ℕ) → s ≡ cond sync 1 0 → t ≡ cond startup 1 0 → i ≡ id
    → words ≡ size / 2
    → id < 2 ^ 11 → size ≤ 254
    → bit_or (bit_or (bit_or (s * 2 % 2 ^ 32) t * 2048 % 2 ^ 32) i * 128 % 2 ^ 32) words < 2 ^ 20
covered_fits sync startup id size s t i words s_is t_is i_is words_is id_fits short =
    let below : covered_number sync startup id size < 2 ^ 20 = omega (arith, digits_fit sync startup, short) in
    subst (λ (n : ℕ). n < 2 ^ 20) (sym (covered_number-joined sync startup id size s t i words s_is t_is i_is words_is
    id_fits short)) below
