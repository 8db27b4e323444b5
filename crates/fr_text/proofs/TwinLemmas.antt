-- A word that differs from another one at most in the digits of its last three bytes.
use Rattle.std.proofs.Common.{◌≡◌, ℕ, suc, ◌+◌, ◌-◌, ◌*◌, ◌/◌, ◌≤◌, List, ◌∷◌, ◌++◌, length, take, drop, Some, sym, ap}
use Rattle.std.proofs.Common.{◌∙◌, arith}
use Rattle.std.proofs.lemmas.List.{length-append, length-take-le, take-append-drop}
use Rattle.hex.specs.Hex.{encode_lower, IsBytes}
use Rattle.fr_text.proofs.DigitLemmas.{encode-append, encode-take, IsBytes-append, IsBytes-take}
use Rattle.fr_text.proofs.HexTextLemmas.{bytes_takes, bytes_again, length-hex_text}
use Rattle.fr_text.specs.Reading.{bytes_in}
use Rattle.fr_text.specs.Spelling.{hex_text}

-- the bytes of a long word: the copied ones and three more
pub twin_counts : (most : ℕ) (word bs : List ℕ) → bytes_in most word ≡ Some bs → 65 ≤ length word
    → ((length word - 6) / 2 + 3 ≡ length bs) × (length bs ≤ most)
    × (length word - 6 ≡ suc (2 * ((length word - 6) / 2)))
twin_counts most word bs read long =
    let takes = bytes_takes most word bs read in
    let is : length word ≡ 1 + 2 * length bs = ap length takes.0 ∙ length-hex_text bs in
    (omega arith, takes.1, omega arith)

-- the first bytes of the other word and the bytes of the last digits
pub twin_read : (most count front : ℕ) (word other bs checks : List ℕ) → bytes_in most other ≡ Some bs
    → count + 3 ≡ length bs → front ≡ suc (2 * count) → take front word ≡ take front other
    → encode_lower (take 3 checks) ≡ drop front word → length checks ≡ 16 → IsBytes checks
    → bytes_in most word ≡ Some (take count bs ++ take 3 checks)
twin_read most count front word other bs checks read long odd same ends checks_len fits =
    let takes = bytes_takes most other bs read in
    let first = take count bs in
    let last = take 3 checks in
    let begin : hex_text first ≡ take front word =
    ap (λ (ds : List ℕ). 120 ∷ ds) (encode-take count bs) ∙ ap (λ (n : ℕ). take n (hex_text bs)) (sym odd)
    ∙ ap (take front) (sym takes.0) ∙ sym same in
    let spelled : hex_text (first ++ last) ≡ word =
    ap (λ (ds : List ℕ). 120 ∷ ds) (encode-append first last) ∙ (λ j. begin j ++ ends j)
    ∙ take-append-drop front word in
    let few : length (first ++ last) ≤ most =
    let both = length-append first last in
    let first_len = length-take-le count bs (omega arith) in
    let last_len = length-take-le 3 checks (omega arith) in
    omega (arith, takes.1) in
    let are = IsBytes-append first last (IsBytes-take count bs takes.2) (IsBytes-take 3 checks fits) in
    rw (← spelled) (bytes_again most (first ++ last) are few)
