-- A whole line leads from one phase to the next.
use Rattle.std.proofs.Common.{◌≡◌, ℕ, ◌+◌, ◌≤◌, ◌==◌, true, false, not, List, [], ◌∷◌, ◌++◌, length, Ok, refl, sym, ap}
use Rattle.std.proofs.Common.{◌∙◌, append_assoc, arith, length-append}
use Rattle.std.proofs.lemmas.Bool.{and_parts}
use Rattle.std.proofs.lemmas.Bool.Decides.{nat_tests}
use Rattle.std.proofs.lemmas.List.{append-nil}
use Rattle.std.proofs.lemmas.List.Sums.{fold-append}
use Rattle.fr_text.specs.Plain.{is_feed, has_no_feed}
use Rattle.fr_trace.proofs.TextLemmas.{is_open, take_in-open}
use Rattle.fr_trace.specs.Stream.{Phase, Progress, reading, take_line, after_line, take_in, take_byte, take_bytes}
use Rattle.fr_lines.specs.Spelling.{line_feed}

-- bytes other than a line feed fill the line
pub fill : (p : Phase) (rest front : List ℕ) → is_open p ≡ true → has_no_feed rest ≡ true
    → length front + length rest ≤ 1200 → take_bytes (reading p front) rest ≡ reading p (front ++ rest)
fill p [] front opened plain room = ap (λ l. reading p l) (sym (append-nil front))
fill p (b ∷ rest) front opened plain room =
    let parts = and_parts (not (is_feed b)) (has_no_feed rest) plain in
    let other : (b == 10) ≡ false = grind (arith, nat_tests) in
    let left : (length front == 1200) ≡ false = grind (arith, nat_tests) in
    let one : take_in p front b ≡ reading p (front ++ b ∷ []) = take_in-open p front b opened ∙ rw (other, left) refl in
    let len = length-append front (b ∷ []) in
    ap (λ s. take_bytes s rest) one
    ∙ (fill p rest (front ++ b ∷ []) opened parts.1 (omega arith) ∙ ap (λ l. reading p l)
    (append_assoc front (b ∷ []) rest))

pub whole_line : (p : Phase) (line : List ℕ) (q : Phase) → is_open p ≡ true → has_no_feed line ≡ true
    → length line ≤ 1200 → take_line p line ≡ Ok q
    → take_bytes (reading p []) (line ++ line_feed) ≡ reading q []
whole_line p line q opened plain short led =
    fold-append take_byte (reading p []) line line_feed
    ∙ (ap (λ s. take_bytes s line_feed) (fill p line [] opened plain (omega arith)) ∙
    (take_in-open p line 10 opened ∙ ap after_line led))

-- the next line, after a text that has been read
pub next_line : (start : Progress) (text line : List ℕ) (p q : Phase) → take_bytes start text ≡ reading p []
    → is_open p ≡ true → has_no_feed line ≡ true → length line ≤ 1200 → take_line p line ≡ Ok q
    → take_bytes start (text ++ (line ++ line_feed)) ≡ reading q []
next_line start text line p q came opened plain short led =
    fold-append take_byte start text (line ++ line_feed) ∙ (ap (λ s. take_bytes s (line ++ line_feed)) came
    ∙ whole_line p line q opened plain short led)
