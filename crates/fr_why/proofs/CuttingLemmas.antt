-- A text, cut at a line feed.
use Rattle.std.proofs.Common.{◌≡◌, ℕ, zero, suc, ◌+◌, ◌-◌, ◌<◌, List, [], ◌∷◌, ◌++◌, length, get_or, take, drop, refl}
use Rattle.std.proofs.Common.{sym, ap, ◌∙◌, arith, zero-add}
use Rattle.std.proofs.lemmas.List.{take_more, drop_more, drop-drop, take-append-drop}

nothing_taken : (n : ℕ) → take {A = ℕ} n [] ≡ []
nothing_taken zero = refl
nothing_taken (suc n) = refl

pub longer_front : (n k : ℕ) (text : List ℕ) → take (n + k) text ≡ take n text ++ take k (drop n text)
longer_front zero k text = ap (λ (m : ℕ). take m text) (zero-add k)
longer_front (suc n) k [] = nothing_taken (suc n + k) ∙ sym (nothing_taken k)
longer_front (suc n) k (b ∷ text) =
    let next : suc n + k ≡ suc (n + k) = omega arith in
    ap (λ (m : ℕ). take m (b ∷ text)) next ∙ ap (λ (t : List ℕ). b ∷ t) (longer_front n k text)

-- the line feed ends the line
pub with_feed : (rest : List ℕ) (at : ℕ) → at < length rest → get_or rest at 0 ≡ 10
    → take (at + 1) rest ≡ take at rest ++ 10 ∷ []
with_feed rest at within feed = take_more rest at 0 within ∙ ap (λ (b : ℕ). take at rest ++ b ∷ []) feed

pub feed_next : (rest : List ℕ) (at : ℕ) → at < length rest → get_or rest at 0 ≡ 10
    → drop at rest ≡ 10 ∷ drop (at + 1) rest
feed_next rest at within feed = drop_more rest at 0 within ∙ ap (λ (b : ℕ). b ∷ drop (at + 1) rest) feed

-- the bytes before a line, the line, and the rest
pub three_parts : (start at : ℕ) (text : List ℕ) → text ≡ take start text ++
    (take at (drop start text) ++ drop (start + at) text)
three_parts start at text =
    sym (take-append-drop start text)
    ∙ ap (λ (t : List ℕ). take start text ++ t) (sym (take-append-drop at (drop start text)) ∙ ap
    (λ (t : List ℕ). take at (drop start text) ++ t) (drop-drop at start text))
