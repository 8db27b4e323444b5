-- Bytes at a place of a list.
use Rattle.std.proofs.Common.{◌≡◌, ℕ, suc, ◌+◌, ◌<◌, ◌≤◌, List, [], ◌∷◌, length, get_or, take, drop, refl, arith, ap}
use Rattle.std.proofs.Common.{◌∙◌, sym}
use Rattle.std.proofs.lemmas.List.{drop_more}

cons_at : (n at next : ℕ) (s : List ℕ) → next ≡ at + 1 → at < length s
    → take (suc n) (drop at s) ≡ get_or s at 0 ∷ take n (drop next s)
cons_at n at next s is lt =
    ap (take (suc n)) (drop_more s at 0 lt) ∙ ap (λ (m : ℕ). get_or s at 0 ∷ take n (drop m s)) (sym is)

pub part_two : (s : List ℕ) (at : ℕ) → at + 2 ≤ length s
    → take 2 (drop at s) ≡ get_or s at 0 ∷ get_or s (at + 1) 0 ∷ []
part_two s at fits =
    cons_at 1 at (at + 1) s refl (omega arith)
    ∙ ap (λ (t : List ℕ). get_or s at 0 ∷ t) (cons_at 0 (at + 1) (at + 2) s (omega arith) (omega arith))

pair_at : (s : List ℕ) (at next : ℕ) → next ≡ at + 1
    → get_or s at 0 ∷ get_or s (at + 1) 0 ∷ [] ≡ get_or s at 0 ∷ get_or s next 0 ∷ []
pair_at s at next is = ap (λ (m : ℕ). get_or s at 0 ∷ get_or s m 0 ∷ []) (sym is)

pub part_four : (s : List ℕ) (at : ℕ) → at + 4 ≤ length s
    → take 4 (drop at s)
    ≡ get_or s at 0 ∷ get_or s (at + 1) 0 ∷ get_or s (at + 2) 0 ∷ get_or s (at + 3) 0 ∷ []
part_four s at fits =
    cons_at 3 at (at + 1) s refl (omega arith)
    ∙ ap (λ (t : List ℕ). get_or s at 0 ∷ t) (cons_at 2 (at + 1) (at + 2) s (omega arith) (omega arith)
    ∙ ap (λ (t : List ℕ). get_or s (at + 1) 0 ∷ t) (part_two s (at + 2) (omega arith)
    ∙ pair_at s (at + 2) (at + 3) (omega arith)))

pub part_eight : (s : List ℕ) → length s ≡ 8
    → take 8 (drop 0 s)
    ≡ get_or s 0 0 ∷ get_or s 1 0 ∷ get_or s 2 0 ∷ get_or s 3 0 ∷ get_or s 4 0 ∷ get_or s 5 0 ∷ get_or s 6 0
    ∷ get_or s 7 0 ∷ []
part_eight s whole =
    cons_at 7 0 1 s refl (omega arith)
    ∙ ap (λ (t : List ℕ). get_or s 0 0 ∷ t) (cons_at 6 1 2 s refl (omega arith)
    ∙ ap (λ (t : List ℕ). get_or s 1 0 ∷ t) (cons_at 5 2 3 s refl (omega arith)
    ∙ ap (λ (t : List ℕ). get_or s 2 0 ∷ t) (cons_at 4 3 4 s refl (omega arith)
    ∙ ap (λ (t : List ℕ). get_or s 3 0 ∷ t) (part_four s 4 (omega arith)))))
