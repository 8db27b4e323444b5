-- Each commit of a legal journal is on one buffer of the plan, and is sent, overwritten, withdrawn or pending there.
use Rattle.std.proofs.Common.{◌≡◌, ℕ, zero, suc, ◌+◌, ◌<◌, ◌≤◌, Bool, true, false, cond, eqb, List, [], ◌∷◌, ◌++◌}
use Rattle.std.proofs.Common.{length, refl, sym, ap}
use Rattle.std.proofs.Common.{◌∙◌, arith, Option, Some, None, length-append, inl, inr, ◌≢◌, ne_eqb, get_or}
use Rattle.std.proofs.lemmas.Bool.Decides.{eqb_tells}
use Rattle.std.specs.Prelude.{count_by, IsSomeAnd, slice_get}
use Rattle.std.specs.List.{sum_by, range_with_len, All}
use Rattle.std.proofs.lemmas.List.Sums.{sum_by-cons}
use Rattle.std.proofs.lemmas.Option.{slice_get_within}
use Rattle.fr_interface.specs.Commits.{is_commit, met_on, AreAccounted}
use Rattle.fr_interface.specs.State.{State, IsLegalInterface}
use Rattle.fr_journal.proofs.TallyLemmas.{fates_fill}
use Rattle.fr_journal.specs.Forms.{Entry}
use Rattle.fr_journal.specs.declared.entry.Entry.TheVariants.{Commit, Withdraw, Read, Pop, Fetch, Observe}
use Rattle.fr_journal.specs.declared.fate.Fate.{Fate}
use Rattle.fr_journal.specs.Fate.{is_commit_on, fate_of, fates_from, fates}
use Rattle.fr_journal.specs.Legal.{IsLegal}
use Rattle.fr_slots.specs.declared.plan.Buffer.{Buffer}
use Rattle.fr_slots.specs.History.{AllAfter}
use Rattle.fr_slots.specs.Parameters.{Parameters}
use Rattle.fr_slots.specs.Plans.{Plan, buffer_at, Each}

abbrev digit : Bool → ℕ
digit b = cond b 1 0

-- ---- a buffer has as many fates as commits

one_here : (t : Bool) (f : Fate) → length (cond t (f ∷ []) []) ≡ digit t
one_here true f = refl
one_here false f = refl

fates-many : (buffer n : ℕ) (xs : List Entry) → length (fates_from buffer n xs) ≡ count_by (is_commit_on buffer) xs
unfolding fates_from
fates-many buffer n [] = refl
fates-many buffer n (x ∷ xs) =
    let here : List Fate = cond (is_commit_on buffer x) (fate_of buffer n xs ∷ []) [] in
    omega (
      arith,
      length-append here (fates_from buffer (n + 1) xs),
      one_here (is_commit_on buffer x) (fate_of buffer n xs),
      fates-many buffer (n + 1) xs,
      sum_by-cons (λ e. cond (is_commit_on buffer e) 1 0) x xs,
    )

pub met_is : (s : State) (buffer : ℕ) → met_on s buffer ≡ count_by (is_commit_on buffer) s.entries
met_is s buffer = fates_fill (fates buffer s.entries) ∙ fates-many buffer 0 s.entries

-- ---- sums over numbers

sum_by-same : (f g : ℕ → ℕ) → ((k : ℕ) → f k ≡ g k) → (ns : List ℕ) → sum_by f ns ≡ sum_by g ns
sum_by-same f g same [] = refl
sum_by-same f g same (n ∷ ns) = omega (arith, sum_by-cons f n ns, sum_by-cons g n ns, same n, sum_by-same f g same ns)

sum_by-both : (f g h : ℕ → ℕ) → ((k : ℕ) → h k ≡ f k + g k) → (ns : List ℕ) → sum_by h ns ≡ sum_by f ns + sum_by g ns
sum_by-both f g h both [] = refl
sum_by-both f g h both (n ∷ ns) = omega (
  arith,
  sum_by-cons f n ns,
  sum_by-cons g n ns,
  sum_by-cons h n ns,
  both n,
  sum_by-both f g h both ns,
)

sum_by-none : (f : ℕ → ℕ) → ((k : ℕ) → f k ≡ 0) → (ns : List ℕ) → sum_by f ns ≡ 0
sum_by-none f none [] = refl
sum_by-none f none (n ∷ ns) = omega (arith, sum_by-cons f n ns, none n, sum_by-none f none ns)

-- among the numbers from `a` on, the number `k` occurs once, if it is one of them
one_past : (k a n : ℕ) → k < a → sum_by (λ m. digit (eqb k m)) (range_with_len a n) ≡ 0
one_past k a zero past = refl
one_past k a (suc n) past =
    omega (
      arith,
      sum_by-cons (λ m. digit (eqb k m)) a (range_with_len (a + 1) n),
      one_past k (a + 1) n (omega (arith, past)),
      ap digit (ne_eqb k a (λ same. absurd (omega (arith, past, same)))),
    )

one_in : (k a n : ℕ) → a ≤ k → k < a + n → sum_by (λ m. digit (eqb k m)) (range_with_len a n) ≡ 1
one_in k a zero from to = absurd (omega (arith, from, to))
one_in k a (suc n) from to = elim (eqb_tells k a) [
  | inl same ↦ omega (
    arith,
    sum_by-cons (λ m. digit (eqb k m)) a (range_with_len (a + 1) n),
    one_past k (a + 1) n (omega (arith, same.1)),
    ap digit same.0,
  )
  | inr other ↦ omega (
    arith,
    sum_by-cons (λ m. digit (eqb k m)) a (range_with_len (a + 1) n),
    one_in k (a + 1) n (above k a from other.1) (omega (arith, to)),
    ap digit other.0,
  )
]
  where
    above : (k a : ℕ) → a ≤ k → k ≢ a → a + 1 ≤ k
    above k a from other = omega (arith, from, other)

-- ---- all commits

-- a commit is on a buffer below this number
abbrev IsBelow : ℕ → Entry → Type 0
IsBelow most (Commit task buffer payload) = buffer < most
IsBelow most (Withdraw task buffer of) = Unit {0}
IsBelow most (Read task buffer from) = Unit {0}
IsBelow most (Pop task from) = Unit {0}
IsBelow most (Fetch window a b) = Unit {0}
IsBelow most (Observe window a b) = Unit {0}

-- an entry is a commit on one of so many buffers, or on none
on_one : (most : ℕ) (e : Entry) → IsBelow most e → sum_by (λ b. digit (is_commit_on b e)) (range_with_len 0 most) ≡
    digit (is_commit e)
on_one most (Commit task buffer payload) below = one_in buffer 0 most (omega arith) (omega (arith, below))
on_one most (Withdraw task buffer of) below = sum_by-none (λ b. 0) (λ b. refl) (range_with_len 0 most)
on_one most (Read task buffer from) below = sum_by-none (λ b. 0) (λ b. refl) (range_with_len 0 most)
on_one most (Pop task from) below = sum_by-none (λ b. 0) (λ b. refl) (range_with_len 0 most)
on_one most (Fetch window a b) below = sum_by-none (λ b. 0) (λ b. refl) (range_with_len 0 most)
on_one most (Observe window a b) below = sum_by-none (λ b. 0) (λ b. refl) (range_with_len 0 most)

commits_on_buffers : (most : ℕ) (xs : List Entry) → Each (IsBelow most) xs
    → sum_by (λ b. count_by (is_commit_on b) xs) (range_with_len 0 most) ≡ count_by is_commit xs
commits_on_buffers most [] below = sum_by-none (λ b. 0) (λ b. refl) (range_with_len 0 most)
commits_on_buffers most (x ∷ xs) below =
    omega (
      arith,
      sum_by-both (λ b. digit (is_commit_on b x)) (λ b. count_by (is_commit_on b) xs)
          (λ b. count_by (is_commit_on b) (x ∷ xs)) (λ b. sum_by-cons (λ e. digit (is_commit_on b e)) x xs)
          (range_with_len 0 most),
      on_one most x below.0,
      commits_on_buffers most xs below.1,
      sum_by-cons (λ e. digit (is_commit e)) x xs,
    )

-- a legal commit is on a buffer of the plan
place_of : (P : Buffer → Type 0) (bs : List Buffer) (k : ℕ) (found : Option Buffer) → found ≡ slice_get bs k
    → IsSomeAnd found P → k < length bs
place_of P bs k None is some = absurd some
place_of P bs k (Some b) is some = slice_get_within bs k b (sym is)

legal_below : (params : Parameters) (plan : Plan) (before : List Entry) (e : Entry) → IsLegal params plan before e
    → IsBelow (length plan.buffers) e
legal_below params plan before (Commit task buffer payload) legal =
    place_of _ plan.buffers buffer (buffer_at plan buffer) refl legal.transmits
legal_below params plan before (Withdraw task buffer of) legal = tt
legal_below params plan before (Read task buffer from) legal = tt
legal_below params plan before (Pop task from) legal = tt
legal_below params plan before (Fetch window a b) legal = tt
legal_below params plan before (Observe window a b) legal = tt

all_below : (params : Parameters) (plan : Plan) (before xs : List Entry) → AllAfter (IsLegal params plan) before xs
    → Each (IsBelow (length plan.buffers)) xs
unfolding AllAfter
all_below params plan before [] legal = tt
all_below params plan before (x ∷ xs) legal = (
  legal_below params plan before x legal.0,
  all_below params plan (before ++ x ∷ []) xs legal.1,
)

-- ---- interfaces

pub accounted : (s : State) → IsLegalInterface s → AreAccounted s
accounted s legal =
    sym (sum_by-same (met_on s) (λ b. count_by (is_commit_on b) s.entries) (met_is s)
    (range_with_len 0 (length s.plan.buffers))
    ∙ commits_on_buffers (length s.plan.buffers) s.entries (all_below s.params s.plan [] s.entries legal.legal))

pub all_accounted : (xs : List State) → All IsLegalInterface xs → All AreAccounted xs
all_accounted xs legal k d within = accounted (get_or xs k d) (legal k d within)
