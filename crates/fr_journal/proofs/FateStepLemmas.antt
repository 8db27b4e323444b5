-- The fates of the commits on a buffer, with one more entry.
use Rattle.std.proofs.Common.{◌≡◌, ℕ, ◌+◌, ◌≤◌, Bool, true, false, cond, not, ◌||◌, ◌&&◌, List, [], ◌∷◌, ◌++◌, length}
use Rattle.std.proofs.Common.{drop, map, Option, Some, None, refl, sym, ap, subst, ◌∙◌, arith, length-append}
use Rattle.std.specs.Prelude.{IsSomeAnd}
use Rattle.std.specs.List.{list_any}
use Rattle.std.specs.Option.{option_or}
use Rattle.std.proofs.lemmas.List.{append_assoc}
use Rattle.std.proofs.lemmas.List.Folds.{list_any-append}
use Rattle.fr_journal.specs.Forms.{Entry}
use Rattle.fr_journal.specs.declared.fate.Fate.{Fate}
use Rattle.fr_journal.specs.declared.fate.Fate.TheVariants.{Sent, Withdrawn, Overwritten, Pending}
use Rattle.fr_journal.specs.Fate.{is_commit_on, commit_on, sends, takes_back, fate_of, fates_from, is_withdrawn}
use Rattle.fr_journal.proofs.LastCommitLemmas.{last-here, last-some, drop-next}
use Rattle.fr_slots.specs.History.{last_after, AllAfter}

abbrev pub fate_by : Bool → Bool → Bool → Fate
fate_by sent withdrawn replaced = cond sent Sent (cond withdrawn Withdrawn (cond replaced Overwritten Pending))

-- a fate after a later commit on the buffer
abbrev pub after_commit : Fate → Fate
after_commit Sent = Sent
after_commit Withdrawn = Withdrawn
after_commit Overwritten = Overwritten
after_commit Pending = Overwritten

-- a fate after another entry, which sends the buffer's last commit, withdraws it, or does neither
abbrev pub after_other : Bool → Bool → Fate → Fate
after_other sent withdrawn Sent = Sent
after_other sent withdrawn Withdrawn = Withdrawn
after_other sent withdrawn Overwritten = Overwritten
after_other sent withdrawn Pending = cond sent Sent (cond withdrawn Withdrawn Pending)

fate_by-commit : (s w c : Bool) → fate_by (s || (false || false)) (w || (false || false)) (c || (true || false))
    ≡ after_commit (fate_by s w c)
fate_by-commit true w c = refl
fate_by-commit false true c = refl
fate_by-commit false false true = refl
fate_by-commit false false false = refl

fate_by-other : (t u s w c : Bool) → ((t && not c) ≡ true → is_withdrawn (fate_by s w c) ≡ false)
    → fate_by (s || ((t && not c) || false)) (w || ((u && not c) || false)) (c || (false || false)) ≡ after_other t u
    (fate_by s w c)
fate_by-other t u true w c h = refl
fate_by-other true u false true true h = refl
fate_by-other true u false true false h = let here : true ≡ false = h refl in absurd cc
fate_by-other true true false false true h = refl
fate_by-other true false false false true h = refl
fate_by-other true u false false false h = refl
fate_by-other false u false true c h = refl
fate_by-other false true false false true h = refl
fate_by-other false true false false false h = refl
fate_by-other false false false false true h = refl
fate_by-other false false false false false h = refl

any_with : (p : Entry → Bool) (xs : List Entry) (e : Entry) (t : Bool) → p e ≡ t
    → list_any p (xs ++ e ∷ []) ≡ (list_any p xs || (t || false))
any_with p xs e t is = list_any-append p xs (e ∷ []) ∙ ap (λ (b : Bool). list_any p xs || (b || false)) is

-- ---- a commit on the buffer

commit_step : (t : Bool) (f g : Fate) (fs gs : List Fate) → g ≡ after_commit f
    → gs ≡ map after_commit fs ++ Pending ∷ []
    → cond t (g ∷ []) [] ++ gs ≡ map after_commit (cond t (f ∷ []) [] ++ fs) ++ Pending ∷ []
commit_step true f g fs gs head rest = λ i. head i ∷ rest i
commit_step false f g fs gs head rest = rest

pub fates_from-commit : (buffer n : ℕ) (xs : List Entry) (e : Entry) → is_commit_on buffer e ≡ true
    → ((m : ℕ) → sends m e ≡ false) → ((m : ℕ) → takes_back m e ≡ false)
    → fates_from buffer n (xs ++ e ∷ []) ≡ map after_commit (fates_from buffer n xs) ++ Pending ∷ []
unfolding fates_from
fates_from-commit buffer n [] e on unsent untaken = ap (λ (t : Bool). cond t (Pending ∷ []) [] ++ []) on
fates_from-commit buffer n (x ∷ xs) e on unsent untaken =
    let sent = any_with (sends n) xs e false (unsent n) in
    let taken = any_with (takes_back n) xs e false (untaken n) in
    let replaced = any_with (is_commit_on buffer) xs e true on in
    let head : fate_of buffer n (xs ++ e ∷ []) ≡ after_commit (fate_of buffer n xs) =
    (λ i. fate_by (sent i) (taken i) (replaced i)) ∙ fate_by-commit (list_any (sends n) xs) (list_any (takes_back n) xs)
    (list_any (is_commit_on buffer) xs) in
    commit_step (is_commit_on buffer x) (fate_of buffer n xs) (fate_of buffer n (xs ++ e ∷ []))
    (fates_from buffer (n + 1) xs) (fates_from buffer (n + 1) (xs ++ e ∷ [])) head
    (fates_from-commit buffer (n + 1) xs e on unsent untaken)

-- ---- any other entry

-- the predicate holds for the last commit on the buffer exactly if t, and for no other commit there
abbrev pub MarksLast : ℕ → ℕ → Bool → (ℕ → Bool) → List Entry → Type 0
MarksLast buffer n t p [] = Unit {0}
MarksLast buffer n t p (x ∷ xs) = (is_commit_on buffer x ≡ true → p n ≡ (t && not (list_any (is_commit_on buffer) xs)))
    × MarksLast buffer (n + 1) t p xs

-- a last commit that is sent isn't a withdrawn one
abbrev pub LastStands : ℕ → ℕ → Bool → List Entry → Type 0
LastStands buffer n t [] = Unit {0}
LastStands buffer n t (x ∷ xs) = (is_commit_on buffer x ≡ true → (t && not (list_any (is_commit_on buffer) xs)) ≡ true
    → is_withdrawn (fate_of buffer n xs) ≡ false)
    × LastStands buffer (n + 1) t xs

-- a predicate that holds for no commit
pub marks_none : (buffer n : ℕ) (p : ℕ → Bool) (xs : List Entry) → ((m : ℕ) → p m ≡ false)
    → MarksLast buffer n false p xs
marks_none buffer n p [] none = tt
marks_none buffer n p (x ∷ xs) none = (λ _. none n, marks_none buffer (n + 1) p xs none)

pub stands_unsent : (buffer n : ℕ) (xs : List Entry) → LastStands buffer n false xs
stands_unsent buffer n [] = tt
stands_unsent buffer n (x ∷ xs) = (λ _ e. absurd cc, stands_unsent buffer (n + 1) xs)

other_step : (t u b : Bool) (f g : Fate) (fs gs : List Fate) → (b ≡ true → g ≡ after_other t u f)
    → gs ≡ map (after_other t u) fs
    → cond b (g ∷ []) [] ++ gs ≡ map (after_other t u) (cond b (f ∷ []) [] ++ fs)
other_step t u true f g fs gs head rest = λ i. head refl i ∷ rest i
other_step t u false f g fs gs head rest = rest

pub fates_from-other : (buffer n : ℕ) (t u : Bool) (xs : List Entry) (e : Entry) → is_commit_on buffer e ≡ false
    → MarksLast buffer n t (λ m. sends m e) xs → MarksLast buffer n u (λ m. takes_back m e) xs
    → LastStands buffer n t xs
    → fates_from buffer n (xs ++ e ∷ []) ≡ map (after_other t u) (fates_from buffer n xs)
unfolding fates_from
fates_from-other buffer n t u [] e off sending taking stands =
    ap (λ (b : Bool). cond b (fate_of buffer n [] ∷ []) [] ++ []) off
fates_from-other buffer n t u (x ∷ xs) e off sending taking stands =
    let more : Bool = list_any (is_commit_on buffer) xs in
    let replaced = any_with (is_commit_on buffer) xs e false off in
    let head : is_commit_on buffer x ≡ true → fate_of buffer n (xs ++ e ∷ []) ≡ after_other t u (fate_of buffer n xs) =
    λ on.
    let sent = any_with (sends n) xs e (t && not more) (sending.0 on) in
    let taken = any_with (takes_back n) xs e (u && not more) (taking.0 on) in
    (λ i. fate_by (sent i) (taken i) (replaced i)) ∙ fate_by-other t u (list_any (sends n) xs)
    (list_any (takes_back n) xs) more (stands.0 on) in
    other_step t u (is_commit_on buffer x) (fate_of buffer n xs) (fate_of buffer n (xs ++ e ∷ []))
    (fates_from buffer (n + 1) xs) (fates_from buffer (n + 1) (xs ++ e ∷ [])) head
    (fates_from-other buffer (n + 1) t u xs e off sending.1 taking.1 stands.1)

-- ---- a legal entry sends or withdraws only the last commit on a buffer, if any

and-true : (t : Bool) → (t && true) ≡ t
and-true true = refl
and-true false = refl

and-false : (t : Bool) → (t && false) ≡ false
and-false true = refl
and-false false = refl

or-assoc : (x y z : Option ℕ) → option_or (option_or x y) z ≡ option_or x (option_or y z)
or-assoc None y z = refl
or-assoc (Some n) y z = refl

behind : (o p : Option ℕ) (m n : ℕ) → n ≤ m → IsSomeAnd o (λ k. m ≤ k) → IsSomeAnd (option_or o p) (λ k. n ≤ k)
behind None p m n le h = absurd h
behind (Some k) p m n le h = omega (arith, le, h)

not_itself : (o : Option ℕ) (n : ℕ) → IsSomeAnd o (λ k. n + 1 ≤ k) → o ≡ Some n → ⊥
not_itself o n h is = omega (arith, subst (λ (p : Option ℕ). IsSomeAnd p (λ k. n + 1 ≤ k)) is h)

module _ (buffer : ℕ) where
  -- the predicate holds at most for the last commit
  abbrev pub OnlyLast : (ℕ → Bool) → Option ℕ → List Entry → Entry → Type 0
  OnlyLast p last before x = is_commit_on buffer x ≡ true → p (length before) ≡ true → last ≡ Some (length before)

  head_of : (t c s : Bool) (n : ℕ) (last : Option ℕ) → (s ≡ true → last ≡ Some n) → (c ≡ true → last ≡ Some n → ⊥)
      → (c ≡ false → last ≡ Some n) → (last ≡ Some n → t ≡ s) → s ≡ (t && not c)
  head_of t true true n last only late here is = absurd (late refl (only refl))
  head_of t true false n last only late here is = sym (and-false t)
  head_of t false s n last only late here is = sym (is (here refl)) ∙ sym (and-true t)

  module _ (last o : Option ℕ) (before : List Entry) (x : Entry) (xs : List Entry)
      (is : last ≡ option_or (last_after (commit_on buffer) before (x ∷ xs)) o) where
    abbrev later : Option ℕ
    later = last_after (commit_on buffer) (before ++ x ∷ []) xs

    next_from : last ≡ option_or later (option_or (commit_on buffer before x) o)
    unfolding last_after
    next_from = is ∙ or-assoc (last_after (commit_on buffer) (before ++ x ∷ []) xs) (commit_on buffer before x) o

    -- a commit isn't the last one if another one follows
    not_last : list_any (is_commit_on buffer) xs ≡ true → last ≡ Some (length before) → ⊥
    not_last more eq =
        let long : length (before ++ x ∷ []) ≡ length before + 1 = length-append before (x ∷ []) in
        not_itself (option_or later (option_or (commit_on buffer before x) o)) (length before)
        (behind later (option_or (commit_on buffer before x) o) (length (before ++ x ∷ [])) (length before + 1)
        (omega (arith, long)) (last-some buffer (before ++ x ∷ []) xs more)) (sym next_from ∙ eq)

    is_last : list_any (is_commit_on buffer) xs ≡ false → is_commit_on buffer x ≡ true → last ≡ Some (length before)
    is_last none on = is ∙ ap (λ (p : Option ℕ). option_or p o) (last-here buffer before x xs none on)

  pub marks_last_from : (t : Bool) (p : ℕ → Bool) (last o : Option ℕ) (before xs : List Entry)
      → last ≡ option_or (last_after (commit_on buffer) before xs) o
      → AllAfter (OnlyLast p last) before xs → ((k : ℕ) → last ≡ Some k → t ≡ p k)
      → MarksLast buffer (length before) t p xs
  unfolding AllAfter last_after
  marks_last_from t p last o before [] is all same = tt
  marks_last_from t p last o before (x ∷ xs) is all same =
      let long : length (before ++ x ∷ []) ≡ length before + 1 = length-append before (x ∷ []) in
      let head : is_commit_on buffer x ≡ true → p (length before) ≡ (t && not (list_any (is_commit_on buffer) xs)) =
      λ on. head_of t (list_any (is_commit_on buffer) xs) (p (length before)) (length before) last (all.0 on)
      (not_last last o before x xs is) (λ none. is_last last o before x xs is none on) (same (length before)) in (
        head,
        subst (λ (n : ℕ). MarksLast buffer n t p xs) long
            (marks_last_from t p last (option_or (commit_on buffer before x) o) (before ++ x ∷ []) xs
            (next_from last o before x xs is) all.1 same),
      )

  both_true : (t c : Bool) → (t && not c) ≡ true → (t ≡ true) × (c ≡ false)
  both_true true false e = (refl, refl)
  both_true true true e = absurd cc
  both_true false c e = absurd cc

  pub stands_from : (t : Bool) (whole : List Entry) (last o : Option ℕ) (before xs : List Entry) → whole ≡ before ++ xs
      → last ≡ option_or (last_after (commit_on buffer) before xs) o
      → ((k : ℕ) → last ≡ Some k → t ≡ true → is_withdrawn (fate_of buffer k (drop (k + 1) whole)) ≡ false)
      → LastStands buffer (length before) t xs
  stands_from t whole last o before [] cut is stands = tt
  stands_from t whole last o before (x ∷ xs) cut is stands =
      let long : length (before ++ x ∷ []) ≡ length before + 1 = length-append before (x ∷ []) in
      let head : is_commit_on buffer x ≡ true → (t && not (list_any (is_commit_on buffer) xs)) ≡ true
      → is_withdrawn (fate_of buffer (length before) xs) ≡ false =
      λ on marked.
      let parts = both_true t (list_any (is_commit_on buffer) xs) marked in
      let rest : drop (length before + 1) whole ≡ xs = ap (drop (length before + 1)) cut ∙ drop-next before x xs in
      ap (λ (l : List Entry). is_withdrawn (fate_of buffer (length before) l)) (sym rest) ∙ stands (length before)
      (is_last last o before x xs is parts.1 on) parts.0 in (
        head,
        subst (λ (n : ℕ). LastStands buffer n t xs) long
            (stands_from t whole last (option_or (commit_on buffer before x) o) (before ++ x ∷ []) xs
            (cut ∙ sym (append_assoc before (x ∷ []) xs)) (next_from last o before x xs is) stands),
      )
