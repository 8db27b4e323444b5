-- The marks of short entries, with one more entry.
use Rattle.std.proofs.Common.{◌≡◌, ℕ, ◌<◌, ◌≤◌, false, true, List, [], ◌∷◌, ◌++◌, take, length, inl, inr}
use Rattle.std.proofs.Common.{Option, Some, None, refl, sym, ap, subst, ◌∙◌, arith, length-append}
use Rattle.std.specs.Prelude.{map, slice_get, IfSome}
use Rattle.std.specs.Option.{option_and_then, option_or}
use Rattle.std.proofs.lemmas.Bool.{cases_lt}
use Rattle.std.proofs.lemmas.List.{take-append-le, take_all}
use Rattle.std.proofs.lemmas.Option.{slice_get_past}
use Rattle.fr_journal.specs.Forms.{Entry, ShortEntry}
use Rattle.fr_journal.specs.declared.entry.Entry.TheVariants as entries
use Rattle.fr_journal.specs.Entries.{is_host}
use Rattle.fr_journal.specs.Marks.{fetched_window, fetched_at, last_mark, AreMarked, TellsOpen}
use Rattle.fr_journal.specs.OpenWindow.{open_window, window_mark, closed_window}
use Rattle.fr_journal.specs.Shortened.{restored}
use Rattle.fr_journal.proofs.LastCommitLemmas.{slice_get-front, slice_get-next}
use Rattle.fr_journal.proofs.OpenWindowLemmas.{open_window-snoc}
use Rattle.fr_slots.specs.History.{last_after}

-- ---- the mark of an entry

-- an entry of the host is no mark
pub record IsUnmarked (s : ShortEntry) (e : Entry) : Type 0 where
  pub fetched : fetched_window s ≡ None
  pub says : (before : List Entry) → window_mark before e ≡ None

pub host_unmarked : (pool : List ℕ) (s : ShortEntry) → is_host (restored pool s) ≡ true → IsUnmarked s (restored pool s)
host_unmarked pool (entries.Commit task buffer payload) kind =
    record { fetched = refl; says = λ before. refl }
host_unmarked pool (entries.Withdraw task buffer of) kind =
    record { fetched = refl; says = λ before. refl }
host_unmarked pool (entries.Read task buffer from) kind =
    record { fetched = refl; says = λ before. refl }
host_unmarked pool (entries.Pop task from) kind =
    record { fetched = refl; says = λ before. refl }
host_unmarked pool (entries.Fetch window a b) kind = absurd cc
host_unmarked pool (entries.Observe window a b) kind = absurd cc

-- an entry of the host has no place of a mark
pub host_knows : (pool : List ℕ) (s : ShortEntry) (P : ℕ → Type 0) → is_host (restored pool s) ≡ true
    → IfSome (last_mark s) P
host_knows pool (entries.Commit task buffer payload) P kind = tt
host_knows pool (entries.Withdraw task buffer of) P kind = tt
host_knows pool (entries.Read task buffer from) P kind = tt
host_knows pool (entries.Pop task from) P kind = tt
host_knows pool (entries.Fetch window a b) P kind = tt
host_knows pool (entries.Observe window a b) P kind = absurd cc

-- an entry of the controller marks that its window is open, or that none is
pub slot_marked : (pool : List ℕ) (s : ShortEntry) (before : List Entry) → is_host (restored pool s) ≡ false
    → window_mark before (restored pool s) ≡ Some (fetched_window s)
slot_marked pool (entries.Commit task buffer payload) before kind = absurd cc
slot_marked pool (entries.Withdraw task buffer of) before kind = absurd cc
slot_marked pool (entries.Read task buffer from) before kind = absurd cc
slot_marked pool (entries.Pop task from) before kind = absurd cc
slot_marked pool (entries.Fetch window a b) before kind = refl
slot_marked pool (entries.Observe window a b) before kind = refl

-- an entry with the place of a mark is no fetch
nothing_fetched : (s : ShortEntry) (mark : ℕ) → last_mark s ≡ Some mark → fetched_window s ≡ None
nothing_fetched (entries.Commit task buffer payload) mark is = refl
nothing_fetched (entries.Withdraw task buffer of) mark is = refl
nothing_fetched (entries.Read task buffer from) mark is = refl
nothing_fetched (entries.Pop task from) mark is = refl
nothing_fetched (entries.Fetch window a b) mark is = absurd cc
nothing_fetched (entries.Observe window a b) mark is = refl

-- ---- the open window after one more entry

open_passed : (xs : List Entry) (e : Entry) → window_mark xs e ≡ None → open_window (xs ++ e ∷ []) ≡ open_window xs
open_passed xs e says =
    open_window-snoc xs e
    ∙ ap (λ (m : Option (Option _)). option_and_then (λ w. w) (option_or m (last_after window_mark [] xs))) says

open_marked : (xs : List Entry) (e : Entry) (w : Option _) → window_mark xs e ≡ Some w
    → open_window (xs ++ e ∷ []) ≡ w
open_marked xs e w says =
    open_window-snoc xs e
    ∙ ap (λ (m : Option (Option _)). option_and_then (λ w. w) (option_or m (last_after window_mark [] xs))) says

-- ---- short entries, and one more

fetched-front : (shorts : List ShortEntry) (s : ShortEntry) (mark : ℕ) → mark < length shorts
    → fetched_at (shorts ++ s ∷ []) mark ≡ fetched_at shorts mark
fetched-front shorts s mark lt = ap (option_and_then fetched_window) (slice_get-front shorts (s ∷ []) mark lt)

fetched-last : (shorts : List ShortEntry) (s : ShortEntry)
    → fetched_at (shorts ++ s ∷ []) (length shorts) ≡ fetched_window s
fetched-last shorts s = ap (option_and_then fetched_window) (slice_get-next shorts s [])

-- one more entry that is no fetch changes no fetched window
fetched-same : (shorts : List ShortEntry) (s : ShortEntry) (mark : ℕ) → mark ≤ length shorts
    → fetched_window s ≡ None → fetched_at (shorts ++ s ∷ []) mark ≡ fetched_at shorts mark
fetched-same shorts s mark le none =
    elim (cases_lt mark (length shorts)) [
      | inl lt ↦ fetched-front shorts s mark lt
      | inr past ↦
          let here : mark ≡ length shorts = omega arith in
          ap (fetched_at (shorts ++ s ∷ [])) here ∙ fetched-last shorts s ∙ none
          ∙ sym (ap (option_and_then fetched_window) (slice_get_past shorts mark past))
    ]

module _ (shorts : List ShortEntry) (xs : List Entry) (s : ShortEntry) (e : Entry)
    (long : length xs ≡ length shorts) where
  -- with one more entry, the mark of an earlier place still has the window that is open there
  mark-front : (place mark : ℕ) → place < length shorts → TellsOpen shorts xs place mark
      → TellsOpen (shorts ++ s ∷ []) (xs ++ e ∷ []) place mark
  mark-front place mark lt is = record {
    before = is.before;
    opens = fetched-front shorts s mark (omega (arith, lt, is.before)) ∙ is.opens
        ∙ ap open_window (sym (take-append-le place xs (e ∷ []) (omega (arith, lt, long))));
  }

  -- with one more entry that is no fetch, the last mark of all still has the window that was open at the end
  mark-last : (mark : ℕ) → fetched_window s ≡ None → TellsOpen shorts xs (length shorts) mark
      → TellsOpen (shorts ++ s ∷ []) (xs ++ e ∷ []) (length shorts) mark
  mark-last mark none is = record {
    before = is.before;
    opens = fetched-same shorts s mark is.before none ∙ is.opens
        ∙ ap open_window (sym (take-append-le (length shorts) xs (e ∷ []) (omega (arith, long))));
  }

  abbrev KnowsLast : ShortEntry → Type 0
  KnowsLast y = IfSome (last_mark y) (TellsOpen (shorts ++ s ∷ []) (xs ++ e ∷ []) (length shorts))

  -- each observe still has its mark, with one more entry; a new observe has the last mark
  pub marked_more : (mark : ℕ) → IfSome (last_mark s) (λ m. m ≡ mark) → TellsOpen shorts xs (length shorts) mark
      → AreMarked shorts xs → AreMarked (shorts ++ s ∷ []) (xs ++ e ∷ [])
  marked_more mark told last marked place x is =
      elim (cases_lt place (length shorts)) [
        | inl lt ↦
            front place x lt (last_mark x) (marked place x (sym (slice_get-front shorts (s ∷ []) place lt) ∙ is))
        | inr past ↦
            at_end place x is past
      ]
    where
      front : (place : ℕ) (x : ShortEntry) → place < length shorts → (o : Option ℕ)
          → IfSome o (TellsOpen shorts xs place) → IfSome o (TellsOpen (shorts ++ s ∷ []) (xs ++ e ∷ []) place)
      front place x lt None known = tt
      front place x lt (Some m) known = mark-front place m lt known

      told_last : (o : Option ℕ) → last_mark s ≡ o → IfSome o (λ m. m ≡ mark)
          → IfSome o (TellsOpen (shorts ++ s ∷ []) (xs ++ e ∷ []) (length shorts))
      told_last None is same = tt
      told_last (Some m) is same =
          subst (TellsOpen (shorts ++ s ∷ []) (xs ++ e ∷ []) (length shorts)) (sym same)
          (mark-last mark (nothing_fetched s m is) last)

      at_end : (place : ℕ) (x : ShortEntry) → slice_get (shorts ++ s ∷ []) place ≡ Some x → length shorts ≤ place
          → IfSome (last_mark x) (TellsOpen (shorts ++ s ∷ []) (xs ++ e ∷ []) place)
      at_end place x is past =
          elim (cases_lt (length shorts) place) [
            | inl beyond ↦
                let many = length-append shorts (s ∷ []) in
                let none = slice_get_past (shorts ++ s ∷ []) place (omega (arith, beyond, many)) in
                absurd (let both : None ≡ Some x = sym none ∙ is in cc)
            | inr here ↦
                let there : length shorts ≡ place = omega (arith, here, past) in
                let both : Some s ≡ Some x =
                sym (slice_get-next shorts s []) ∙ ap (slice_get (shorts ++ s ∷ [])) there ∙ is in
                let same : s ≡ x = cc in
                subst (λ (n : ℕ). IfSome (last_mark x) (TellsOpen (shorts ++ s ∷ []) (xs ++ e ∷ []) n)) there
                (subst KnowsLast same (told_last (last_mark s) refl told))
          ]

  -- an entry of the host leaves the last mark of all as it was
  pub last_passed : (mark : ℕ) → fetched_window s ≡ None → window_mark xs e ≡ None
      → TellsOpen shorts xs (length shorts) mark
      → TellsOpen (shorts ++ s ∷ []) (xs ++ e ∷ []) (length (shorts ++ s ∷ [])) mark
  last_passed mark none says last =
      let many = length-append shorts (s ∷ []) in
      let old : take (length shorts) xs ≡ xs = take_all (length shorts) xs (omega (arith, long)) in
      let longer = length-append xs (e ∷ []) in
      let all : take (length (shorts ++ s ∷ [])) (xs ++ e ∷ []) ≡ xs ++ e ∷ [] =
      take_all (length (shorts ++ s ∷ [])) (xs ++ e ∷ []) (omega (arith, long, many, longer)) in
      record {
        before = omega (arith, last.before, many);
        opens = fetched-same shorts s mark last.before none ∙ last.opens ∙ ap open_window old
            ∙ sym (open_passed xs e says) ∙ ap open_window (sym all);
      }

  -- an entry of the controller is the new last mark
  pub last_is_new : window_mark xs e ≡ Some (fetched_window s)
      → TellsOpen (shorts ++ s ∷ []) (xs ++ e ∷ []) (length (shorts ++ s ∷ [])) (length shorts)
  last_is_new says =
      let many = length-append shorts (s ∷ []) in
      let longer = length-append xs (e ∷ []) in
      let all : take (length (shorts ++ s ∷ [])) (xs ++ e ∷ []) ≡ xs ++ e ∷ [] =
      take_all (length (shorts ++ s ∷ [])) (xs ++ e ∷ []) (omega (arith, long, many, longer)) in
      record {
        before = omega (arith, many);
        opens = fetched-last shorts s ∙ sym (open_marked xs e (fetched_window s) says) ∙ ap open_window (sym all);
      }

-- ---- the window that an observe closes

pub closes : (pool : List ℕ) (shorts : List ShortEntry) (xs before : List Entry) (place mark : ℕ) (s : ShortEntry)
    → before ≡ take place xs → last_mark s ≡ Some mark → TellsOpen shorts xs place mark
    → fetched_at shorts mark ≡ closed_window before (restored pool s)
closes pool shorts xs before place mark (entries.Commit task buffer payload) is knows last = absurd cc
closes pool shorts xs before place mark (entries.Withdraw task buffer of) is knows last = absurd cc
closes pool shorts xs before place mark (entries.Read task buffer from) is knows last = absurd cc
closes pool shorts xs before place mark (entries.Pop task from) is knows last = absurd cc
closes pool shorts xs before place mark (entries.Fetch window a b) is knows last = absurd cc
closes pool shorts xs before place mark (entries.Observe window a b) is knows last =
    last.opens ∙ ap open_window (sym is)

-- ---- no entries

pub none_marked : (shorts : List ShortEntry) (xs : List Entry) → shorts ≡ [] → AreMarked shorts xs
none_marked shorts xs none place s is =
    let nothing : slice_get shorts place ≡ None = ap (λ (l : List ShortEntry). slice_get l place) none in
    absurd (let both : None ≡ Some s = sym nothing ∙ is in cc)

pub last_of_none : (pool : List ℕ) (shorts : List ShortEntry) → shorts ≡ []
    → TellsOpen shorts (map (restored pool) shorts) (length shorts) 0
unfolding last_after
last_of_none pool shorts none = rw none (record { before = omega arith; opens = refl })
