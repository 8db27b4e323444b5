-- What is said of each window, one window more.
use Rattle.std.proofs.Common.{◌≡◌, ℕ, zero, suc, ◌+◌, ◌-◌, ◌≤◌, ◌<◌, cond, List, [], ◌∷◌, ◌++◌, length, take}
use Rattle.std.proofs.Common.{get_or, Option, sym, ap, subst, ◌∙◌, arith}
use Rattle.std.specs.Io.KnownBytes.{Appends}
use Rattle.std.proofs.KnownBytes.{Appends-trans}
use Rattle.std.proofs.lemmas.List.Sums.{sum_by-append}
use Rattle.fr_bus.specs.Record.{Recorded}
use Rattle.fr_bus.specs.Windows.{begins_cycle, cycles_begun}
use Rattle.fr_runs.proofs.EffectLemmas.{passed}
use Rattle.fr_showing.specs.EachWindow.{each_window, said_after}
use Rattle.fr_slots.proofs.HistoryLemmas.{each_after-snoc}

begun_first : (r : Recorded) (rs : List Recorded) → cycles_begun (r ∷ rs) ≡ cond (begins_cycle r) 1 0 + cycles_begun rs
begun_first r rs = omega (arith, sum_by-append (λ (x : Recorded). cond (begins_cycle x) 1 0) (r ∷ []) rs)

-- of the first windows no more begin a cycle than of all
pub fewer : (rs : List Recorded) (n : ℕ) → cycles_begun (take n rs) ≤ cycles_begun rs
fewer rs zero = omega arith
fewer [] (suc n) = omega arith
fewer (r ∷ rs) (suc n) =
    let step : cycles_begun (r ∷ take n rs) ≤ cycles_begun (r ∷ rs) =
    omega (arith, fewer rs n, begun_first r (take n rs), begun_first r rs) in
    step

module _ (rs : List Recorded) (n : ℕ) (r : Recorded) (lt : n < length rs) (is : r ≡ get_or rs n r) where
  pub window_more : (said : ℕ → Recorded → List ℕ) (begun : ℕ) (old mid new : Option (List ℕ))
      → begun ≡ cycles_begun (take (n + 1) rs)
      → Appends old mid (each_window said (take n rs)) → Appends mid new (said (begun - 1) r)
      → Appends old new (each_window said (take (n + 1) rs))
  window_more said begun old mid new begun_is before more =
      let cycle : begun ≡ cycles_begun (take n rs ++ r ∷ []) = begun_is ∙ ap cycles_begun (passed rs n r lt is) in
      let text : said (begun - 1) r ≡ said_after said (take n rs) r = ap (λ (b : ℕ). said (b - 1) r) cycle in
      let all : each_window said (take (n + 1) rs) ≡ each_window said (take n rs) ++ said_after said (take n rs) r =
      ap (each_window said) (passed rs n r lt is) ∙ each_after-snoc (said_after said) (take n rs) r in
      subst (λ (t : List ℕ). Appends old new t) (sym all)
      (Appends-trans old mid new (each_window said (take n rs)) (said_after said (take n rs) r) before
      (subst (λ (t : List ℕ). Appends mid new t) text more))
