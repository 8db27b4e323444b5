-- One more number, for the words on the numbers below a number.
use Rattle.std.proofs.Common.{◌≡◌, ℕ, zero, suc, ◌+◌, ◌-◌, ◌<◌, min, max, Bool, true, false, ◌&&◌, ◌||◌, refl, ap, ◌∙◌}
use Rattle.std.proofs.Common.{arith, add-one}
use Rattle.std.proofs.lemmas.Bool.{cond-true, cond-false}
use Rattle.std.specs.Prelude.{if◌then◌else◌}
use Rattle.fr_latency.specs.Below.{all_below, any_below, count_below, least_below, most_below, sum_below}
use Rattle.fr_latency.specs.Latencies.{first_from}

pub all_more : (test : ℕ → Bool) (n : ℕ) → all_below test (n + 1) ≡ (all_below test n && test n)
unfolding all_below
all_more test n = ap (all_below test) (add-one n)

pub any_more : (test : ℕ → Bool) (n : ℕ) → any_below test (n + 1) ≡ (any_below test n || test n)
unfolding any_below
any_more test n = ap (any_below test) (add-one n)

pub count_more : (test : ℕ → Bool) (n : ℕ) → count_below test (n + 1) ≡ count_below test n + (if test n then 1 else 0)
unfolding count_below
count_more test n = ap (count_below test) (add-one n)

pub most_more : (value : ℕ → ℕ) (n : ℕ) → most_below value (n + 1) ≡ max (most_below value n) (value n)
unfolding most_below
most_more value n = ap (most_below value) (add-one n)

pub first_here : (test : ℕ → Bool) (least more : ℕ) → 0 < more → test least ≡ true → first_from test least more ≡ least
unfolding first_from
first_here test least zero some passes = absurd (omega arith)
first_here test least (suc more) some passes =
    cond-true (test least) least (first_from test (least + 1) more) passes

pub first_later : (test : ℕ → Bool) (least more : ℕ) → 0 < more → test least ≡ false
    → first_from test least more ≡ first_from test (least + 1) (more - 1)
unfolding first_from
first_later test least zero some fails = absurd (omega arith)
first_later test least (suc more) some fails =
    let less : more ≡ suc more - 1 = omega arith in
    cond-false (test least) least (first_from test (least + 1) more) fails
    ∙ ap (first_from test (least + 1)) less

pub first_none : (test : ℕ → Bool) (least : ℕ) → first_from test least 0 ≡ least
unfolding first_from
first_none test least = refl

pub all_none : (test : ℕ → Bool) → all_below test 0 ≡ true
unfolding all_below
all_none test = refl

pub any_none_below : (test : ℕ → Bool) → any_below test 0 ≡ false
unfolding any_below
any_none_below test = refl

pub count_none : (test : ℕ → Bool) → count_below test 0 ≡ 0
unfolding count_below
count_none test = refl

pub most_none : (value : ℕ → ℕ) → most_below value 0 ≡ 0
unfolding most_below
most_none value = refl

pub least_more : (most : ℕ) (value : ℕ → ℕ) (n : ℕ)
    → least_below most value (n + 1) ≡ min (least_below most value n) (value n)
unfolding least_below
least_more most value n = ap (least_below most value) (add-one n)

pub least_none : (most : ℕ) (value : ℕ → ℕ) → least_below most value 0 ≡ most
unfolding least_below
least_none most value = refl

pub sum_more : (value : ℕ → ℕ) (n : ℕ) → sum_below value (n + 1) ≡ sum_below value n + value n
unfolding sum_below
sum_more value n = ap (sum_below value) (add-one n)

pub sum_none : (value : ℕ → ℕ) → sum_below value 0 ≡ 0
unfolding sum_below
sum_none value = refl
