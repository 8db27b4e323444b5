-- The counts before the first record.
use Rattle.std.proofs.Common.{◌≡◌, ℕ, List, replicate, ◌∙◌, ap}
use Rattle.fr_judging.specs.Judging.{no_counts, none_away, none_shown, none_found, not_shown}
use Rattle.fr_judging.specs.Tallies.{fresh_tally}
use Rattle.fr_judging.specs.declared.judge.Shown.{Shown}
use Rattle.fr_judging.specs.declared.tally.SlotTally.{SlotTally}

pub counts_from : (items : List SlotTally) (t : SlotTally) → items ≡ replicate 4096 t → t ≡ fresh_tally
    → items ≡ no_counts
unfolding no_counts
counts_from items t is t_is = is ∙ ap (λ (u : SlotTally). replicate 4096 u) t_is

pub away_from : (items : List ℕ) → items ≡ replicate 32768 0 → items ≡ none_away
unfolding none_away
away_from items is = is

pub found_from : (items : List ℕ) → items ≡ replicate 28 0 → items ≡ none_found
unfolding none_found
found_from items is = is

pub shown_from : (items : List Shown) (n : ℕ) → items ≡ replicate n not_shown → n ≡ 2048 → items ≡ none_shown
unfolding none_shown
shown_from items n is n_is = is ∙ ap (λ (m : ℕ). replicate m not_shown) n_is
