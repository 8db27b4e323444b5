-- The cycles in which a channel has an owner of a static slot.
use Rattle.std.proofs.Common.{◌≡◌, ℕ, suc, ◌+◌, ◌-◌, ◌<◌, ◌≤◌, Bool, true, false, cond, sym, ap, ◌∙◌, arith}
use Rattle.std.specs.Prelude.{Option, Some, None}
use Rattle.fr_schedule.specs.Descriptions.{Description}
use Rattle.fr_slots.specs.declared.channel.Channel.{Channel}
use Rattle.fr_judging.specs.Rules.{unclocked, is_clocked}

abbrev one_step : Description → Channel → ℕ → ℕ → Option ℕ
one_step d channel k more = cond (is_clocked d channel k) (unclocked d channel (k + 1) more) (Some k)

step_is : (d : Description) (channel : Channel) (k : ℕ) → k < 64
    → unclocked d channel k (64 - k) ≡ one_step d channel k (64 - (k + 1))
unfolding unclocked
step_is d channel k lt =
    let left : 64 - k ≡ suc (64 - (k + 1)) = omega arith in
    ap (unclocked d channel k) left

pub clocked_more : (d : Description) (channel : Channel) (k : ℕ) → k < 64 → is_clocked d channel k ≡ true
    → unclocked d channel (k + 1) (64 - (k + 1)) ≡ unclocked d channel k (64 - k)
clocked_more d channel k lt is = sym (step_is d channel k lt
    ∙ ap (λ (b : Bool). let r : Option ℕ = cond b (unclocked d channel (k + 1) (64 - (k + 1))) (Some k) in r) is)

pub clocked_found : (d : Description) (channel : Channel) (k : ℕ) → k < 64 → is_clocked d channel k ≡ false
    → Some k ≡ unclocked d channel k (64 - k)
clocked_found d channel k lt is = sym (step_is d channel k lt
    ∙ ap (λ (b : Bool). let r : Option ℕ = cond b (unclocked d channel (k + 1) (64 - (k + 1))) (Some k) in r) is)

pub clocked_none : (d : Description) (channel : Channel) (k : ℕ) → 64 ≤ k → None ≡ unclocked d channel k (64 - k)
unfolding unclocked
clocked_none d channel k le =
    let left : 64 - k ≡ 0 = omega arith in
    sym (ap (unclocked d channel k) left)
