-- The loops of a judge.
use Rattle.std.proofs.Common.{◌≡◌, ℕ, zero, suc, true, refl, ◌+◌, ◌-◌, ◌≤◌, ◌%◌, Bool, sym, ap, ◌∙◌, arith, Option}
use Rattle.std.specs.Prelude.{not, ◌&&◌}
use Rattle.fr_judging.specs.Judging.{State, skipped, skip_to, miss, quiet}
use Rattle.fr_judging.specs.Rules.{is_sent}
use Rattle.fr_judging.specs.declared.line.At.{At}

pub skip_none : (s : State) (at : Option At) (cycle from n : ℕ) → n ≡ 0 → s ≡ skipped s at cycle from n
unfolding skipped
skip_none s at cycle from n is = ap (skipped s at cycle from) (sym is)

-- no slot from one on lies before the other
pub skip_nothing : (s : State) (at : Option At) (cycle from end : ℕ) → end ≤ from → skip_to s at cycle from end ≡ s
unfolding skip_to
skip_nothing s at cycle from end le = sym (skip_none s at cycle from (end - from) (omega (arith, le)))

pub skip_more : (s t u : State) (at : Option At) (cycle from slot : ℕ) → from ≤ slot
    → t ≡ skipped s at cycle from (slot - from) → u ≡ miss t at cycle slot
    → u ≡ skipped s at cycle from (slot + 1 - from)
unfolding skipped
skip_more s t u at cycle from slot le so_far is =
    let one : slot + 1 - from ≡ suc (slot - from) = omega arith in
    let here : slot ≡ from + (slot - from) = omega arith in
    is ∙ ap (λ (v : State). miss v at cycle slot) so_far
    ∙ ap (λ (n : ℕ). miss (skipped s at cycle from (slot - from)) at cycle n) here
    ∙ ap (skipped s at cycle from) (sym one)

pub quiet_more : (s : State) (slot from k : ℕ) (so_far sent next : Bool) (cycle : ℕ) → so_far ≡ quiet s slot from k
    → sent ≡ is_sent s.rules slot s.channel cycle → cycle ≡ (from + suc k) % 64 → next ≡ (so_far && not sent)
    → next ≡ quiet s slot from (suc k)
unfolding quiet
quiet_more s slot from k so_far sent next cycle so_far_is sent_is cycle_is is =
    is
    ∙ ap (λ (b : Bool). b && not sent) so_far_is
    ∙ ap (λ (b : Bool). quiet s slot from k && not b) sent_is
    ∙ ap (λ (n : ℕ). quiet s slot from k && not (is_sent s.rules slot s.channel n)) cycle_is

-- between the open cycle and the one before lies none
pub quiet_none : (s : State) (slot from n : ℕ) → n ≤ 1 → true ≡ quiet s slot from (n - 1)
unfolding quiet
quiet_none s slot from zero few = refl
quiet_none s slot from (suc zero) few = refl
quiet_none s slot from (suc (suc n)) few = absurd (omega (arith, few))
