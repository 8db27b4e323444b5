use Rattle.std.proofs.Common.{◌≡◌, ℕ, Bool, true, false, ◌+◌, ◌-◌, ◌≤◌, ◌||◌, cond, take, drop, length, refl, sym, ap}
use Rattle.std.proofs.Common.{◌∙◌, arith, rules}
use Rattle.fr_bus.specs.Windows.{begins_cycle, cycles_begun}
use Rattle.fr_runs.proofs.EffectLemmas.{begun_more, effect_by_next, effect_in_none}
use Rattle.fr_runs.specs.Effects.{has_effect_after, has_effect_in}
use Rattle.fr_runs.proofs.effects.has_effect.Goals as goal

pub loop-sealed-init : goal.loop-sealed-init
loop-sealed-init c = record { begun = refl; few = omega arith; left = refl }

digit : (b : Bool) → cond b 1 0 ≤ 1
digit true = omega arith
digit false = omega arith

pub loop-sealed-preserved : goal.loop-sealed-preserved
loop-sealed-preserved c =
    let rs = c.args.windows.now in
    let n : ℕ = c.loop-sealed.sealed-index in
    let r = c.sealed-item.result in
    let line = c.args.line.now in
    let more = begun_more rs n r c.loop-sealed-test.true c.sealed-item.is in
    let begun : c.begun_with-begun.result ≡ cycles_begun (take (n + 1) rs) =
    c.begun_with-begun.ensures ∙ ap (λ (b : ℕ). b + cond (begins_cycle r) 1 0) c.loop-sealed.invariant.begun
    ∙ sym more in
    let next = effect_by_next rs n r c.loop-sealed-test.true c.sealed-item.is line c.begun_with-begun.result begun in
    let missed : c.has_effect_in.result ≡ false = search rules in
    let here : has_effect_in line (c.begun_with-begun.result - 1) r ≡ false =
    ap (λ (k : ℕ). has_effect_in line k r) (sym c.saturating_sub.ensures) ∙ sym c.has_effect_in.ensures ∙ missed in
    record {
      begun = begun;
      few = omega (arith, c.begun_with-begun.ensures, c.loop-sealed.invariant.few, digit (begins_cycle r));
      left = sym (ap (λ (b : Bool). b || has_effect_after line (take (n + 1) rs) (drop (n + 1) rs)) here) ∙ sym next
          ∙ c.loop-sealed.invariant.left;
    }

pub returns-then-has_effect_in : goal.returns-then-has_effect_in
returns-then-has_effect_in c =
    let rs = c.args.windows.now in
    let n : ℕ = c.loop-sealed.sealed-index in
    let r = c.sealed-item.result in
    let line = c.args.line.now in
    let more = begun_more rs n r c.loop-sealed-test.true c.sealed-item.is in
    let begun : c.begun_with-begun.result ≡ cycles_begun (take (n + 1) rs) =
    c.begun_with-begun.ensures ∙ ap (λ (b : ℕ). b + cond (begins_cycle r) 1 0) c.loop-sealed.invariant.begun
    ∙ sym more in
    let next = effect_by_next rs n r c.loop-sealed-test.true c.sealed-item.is line c.begun_with-begun.result begun in
    let struck : c.has_effect_in.result ≡ true = search rules in
    let here : has_effect_in line (c.begun_with-begun.result - 1) r ≡ true =
    ap (λ (k : ℕ). has_effect_in line k r) (sym c.saturating_sub.ensures) ∙ sym c.has_effect_in.ensures ∙ struck in
    sym (ap (λ (b : Bool). b || has_effect_after line (take (n + 1) rs) (drop (n + 1) rs)) here) ∙ sym next
    ∙ c.loop-sealed.invariant.left

pub returns : goal.returns
returns c =
    let rs = c.args.windows.now in
    let n : ℕ = c.loop-sealed.sealed-index in
    let all : length rs ≤ n = omega (arith, c.loop-sealed-test.false) in
    sym (effect_in_none c.args.line.now rs n all) ∙ c.loop-sealed.invariant.left
