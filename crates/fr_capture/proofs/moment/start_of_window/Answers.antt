use Rattle.std.proofs.Common.{◌≡◌, ℕ, ◌<◌, Option, Some, ap, subst, ◌∙◌, arith}
use Rattle.std.specs.Prelude.{IfSome, unwrap_or}
use Rattle.fr_timing.specs.declared.place.Place.{Place}
use Rattle.fr_timing.specs.Layout.{IsAt}
use Rattle.fr_capture.specs.Moments.{place_of}
use Rattle.fr_capture.proofs.StartLemmas.{start_same, start_below}
use Rattle.fr_capture.proofs.moment.start_of_window.Goals as goal

pub returns-clause-value : goal.returns-clause-value
returns-clause-value c =
    let p = c.args.params.now in
    let x = place_of c.args.window.now in
    let answer = c.start_of.result in
    let found : IfSome answer (λ m. IsAt p m x) =
    subst (λ (y : Place). IfSome answer (λ m. IsAt p m y)) c.place_of.ensures c.start_of.ensures.found in
    let only : (m : ℕ) → IsAt p m x → answer ≡ Some m =
    subst (λ (y : Place). (m : ℕ) → IsAt p m y → answer ≡ Some m) c.place_of.ensures c.start_of.ensures.only in
    c.unwrap_or.ensures ∙ ap (λ (o : Option ℕ). unwrap_or o 0) (start_same p x answer found only)

pub returns-clause-layout : goal.returns-clause-layout
returns-clause-layout c m h =
    let x = place_of c.args.window.now in
    let answer = c.start_of.result in
    let only : (m : ℕ) → IsAt c.args.params.now m x → answer ≡ Some m =
    subst (λ (y : Place). (m : ℕ) → IsAt c.args.params.now m y → answer ≡ Some m) c.place_of.ensures
    c.start_of.ensures.only in
    c.unwrap_or.ensures ∙ ap (λ (o : Option ℕ). unwrap_or o 0) (only m h)

pub returns-clause-below : goal.returns-clause-below
returns-clause-below c =
    let p = c.args.params.now in
    let x = place_of c.args.window.now in
    let answer = c.start_of.result in
    let found : IfSome answer (λ m. IsAt p m x) =
    subst (λ (y : Place). IfSome answer (λ m. IsAt p m y)) c.place_of.ensures c.start_of.ensures.found in
    let lawful = c.start_of.ensures.lawful in
    let below : unwrap_or answer 0 < p.cycle_mt = start_below p lawful x answer found in
    omega (arith, below, c.unwrap_or.ensures, lawful.cycle_mt_fit.at_most)
