use Rattle.std.proofs.Common.{◌≡◌, ℕ, ◌+◌, ◌≤◌, length, drop, option_map, arith, ap, sym, ◌∙◌, List, [], ◌∷◌}
use Rattle.fr_lines.specs.declared.forms.WordForm.TheVariants as form
use Rattle.fr_lines.specs.Forms.{wrong_at}
use Rattle.fr_lines.proofs.FormLemmas.{add_none, right_more, wrong_here, missing_here, one_more, all_right}
use Rattle.fr_lines.proofs.forms.wrong_at.Goals as goal

pub loop-place-init : goal.loop-place-init
loop-place-init c = add_none (wrong_at c.args.forms.now c.args.words.now)

pub returns-in_default-clause-place : goal.returns-in_default-clause-place
returns-in_default-clause-place c =
    sym (c.loop-place.invariant ∙ ap (λ (ws : List (List ℕ)). option_map (λ n. n + c.loop-place.place)
    (wrong_at (drop c.loop-place.place c.args.forms.now) ws)) c.in_default.ensures.end
    ∙ missing_here c.args.forms.now c.loop-place.place (form.Number 0) c.loop-place-test.true)

pub returns-then-not-fits-clause-place : goal.returns-then-not-fits-clause-place
returns-then-not-fits-clause-place c =
    sym (c.loop-place.invariant ∙ ap (λ (ws : List (List ℕ)). option_map (λ n. n + c.loop-place.place)
    (wrong_at (drop c.loop-place.place c.args.forms.now) ws)) c.in-Some.ensures.words
    ∙ wrong_here c.args.forms.now c.loop-place.place (form.Number 0) c.in-Some.word.now c.next_word.new.self
    c.fits.result c.loop-place-test.true (sym c.fits.ensures) c.if-not-fits.true)

pub loop-place-preserved : goal.loop-place-preserved
loop-place-preserved c =
    c.loop-place.invariant ∙ ap (λ (ws : List (List ℕ)). option_map (λ n. n + c.loop-place.place)
    (wrong_at (drop c.loop-place.place c.args.forms.now) ws)) c.in-Some.ensures.words
    ∙ right_more c.args.forms.now c.loop-place.place (form.Number 0) c.in-Some.word.now c.next_word.new.self
    c.fits.result c.loop-place-test.true (sym c.fits.ensures) c.if-not-fits.false

pub returns-in-Some-next_word-clause-place : goal.returns-in-Some-next_word-clause-place
returns-in-Some-next_word-clause-place c =
    let at : c.loop-place.place ≡ length c.args.forms.now =
    omega (arith, c.loop-place-test.false, c.loop-place.auto.place-end) in
    sym (c.loop-place.invariant ∙ ap (λ (ws : List (List ℕ)). option_map (λ n. n + c.loop-place.place)
    (wrong_at (drop c.loop-place.place c.args.forms.now) ws)) c.in-Some-next_word.ensures.words
    ∙ ap (λ (k : ℕ). option_map (λ n. n + k) (wrong_at (drop k c.args.forms.now)
    (c.in-Some-next_word.field-0.now ∷ c.next_word-2.new.self))) at
    ∙ one_more c.args.forms.now c.in-Some-next_word.field-0.now c.next_word-2.new.self)

pub returns-in-None-clause-place : goal.returns-in-None-clause-place
returns-in-None-clause-place c =
    let at : c.loop-place.place ≡ length c.args.forms.now =
    omega (arith, c.loop-place-test.false, c.loop-place.auto.place-end) in
    sym (c.loop-place.invariant ∙ ap (λ (ws : List (List ℕ)). option_map (λ n. n + c.loop-place.place)
    (wrong_at (drop c.loop-place.place c.args.forms.now) ws)) c.in-None.ensures.end
    ∙ ap (λ (k : ℕ). option_map (λ n. n + k) (wrong_at (drop k c.args.forms.now) [])) at
    ∙ all_right c.args.forms.now)
