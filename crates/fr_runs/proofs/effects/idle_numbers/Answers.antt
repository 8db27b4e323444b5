use Rattle.std.proofs.Common.{◌≡◌, ℕ, List, ◌∷◌, ◌++◌, true, false, rules, sym, ap, ◌∙◌}
use Rattle.std.proofs.lemmas.Slice.Zip.{Zip-more, either_empty_from_Zip}
use Rattle.std.specs.Iterator.Adapters.{zip_first, zip_second}
use Rattle.std.specs.Slice.Iter.{iter_rest}
use Rattle.fr_runs.specs.declared.fault_line.FaultLine.{FaultLine}
use Rattle.fr_runs.proofs.EffectLemmas.{line_idle, line_effective, no_line_left}
use Rattle.fr_runs.specs.Effects.{idle_numbers}
use Rattle.fr_runs.proofs.effects.idle_numbers.Goals as goal

pub loop-line-preserved-in-Continue-1 : goal.loop-line-preserved-in-Continue-1
loop-line-preserved-in-Continue-1 c =
    let rs = c.args.windows.now in
    let line = c.in-Some.line.now in
    let number : ℕ = c.in-Some.number.now in
    let idle = c.loop-line.idle.items in
    let before = c.loop-line.line-iterator in
    let after = c.next.new.self in
    let all = idle_numbers rs c.args.lines.now c.args.numbers.now in
    let more = Zip-more before after c.next.result (c.in-Some.line, c.in-Some.number) c.in-Some.is c.next.ensures.steps
    in
    let so_far : idle ++ idle_numbers rs (line ∷ iter_rest (zip_first after)) (number ∷ iter_rest (zip_second after))
    ≡ all =
    ap (λ (xs : List FaultLine). idle ++ idle_numbers rs xs (number ∷ iter_rest (zip_second after))) (sym more.0)
    ∙ ap (λ (xs : List ℕ). idle ++ idle_numbers rs (iter_rest (zip_first before)) xs) (sym more.1)
    ∙ c.loop-line.invariant in
    let missed : c.has_effect.result ≡ false = search rules in
    ap (λ (xs : List ℕ). xs ++ idle_numbers rs (iter_rest (zip_first after)) (iter_rest (zip_second after)))
    c.in_ok-push.ensures.items
    ∙ line_idle rs line (iter_rest (zip_first after)) number (iter_rest (zip_second after)) idle all so_far
    (sym c.has_effect.ensures ∙ missed)

pub loop-line-preserved : goal.loop-line-preserved
loop-line-preserved c =
    let rs = c.args.windows.now in
    let line = c.in-Some.line.now in
    let number : ℕ = c.in-Some.number.now in
    let idle = c.loop-line.idle.items in
    let before = c.loop-line.line-iterator in
    let after = c.next.new.self in
    let all = idle_numbers rs c.args.lines.now c.args.numbers.now in
    let more = Zip-more before after c.next.result (c.in-Some.line, c.in-Some.number) c.in-Some.is c.next.ensures.steps
    in
    let so_far : idle ++ idle_numbers rs (line ∷ iter_rest (zip_first after)) (number ∷ iter_rest (zip_second after))
    ≡ all =
    ap (λ (xs : List FaultLine). idle ++ idle_numbers rs xs (number ∷ iter_rest (zip_second after))) (sym more.0)
    ∙ ap (λ (xs : List ℕ). idle ++ idle_numbers rs (iter_rest (zip_first before)) xs) (sym more.1)
    ∙ c.loop-line.invariant in
    let struck : c.has_effect.result ≡ true = search rules in
    line_effective rs line (iter_rest (zip_first after)) number (iter_rest (zip_second after)) idle all so_far
    (sym c.has_effect.ensures ∙ struck)

pub returns : goal.returns
returns c =
    let before = c.loop-line.line-iterator in
    no_line_left c.args.windows.now (iter_rest (zip_first before))
    (iter_rest (zip_second before)) c.loop-line.idle.items
    (idle_numbers c.args.windows.now c.args.lines.now c.args.numbers.now)
    (either_empty_from_Zip before c.next.new.self c.next.result c.in-None.is c.next.ensures.steps) c.loop-line.invariant
