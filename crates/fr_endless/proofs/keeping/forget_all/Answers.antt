use Rattle.std.proofs.Common.{◌<◌, ◌≤◌, ◌+◌, List, Option, ℕ, arith, length, set, subst, sym}
use Rattle.fr_endless.proofs.KeptLemmas.{AreForgotten, forgot_all, forgot_more, forgot_none}
use Rattle.fr_endless.proofs.keeping.forget_all.Goals as goal

pub loop-place-init : goal.loop-place-init
loop-place-init c = forgot_none c.args.texts.now.items

pub loop-place-preserved : goal.loop-place-preserved
loop-place-preserved c =
    let old : List (Option (List ℕ)) = c.args.texts.now.items in
    let mid : List (Option (List ℕ)) = c.loop-place.texts.items in
    let many = c.loop-place.invariant.many in
    let end = c.len-place-end.ensures in
    let test = c.loop-place-test.true in
    let within : c.loop-place.place < length mid = omega (arith, many, end, test) in
    subst (λ (x : Option (List ℕ)). AreForgotten old (set mid c.loop-place.place x) (c.loop-place.place + 1))
    (sym c.forget.ensures) (forgot_more old mid c.loop-place.place c.loop-place.invariant within)

pub returns : goal.returns
returns c =
    let old : List (Option (List ℕ)) = c.args.texts.now.items in
    let new : List (Option (List ℕ)) = c.loop-place.texts.items in
    let many = c.loop-place.invariant.many in
    let end = c.len-place-end.ensures in
    let test = c.loop-place-test.false in
    let past : length new ≤ c.loop-place.place = omega (arith, many, end, test) in
    forgot_all old new c.loop-place.place c.loop-place.invariant past
