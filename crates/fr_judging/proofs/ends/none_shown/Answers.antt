use Rattle.std.proofs.Common.{◌≡◌, arith}
use Rattle.fr_judging.proofs.FreshLemmas.{shown_from}
use Rattle.fr_judging.proofs.ends.none_shown.Goals as goal

pub returns-clause-value : goal.returns-clause-value
returns-clause-value c =
    let all : c.loop-place.place ≡ 2048 = omega arith in
    shown_from c.loop-place.shown.items c.loop-place.place c.loop-place.invariant all
