use Rattle.std.proofs.Common.{arith, sym, subst}
use Rattle.fr_core.proofs.SettledLemmas.{few_windows}
use Rattle.fr_core.specs.Settling.{IfThere, HasWindows}
use Rattle.fr_core.proofs.settle.count_windows.Goals as goal

pub overflow_cast-result : goal.overflow_cast-result
overflow_cast-result c =
    let few = few_windows c.args.recorded.now c.in-Some.interface.now
    (subst (λ o. IfThere o (HasWindows c.args.recorded.now)) (sym c.in-Some.ensures) c.requires.agree) in
    omega (arith, few, c.entries_of-entries.ensures.value, c.entries_of-entries.ensures.few)
