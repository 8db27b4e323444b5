use Rattle.std.proofs.Common.{refl, arith}
use Rattle.fr_journal.proofs.ShortLemmas.{first-counted}
use Rattle.fr_journal.proofs.journal.Journal.with_limits.Goals as goal

pub invariant_of-result : goal.invariant_of-result
invariant_of-result c =
    first-counted _ c.in_ok-shorts.ensures.items c.in_ok-pool.ensures.items refl refl refl
    c.requires.host_limit c.requires.slot_limit c.in_ok-shorts.ensures.capacity
    (omega (arith, c.in_ok-pool.ensures.capacity))
