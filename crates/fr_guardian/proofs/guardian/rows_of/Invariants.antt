use Rattle.fr_schedule.specs.Descriptions.{is_guarded}
use Rattle.fr_guardian.proofs.PostLemmas.{AreFirstRows}
use Rattle.fr_guardian.proofs.guardian.rows_of.Given as goal

-- the rows of the cycles so far
abbrev pub invariant-loop-number : goal.invariant-loop-number
invariant-loop-number l =
    AreFirstRows l.cluster.params (is_guarded l.cluster.guard l.fn.channel) l.owned l.fn.channel l.number l.rows.items
