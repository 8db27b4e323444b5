use Rattle.std.proofs.Common.{◌≤◌, List, map, sym, ap, subst, ◌∙◌}
use Rattle.fr_schedule.specs.Clusters.{IsCluster}
use Rattle.fr_schedule.specs.Descriptions.{Description}
use Rattle.fr_schedule.specs.FileFaults.{all_owned}
use Rattle.fr_guardian.specs.Periods.{period}
use Rattle.fr_guardian.specs.declared.guardian.Post.{Post}
use Rattle.fr_guardian.proofs.PeriodLemmas.{period_some}
use Rattle.fr_guardian.proofs.PostLemmas.{plan_of, opens_again}
use Rattle.fr_guardian.proofs.guardian.Guardian.cycles.Goals as goal

pub returns-clause-value : goal.returns-clause-value
returns-clause-value c =
    c.cycles_of.ensures.value
    ∙ ap (λ (posts : List Post). period (all_owned (map plan_of posts))) c.as_slice.ensures.value
    ∙ ap (λ (d : Description). period (all_owned d.plans)) c.self.view_is

pub returns-clause-some : goal.returns-clause-some
returns-clause-some c = subst (λ n. 1 ≤ n) (sym (returns-clause-value c))
    (period_some (all_owned c.args.self.now.plans))

pub returns-clause-again : goal.returns-clause-again
returns-clause-again c node cycle macrotick channel =
    opens_again c.args.self.now (subst IsCluster c.self.view_is c.self.invariant.cluster) c.cycles_of.result
    (returns-clause-value c) node cycle macrotick channel
