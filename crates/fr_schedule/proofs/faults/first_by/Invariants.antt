use Rattle.std.proofs.Common.{◌≡◌, drop}
use Rattle.fr_schedule.specs.FileFaults.{first_in_nodes, first_by}
use Rattle.fr_schedule.specs.RuleFaults.{fault_by}
use Rattle.fr_schedule.proofs.faults.first_by.Given as goal

-- the remaining nodes have the first fault of all
abbrev pub invariant-loop-number : goal.invariant-loop-number
invariant-loop-number l = first_in_nodes (fault_by l.rule l.params) l.number (drop l.number l.plans) ≡ first_by
    (fault_by l.rule l.params) l.plans
