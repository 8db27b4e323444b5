-- The properties of every cluster (the limits are project-defined).
use Rattle.std.specs.Prelude.{◌≡◌, ℕ, ◌≤◌, length, None}
use Rattle.fr_schedule.specs.Descriptions.{Description}
use Rattle.fr_schedule.specs.SenderTable.{HasOneSender}
use Rattle.fr_slots.specs.Faults.{plan_fault}
use Rattle.fr_slots.specs.Parameters.{Parameters, IsParameters}
use Rattle.fr_slots.specs.Plans.{Plan, IsPlan, Each}

abbrev pub most_nodes : ℕ
most_nodes = 16

abbrev pub IsNode : Parameters → Plan → Type 0
IsNode p plan = IsPlan plan × (plan_fault p plan ≡ None)

pub record IsCluster (d : Description) : Type 0 where
  pub params_are : IsParameters d.params
  pub some_nodes : 1 ≤ length d.plans
  pub few_nodes : length d.plans ≤ most_nodes
  pub nodes_are : Each (IsNode d.params) d.plans
  pub one_sender : HasOneSender d
