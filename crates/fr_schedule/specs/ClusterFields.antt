-- The fields of `Cluster` as its description.
use Rattle.fr_schedule.specs.declared.cluster.Cluster.TheInside.{Inside}
use Rattle.fr_schedule.specs.Clusters.{IsCluster}
use Rattle.fr_schedule.specs.DenseTable.{IsDenseTable}
use Rattle.fr_schedule.specs.Descriptions.{Description}

abbrev pub description_in : Inside → Description
description_in c = record { params = c.params; guard = c.guard; plans = c.plans.items }

pub record IsLawful (c : Inside) : Type 0 where
  pub cluster : IsCluster (description_in c)
  pub table : IsDenseTable (description_in c) c.senders.items
