-- The starts and openings of slots are those of lanes, and no start comes after the longest rows.
use Rattle.fr_schedule.specs.Clusters.{IsCluster}
use Rattle.fr_schedule.specs.Descriptions.{Description}
use Rattle.fr_latency.specs.Exact.{IsTrueToLanes}
use Rattle.fr_latency.proofs.BoundLemmas.{begins_bounded}
use Rattle.fr_latency.proofs.LaneLemmas.{are_lanes}

pub true_to_lanes : (d : Description) → IsCluster d → IsTrueToLanes d
true_to_lanes d is = record { lanes = are_lanes d is; bounded = begins_bounded d is }
