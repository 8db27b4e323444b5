-- The claims of the nodes of a cluster, in the order of the code: one claim for each line.
use Rattle.std.specs.Prelude.{ℕ, ◌+◌, ◌≤◌, List, [], ◌∷◌, ◌++◌, map}
use Rattle.fr_slots.specs.declared.filter.Filter.{Filter}
use Rattle.fr_slots.specs.Numbers.{IsSlot, last_node}
use Rattle.fr_slots.specs.Plans.{Plan}
use Rattle.fr_slots.specs.Sharing.{own_filters, transmit_filters}
use Rattle.fr_schedule.specs.declared.claims.Claim.{Claim}
use Rattle.fr_schedule.specs.declared.claims.Lines.{Lines}
use Rattle.fr_schedule.specs.declared.claims.Lines.TheVariants.{Owned, Transmitting}

-- the numbers of a claim are in the ranges of their types
pub record IsClaim (claim : Claim) : Type 0 where
  pub slot_is : IsSlot claim.filter.slot
  pub node_is : claim.node ≤ last_node

abbrev pub filter_of : Claim → Filter
filter_of claim = claim.filter

abbrev pub filters_of : List Claim → List Filter
filters_of claims = map filter_of claims

-- the filters of these lines of a plan
abbrev pub filters_by : Lines → Plan → List Filter
filters_by Owned plan = own_filters plan.owned
filters_by Transmitting plan = transmit_filters plan.buffers

abbrev pub claim_of : ℕ → Filter → Claim
claim_of node f = record { filter = f; node = node }

-- the claims of nodes, which are numbered from this number up
abbrev pub claims_from : (Plan → List Filter) → ℕ → List Plan → List Claim
claims_from filters node [] = []
claims_from filters node (plan ∷ plans) = map (claim_of node) (filters plan) ++ claims_from filters (node + 1) plans
