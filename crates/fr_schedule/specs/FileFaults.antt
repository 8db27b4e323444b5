-- The faults among the nodes of a cluster file whose tables have no fault by themselves. Chapters 5 and 9; the division
-- of a static slot on a channel by cycles, and the order of the faults, are project-defined.
use Rattle.std.specs.Prelude.{ℕ, ◌+◌, Bool, List, [], ◌∷◌, Option, Some, None, option_map, position, if◌then◌else◌}
use Rattle.std.specs.List.{flat_map}
use Rattle.std.specs.Option.{option_or}
use Rattle.fr_slots.specs.declared.channel.Channel.{Channel}
use Rattle.fr_slots.specs.declared.plan.Own.{Own}
use Rattle.fr_slots.specs.declared.plan.Buffer.{Buffer}
use Rattle.fr_slots.specs.Faults.{first_of, slots, channels, cycles, is_overlap, not_owned, dynamic_both, too_long}
use Rattle.fr_slots.specs.Parameters.{Parameters}
use Rattle.fr_slots.specs.Plans.{Plan}
use Rattle.fr_schedule.specs.declared.error.ConfigError.{ConfigError}
use Rattle.fr_schedule.specs.declared.error.ConfigError.TheVariants.{NotOwned, DynamicBoth, Overlap, TooLong}

-- the ownership lines, and the buffers, of all nodes
abbrev pub all_owned : List Plan → List Own
all_owned plans = flat_map (λ plan. plan.owned) plans

abbrev pub all_buffers : List Plan → List Buffer
all_buffers plans = flat_map (λ plan. plan.buffers) plans

-- ---- overlaps

-- two ownership lines are for the slot on the channel in the cycle, or two transmit buffers admit it, of one node or of
-- two
abbrev pub overlap_at : List Plan → ℕ → Channel → ℕ → Option ConfigError
overlap_at plans slot channel cycle =
    if is_overlap (all_owned plans) (all_buffers plans) slot channel cycle then Some (Overlap slot channel cycle)
    else None

abbrev pub overlap_on : List Plan → ℕ → Channel → Option ConfigError
overlap_on plans slot channel = first_of (overlap_at plans slot channel) cycles

abbrev pub overlap_in : List Plan → ℕ → Option ConfigError
overlap_in plans slot = first_of (overlap_on plans slot) channels

abbrev pub first_overlap : List Plan → Option ConfigError
first_overlap plans = first_of (overlap_in plans) slots

-- ---- buffers at fault by themselves

-- the first buffer of a node that passes the test
abbrev pub buffer_fault : (ℕ → ℕ → ConfigError) → (Plan → Buffer → Bool) → ℕ → Plan → Option ConfigError
buffer_fault fault test node plan = option_map (fault node) (position (test plan) plan.buffers)

-- the first fault of the nodes, which are numbered from this one up
unfoldable pub first_in_nodes : (ℕ → Plan → Option ConfigError) → ℕ → List Plan → Option ConfigError
first_in_nodes fault node [] = None
first_in_nodes fault node (plan ∷ plans) = option_or (fault node plan) (first_in_nodes fault (node + 1) plans)

abbrev pub first_by : (ℕ → Plan → Option ConfigError) → List Plan → Option ConfigError
first_by fault plans = first_in_nodes fault 0 plans

-- a static transmit buffer whose slot the node doesn't own on all the buffer's channels in all the buffer's cycles
abbrev pub not_owned_in : Parameters → ℕ → Plan → Option ConfigError
not_owned_in p = buffer_fault NotOwned (λ plan. not_owned p plan.owned)

-- a dynamic transmit buffer for both channels
abbrev pub dynamic_both_in : Parameters → ℕ → Plan → Option ConfigError
dynamic_both_in p = buffer_fault DynamicBoth (λ plan. dynamic_both p)

-- a dynamic transmit buffer whose frame, begun at pLatestTx, would end after the dynamic segment
abbrev pub too_long_in : Parameters → ℕ → Plan → Option ConfigError
too_long_in p = buffer_fault TooLong (too_long p)

-- ---- the first fault: each kind over all nodes before the next, and of a kind the first in the order of its numbers

unfoldable pub file_fault : Parameters → List Plan → Option ConfigError
file_fault p plans =
    option_or (first_by (not_owned_in p) plans) (option_or (first_by (dynamic_both_in p) plans)
    (option_or (first_overlap plans) (first_by (too_long_in p) plans)))
