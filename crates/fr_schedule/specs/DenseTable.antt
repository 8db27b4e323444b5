-- The sender table of the code: one number for each occasion, in the order of slots, then of channels, then of cycles.
-- It serves the code alone; `SenderTable` defines the senders.
use Rattle.std.specs.Prelude.{◌≡◌, ℕ, ◌+◌, ◌-◌, ◌*◌, ◌<◌, ◌≤◌, ◌==◌, ◌⊎◌, not, Bool, true, false, ◌&&◌, List, [], ◌∷◌}
use Rattle.std.specs.Prelude.{length, replicate, Option, Some, None, slice_index_or, if◌then◌else◌}
use Rattle.fr_slots.specs.declared.channel.Channel.{Channel}
use Rattle.fr_slots.specs.declared.filter.Filter.{Filter}
use Rattle.fr_slots.specs.Admission.{CycleClass, cycle_admitted, is_channel}
use Rattle.fr_slots.specs.Faults.{first_of, cycles}
use Rattle.fr_slots.specs.Numbers.{IsSlot, last_slot, cycle_count}
use Rattle.fr_slots.specs.Sharing.{place_of, admits_at}
use Rattle.fr_slots.specs.Plans.{Plan, Each}
use Rattle.fr_schedule.specs.declared.claims.Claim.{Claim}
use Rattle.fr_schedule.specs.declared.claims.Lines.TheVariants.{Owned, Transmitting}
use Rattle.fr_schedule.specs.Claims.{IsClaim, claims_from, filters_by}
use Rattle.fr_schedule.specs.Descriptions.{Description}
use Rattle.fr_schedule.specs.SenderTable.{IsSender}

-- the number of occasions
abbrev pub occasions : ℕ
occasions = last_slot * (2 * cycle_count)

-- the entry for no node
abbrev pub nobody : ℕ
nobody = 255

-- ---- rows: the cycles of a slot on a channel

-- the entry at a place
abbrev pub at_place : List ℕ → ℕ → ℕ
at_place nodes place = slice_index_or nodes place nobody

-- a node is entered at the cycle of the row that starts there, and the cycle is one of these
abbrev pub is_taken_in : List ℕ → ℕ → CycleClass → ℕ → Bool
is_taken_in nodes start c cycle = cycle_admitted c cycle && not (at_place nodes (start + cycle) == nobody)

abbrev pub taken_in : List ℕ → ℕ → CycleClass → ℕ → Option ℕ
taken_in nodes start c cycle = if is_taken_in nodes start c cycle then Some cycle else None

-- the first of these cycles with a node
abbrev pub first_taken_in : List ℕ → ℕ → CycleClass → Option ℕ
first_taken_in nodes start c = first_of (taken_in nodes start c) cycles

-- no node is entered in the row
abbrev pub IsRowFree : ℕ → List ℕ → Type 0
IsRowFree start nodes = (cycle : ℕ) → cycle < cycle_count → at_place nodes (start + cycle) ≡ nobody

-- the node is entered at every cycle of the row, and everything else is unchanged
pub record IsRowFilled (start node : ℕ) (old new : List ℕ) : Type 0 where
  pub size : length new ≡ length old
  pub within : (cycle : ℕ) → cycle < cycle_count → at_place new (start + cycle) ≡ node
  pub outside : (place : ℕ) → (place < start) ⊎ (start + cycle_count ≤ place) → at_place new place ≡ at_place old place

-- up to a cycle of the row the node is entered at these cycles, and everything else is unchanged
pub record IsRowEntered (upto start : ℕ) (c : CycleClass) (node : ℕ) (old new : List ℕ) : Type 0 where
  pub size : length new ≡ length old
  pub within : (cycle : ℕ) → cycle < upto
      → at_place new (start + cycle) ≡ (if cycle_admitted c cycle then node else at_place old (start + cycle))
  pub outside : (place : ℕ) → (place < start) ⊎ (start + upto ≤ place) → at_place new place ≡ at_place old place

-- ---- the whole table

-- the entry at the occasion; the first slot is 1
abbrev pub node_at : List ℕ → ℕ → Channel → ℕ → ℕ
node_at nodes slot channel cycle = at_place nodes (place_of slot channel cycle - 2 * cycle_count)

abbrev pub is_taken : List ℕ → ℕ → Channel → ℕ → Bool
is_taken nodes slot channel cycle = not (node_at nodes slot channel cycle == nobody)

abbrev pub IsFree : List ℕ → Type 0
IsFree nodes =
    (slot : ℕ) (channel : Channel) (cycle : ℕ) → cycle < cycle_count → IsSlot slot
    → is_taken nodes slot channel cycle ≡ false

-- an occasion of the filter, on this channel or on both, that is occupied
abbrev pub is_retaken_on : List ℕ → Filter → Channel → ℕ → Channel → ℕ → Bool
is_retaken_on nodes f on slot channel cycle =
    is_channel on channel && (is_taken nodes slot channel cycle && admits_at slot channel cycle f)

abbrev pub is_retaken : List ℕ → Filter → ℕ → Channel → ℕ → Bool
is_retaken nodes f slot channel cycle = is_taken nodes slot channel cycle && admits_at slot channel cycle f

-- the filter admits the occasion, and its channel is this one
abbrev pub is_admitted_on : Filter → Channel → ℕ → Channel → ℕ → Bool
is_admitted_on f on slot channel cycle = is_channel on channel && admits_at slot channel cycle f

-- the node is entered at the occasions that pass the test, and everything else is unchanged
pub record IsEntered (test : ℕ → Channel → ℕ → Bool) (node : ℕ) (old new : List ℕ) : Type 0 where
  pub size : length new ≡ length old
  pub each : (slot : ℕ) (channel : Channel) (cycle : ℕ) → cycle < cycle_count → IsSlot slot
      → node_at new slot channel cycle ≡ (if test slot channel cycle then node else node_at old slot channel cycle)

-- ---- claims

-- the entry at the occasion after the claims were entered one by one
abbrev pub after_claims : List Claim → ℕ → ℕ → Channel → ℕ → ℕ
after_claims [] before slot channel cycle = before
after_claims (claim ∷ claims) before slot channel cycle =
    after_claims claims (if admits_at slot channel cycle claim.filter then claim.node else before) slot channel cycle

pub record AreEntered (claims : List Claim) (old new : List ℕ) : Type 0 where
  pub size : length new ≡ length old
  pub each : (slot : ℕ) (channel : Channel) (cycle : ℕ) → cycle < cycle_count → IsSlot slot
      → node_at new slot channel cycle ≡ after_claims claims (node_at old slot channel cycle) slot channel cycle

-- the table without a sender
unfoldable pub free : List ℕ
free = replicate occasions nobody

-- ---- the sender table of a cluster

-- the claims of the transmit buffers were entered into a free table, and then the ownership lines
pub record HasClaims (plans : List Plan) (nodes : List ℕ) : Type 0 where
  pub sending : List ℕ
  pub buffers_are : AreEntered (claims_from (filters_by Transmitting) 0 plans) free sending
  pub sending_lawful : Each IsClaim (claims_from (filters_by Transmitting) 0 plans)
  pub owned_are : AreEntered (claims_from (filters_by Owned) 0 plans) sending nodes
  pub owned_lawful : Each IsClaim (claims_from (filters_by Owned) 0 plans)

pub record IsDenseTable (d : Description) (nodes : List ℕ) : Type 0 where
  pub size : length nodes ≡ occasions
  pub senders : (slot : ℕ) (channel : Channel) (cycle : ℕ) → cycle < cycle_count → IsSlot slot
      → is_taken nodes slot channel cycle ≡ true
      → IsSender d cycle slot channel (node_at nodes slot channel cycle)
  pub all : (slot : ℕ) (channel : Channel) (cycle node : ℕ) → cycle < cycle_count → IsSlot slot
      → IsSender d cycle slot channel node
      → is_taken nodes slot channel cycle ≡ true
