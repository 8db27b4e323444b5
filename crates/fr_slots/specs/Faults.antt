-- The faults of a plan, and the properties of a plan without fault. Chapters 5 and 9; the limits, the order, and the
-- division of a static slot by cycles are project-defined.
use Rattle.std.specs.Prelude.{◌≡◌, ℕ, suc, zero, ◌+◌, ◌-◌, ◌<◌, ◌≤◌, ◌==◌, nat_lt, nat_le, not, Bool, true, false, ◌&&◌}
use Rattle.std.specs.Prelude.{◌||◌, List, [], ◌∷◌, Option, Some, None, is_some, unwrap_or, option_map, slice_get}
use Rattle.std.specs.Prelude.{position, if◌then◌else◌}
use Rattle.std.specs.Int.{div_ceil}
use Rattle.std.specs.List.{list_any, list_all}
use Rattle.std.specs.Option.{option_or}
use Rattle.fr_slots.specs.declared.channel.Channel.{Channel}
use Rattle.fr_slots.specs.declared.channel.Channel.TheVariants.{A, B}
use Rattle.fr_slots.specs.declared.filter.Filter.{Filter}
use Rattle.fr_slots.specs.declared.plan.Own.{Own}
use Rattle.fr_slots.specs.declared.plan.Buffer.{Buffer}
use Rattle.fr_slots.specs.declared.fault.PlanFault.{PlanFault}
use Rattle.fr_slots.specs.declared.fault.PlanFault.TheVariants.{OutOfParams, NotOwned, DynamicBoth, Overlap, TooLong}
use Rattle.fr_slots.specs.Admission.{CycleClass, cycle_admitted, is_every_cycle, includes}
use Rattle.fr_slots.specs.Numbers.{IsSlot, last_slot, cycle_count}
use Rattle.fr_slots.specs.Parameters.{Parameters, is_static_slot}
use Rattle.fr_slots.specs.Plans.{Plan, filter_admits, is_receive}

-- ---- the first of a list, and two of a list

-- so many numbers, from the least one up
unfoldable pub numbers_from : ℕ → ℕ → List ℕ
numbers_from least zero = []
numbers_from least (suc more) = least ∷ numbers_from (least + 1) more

module _ {X : Type 0} where
  -- the first thing that the function gives for an item of the list
  unfoldable pub first_of : {A : Type 0} → (X → Option A) → List X → Option A
  first_of f [] = None
  first_of f (x ∷ xs) = option_or (f x) (first_of f xs)

  -- an item and a later one pass the test
  unfoldable pub two_pass : (X → Bool) → List X → Bool
  two_pass test [] = false
  two_pass test (x ∷ xs) = test x && list_any test xs || two_pass test xs

-- every slot, every channel and every cycle, in order
abbrev pub slots : List ℕ
slots = numbers_from 1 last_slot

abbrev pub channels : List Channel
channels = A ∷ B ∷ []

abbrev pub cycles : List ℕ
cycles = numbers_from 0 cycle_count

-- ---- cycles that two filters have in common

-- the cycle, if both admit it
abbrev pub common_in : CycleClass → CycleClass → ℕ → Option ℕ
common_in c d cycle = if cycle_admitted c cycle && cycle_admitted d cycle then Some cycle else None

-- the least cycle that both admit
abbrev pub first_common : CycleClass → CycleClass → Option ℕ
first_common c d = first_of (common_in c d) cycles

-- ---- lines and buffers

-- the ownership line is for the slot on the channel in the cycle
abbrev pub claims : ℕ → Channel → ℕ → Own → Bool
claims slot channel cycle own = own.slot == slot && includes own.channels channel && cycle_admitted own.cycles cycle

-- the node owns the slot on the channel in the cycle
abbrev pub is_owned : List Own → ℕ → Channel → ℕ → Bool
is_owned owned slot channel cycle = list_any (claims slot channel cycle) owned

-- The ownership line is for the slot on the channel in all cycles. The code tests this first.
abbrev pub is_undivided : ℕ → Channel → Own → Bool
is_undivided slot channel own = own.slot == slot && includes own.channels channel && is_every_cycle own.cycles

abbrev pub is_owned_always : List Own → ℕ → Channel → Bool
is_owned_always owned slot channel = list_any (is_undivided slot channel) owned

abbrev pub transmits : Buffer → Bool
transmits b = not (is_receive b.mode)

-- the buffer is a transmit buffer and admits the slot on the channel in the cycle
abbrev pub sends_at : ℕ → Channel → ℕ → Buffer → Bool
sends_at slot channel cycle b = transmits b && filter_admits b.filter cycle slot channel

-- a transmit buffer in a static slot, and one in a dynamic slot
abbrev pub transmits_static : Parameters → Buffer → Bool
transmits_static p b = transmits b && is_static_slot p b.filter.slot

abbrev pub transmits_dynamic : Parameters → Buffer → Bool
transmits_dynamic p b = transmits b && not (is_static_slot p b.filter.slot)

-- the two-byte words that a transmit buffer sends: the cluster's if it is static, its own if it is dynamic
abbrev pub words_of : Parameters → Buffer → ℕ
words_of p b = if is_static_slot p b.filter.slot then p.static_words else unwrap_or b.words 0

-- pLatestTx: the last minislot at which the node begins a dynamic transmission on the channel, or 0
abbrev pub latest_on : Plan → Channel → ℕ
latest_on plan A = plan.latest_a
latest_on plan B = plan.latest_b

-- The minislots that a frame of so many words fills, without those that stay idle after it. Header and trailer are
-- eight bytes, so a frame has four words more than its payload.
abbrev pub minislots_filled : Parameters → ℕ → ℕ
minislots_filled p words = div_ceil (words + 4) p.words_per_minislot

-- ---- the faults, in the order in which they are tested

-- a transmit buffer in a static slot has words of its own, or one in a dynamic slot has none
abbrev pub has_wrong_words : Parameters → Buffer → Bool
has_wrong_words p b = transmits_static p b && is_some b.words || transmits_dynamic p b && not (is_some b.words)

abbrev pub is_owned_beyond : Parameters → Own → Bool
is_owned_beyond p own = not (is_static_slot p own.slot)

abbrev pub has_late_latest : Parameters → Plan → Bool
has_late_latest p plan = nat_lt p.minislots plan.latest_a || nat_lt p.minislots plan.latest_b

-- the plan doesn't fit the parameters
abbrev pub is_out_of_params : Parameters → Plan → Bool
is_out_of_params p plan = list_any (is_owned_beyond p) plan.owned || has_late_latest p plan
    || list_any (has_wrong_words p) plan.buffers

abbrev pub out_of_params : Parameters → Plan → Option PlanFault
out_of_params p plan = if is_out_of_params p plan then Some OutOfParams else None

-- the fault of the first buffer that passes the test
abbrev pub first_buffer : (ℕ → PlanFault) → (Buffer → Bool) → List Buffer → Option PlanFault
first_buffer fault test buffers = option_map fault (position test buffers)

-- the filter admits the cycle, and its slot isn't owned on the channel in that cycle
abbrev pub is_unowned_in : List Own → Filter → Channel → ℕ → Bool
is_unowned_in owned f channel cycle = cycle_admitted f.cycles cycle && not (is_owned owned f.slot channel cycle)

abbrev pub any_unowned : List Own → Filter → Channel → Bool
any_unowned owned f channel = list_any (is_unowned_in owned f channel) cycles

-- the buffer's slot isn't owned on a channel of the buffer, in a cycle that the buffer admits
abbrev pub is_unowned_on : List Own → Filter → Channel → Bool
is_unowned_on owned f channel = includes f.channels channel && any_unowned owned f channel

abbrev pub not_owned : Parameters → List Own → Buffer → Bool
not_owned p owned b = transmits_static p b && list_any (is_unowned_on owned b.filter) channels

-- a dynamic transmit buffer is for both channels
abbrev pub dynamic_both : Parameters → Buffer → Bool
dynamic_both p b = transmits_dynamic p b && list_all (includes b.filter.channels) channels

-- two ownership lines are for the slot on the channel in the cycle, or two transmit buffers admit it
abbrev pub is_overlap : List Own → List Buffer → ℕ → Channel → ℕ → Bool
is_overlap owned buffers slot channel cycle =
    two_pass (claims slot channel cycle) owned || two_pass (sends_at slot channel cycle) buffers

abbrev pub overlap_at : List Own → List Buffer → ℕ → Channel → ℕ → Option PlanFault
overlap_at owned buffers slot channel cycle =
    if is_overlap owned buffers slot channel cycle then Some (Overlap slot channel cycle) else None

abbrev pub overlap_on : List Own → List Buffer → ℕ → Channel → Option PlanFault
overlap_on owned buffers slot channel = first_of (overlap_at owned buffers slot channel) cycles

abbrev pub overlap_in : List Own → List Buffer → ℕ → Option PlanFault
overlap_in owned buffers slot = first_of (overlap_on owned buffers slot) channels

abbrev pub first_overlap : List Own → List Buffer → Option PlanFault
first_overlap owned buffers = first_of (overlap_in owned buffers) slots

-- a frame of so many words that begins at pLatestTx of the channel fills more minislots than there are
abbrev pub ends_late : Parameters → Plan → ℕ → Channel → Bool
ends_late p plan words channel =
    nat_le 1 (latest_on plan channel) && nat_lt p.minislots (latest_on plan channel - 1 + minislots_filled p words)

abbrev pub ends_late_on : Parameters → Plan → Buffer → Channel → Bool
ends_late_on p plan b channel = includes b.filter.channels channel && ends_late p plan (words_of p b) channel

abbrev pub too_long : Parameters → Plan → Buffer → Bool
too_long p plan b = transmits_dynamic p b && list_any (ends_late_on p plan b) channels

-- The first fault of the parameters and of buffers without owned slots, and the first fault of another kind.
unfoldable pub ownership_fault : Parameters → Plan → Option PlanFault
ownership_fault p plan = option_or (out_of_params p plan) (first_buffer NotOwned (not_owned p plan.owned) plan.buffers)

unfoldable pub buffer_fault : Parameters → Plan → Option PlanFault
buffer_fault p plan =
    option_or (first_buffer DynamicBoth (dynamic_both p) plan.buffers)
    (option_or (first_overlap plan.owned plan.buffers) (first_buffer TooLong (too_long p plan) plan.buffers))

-- The first fault of a plan: each kind over the whole plan before the next, and of a kind the first in order of its
-- numbers.
unfoldable pub plan_fault : Parameters → Plan → Option PlanFault
plan_fault p plan = option_or (ownership_fault p plan) (buffer_fault p plan)

-- ---- properties of a plan without fault, for the layers above

-- the buffer of this number is a transmit buffer that admits the slot on the channel in the cycle
pub record IsSender (plan : Plan) (slot : ℕ) (channel : Channel) (cycle : ℕ) (number : ℕ) (b : Buffer) : Type 0 where
  pub at : slice_get plan.buffers number ≡ Some b
  pub sends : sends_at slot channel cycle b ≡ true

-- at most one transmit buffer admits a slot on a channel in a cycle
abbrev pub HasOneSender : Plan → Type 0
HasOneSender plan = (slot : ℕ) (channel : Channel) (cycle m n : ℕ) (b c : Buffer) → cycle < cycle_count → IsSlot slot
    → IsSender plan slot channel cycle m b → IsSender plan slot channel cycle n c → m ≡ n

-- at most one ownership line is for a slot on a channel in a cycle
abbrev pub HasOneOwner : Plan → Type 0
HasOneOwner plan = (slot : ℕ) (channel : Channel) (cycle m n : ℕ) (o p : Own) → cycle < cycle_count → IsSlot slot
    → slice_get plan.owned m ≡ Some o → slice_get plan.owned n ≡ Some p → claims slot channel cycle o ≡ true
    → claims slot channel cycle p ≡ true → m ≡ n

-- a static transmit buffer has the cluster's words, and its slot is owned on each of its channels in each of its cycles
pub record FitsStatic (p : Parameters) (plan : Plan) (b : Buffer) : Type 0 where
  pub words_are : b.words ≡ None
  pub owned : (channel : Channel) (cycle : ℕ) → cycle < cycle_count → includes b.filter.channels channel ≡ true
      → cycle_admitted b.filter.cycles cycle ≡ true → is_owned plan.owned b.filter.slot channel cycle ≡ true

-- a dynamic transmit buffer has words of its own, is for one channel, and its frame ends within the dynamic segment
pub record FitsDynamic (p : Parameters) (plan : Plan) (b : Buffer) : Type 0 where
  pub words_are : is_some b.words ≡ true
  pub one_channel : list_all (includes b.filter.channels) channels ≡ false
  pub ends : (channel : Channel) → includes b.filter.channels channel ≡ true → 1 ≤ latest_on plan channel
      → latest_on plan channel - 1 + minislots_filled p (words_of p b) ≤ p.minislots

-- a plan without fault for these parameters
pub record IsFaultless (p : Parameters) (plan : Plan) : Type 0 where
  pub latest_fits : (channel : Channel) → latest_on plan channel ≤ p.minislots
  pub owned_are_static : (number : ℕ) (own : Own) → slice_get plan.owned number ≡ Some own → own.slot ≤ p.static_slots
  pub one_owner : HasOneOwner plan
  pub one_sender : HasOneSender plan
  pub static_fit : (number : ℕ) (b : Buffer) → slice_get plan.buffers number ≡ Some b → transmits_static p b ≡ true
      → FitsStatic p plan b
  pub dynamic_fit : (number : ℕ) (b : Buffer) → slice_get plan.buffers number ≡ Some b → transmits_dynamic p b ≡ true
      → FitsDynamic p plan b
