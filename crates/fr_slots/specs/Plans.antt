-- The contents of a node's plan.
use Rattle.std.specs.Prelude.{◌≡◌, ℕ, ◌≤◌, ◌==◌, nat_le, not, Bool, true, false, ◌&&◌, ◌||◌, List, [], ◌∷◌, ◌++◌}
use Rattle.std.specs.Prelude.{length, Option, Some, None, is_some, slice_get, Result, Ok, Err, if◌then◌else◌}
use Rattle.fr_slots.specs.declared.channel.Channel.{Channel}
use Rattle.fr_slots.specs.declared.filter.Filter.{Filter}
use Rattle.fr_slots.specs.declared.plan.Own.{Own}
use Rattle.fr_slots.specs.declared.plan.Mode.{Mode}
use Rattle.fr_slots.specs.declared.plan.Mode.TheVariants.{Event, State, Receive}
use Rattle.fr_slots.specs.declared.plan.Buffer.{Buffer}
use Rattle.fr_slots.specs.declared.plan.Queue.{Queue}
use Rattle.fr_slots.specs.declared.plan.PlanError.{PlanError}
use Rattle.fr_slots.specs.declared.plan.PlanError.TheVariants.{OutOfRange, TooMany}
use Rattle.fr_slots.specs.Admission.{includes, cycle_admitted, IsCycleClass}
use Rattle.fr_slots.specs.Numbers.{IsSlot, last_static_slot, last_minislot, most_words, most_tasks, most_lines}
use Rattle.fr_slots.specs.Numbers.{most_frames, most_host_entries, most_slot_entries, last_host_limit, last_slot_limit}
use Rattle.fr_slots.specs.Windows.{Opportunity, slot_of}

-- slot, channel and cycle are all the filter's
abbrev pub filter_admits : Filter → ℕ → ℕ → Channel → Bool
filter_admits f cycle slot channel = f.slot == slot && includes f.channels channel && cycle_admitted f.cycles cycle

-- the slot is in the range of the receive FIFO, and its channels and cycles have the channel and the cycle
abbrev pub queue_admits : Queue → ℕ → ℕ → Channel → Bool
queue_admits q cycle slot channel = nat_le q.first slot && nat_le slot q.last && includes q.channels channel
    && cycle_admitted q.cycles cycle

abbrev pub admits_slot : Filter → ℕ → Channel → Option ℕ → Bool
admits_slot f cycle channel None = false
admits_slot f cycle channel (Some slot) = filter_admits f cycle slot channel

-- the filter admits the slot that the window has on the channel
abbrev pub admits_window : Filter → Opportunity → Channel → Bool
admits_window f window channel = admits_slot f window.cycle channel (slot_of window channel)

-- the configuration of a node
pub record Plan : Type 0 where
  pub tasks : ℕ
  pub latest_a : ℕ
  pub latest_b : ℕ
  pub host_entries : ℕ
  pub slot_entries : ℕ
  pub owned : List Own
  pub buffers : List Buffer
  pub queue : Option Queue

-- the buffer of this number
abbrev pub buffer_at : Plan → ℕ → Option Buffer
buffer_at plan buffer = slice_get plan.buffers buffer

-- ---- limits

-- the slot may be a static one, and only a sync frame is a startup frame
abbrev pub own_fits : Own → Bool
own_fits o = nat_le o.slot last_static_slot && (not o.startup || o.sync)

abbrev pub words_fit : Option ℕ → Bool
words_fit None = true
words_fit (Some words) = nat_le words most_words

abbrev pub is_receive : Mode → Bool
is_receive Event = false
is_receive State = false
is_receive Receive = true

-- a receive buffer has no words and no payload preamble indicator of its own
abbrev pub buffer_fits : Buffer → Bool
buffer_fits b = words_fit b.words && (not (is_receive b.mode) || not (is_some b.words || b.preamble))

abbrev pub queue_fits : Queue → Bool
queue_fits q = nat_le 1 q.capacity && nat_le q.capacity most_frames && nat_le q.first q.last

-- ---- ranges

-- the numbers of a filter are in the ranges of their types
pub record IsFilter (f : Filter) : Type 0 where
  pub slot_is : IsSlot f.slot
  pub cycles_are : IsCycleClass f.cycles

abbrev pub IsBuffer : Buffer → Type 0
IsBuffer b = IsFilter b.filter

pub record IsOwn (o : Own) : Type 0 where
  pub slot_is : IsSlot o.slot
  pub cycles_are : IsCycleClass o.cycles

pub record IsQueue (q : Queue) : Type 0 where
  pub first_is : IsSlot q.first
  pub last_is : IsSlot q.last
  pub cycles_are : IsCycleClass q.cycles

abbrev pub Each : {X : Type 0} → (X → Type 0) → List X → Type 0
Each P [] = Unit {0}
Each P (x ∷ xs) = P x × Each P xs

abbrev pub IsQueueOrNone : Option Queue → Type 0
IsQueueOrNone None = Unit {0}
IsQueueOrNone (Some q) = IsQueue q

abbrev pub AllFit : {X : Type 0} → (X → Bool) → List X → Type 0
AllFit fits [] = Unit {0}
AllFit fits (x ∷ xs) = (fits x ≡ true) × AllFit fits xs

abbrev pub QueueFits : Option Queue → Type 0
QueueFits None = Unit {0}
QueueFits (Some q) = queue_fits q ≡ true

-- a plan with any room that the numbers of entries allow
pub record IsPlan (p : Plan) : Type 0 where
  pub few_tasks : p.tasks ≤ most_tasks
  pub latest_a_fits : p.latest_a ≤ last_minislot
  pub latest_b_fits : p.latest_b ≤ last_minislot
  pub some_host_entries : 1 ≤ p.host_entries
  pub host_entries_fit : p.host_entries ≤ last_host_limit
  pub some_slot_entries : 2 ≤ p.slot_entries
  pub slot_entries_fit : p.slot_entries ≤ last_slot_limit
  pub few_owned : length p.owned ≤ most_lines
  pub owned_fit : AllFit own_fits p.owned
  pub owned_are : Each IsOwn p.owned
  pub few_buffers : length p.buffers ≤ most_lines
  pub buffers_fit : AllFit buffer_fits p.buffers
  pub buffers_are : Each IsBuffer p.buffers
  pub queue_fits : QueueFits p.queue
  pub queue_is : IsQueueOrNone p.queue

-- the plan of a node, with room within the limits of its journal
pub record IsNodePlan (p : Plan) : Type 0 where
  pub plan_is : IsPlan p
  pub few_host_entries : p.host_entries ≤ most_host_entries
  pub few_slot_entries : p.slot_entries ≤ most_slot_entries

-- the plan with room for so many entries
abbrev pub with_limits : Plan → ℕ → ℕ → Plan
with_limits p host slot = record p { host_entries = host; slot_entries = slot }

-- ---- making a plan

abbrev pub limits_fit : ℕ → ℕ → ℕ → ℕ → ℕ → Bool
limits_fit tasks latest_a latest_b host slot =
    nat_le tasks most_tasks && nat_le latest_a last_minislot && nat_le latest_b last_minislot && nat_le 1 host
    && nat_le host most_host_entries && nat_le 2 slot && nat_le slot most_slot_entries

-- a plan with no lines yet
abbrev pub empty_plan : ℕ → ℕ → ℕ → ℕ → ℕ → Plan
empty_plan tasks latest_a latest_b host slot =
    record {
      tasks = tasks;
      latest_a = latest_a;
      latest_b = latest_b;
      host_entries = host;
      slot_entries = slot;
      owned = [];
      buffers = [];
      queue = None;
    }

abbrev pub plan_of : ℕ → ℕ → ℕ → ℕ → ℕ → Result Plan PlanError
plan_of tasks latest_a latest_b host slot =
    if limits_fit tasks latest_a latest_b host slot then Ok (empty_plan tasks latest_a latest_b host slot)
    else Err OutOfRange

abbrev pub own_refusal : Plan → Own → Option PlanError
own_refusal p o =
    if not (own_fits o) then Some OutOfRange
    else if nat_le most_lines (length p.owned) then Some TooMany
    else None

abbrev pub with_own : Plan → Own → Plan
with_own p o = record p { owned = p.owned ++ o ∷ [] }

abbrev pub buffer_refusal : Plan → Buffer → Option PlanError
buffer_refusal p b =
    if not (buffer_fits b) then Some OutOfRange
    else if nat_le most_lines (length p.buffers) then Some TooMany
    else None

abbrev pub with_buffer : Plan → Buffer → Plan
with_buffer p b = record p { buffers = p.buffers ++ b ∷ [] }

abbrev pub queue_refusal : Plan → Queue → Option PlanError
queue_refusal p q =
    if not (queue_fits q) then Some OutOfRange
    else if is_some p.queue then Some TooMany
    else None

abbrev pub with_queue : Plan → Queue → Plan
with_queue p q = record p { queue = Some q }
