-- Reading the table of a node and the tables in it (project-defined): `None` if one can't be read.
use Rattle.std.specs.Prelude.{ℕ, Bool, false, List, codes, Option, Some, None, option_map, if◌then◌else◌}
use Rattle.std.specs.Result.{result_ok}
use Rattle.fr_slots.specs.declared.filter.Filter.{Filter}
use Rattle.fr_slots.specs.declared.plan.Buffer.{Buffer}
use Rattle.fr_slots.specs.declared.plan.Mode.{Mode}
use Rattle.fr_slots.specs.declared.plan.Own.{Own}
use Rattle.fr_slots.specs.declared.plan.Queue.{Queue}
use Rattle.fr_slots.specs.Numbers.{last_slot, most_words, most_tasks, most_frames, most_host_entries, most_slot_entries}
use Rattle.fr_slots.specs.Parameters.{Parameters, is_static_slot}
use Rattle.fr_slots.specs.Plans.{Plan, plan_of, own_fits, with_queue, is_receive, queue_fits, buffer_fits}
use Rattle.fr_schedule.specs.TableReading.{◌>>=◌, or_default, number_at, number_or, flag_at, mode_in, channels_in}
use Rattle.fr_schedule.specs.TableReading.{cycles_in, tables_at, all_of}
use Rattle.toml.specs.Data.{Data, Members, get_member, as_table}

-- the value, if it passes the test
abbrev pub checked : {A : Type 0} → (A → Bool) → A → Option A
checked test value = if test value then Some value else None

-- ---- ownership lines

-- the slot is static, the cycles are all unless others are given, and only a sync frame is a startup frame
unfoldable pub own_in : Parameters → Members → Option Own
own_in p table = do
  slot ← number_at (codes "slot") 1 p.static_slots table
  channels ← channels_in table
  cycles ← cycles_in table
  sync ← flag_at (codes "sync") table
  startup ← flag_at (codes "startup") table
  checked own_fits (record { slot = slot; channels = channels; cycles = cycles; sync = sync; startup = startup })

unfoldable pub own_of : Parameters → Data → Option Own
own_of p value = do
  table ← as_table value
  own_in p table

-- ---- the receive FIFO

unfoldable pub queue_in : Members → Option Queue
queue_in table = do
  capacity ← number_at (codes "capacity") 1 most_frames table
  first ← number_at (codes "first") 1 last_slot table
  last ← number_at (codes "last") 1 last_slot table
  channels ← channels_in table
  cycles ← cycles_in table
  checked queue_fits (record { capacity = capacity; first = first; last = last; channels = channels; cycles = cycles })

unfoldable pub queue_of : Data → Option Queue
queue_of value = do
  table ← as_table value
  queue_in table

-- ---- buffers

unfoldable pub filter_in : Members → Option Filter
filter_in table = do
  slot ← number_at (codes "slot") 1 last_slot table
  channels ← channels_in table
  cycles ← cycles_in table
  Some (record { slot = slot; channels = channels; cycles = cycles })

-- the words of a transmit buffer: its own in a dynamic slot; in a static slot the key isn't read
unfoldable pub words_in : Parameters → ℕ → Members → Option (Option ℕ)
words_in p slot table =
    if is_static_slot p slot then Some None else do
      words ← number_at (codes "words") 0 most_words table
      Some (Some words)

unfoldable pub transmit_buffer_in : Parameters → Mode → Filter → Members → Option Buffer
transmit_buffer_in p mode filter table = do
  preamble ← flag_at (codes "preamble") table
  words ← words_in p filter.slot table
  checked buffer_fits (record { mode = mode; filter = filter; words = words; preamble = preamble })

-- for a receive buffer the keys of transmit buffers aren't read
unfoldable pub buffer_by : Parameters → Mode → Filter → Members → Option Buffer
buffer_by p mode filter table =
    if is_receive mode then Some (record { mode = mode; filter = filter; words = None; preamble = false })
    else transmit_buffer_in p mode filter table

unfoldable pub buffer_in : Parameters → Members → Option Buffer
buffer_in p table = do
  mode ← mode_in table
  filter ← filter_in table
  buffer_by p mode filter table

unfoldable pub buffer_of : Parameters → Data → Option Buffer
buffer_of p value = do
  table ← as_table value
  buffer_in p table

-- ---- a node, without its buffers

-- a plan with no lines yet
unfoldable pub limits_in : Parameters → Members → Option Plan
limits_in p table = do
  tasks ← number_or (codes "tasks") 0 most_tasks 1 table
  latest_a ← number_or (codes "latest_a") 0 p.minislots 0 table
  latest_b ← number_or (codes "latest_b") 0 p.minislots 0 table
  host_entries ← number_or (codes "host_entries") 1 most_host_entries 256 table
  slot_entries ← number_or (codes "slot_entries") 2 most_slot_entries 4096 table
  result_ok (plan_of tasks latest_a latest_b host_entries slot_entries)

abbrev pub owning : Plan → List Own → Plan
owning plan owned = record plan { owned = owned }

unfoldable pub with_owned_in : Parameters → Members → Plan → Option Plan
with_owned_in p table plan = do
  lines ← tables_at (codes "own") table
  option_map (owning plan) (all_of (own_of p) lines)

unfoldable pub with_queue_in : Members → Plan → Option Plan
with_queue_in table plan =
    or_default plan (λ value. option_map (with_queue plan) (queue_of value)) (get_member (codes "queue") table)

-- the plan in a node's table, without its buffers
unfoldable pub head_in : Parameters → Members → Option Plan
head_in p table = do
  limits ← limits_in p table
  plan ← with_owned_in p table limits
  with_queue_in table plan
