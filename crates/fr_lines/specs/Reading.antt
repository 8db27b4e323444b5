-- The values that the words of a line spell, for the lines that are read.
use Rattle.std.specs.Prelude.{ℕ, ◌^◌, ℤ, pos, false, List, [], ◌∷◌, codes, Option, Some, None, option_map}
use Rattle.std.specs.Prelude.{if◌then◌else◌}
use Rattle.std.specs.Result.{result_ok}
use Rattle.std.specs.Str.{bytes_eq}
use Rattle.fr_journal.specs.Forms.{Entry}
use Rattle.fr_journal.specs.declared.entry.Entry.TheVariants.{Commit, Withdraw, Read, Pop, Fetch, Observe}
use Rattle.fr_journal.specs.declared.entry.Offered.{Offered}
use Rattle.fr_lines.specs.declared.plan_lines.PlanLine.{PlanLine}
use Rattle.fr_lines.specs.declared.plan_lines.PlanLine.TheVariants as plan_line
use Rattle.fr_lines.specs.declared.versions.Version.{Version}
use Rattle.fr_lines.specs.declared.versions.Version.TheVariants.{One, Two, Three}
use Rattle.fr_lines.specs.PartReading.{slot_in, channels_in, cycles_in, filter_in, flag_in, mode_in, size_in}
use Rattle.fr_lines.specs.PartReading.{payload_in, taken_back_in, from_in, offered_in, seen_in, window_in}
use Rattle.fr_lines.specs.Spelling.{first_line}
use Rattle.fr_lines.specs.Versions.{has_withdraws, has_own_cycles}
use Rattle.fr_slots.specs.Admission.{CycleClass}
use Rattle.fr_slots.specs.declared.plan.Buffer.{Buffer}
use Rattle.fr_slots.specs.declared.plan.Mode.TheVariants.{Receive}
use Rattle.fr_slots.specs.declared.plan.Own.{Own}
use Rattle.fr_slots.specs.declared.plan.Queue.{Queue}
use Rattle.fr_slots.specs.Plans.{Plan, plan_of, own_fits, queue_fits}
use Rattle.fr_slots.specs.Windows.{Opportunity}
use Rattle.fr_text.specs.Reading.{◌>>=◌, number_in}

-- ---- the version, which the first line names

unfoldable pub version_in : List ℕ → Option Version
version_in line = if bytes_eq line (first_line One) then Some One
    else if bytes_eq line (first_line Two) then Some Two
    else if bytes_eq line (first_line Three) then Some Three
    else None

-- ---- parameters: ten numbers below 2^32, without the ranges of their keys

unfoldable pub parameter_in : List ℕ → Option ℤ
parameter_in word = do
  n ← number_in (2 ^ 32) word
  Some (pos n)

abbrev pub Five : Type 0
Five = ℤ × ℤ × ℤ × ℤ × ℤ

-- five numbers, and the words after them
unfoldable pub five_in : List (List ℕ) → Option (Five × List (List ℕ))
five_in (a ∷ b ∷ c ∷ d ∷ e ∷ rest) = do
  v ← parameter_in a
  w ← parameter_in b
  x ← parameter_in c
  y ← parameter_in d
  z ← parameter_in e
  Some ((v, w, x, y, z), rest)
five_in words = None

-- the value, if no word is left
abbrev pub at_end : {A : Type 0} → A → List (List ℕ) → Option A
at_end value [] = Some value
at_end value (word ∷ words) = None

abbrev pub numbers_of : Five → Five → List ℤ
numbers_of a b = a.0 ∷ a.1 ∷ a.2 ∷ a.3 ∷ a.4 ∷ b.0 ∷ b.1 ∷ b.2 ∷ b.3 ∷ b.4 ∷ []

unfoldable pub ten_in : List (List ℕ) → Option (List ℤ)
ten_in words = do
  first ← five_in words
  last ← five_in first.1
  at_end (numbers_of first.0 last.0) last.1

unfoldable pub params_in : List (List ℕ) → Option (List ℤ)
params_in [] = None
params_in (kind ∷ words) = if bytes_eq kind (codes "params") then ten_in words else None

-- ---- the plan, with no lines yet

unfoldable pub limits_in : List (List ℕ) → Option Plan
limits_in (tasks ∷ latest_a ∷ latest_b ∷ host_entries ∷ slot_entries ∷ []) = do
  t ← number_in 9 tasks
  a ← number_in 8001 latest_a
  b ← number_in 8001 latest_b
  h ← number_in 16385 host_entries
  s ← number_in 65537 slot_entries
  result_ok (plan_of t a b h s)
limits_in words = None

unfoldable pub node_in : List (List ℕ) → Option Plan
node_in [] = None
node_in (kind ∷ words) = if bytes_eq kind (codes "node") then limits_in words else None

-- ---- ownership lines

-- the ownership line, if a plan can have it
abbrev pub fitting_own : Own → Option Own
fitting_own o = if own_fits o then Some o else None

abbrev pub every_cycle : CycleClass
every_cycle = record { base = 0; repetition = 1 }

-- a base and a repetition, and no word after them
unfoldable pub last_cycles_in : List (List ℕ) → Option CycleClass
last_cycles_in (base ∷ repetition ∷ []) = cycles_in base repetition
last_cycles_in words = None

-- the words after an ownership's flags: none in a version whose line is for every cycle
unfoldable pub own_cycles_in : Version → List (List ℕ) → Option CycleClass
own_cycles_in version words = if has_own_cycles version then last_cycles_in words else at_end every_cycle words

unfoldable pub ownership_in : Version → List (List ℕ) → Option Own
ownership_in version (slot ∷ channels ∷ sync ∷ startup ∷ rest) = do
  s ← slot_in slot
  c ← channels_in channels
  y ← flag_in sync
  t ← flag_in startup
  cycles ← own_cycles_in version rest
  fitting_own (record { slot = s; channels = c; cycles = cycles; sync = y; startup = t })
ownership_in version words = None

unfoldable pub own_in : Version → List (List ℕ) → Option Own
own_in version [] = None
own_in version (kind ∷ words) = if bytes_eq kind (codes "own") then ownership_in version words else None

-- ---- buffers

unfoldable pub transmit_in : List (List ℕ) → Option Buffer
transmit_in (mode ∷ slot ∷ channels ∷ base ∷ repetition ∷ size ∷ preamble ∷ []) = do
  m ← mode_in mode
  f ← filter_in slot channels base repetition
  w ← size_in size
  p ← flag_in preamble
  Some (record { mode = m; filter = f; words = w; preamble = p })
transmit_in words = None

unfoldable pub receive_in : List (List ℕ) → Option Buffer
receive_in (slot ∷ channels ∷ base ∷ repetition ∷ []) = do
  f ← filter_in slot channels base repetition
  Some (record { mode = Receive; filter = f; words = None; preamble = false })
receive_in words = None

-- a transmit buffer or a receive buffer
unfoldable pub buffer_in : List (List ℕ) → Option Buffer
buffer_in [] = None
buffer_in (kind ∷ words) =
    if bytes_eq kind (codes "tx") then transmit_in words
    else if bytes_eq kind (codes "rx") then receive_in words
    else None

-- ---- the receive FIFO

-- the receive FIFO, if a plan can have it
abbrev pub fitting_queue : Queue → Option Queue
fitting_queue q = if queue_fits q then Some q else None

unfoldable pub reception_in : List (List ℕ) → Option Queue
reception_in (capacity ∷ first ∷ last ∷ channels ∷ base ∷ repetition ∷ []) = do
  n ← number_in 257 capacity
  s ← slot_in first
  t ← slot_in last
  c ← channels_in channels
  y ← cycles_in base repetition
  fitting_queue (record { capacity = n; first = s; last = t; channels = c; cycles = y })
reception_in words = None

unfoldable pub queue_in : List (List ℕ) → Option Queue
queue_in [] = None
queue_in (kind ∷ words) = if bytes_eq kind (codes "queue") then reception_in words else None

-- ---- a line of the plan after its first: an ownership line, a buffer or the receive FIFO, by its first word

unfoldable pub plan_line_in : Version → List (List ℕ) → Option PlanLine
plan_line_in version [] = None
plan_line_in version (kind ∷ words) =
    if bytes_eq kind (codes "own") then option_map plan_line.Own (ownership_in version words)
    else if bytes_eq kind (codes "tx") then option_map plan_line.Buffer (transmit_in words)
    else if bytes_eq kind (codes "rx") then option_map plan_line.Buffer (receive_in words)
    else if bytes_eq kind (codes "queue") then option_map plan_line.Queue (reception_in words)
    else None

-- ---- entries

unfoldable pub commit_in : List (List ℕ) → Option Entry
commit_in (task ∷ buffer ∷ payload ∷ []) = do
  t ← number_in 8 task
  b ← number_in 64 buffer
  p ← payload_in payload
  Some (Commit t b p)
commit_in words = None

unfoldable pub told_withdraw_in : List (List ℕ) → Option Entry
told_withdraw_in (task ∷ buffer ∷ of ∷ []) = do
  t ← number_in 8 task
  b ← number_in 64 buffer
  commit ← taken_back_in of
  Some (Withdraw t b commit)
told_withdraw_in words = None

-- a withdraw, in a version that has such a line
unfoldable pub withdraw_in : Version → List (List ℕ) → Option Entry
withdraw_in version words = if has_withdraws version then told_withdraw_in words else None

unfoldable pub read_in : List (List ℕ) → Option Entry
read_in (task ∷ buffer ∷ from ∷ []) = do
  t ← number_in 8 task
  b ← number_in 64 buffer
  origin ← from_in from
  Some (Read t b origin)
read_in words = None

unfoldable pub pop_in : List (List ℕ) → Option Entry
pop_in (task ∷ from ∷ []) = do
  t ← number_in 8 task
  origin ← from_in from
  Some (Pop t origin)
pop_in words = None

-- a window, by the first five words
unfoldable pub window_first : List (List ℕ) → Option Opportunity
window_first (number ∷ cycle ∷ minislot ∷ slot_a ∷ slot_b ∷ words) = window_in number cycle minislot slot_a slot_b
window_first words = None

-- the offers on both channels, which are the last two words
unfoldable pub offers_in : List (List ℕ) → Option (Offered × Offered)
offers_in (offer_a ∷ offer_b ∷ []) = do
  a ← offered_in offer_a
  b ← offered_in offer_b
  Some (a, b)
offers_in words = None

unfoldable pub fetch_in : List (List ℕ) → Option Entry
fetch_in (number ∷ cycle ∷ minislot ∷ slot_a ∷ slot_b ∷ offer_a ∷ offer_b ∷ []) = do
  window ← window_in number cycle minislot slot_a slot_b
  a ← offered_in offer_a
  b ← offered_in offer_b
  Some (Fetch window a b)
fetch_in words = None

unfoldable pub observe_in : List (List ℕ) → Option Entry
observe_in (window ∷ seen_a ∷ seen_b ∷ []) = do
  w ← number_in (2 ^ 32) window
  a ← seen_in seen_a
  b ← seen_in seen_b
  Some (Observe w a b)
observe_in words = None

-- an entry, by its first word
unfoldable pub entry_in : Version → List (List ℕ) → Option Entry
entry_in version [] = None
entry_in version (kind ∷ words) =
    if bytes_eq kind (codes "commit") then commit_in words
    else if bytes_eq kind (codes "withdraw") then withdraw_in version words
    else if bytes_eq kind (codes "read") then read_in words
    else if bytes_eq kind (codes "pop") then pop_in words
    else if bytes_eq kind (codes "fetch") then fetch_in words
    else if bytes_eq kind (codes "see") then observe_in words
    else None
