-- Numbers that have a least and a greatest value.
use Rattle.std.specs.Prelude.{ℕ, ◌+◌, ◌≤◌, nat_le, ◌&&◌, Option, Some, None, if◌then◌else◌}

-- the number, if it lies between these two
abbrev pub number_within : ℕ → ℕ → ℕ → Option ℕ
number_within least greatest n = if nat_le least n && nat_le n greatest then Some n else None

-- ---- limits

-- slots are numbered from 1 (chapter 5)
abbrev pub last_slot : ℕ
last_slot = 2047

-- static slots are the first ones, and every cluster has at most so many (chapter 5)
abbrev pub last_static_slot : ℕ
last_static_slot = 1023

-- minislots are numbered from 1 (project-defined)
abbrev pub last_minislot : ℕ
last_minislot = 8000

-- cycles are numbered from 0, and after the last one comes 0 again (chapter 5)
abbrev pub cycle_count : ℕ
cycle_count = 64

abbrev pub last_cycle : ℕ
last_cycle = 63

-- nodes of a cluster, and host tasks of a node, are numbered from 0 (project-defined)
abbrev pub last_node : ℕ
last_node = 15

abbrev pub last_task : ℕ
last_task = 7

-- the two-byte words of a payload (chapter 4)
abbrev pub most_words : ℕ
most_words = 127

-- the host tasks, the ownership lines or buffers, and the frames in the receive FIFO of a node (project-defined)
abbrev pub most_tasks : ℕ
most_tasks = 8

abbrev pub most_lines : ℕ
most_lines = 64

abbrev pub most_frames : ℕ
most_frames = 256

-- the entries of a journal (project-defined)
abbrev pub most_host_entries : ℕ
most_host_entries = 16384

abbrev pub most_slot_entries : ℕ
most_slot_entries = 65536

-- the greatest room that the numbers of entries allow
abbrev pub last_host_limit : ℕ
last_host_limit = 1073741824

abbrev pub last_slot_limit : ℕ
last_slot_limit = 3221225469

abbrev pub most_entries : ℕ
most_entries = most_host_entries + most_slot_entries

-- a slot is numbered from 1 up to the last one (chapter 5)
pub record IsSlot (n : ℕ) : Type 0 where
  pub from_one : 1 ≤ n
  pub at_most : n ≤ last_slot
