-- The view of a receive FIFO, and its state after each call.
use Rattle.std.specs.Prelude.{ℕ, ◌+◌, nat_lt, List, [], ◌∷◌, ◌++◌, length, drop, if◌then◌else◌}
use Rattle.circular_buffer.specs.Buffer.{keep_last}
use Rattle.fr_journal.specs.declared.entry.Arrival.{Arrival}

-- the capacity, the held frames, the oldest first, and the number of lost frames
pub record Waiting : Type 0 where
  pub capacity : ℕ
  pub frames : List Arrival
  pub lost : ℕ

-- one more frame; a full receive FIFO loses its oldest
abbrev pub with_frame : Waiting → Arrival → Waiting
with_frame q a = record {
  capacity = q.capacity;
  frames = keep_last q.capacity (q.frames ++ a ∷ []);
  lost = if nat_lt (length q.frames) q.capacity then q.lost else q.lost + 1;
}

abbrev pub without_oldest : Waiting → Waiting
without_oldest q = record { capacity = q.capacity; frames = drop 1 q.frames; lost = q.lost }
