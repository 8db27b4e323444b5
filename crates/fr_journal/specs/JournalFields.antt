-- The fields of `Journal` as `Kept`.
use Rattle.std.specs.Prelude.{◌≡◌, ℕ, ◌+◌, ◌*◌, ◌≤◌, length, map, count_by, vec_capacity}
use Rattle.std.specs.List.{All}
use Rattle.fr_frame.specs.Payload.{most_payload_bytes}
use Rattle.fr_journal.specs.declared.journal.Journal.TheInside.{Inside}
use Rattle.fr_journal.specs.Entries.{is_host, is_slot}
use Rattle.fr_journal.specs.Kept.{Kept}
use Rattle.fr_journal.specs.Marks.{AreMarked, TellsOpen}
use Rattle.fr_journal.specs.Shortened.{restored, IsShort, most_seen_bytes}
use Rattle.fr_slots.specs.Numbers.{most_host_entries, most_slot_entries}

abbrev pub kept_in : Inside → Kept
kept_in j = record {
  host_limit = j.host_limit;
  slot_limit = j.slot_limit;
  entries = map (restored j.pool.items) j.shorts.items;
}

-- the greatest number of bytes in so many entries of the host and of the controller
abbrev pub pool_room : ℕ → ℕ → ℕ
pool_room host slot = most_payload_bytes * host + most_seen_bytes * slot

-- The counts are those of the entries. The short entries have their bytes in the pool, and the room for both is
-- reserved. The last mark of each observe, and of all entries, has the window that is open there.
pub record IsCounted (j : Inside) : Type 0 where
  pub host_is : j.host_count ≡ count_by is_host (map (restored j.pool.items) j.shorts.items)
  pub slot_is : j.slot_count ≡ count_by is_slot (map (restored j.pool.items) j.shorts.items)
  pub host_within : j.host_count ≤ j.host_limit
  pub slot_within : j.slot_count ≤ j.slot_limit
  pub reserved : j.host_limit + j.slot_limit ≤ vec_capacity j.shorts
  pub few_host : j.host_limit ≤ most_host_entries
  pub few_slot : j.slot_limit ≤ most_slot_entries
  pub are_short : All (IsShort (length j.pool.items)) j.shorts.items
  pub pool_within : length j.pool.items ≤ pool_room j.host_count j.slot_count
  pub pool_reserved : pool_room j.host_limit j.slot_limit ≤ vec_capacity j.pool
  pub marked : AreMarked j.shorts.items (map (restored j.pool.items) j.shorts.items)
  pub last_marked : TellsOpen j.shorts.items (map (restored j.pool.items) j.shorts.items) (length j.shorts.items)
      j.last_mark
