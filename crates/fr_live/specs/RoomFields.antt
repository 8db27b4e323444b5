-- The fields of `Room` as numbers of entries.
use Rattle.std.specs.Prelude.{◌≤◌}
use Rattle.fr_live.specs.declared.room.Room.TheInside.{Inside}
use Rattle.fr_live.specs.LiveWorlds.{Entries}
use Rattle.fr_slots.specs.Numbers.{last_host_limit, last_slot_limit}

abbrev pub entries_in : Inside → Entries
entries_in r = record { host = r.host; slot = r.slot }

-- the numbers of all entries fit in 32 bits
pub record Fits (r : Inside) : Type 0 where
  pub some_host : 1 ≤ r.host
  pub host_fits : r.host ≤ last_host_limit
  pub some_slot : 2 ≤ r.slot
  pub slot_fits : r.slot ≤ last_slot_limit
