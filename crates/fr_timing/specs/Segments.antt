-- The starts of a cycle's segments (chapter 5). The static segment starts at macrotick 0, then come the dynamic
-- segment, the symbol window and the network idle time, which ends with the cycle. All numbers are macroticks from its
-- start.
use Rattle.std.specs.Prelude.{ℕ, ◌+◌, ◌*◌}
use Rattle.fr_slots.specs.Parameters.{Parameters}

abbrev pub dynamic_start : Parameters → ℕ
dynamic_start p = p.static_slots * p.static_mt

abbrev pub symbol_start : Parameters → ℕ
symbol_start p = dynamic_start p + p.minislots * p.minislot_mt

abbrev pub idle_start : Parameters → ℕ
idle_start p = symbol_start p + p.symbol_mt

abbrev pub cycle_end : Parameters → ℕ
cycle_end p = idle_start p + p.nit_mt
