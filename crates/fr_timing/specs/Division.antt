-- Macroticks and places by multiplication and division, which lemmas show to be those of the layout.
use Rattle.std.specs.Prelude.{ℕ, ◌+◌, ◌-◌, ◌*◌, ◌/◌, ◌%◌, nat_lt, nat_le, ◌&&◌, Option, Some, None, if◌then◌else◌}
use Rattle.fr_slots.specs.Parameters.{Parameters}
use Rattle.fr_timing.specs.declared.place.Place.{Place}
use Rattle.fr_timing.specs.declared.place.Place.TheVariants.{Static, Minislot, Symbol, Idle}
use Rattle.fr_timing.specs.Segments.{dynamic_start, symbol_start, idle_start, cycle_end}

unfoldable pub place_at : Parameters → ℕ → Option Place
place_at p macrotick =
    if nat_lt macrotick (dynamic_start p) then Some (Static (macrotick / p.static_mt + 1) (macrotick % p.static_mt))
    else if nat_lt macrotick (symbol_start p)
    then
    Some
    (Minislot
    ((macrotick - dynamic_start p) / p.minislot_mt + 1)
    ((macrotick - dynamic_start p) % p.minislot_mt))
    else if nat_lt macrotick (idle_start p) then Some (Symbol (macrotick - symbol_start p))
    else if nat_lt macrotick (cycle_end p) then Some (Idle (macrotick - idle_start p))
    else None

-- a macrotick in a row of parts of one length, numbered from 1, the first of which starts at a given macrotick
abbrev pub start_in_row : ℕ → ℕ → ℕ → ℕ → ℕ → Option ℕ
start_in_row first count length number offset =
    if nat_le 1 number && nat_le number count && nat_lt offset length
    then Some (first + (number - 1) * length + offset)
    else None

unfoldable pub start_at : Parameters → Place → Option ℕ
start_at p (Static slot offset) = start_in_row 0 p.static_slots p.static_mt slot offset
start_at p (Minislot number offset) = start_in_row (dynamic_start p) p.minislots p.minislot_mt number offset
start_at p (Symbol offset) = start_in_row (symbol_start p) 1 p.symbol_mt 1 offset
start_at p (Idle offset) = start_in_row (idle_start p) 1 p.nit_mt 1 offset
