-- One channel of a recording, and the frames that open its cycles.
use Rattle.std.specs.Prelude.{ℕ, ◌+◌, ◌-◌, ◌%◌, ◌==◌, nat_le, nat_lt, ◌&&◌, ◌||◌, not, Bool, true, false}
use Rattle.std.specs.Prelude.{Option, Some, None, if◌then◌else◌}
use Rattle.std.specs.Option.{is_some}
use Rattle.fr_frame.specs.Fields.{Fields}
use Rattle.fr_recording.specs.Numbers.{counted}
use Rattle.fr_slots.specs.Faults.{minislots_filled}
use Rattle.fr_slots.specs.Parameters.{Parameters}
use Rattle.fr_judging.specs.Tallies.{long_counted, span_between}
use Rattle.fr_judging.specs.declared.lane.Lane.{Lane}
use Rattle.fr_judging.specs.declared.lane.Next.{Next}
use Rattle.fr_judging.specs.declared.line.At.{At}

-- no record has come
abbrev pub fresh_lane : Lane
fresh_lane = record {
  frames = 0;
  cycles = 0;
  gaps = 0;
  lost = 0;
  span = None;
  heard = false;
  spoke = 0;
  alone = 0;
  left = false;
  number = 0;
  current = None;
  began = None;
  first = 0;
  last = 0;
  fixed = None;
  slot = 0;
  minislot = 0;
  held = None;
  ill = 0;
  ill_held = 0;
}

-- a disturbed record counts apart while a frame waits
abbrev pub disturbed : Lane → Lane
disturbed l =
    if is_some l.held then record l { ill_held = counted l.ill_held 1 } else record l { ill = counted l.ill 1 }

-- ---- cycle counts, modulo 64

abbrev pub ahead_of : ℕ → ℕ → ℕ
ahead_of from to = (to + 64 - from) % 64

-- one of the eight after it
abbrev pub is_near : ℕ → ℕ → Bool
is_near from to = nat_le 1 (ahead_of from to) && nat_le (ahead_of from to) 8

-- the one after it
abbrev pub is_next : ℕ → ℕ → Bool
is_next from to = ahead_of from to == 1

-- ---- frames that open a cycle

-- Let c be the count of the open cycle, x that of the frame, and y that of the next one. No cycle is open, or one is.
abbrev pub opens_by : Option ℕ → ℕ → ℕ → Bool
opens_by None x y = is_near x y
opens_by (Some c) x y =
    (is_next x y && not (y == c))
    || (is_near c x && not (y == c) && (not (is_next c y) || is_next c x) && not (y == x))

-- a later frame of the same cycle confirms it, too
abbrev pub opens_in : Option ℕ → Next → Next → Bool
opens_in c frame next =
    if next.cycle == frame.cycle && nat_lt frame.slot next.slot then true else opens_by c frame.cycle next.cycle

abbrev pub opens : Option ℕ → Next → Option Next → Bool
opens c frame None = true
opens c frame (Some next) = opens_in c frame next

-- the channels have the same cycle open
abbrev pub same_open : Option ℕ → Option ℕ → Bool
same_open None other = false
same_open (Some c) None = false
same_open (Some c) (Some other) = c == other

-- ---- a cycle is opened

-- the open cycle has no frame yet
abbrev pub begun : Parameters → Lane → Fields → At → Lane
begun p l f at = record l {
  cycles = counted l.cycles 1;
  current = Some f.cycle;
  began = at.time;
  first = f.id;
  last = 0;
  fixed = None;
  slot = p.static_slots + 1;
  minislot = 1;
}

-- so many cycles after the one before
abbrev pub passed : Lane → At → ℕ → Lane
passed l at past =
    if past == 1 then record l { span = span_between l.span l.began at.time; number = long_counted l.number past }
    else record l {
      gaps = counted l.gaps 1;
      lost = long_counted l.lost (past - 1);
      number = long_counted l.number past;
    }

-- ---- the dynamic segment

-- the minislot at which the frame's slot opens
abbrev pub opens_at : Lane → Fields → ℕ
opens_at l f = counted l.minislot (f.id - l.slot)

abbrev pub after_dynamic : Parameters → Lane → Fields → ℕ → Lane
after_dynamic p l f words = record l {
  slot = f.id + 1;
  minislot = counted (counted (opens_at l f) (minislots_filled p words)) p.idle;
}
