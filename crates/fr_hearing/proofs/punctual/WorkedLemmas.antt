-- Times worked out by hand: static slots of 50 macroticks, a cycle of 200, and a macrotick of a microsecond. A static
-- slot has 50,000 nanoseconds, and a quarter of it 12,500.
use Rattle.std.proofs.Common.{◌≡◌, pos, true, false, Some, None, refl}
use Rattle.fr_hearing.specs.Schedule.{slot_begins, even_timeline}
use Rattle.fr_hearing.specs.TimedRuns.{bounds_as}
use Rattle.fr_judging.specs.Distances.{time_off, agrees}
use Rattle.fr_logged.specs.declared.finding.Name.TheVariants.{Time}
use Rattle.fr_logged.specs.declared.finding.Word.TheVariants.{Number}
use Rattle.fr_slots.specs.Parameters.{Parameters}

abbrev small : Parameters
small = record {
  static_slots = 3;
  minislots = 4;
  static_words = 2;
  static_mt = 50;
  minislot_mt = 10;
  symbol_mt = 0;
  nit_mt = 10;
  cycle_mt = 200;
  idle = 1;
  words_per_minislot = 2;
}

-- slot 2 of cycle 3 of a run that starts at 7: three cycles of 200,000 and a slot
begins : slot_begins small (even_timeline small 1000 7 12500) 3 2 ≡ 650007
begins = refl

-- A record of a dynamic window may have any time of that cycle.
any_time : bounds_as small (even_timeline small 1000 7 12500) 3 750007 false
    ≡ record { earliest = 600007; latest = 800007 }
any_time = refl

-- Slot 1 is 12,500 early and slot 2 as late, which is half a slot together. A nanosecond more is too much.
within : time_off 50000 50000 (pos 75000) ≡ None
within = refl

too_late : time_off 50000 50000 (pos 75001)
    ≡ Some (record { name = Time; expected = Number (pos 50000); found = Number (pos 75001) })
too_late = refl

-- a quarter of a cycle more or less than a cycle, and a nanosecond beyond
long_cycle : agrees 200000 (pos 250000) 200000 ≡ true
long_cycle = refl

short_cycle : agrees 200000 (pos 150000) 200000 ≡ true
short_cycle = refl

too_short : agrees 200000 (pos 149999) 200000 ≡ false
too_short = refl
