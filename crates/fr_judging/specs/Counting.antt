-- The counts of a slot, as they change in their place, for private functions. No public contract cites it.
use Rattle.std.specs.Prelude.{◌-◌, min, Bool, false, Option, Some, None, ℤ, if◌then◌else◌}
use Rattle.fr_frame.specs.Fields.{Fields}
use Rattle.fr_judging.specs.Judging.{State, quiet}
use Rattle.fr_judging.specs.Tallies.{span_between}
use Rattle.fr_judging.specs.declared.tally.Came.{Came}
use Rattle.fr_judging.specs.declared.tally.SlotTally.{SlotTally}

-- the time of the frame that came last
abbrev pub time_of : Option Came → Option ℤ
time_of None = None
time_of (Some c) = c.time

-- that frame was of the due cycle before
abbrev pub follows : State → Fields → Option Came → Bool
follows s f None = false
follows s f (Some c) = quiet s f.id c.cycle (min (s.mine.number - c.number) 65 - 1)

abbrev pub timed : SlotTally → Bool → Came → SlotTally
timed t following c = record t {
  latest = Some c;
  span = if following then span_between t.span (time_of t.latest) c.time else t.span;
}
