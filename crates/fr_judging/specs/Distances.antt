-- Times in a recording: the distance of two cycles, and the place of a frame in its cycle.
use Rattle.std.specs.Prelude.{ℕ, ◌+◌, ◌-◌, ◌*◌, ◌/◌, ◌%◌, ◌==◌, nat_le, nat_lt, Bool, false}
use Rattle.std.specs.Prelude.{Option, Some, None, ℤ, pos, ◌+ℤ◌, ◌-ℤ◌, int_lt, int_le, unsigned_abs, if◌then◌else◌}
use Rattle.fr_frame.specs.Fields.{Fields}
use Rattle.fr_logged.specs.declared.finding.Finding.{Finding}
use Rattle.fr_logged.specs.declared.finding.Name.TheVariants.{Clock, Time}
use Rattle.fr_logged.specs.declared.finding.Word.TheVariants.{Number}
use Rattle.fr_judging.specs.Rules.{slot_time, cycle_time}
use Rattle.fr_judging.specs.declared.distance.Distance.{Distance}
use Rattle.fr_judging.specs.declared.lane.Fixed.{Fixed}
use Rattle.fr_judging.specs.declared.lane.Lane.{Lane}
use Rattle.fr_judging.specs.declared.rules.Rules.{Rules}

-- ---- the distance of two cycles

-- the cycles from one count to another, by the counts alone: 1 to 64
abbrev pub steps_of : ℕ → ℕ → ℕ
steps_of from to = (to + 63 - from) % 64 + 1

-- the time between two first frames, less the distance of their slots in the cycle
abbrev pub time_between : ℕ → ℕ → ℕ → ℤ → ℤ → ℤ
time_between slot_ns from_slot to_slot from to =
    ((to -ℤ from) +ℤ pos (from_slot * slot_ns)) -ℤ pos (to_slot * slot_ns)

-- how many times 64 cycles more than by the counts lie between; the later number if two are as near
abbrev pub rounds_by : ℕ → ℤ → ℕ
rounds_by cycle_ns later =
    if int_lt later (pos (32 * cycle_ns)) then 0
    else unsigned_abs (later +ℤ pos (32 * cycle_ns)) / (64 * cycle_ns)

abbrev pub rounds_of : ℕ → ℕ → ℤ → ℕ
rounds_of cycle_ns steps time = rounds_by cycle_ns (time -ℤ pos (steps * cycle_ns))

-- the time of so many cycles
abbrev pub due_time : ℕ → ℕ → ℕ → ℕ
due_time cycle_ns steps rounds = steps * cycle_ns + rounds * (64 * cycle_ns)

abbrev pub agrees : ℕ → ℤ → ℕ → Bool
agrees cycle_ns time due = nat_le (4 * unsigned_abs (time -ℤ pos due)) cycle_ns

-- By times, if they agree with the counts within a quarter of a cycle; otherwise by counts, with a finding.
abbrev pub distance_with : ℕ → ℕ → ℤ → ℕ → Distance
distance_with cycle_ns steps time rounds =
    if agrees cycle_ns time (due_time cycle_ns steps rounds) then record { past = steps + 64 * rounds; clock = None }
    else record {
      past = steps;
      clock = Some (record {
        name = Clock;
        expected = Number (pos (due_time cycle_ns steps rounds));
        found = Number time;
      });
    }

abbrev pub distance_by : ℕ → ℕ → ℤ → Distance
distance_by cycle_ns steps time = distance_with cycle_ns steps time (rounds_of cycle_ns steps time)

abbrev pub by_counts : ℕ → Distance
by_counts steps = record { past = steps; clock = None }

-- times count where both first frames are static and have a time
abbrev pub by_times : Rules → ℕ → ℕ → ℕ → Option ℤ → Option ℤ → Distance
by_times r steps from_slot to_slot (Some from) (Some to) =
    if r.macrotick == 0 then by_counts steps
    else if nat_lt r.cluster.params.static_slots from_slot then by_counts steps
    else if nat_lt r.cluster.params.static_slots to_slot then by_counts steps
    else distance_by (cycle_time r) steps (time_between (slot_time r) from_slot to_slot from to)
by_times r steps from_slot to_slot from to = by_counts steps

abbrev pub steps_from : Option ℕ → ℕ → ℕ
steps_from None to = 1
steps_from (Some from) to = steps_of from to

-- the distance from the open cycle to that of a frame which opens one
abbrev pub distance_to : Rules → Lane → Fields → Option ℤ → Distance
distance_to r l f time = by_times r (steps_from l.current f.cycle) l.first f.id l.began time

-- ---- a frame with the count of the open cycle

abbrev pub is_long : ℕ → ℤ → Bool
is_long cycle_ns time = int_le (pos (127 * cycle_ns)) (time +ℤ time)

abbrev pub anew_by : Rules → Option ℤ → Option ℤ → Bool
anew_by r (Some from) (Some to) = if r.macrotick == 0 then false else is_long (cycle_time r) (to -ℤ from)
anew_by r from to = false

-- the frame comes 63 cycles and a half or more after the first frame of the open cycle
abbrev pub is_anew : Rules → Lane → Option ℤ → Bool
is_anew r l time = anew_by r l.began time

-- ---- the time of a static frame in its cycle

abbrev pub time_off : ℕ → ℕ → ℤ → Option Finding
time_off slot_ns due time =
    if nat_lt slot_ns (2 * unsigned_abs (time -ℤ pos due)) then Some (record {
      name = Time;
      expected = Number (pos due);
      found = Number time;
    })
    else None

abbrev pub time_by : ℕ → Fixed → ℕ → ℤ → Option Finding
time_by slot_ns fixed slot time = time_off slot_ns ((slot - fixed.slot) * slot_ns) (time -ℤ fixed.time)

abbrev pub time_from : ℕ → Option Fixed → ℕ → Option ℤ → Option Finding
time_from slot_ns (Some fixed) slot (Some time) = time_by slot_ns fixed slot time
time_from slot_ns fixed slot time = None

-- off by more than half a static slot since the channel's last static frame of the cycle; other findings come first
abbrev pub time_finding : Rules → Lane → ℕ → Option ℤ → Option Finding → Option Finding
time_finding r l slot time (Some finding) = None
time_finding r l slot time None = if r.macrotick == 0 then None else time_from (slot_time r) l.fixed slot time

abbrev pub fixed_at : ℕ → Option ℤ → Option Fixed
fixed_at slot None = None
fixed_at slot (Some time) = Some (record { slot = slot; time = time })

-- a frame with a wrong time is no reference
abbrev pub fixed_after : Rules → Lane → ℕ → Option ℤ → Option Finding → Option Fixed
fixed_after r l slot time (Some finding) = l.fixed
fixed_after r l slot time None = if r.macrotick == 0 then l.fixed else fixed_at slot time
