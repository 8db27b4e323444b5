-- The progress of a run, as a bus keeps it, and the next window by it.
use Rattle.std.specs.Prelude.{◌≡◌, ℕ, ◌+◌, ◌-◌, ◌*◌, ◌^◌, ◌%◌, ◌<◌, ◌≤◌, ◌==◌, nat_lt, true, List, [], length, Option}
use Rattle.std.specs.Prelude.{Some}
use Rattle.std.specs.Prelude.{option_map, if◌then◌else◌}
use Rattle.std.specs.Option.{option_or}
use Rattle.fr_bus.specs.Windows.{has_row, cycles_begun, this_cycle, counts_on, statics_of, first_of_cycle}
use Rattle.fr_slots.specs.Windows.{opens_cycle}
use Rattle.fr_bus.specs.Windows.{least_of}
use Rattle.fr_bus.specs.Outcome.{longest}
use Rattle.fr_bus.specs.Record.{Recorded}
use Rattle.fr_minislot.specs.Lanes.{Standing, standing_after, opened_in, next_in, closed}
use Rattle.fr_minislot.specs.DynamicRows.{is_row}
use Rattle.fr_slots.specs.declared.channel.Channel.{Channel}
use Rattle.fr_slots.specs.declared.channel.Channel.TheVariants.{A, B}
use Rattle.fr_slots.specs.Parameters.{Parameters, IsParameters}
use Rattle.fr_slots.specs.Windows.{Opportunity, is_static, static_window}

-- the numbers of windows, of cycles that began, and of static windows in the last of these; the two lanes of that cycle
pub record Standpoint : Type 0 where
  pub params : Parameters
  pub cycles : ℕ
  pub windows : ℕ
  pub begun : ℕ
  pub statics : ℕ
  pub a : Standing
  pub b : Standing

-- ---- by the record

abbrev pub lane_on : Parameters → Channel → List Recorded → Standing
lane_on p channel done = standing_after p (counts_on channel done)

abbrev pub course_of : Parameters → ℕ → List Recorded → Standpoint
course_of p cycles rs = record {
  params = p;
  cycles = cycles;
  windows = length rs;
  begun = cycles_begun rs;
  statics = statics_of (this_cycle rs);
  a = lane_on p A (this_cycle rs);
  b = lane_on p B (this_cycle rs);
}

-- ---- with one more window

-- the first window of a cycle begins its lanes
abbrev pub first_passed : Standpoint → Standpoint
first_passed c = record c {
  windows = c.windows + 1;
  begun = c.begun + 1;
  statics = 1;
  a = standing_after c.params [];
  b = standing_after c.params [];
}

-- a dynamic window closes its slot on the channel, in which the longest transmission has so many bytes
abbrev pub ended : Channel → Standing → Opportunity → ℕ → Standing
ended channel lane w bytes = if has_row channel w then closed lane bytes else lane

abbrev pub later_passed : Standpoint → Opportunity → ℕ → ℕ → Standpoint
later_passed c w a b = record c {
  windows = c.windows + 1;
  statics = c.statics + (if is_static w then 1 else 0);
  a = ended A c.a w a;
  b = ended B c.b w b;
}

abbrev pub passed : Standpoint → Opportunity → ℕ → ℕ → Standpoint
passed c w a b = if opens_cycle w then first_passed c else later_passed c w a b

abbrev pub course_after : Standpoint → Recorded → Standpoint
course_after c r = passed c r.window (longest A r.sent) (longest B r.sent)

-- ---- the next window

abbrev pub first_next : Standpoint → Option Opportunity
first_next c = first_of_cycle c.cycles c.windows c.begun

abbrev pub cycle_of : Standpoint → ℕ
cycle_of c = (c.begun - 1) % 64

abbrev pub opening : Standpoint → ℕ → Opportunity
opening c minislot =
    record {
      number = c.windows;
      cycle = cycle_of c;
      minislot = minislot;
      a = opened_in c.a minislot;
      b = opened_in c.b minislot;
    }

abbrev pub dynamic_next : Standpoint → Option Opportunity
dynamic_next c = option_map (opening c) (least_of (next_in c.a) (next_in c.b))

abbrev pub inner_next : Standpoint → Option Opportunity
inner_next c = if nat_lt c.statics c.params.static_slots
    then Some (static_window c.windows (cycle_of c) (c.statics + 1)) else dynamic_next c

abbrev pub next_of : Standpoint → Option Opportunity
next_of c = if c.windows == 0 then first_next c else option_or (inner_next c) (first_next c)

-- ---- the properties of every course

-- the lane's next slot, if there is one, opens after this minislot
pub record IsAhead (p : Parameters) (used : ℕ) (lane : Standing) : Type 0 where
  pub params_are : lane.params ≡ p
  pub later : is_row lane.params lane.slot lane.begins ≡ true → used < lane.begins

abbrev pub opportunities : Parameters → ℕ
opportunities p = p.static_slots + p.minislots

-- No cycle has more windows than static slots and minislots. In the last cycle no minislot after `used` was opened.
pub record IsCourse (c : Standpoint) : Type 0 where
  pub used : ℕ
  pub lawful : IsParameters c.params
  pub ahead_a : IsAhead c.params used c.a
  pub ahead_b : IsAhead c.params used c.b
  pub few_windows : c.cycles * opportunities c.params < 2 ^ 32
  pub begun_fit : c.begun ≤ c.cycles
  pub statics_fit : c.statics ≤ c.params.static_slots
  pub used_fit : used ≤ c.params.minislots
  pub under_way : 1 ≤ c.windows → (1 ≤ c.begun) × (1 ≤ c.statics)
      × (c.windows + opportunities c.params ≤ c.begun * opportunities c.params + c.statics + used)
