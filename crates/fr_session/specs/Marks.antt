-- Marks of the windows that fault lines name, by which a line is compared with all others at once (project-defined).
use Rattle.std.specs.Prelude.{◌≡◌, ◌==◌, Bool, true, false, ◌&&◌, ◌||◌, List, Option, Some, None, if◌then◌else◌}
use Rattle.std.specs.HashSet.{HashSet, contains}
use Rattle.std.specs.List.{list_all, list_any}
use Rattle.fr_slots.specs.declared.channel.Channel.{Channel}
use Rattle.fr_slots.specs.declared.channel.Channel.TheVariants.{A, B}
use Rattle.fr_bus.specs.declared.fault.Fault.{Fault}
use Rattle.fr_bus.specs.declared.fault.Fault.TheVariants.{Babble, Mute, Corrupt}
use Rattle.fr_runs.specs.declared.cycles.RunCycles.{RunCycles}
use Rattle.fr_runs.specs.declared.cycles.RunCycles.TheVariants as cycles
use Rattle.fr_runs.specs.declared.fault_line.FaultPlace.{FaultPlace}
use Rattle.fr_runs.specs.declared.fault_line.FaultPlace.TheVariants.{EveryWindow, EverySlot, Slot, Slots}
use Rattle.fr_runs.specs.declared.fault_line.FaultPlace.TheVariants.{EveryMinislot, Minislot, Dynamic}
use Rattle.fr_runs.specs.declared.fault_line.FaultLine.{FaultLine}
use Rattle.fr_session.specs.declared.marks.Mark.{Mark}
use Rattle.fr_session.specs.declared.marks.Target.{Target}
use Rattle.fr_session.specs.declared.marks.Target.TheVariants as target
use Rattle.fr_session.specs.declared.marks.Reach.{Reach}
use Rattle.fr_session.specs.declared.marks.Reach.TheVariants as reach

-- ---- equality

abbrev pub is_same : Bool → Bool → Bool
is_same true true = true
is_same true false = false
is_same false true = false
is_same false false = true

abbrev pub target_eq : Target → Target → Bool
target_eq (target.Babble n b) (target.Babble m c) = n == m && is_same b c
target_eq (target.Babble n b) (target.Mute m c) = false
target_eq (target.Babble n b) (target.Corrupt c) = false
target_eq (target.Mute n b) (target.Babble m c) = false
target_eq (target.Mute n b) (target.Mute m c) = n == m && is_same b c
target_eq (target.Mute n b) (target.Corrupt c) = false
target_eq (target.Corrupt b) (target.Babble m c) = false
target_eq (target.Corrupt b) (target.Mute m c) = false
target_eq (target.Corrupt b) (target.Corrupt c) = is_same b c

abbrev pub reach_eq : Reach → Reach → Bool
reach_eq reach.Every reach.Every = true
reach_eq reach.Every (reach.Only n) = false
reach_eq reach.Every reach.Any = false
reach_eq (reach.Only n) reach.Every = false
reach_eq (reach.Only n) (reach.Only m) = n == m
reach_eq (reach.Only n) reach.Any = false
reach_eq reach.Any reach.Every = false
reach_eq reach.Any (reach.Only m) = false
reach_eq reach.Any reach.Any = true

abbrev pub mark_eq : Mark → Mark → Bool
mark_eq a b =
    target_eq a.target b.target
    && (is_same a.in_static b.in_static && (reach_eq a.cycles b.cycles && reach_eq a.places b.places))

-- ---- plain lines

abbrev pub are_plain_cycles : RunCycles → Bool
are_plain_cycles cycles.Every = true
are_plain_cycles (cycles.Only cycle) = true
are_plain_cycles (cycles.Span first last step) = false

abbrev pub is_plain_place : FaultPlace → Bool
is_plain_place EveryWindow = false
is_plain_place EverySlot = true
is_plain_place (Slot number) = true
is_plain_place (Slots first last) = false
is_plain_place EveryMinislot = true
is_plain_place (Minislot number) = true
is_plain_place (Dynamic number) = false

-- the line names one cycle or all, and one static slot, one minislot, or all of a segment
abbrev pub is_plain : FaultLine → Bool
is_plain line = are_plain_cycles line.cycles && is_plain_place line.place

-- ---- the mark of a plain line

abbrev pub is_b : Channel → Bool
is_b A = false
is_b B = true

abbrev pub target_of : Fault → Target
target_of (Babble node channel bytes) = target.Babble node (is_b channel)
target_of (Mute node channel) = target.Mute node (is_b channel)
target_of (Corrupt channel bit) = target.Corrupt (is_b channel)

abbrev pub cycles_of : RunCycles → Reach
cycles_of cycles.Every = reach.Every
cycles_of (cycles.Only cycle) = reach.Only cycle
cycles_of (cycles.Span first last step) = reach.Any

abbrev pub in_static : FaultPlace → Bool
in_static EverySlot = true
in_static (Slot number) = true
in_static other = false

abbrev pub places_of : FaultPlace → Reach
places_of EverySlot = reach.Every
places_of (Slot number) = reach.Only number
places_of EveryMinislot = reach.Every
places_of (Minislot number) = reach.Only number
places_of other = reach.Any

abbrev pub mark_of : FaultLine → Mark
mark_of line = record {
  target = target_of line.fault;
  in_static = in_static line.place;
  cycles = cycles_of line.cycles;
  places = places_of line.place;
}

abbrev pub plain_mark_of : FaultLine → Option Mark
plain_mark_of line = if is_plain line then Some (mark_of line) else None

abbrev pub at : Mark → Reach → Reach → Mark
at m cycles places = record { target = m.target; in_static = m.in_static; cycles = cycles; places = places }

-- ---- the marks that a line leaves, and those that find it

-- a place or cycle of a line is found by itself, and by `Any`
abbrev pub leaves_on : Reach → Reach → Bool
leaves_on named looked_up = reach_eq reach.Any looked_up || reach_eq named looked_up

abbrev pub leaves : Mark → Mark → Bool
leaves own m =
    target_eq own.target m.target
    && (is_same own.in_static m.in_static && (leaves_on own.cycles m.cycles && leaves_on own.places m.places))

-- the first of two keys: each line that has something in common leaves one of the two
abbrev pub first_by : Reach → Reach
first_by reach.Every = reach.Any
first_by (reach.Only number) = reach.Only number
first_by reach.Any = reach.Any

abbrev pub other_by : Reach → Reach
other_by reach.Every = reach.Any
other_by (reach.Only number) = reach.Every
other_by reach.Any = reach.Any

abbrev pub finds : (Mark → Bool) → Mark → Bool
finds has own =
    has (at own (first_by own.cycles) (first_by own.places)) || has (at own (first_by own.cycles) (other_by own.places))
    || has (at own (other_by own.cycles) (first_by own.places)) || has
    (at own (other_by own.cycles) (other_by own.places))

abbrev pub is_left_by : Mark → FaultLine → Bool
is_left_by m line = leaves (mark_of line) m

-- these lines are plain, and the marks of the set are exactly those that they leave
pub record AreMarksOf {S : Type 0} (lines : List FaultLine) (set : HashSet Mark S) : Type 0 where
  pub plain : list_all is_plain lines ≡ true
  pub each : (m : Mark) → contains mark_eq set m ≡ list_any (is_left_by m) lines

-- the set has one mark more
abbrev pub AddsMark : {S : Type 0} → HashSet Mark S → Mark → HashSet Mark S → Type 0
AddsMark old mark new = (m : Mark) → contains mark_eq new m ≡ (mark_eq mark m || contains mark_eq old m)

-- the set also has the marks of one more line, whose own mark this is
abbrev pub AddsMarks : {S : Type 0} → HashSet Mark S → Mark → HashSet Mark S → Type 0
AddsMarks old own new = (m : Mark) → contains mark_eq new m ≡ (leaves own m || contains mark_eq old m)
