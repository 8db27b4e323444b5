-- The private fields of a course, as a state.
use Rattle.std.specs.Prelude.{◌≤◌, vec_capacity}
use Rattle.fr_recording.specs.Numbers.{most_captured, most_sources}
use Rattle.fr_recording.specs.Stream.{State}
use Rattle.fr_recording.specs.declared.course.Course.TheInside.{Inside}

abbrev pub state_in : Inside → State
state_in c = record {
  phase = c.phase;
  order = c.order;
  sources = c.sources.items;
  captured = c.captured.items;
  begin = c.begin;
  at = c.at;
  skipped = c.skipped;
  told = c.told;
}

-- room is reserved for all sources, and for the bytes of a record
pub record HasRoom (c : Inside) : Type 0 where
  pub sources_fit : most_sources ≤ vec_capacity c.sources
  pub captured_fit : most_captured ≤ vec_capacity c.captured
