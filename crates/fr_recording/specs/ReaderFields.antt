-- The private fields of a reader, as its progress.
use Rattle.std.specs.Prelude.{◌≤◌, ◌<◌, max, length, vec_capacity}
use Rattle.fr_recording.specs.Numbers.{most_captured}
use Rattle.fr_recording.specs.Stream.{Progress, needed}
use Rattle.fr_recording.specs.declared.reader.Reader.TheInside.{Inside}

abbrev pub progress_in : Inside → Progress
progress_in r = record { state = r.course; held = r.held.items }

-- room is reserved for the longest part, and the part that is held isn't over
pub record HoldsPart (r : Inside) : Type 0 where
  pub room : most_captured ≤ vec_capacity r.held
  pub open_part : length r.held.items < max 1 (needed r.course.phase)
