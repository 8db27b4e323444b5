-- The private fields of a judge, as its state.
use Rattle.std.specs.Prelude.{◌≡◌, ◌≤◌, length, vec_capacity}
use Rattle.fr_judging.specs.DueTable.{all_dues}
use Rattle.fr_judging.specs.Judging.{State, most_lines}
use Rattle.fr_judging.specs.declared.judge.Judge.TheInside.{Inside}

abbrev pub state_in : Inside → State
state_in j = record {
  rules = j.rules;
  mine = j.mine.value;
  other = j.other.value;
  channel = j.channel;
  slots = j.slots.items;
  away = j.away.items;
  shown = j.shown.items;
  lines = j.lines.items;
  found = j.found.items;
  backs = j.backs;
  records = j.records;
  foreign = j.foreign;
  symbols = j.symbols;
}

-- All places of counts exist, and room is reserved for the lines of a record. The table has what is due in static
-- slots.
pub record HasPlaces (j : Inside) : Type 0 where
  pub slots_are : length j.slots.items ≡ 4096
  pub away_are : length j.away.items ≡ 32768
  pub shown_are : length j.shown.items ≡ 2048
  pub found_are : length j.found.items ≡ 28
  pub lines_fit : most_lines ≤ vec_capacity j.lines
  pub dues_are : j.dues.items ≡ all_dues j.rules.cluster
