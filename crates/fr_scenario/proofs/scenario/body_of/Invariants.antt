use Rattle.std.proofs.Common.{◌≡◌}
use Rattle.fr_scenario.specs.Gathering.{none_yet, kept_from}
use Rattle.fr_scenario.specs.Reading.{lines_in, told_from}
use Rattle.fr_scenario.proofs.scenario.body_of.Given as goal

-- the lines that are kept, with the lines that are left
abbrev pub invariant-loop-number : goal.invariant-loop-number
invariant-loop-number l = kept_from l.number l.gathered (told_from l.version l.number l.left) ≡ kept_from 2 none_yet
    (told_from l.version 2 (lines_in l.text))
