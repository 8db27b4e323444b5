-- The fields of `Scenario` as its contents.
use Rattle.fr_core.specs.Answers.{AreUnanswered}
use Rattle.fr_scenario.specs.Contents.{Contents}
use Rattle.fr_scenario.specs.declared.scenario.Scenario.TheInside.{Inside}

abbrev pub contents_in : Inside → Contents
contents_in s = record {
  scripts = s.scripts.items;
  faults = s.faults.items;
  numbers = s.numbers.items;
  skipped = s.skipped.items;
  expected = s.expected.items;
}

abbrev pub HasNoAnswers : Inside → Type 0
HasNoAnswers s = AreUnanswered s.scripts.items
