use Rattle.std.proofs.Common.{◌≡◌, length}
use denote.Text.{Utf8}
use denote.Shadow.{shadow}
use Rattle.fr_reader.specs.UsualText.{AreUpTo}
use Rattle.fr_slots.specs.Plans.{IsPlan, Each}
use Rattle.fr_reader.proofs.nodes.plans_in.Given as goal

-- the nodes up to here were read
abbrev pub invariant-loop-number : goal.invariant-loop-number
invariant-loop-number l = record {
  utf8 : shadow (Utf8 l.rest);
  count : length l.plans.items ≡ l.number;
  lawful : Each IsPlan l.plans.items;
  read : AreUpTo l.params l.text l.plans.items l.rest;
}
