use Rattle.std.proofs.Common.{◌≡◌, ◌≤◌, length, take}
use Rattle.fr_slots.specs.Sharing.{own_filters}
use Rattle.fr_slots.proofs.fault.own_filters.Given as goal

abbrev pub invariant-loop-own : goal.invariant-loop-own
invariant-loop-own l = record {
  few : length l.filters.items ≤ l.own-index;
  all : l.filters.items ≡ own_filters (take l.own-index l.owned);
}
