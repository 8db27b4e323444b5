use Rattle.std.proofs.Common.{◌≡◌, ◌++◌}
use Rattle.fr_playing.specs.Moving.{see_events, for_nodes}
use Rattle.fr_playing.proofs.moving.push_sights.Given as goal

abbrev pub invariant-loop-number : goal.invariant-loop-number
invariant-loop-number l = l.events.items ≡ l.fn.events.items ++ for_nodes see_events l.number
