use Rattle.std.proofs.Common.{◌≡◌, ◌++◌}
use Rattle.fr_playing.specs.Moving.{observe_events, for_nodes}
use Rattle.fr_playing.proofs.moving.push_observes.Given as goal

abbrev pub invariant-loop-number : goal.invariant-loop-number
invariant-loop-number l = l.events.items ≡ l.fn.events.items ++ for_nodes observe_events l.number
