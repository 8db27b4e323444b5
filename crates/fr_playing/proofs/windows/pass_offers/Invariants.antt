use Rattle.fr_playing.specs.Moving.{for_nodes, offer_events}
use Rattle.fr_playing.specs.Striking.{Passes}
use Rattle.fr_playing.proofs.windows.pass_offers.Given as goal

-- the nodes so far
abbrev pub invariant-loop-number : goal.invariant-loop-number
invariant-loop-number l = Passes l.fn.world (for_nodes offer_events l.number) l.world
