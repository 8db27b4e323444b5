use Rattle.std.proofs.Common.{[]}
use Rattle.fr_links.proofs.NumberedLemmas.{HasNumbered}
use Rattle.fr_links.specs.Receivers.{node_receivers}
use Rattle.fr_links.proofs.receivers.receivers_among.Given as goal

abbrev pub invariant-loop-node : goal.invariant-loop-node
invariant-loop-node l = HasNumbered (node_receivers l.link) l.plans l.node [] l.receivers.items
