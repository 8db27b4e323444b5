use Rattle.std.proofs.Common.{[]}
use Rattle.fr_links.proofs.NumberedLemmas.{HasNumbered}
use Rattle.fr_links.specs.Links.{node_owners}
use Rattle.fr_links.proofs.links.owners_of.Given as goal

abbrev pub invariant-loop-node : goal.invariant-loop-node
invariant-loop-node l = HasNumbered (node_owners l.place.slot l.place.channel) l.plans l.node [] l.owners.items
