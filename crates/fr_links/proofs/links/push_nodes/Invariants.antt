use Rattle.fr_links.proofs.NumberedLemmas.{HasNumbered}
use Rattle.fr_links.specs.Links.{node_links}
use Rattle.fr_links.proofs.links.push_nodes.Given as goal

abbrev pub invariant-loop-node : goal.invariant-loop-node
invariant-loop-node l = HasNumbered (node_links l.cluster.params) l.cluster.plans l.node l.fn.links.items l.links.items
