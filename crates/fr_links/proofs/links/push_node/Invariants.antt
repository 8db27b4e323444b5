use Rattle.fr_links.proofs.NumberedLemmas.{HasNumbered}
use Rattle.fr_links.specs.Links.{buffer_links}
use Rattle.fr_links.proofs.links.push_node.Given as goal

abbrev pub invariant-loop-number : goal.invariant-loop-number
invariant-loop-number l =
    HasNumbered (buffer_links l.params l.node) l.plan.buffers l.number l.fn.links.items l.links.items
