use Rattle.fr_links.proofs.NumberedLemmas.{HasNumbered}
use Rattle.fr_links.specs.Links.{filled_links}
use Rattle.fr_links.proofs.links.push_buffers.Given as goal

abbrev pub invariant-loop-number : goal.invariant-loop-number
invariant-loop-number l = HasNumbered (filled_links l.params l.place.slot l.place.channel l.owner) l.buffers l.number
    l.fn.links.items l.links.items
