use Rattle.fr_links.proofs.NumberedLemmas.{HasNumbered}
use Rattle.fr_links.specs.Receivers.{buffer_receiver}
use Rattle.fr_links.proofs.receivers.push_buffers.Given as goal

abbrev pub invariant-loop-number : goal.invariant-loop-number
invariant-loop-number l =
    HasNumbered (buffer_receiver l.link l.node) l.buffers l.number l.fn.receivers.items l.receivers.items
