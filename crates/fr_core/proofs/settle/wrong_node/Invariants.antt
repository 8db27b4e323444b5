use Rattle.std.proofs.Common.{◌≡◌, true, take}
use Rattle.std.specs.List.{list_all}
use Rattle.fr_core.specs.Settling.{is_right}
use Rattle.fr_core.specs.Walks.{FindsLeast}
use Rattle.fr_core.proofs.settle.wrong_node.Given as goal

-- the finding of the transmissions so far
abbrev pub invariant-loop-transmission : goal.invariant-loop-transmission
invariant-loop-transmission l = FindsLeast (λ n. list_all (is_right l.guardian n l.window)
    (take l.transmission-index l.sent) ≡ true) l.least
