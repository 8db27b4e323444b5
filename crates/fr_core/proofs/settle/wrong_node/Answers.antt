use Rattle.std.proofs.Common.{◌≡◌, List, true, subst, arith}
use Rattle.std.specs.List.{list_all}
use Rattle.std.proofs.lemmas.List.{take_all}
use Rattle.fr_bus.specs.declared.outcome.Sent.{Sent}
use Rattle.fr_core.specs.Settling.{is_right}
use Rattle.fr_core.specs.Walks.{FindsLeast}
use Rattle.fr_core.proofs.settle.wrong_node.Goals as goal

pub returns : goal.returns
returns c =
    subst (λ (sent : List Sent). FindsLeast (λ n. list_all (is_right c.args.guardian.now n c.args.window.now) sent
    ≡ true) c.loop-transmission.least)
    (take_all c.loop-transmission.transmission-index c.args.sent.now (omega (arith, c.loop-transmission-test.false)))
    c.loop-transmission.invariant
