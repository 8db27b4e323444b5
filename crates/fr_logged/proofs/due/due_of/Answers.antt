use Rattle.std.proofs.Common.{◌≡◌, None}
use Rattle.fr_logged.specs.Dues.{due_of}
use Rattle.fr_logged.proofs.SenderLemmas.{due_nobody}
use Rattle.fr_logged.proofs.due.due_of.Goals as goal

pub returns-in_err-node : goal.returns-in_err-node
returns-in_err-node c =
    let none : due_of c.args.cluster.now c.args.slot c.args.channel c.args.cycle ≡ None =
    due_nobody c.args.cluster.now c.args.slot c.args.channel c.args.cycle c.in_err-node.ensures.nobody in
    cc (none, c.from_residual.ensures)
