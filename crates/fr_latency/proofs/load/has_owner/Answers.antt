use Rattle.std.proofs.Common.{◌∙◌}
use Rattle.fr_latency.proofs.UsedLemmas.{owner_is}
use Rattle.fr_latency.proofs.load.has_owner.Goals as goal

pub returns : goal.returns
returns c =
    c.is_some.ensures
    ∙ owner_is c.args.cluster.now c.args.cycle c.args.slot c.args.channel c.sender.result c.requires
    c.sender.ensures.sender c.sender.ensures.nobody
