use Rattle.std.proofs.Common.{subst}
use Rattle.fr_schedule.specs.Clusters.{IsCluster}
use Rattle.fr_schedule.specs.DenseTable.{IsDenseTable}
use Rattle.fr_schedule.specs.Descriptions.{Description}
use Rattle.fr_schedule.proofs.DenseSenderLemmas.{read_nobody}
use Rattle.fr_schedule.proofs.cluster.Cluster.sender.Goals as goal

pub returns-clause-nobody : goal.returns-clause-nobody
returns-clause-nobody c =
    let lawful = subst IsCluster c.self.view_is c.self.invariant.cluster in
    let table = subst (λ (d : Description). IsDenseTable d c.self.inside.senders.items) c.self.view_is
    c.self.invariant.table in
    read_nobody c.args.self.now c.self.inside.senders.items lawful table c.args.slot c.args.channel c.args.cycle
    c.place_of.result c.place_of.ensures.cycle c.place_of.ensures.slot
    c.place_of.ensures.place c.place_of.ensures.within c.index.result.now c.index.ensures c.new.result c.new.ensures
