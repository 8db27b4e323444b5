use Rattle.std.proofs.Common.{◌≡◌, ◌≤◌, length, None, List, refl, sym, ap, subst, ◌∙◌}
use Rattle.fr_schedule.proofs.FileLemmas.{read_cluster, each_of-length}
use Rattle.fr_schedule.proofs.DenseSenderLemmas.{dense_table}
use Rattle.fr_schedule.specs.Clusters.{IsCluster}
use Rattle.fr_schedule.specs.DenseTable.{HasClaims}
use Rattle.fr_schedule.specs.FileFaults.{file_fault}
use Rattle.fr_schedule.specs.Files.{plan_of}
use Rattle.fr_slots.specs.Plans.{Plan}
use Rattle.fr_schedule.proofs.cluster.Cluster.from_plans.Goals as goal

pub invariant_of-result : goal.invariant_of-result
invariant_of-result c =
    let p = c.args.params in
    let plans = c.args.plans.items in
    let (values, read) = c.requires.read in
    let as_many = each_of-length (plan_of p) 0 values plans read in
    let some : 1 ≤ length values = subst (λ n. 1 ≤ n) as_many c.requires.some in
    let few : length values ≤ 16 = subst (λ n. n ≤ 16) as_many c.requires.few in
    let free : file_fault p plans ≡ None = ap (file_fault p) (sym c.as_slice.ensures.value) ∙
    c.in_ok-senders.ensures.faultless in
    let lawful : IsCluster (record { params = p; guard = c.args.guard; plans = plans }) =
    read_cluster p p c.args.guard values plans refl c.requires.params_are some few read c.requires.lawful free in
    record {
      cluster = lawful;
      table = dense_table (record { params = p; guard = c.args.guard; plans = plans })
          c.in_ok-senders.senders.items lawful
          (subst (λ (ps : List Plan). HasClaims ps c.in_ok-senders.senders.items) c.as_slice.ensures.value
          c.in_ok-senders.ensures.table);
    }

pub returns-clause-lawful : goal.returns-clause-lawful
returns-clause-lawful c =
    let p = c.args.params in
    let plans = c.args.plans.items in
    let (values, read) = c.requires.read in
    let as_many = each_of-length (plan_of p) 0 values plans read in
    let some : 1 ≤ length values = subst (λ n. 1 ≤ n) as_many c.requires.some in
    let few : length values ≤ 16 = subst (λ n. n ≤ 16) as_many c.requires.few in
    let free : file_fault p plans ≡ None = ap (file_fault p) (sym c.as_slice.ensures.value) ∙
    c.in_ok-senders.ensures.faultless in
    read_cluster p p c.args.guard values plans refl c.requires.params_are some few read c.requires.lawful free
