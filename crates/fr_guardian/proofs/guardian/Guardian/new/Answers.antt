use Rattle.fr_guardian.proofs.PostLemmas.{made_lawful}
use Rattle.fr_guardian.proofs.guardian.Guardian.new.Goals as goal

pub invariant_of-result : goal.invariant_of-result
invariant_of-result c = made_lawful _ c.args.cluster.now c.params.ensures.lawful
    (cc) c.guard_of.ensures c.in_ok-posts.ensures
