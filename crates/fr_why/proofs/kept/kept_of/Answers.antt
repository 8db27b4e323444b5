use Rattle.std.proofs.Common.{◌≡◌, IfSome, subst}
use Rattle.fr_why.specs.Explains.{kept}
use Rattle.fr_why.proofs.ExplainLemmas.{all_kept}
use Rattle.fr_why.proofs.kept.kept_of.Goals as goal

pub returns-in-Ok-clause-known : goal.returns-in-Ok-clause-known
returns-in-Ok-clause-known g c =
    subst (λ r. IfSome (g.R.Read.remaining r.now) (λ text. c.read_to_end.new.buf.items ≡ kept text))
    c.take.ensures.inner
    (all_kept (g.R.Read.remaining c.take.result.inner.now) c.take.result.limit c.new-bytes.result.items
    c.read_to_end.new.buf.items c.take.ensures.limit c.new-bytes.ensures.items c.in-Ok.ensures.bytes)
