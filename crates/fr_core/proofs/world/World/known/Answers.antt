use Rattle.std.proofs.Common.{subst}
use Rattle.fr_core.proofs.HeadlineLemmas.{headline_of}
use Rattle.fr_core.proofs.world.World.known.Goals as goal
use Rattle.fr_core.specs.Headline.{Headline}

pub returns : goal.returns
returns c = record {
  headline = subst Headline c.self.view_is
      (headline_of _ _ _ c.interfaces.ensures c.bus.ensures c.known.ensures.legal c.known.ensures.accounted
      c.known-2.ensures.run c.known-2.ensures.one_sender c.self.invariant);
}
