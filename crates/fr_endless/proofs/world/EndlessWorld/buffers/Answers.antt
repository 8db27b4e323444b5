use Rattle.std.proofs.Common.{◌∙◌, sym, subst}
use Rattle.fr_endless.proofs.ReportLemmas.{buffers_same}
use Rattle.fr_live.specs.LiveWorlds.{IsWorldHistory}
use Rattle.fr_endless.proofs.world.EndlessWorld.buffers.Goals as goal

pub returns : goal.returns
returns c w is =
    let had = c.self.invariant in
    let here = subst (λ l. IsWorldHistory l w) (sym c.self.view_is) is in
    c.as_slice.ensures.value ∙ had.2 ∙ buffers_same c.self.inside.world had.0 w had.1 here
