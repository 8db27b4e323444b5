use Rattle.fr_live.proofs.HeadlineLemmas.{each_world}
use Rattle.fr_live.proofs.world.LiveWorld.known.Goals as goal

pub returns : goal.returns
returns c = record { headline = λ w is. each_world w c.args.self.now is }
