use Rattle.std.proofs.Common.{◌<◌, subst, sym}
use Rattle.fr_frame.proofs.TableLemmas.{entry_passes}
use Rattle.fr_logged.proofs.tables.entry.Goals as goal

pub returns : goal.returns
returns g c = λ test all. entry_passes test c.args.tables.now c.args.zeros c.args.byte _ _ all
    (subst (λ n. c.args.zeros < n) (sym c.told-tables) c.requires) c.ranges.byte.fits
