use Rattle.std.proofs.Common.{length, ◌++◌}
use Rattle.std.proofs.lemmas.List.{drop-replicate}
use Rattle.fr_text.proofs.hexes.whole_block.Goals as goal

pub returns : goal.returns
returns c = λ i. c.copy_from_slice.ensures.after i ++ drop-replicate (length c.args.digits.now) 32 48 i
