use Rattle.fr_endless.proofs.KeptLemmas.{AreForgotten}
use Rattle.fr_endless.proofs.keeping.forget_all.Given as goal

-- the first lines are forgotten
abbrev pub invariant-loop-place : goal.invariant-loop-place
invariant-loop-place l = AreForgotten l.fn.texts.items l.texts.items l.place
