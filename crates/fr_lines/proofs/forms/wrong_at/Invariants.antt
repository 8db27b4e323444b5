use Rattle.std.proofs.Common.{◌≡◌, ◌+◌, option_map, drop}
use Rattle.fr_lines.specs.Forms.{wrong_at}
use Rattle.fr_lines.proofs.forms.wrong_at.Given as goal

abbrev pub invariant-loop-place : goal.invariant-loop-place
invariant-loop-place l = wrong_at l.forms l.fn.words ≡ option_map (λ n. n + l.place)
    (wrong_at (drop l.place l.forms) l.words)
