use Rattle.std.proofs.Common.{◌≡◌, ◌+◌, ◌≤◌, take, drop}
use Rattle.fr_text.specs.Spaces.{words_of, room_of}
use Rattle.fr_lines.proofs.forms.column_of.Given as goal

abbrev pub invariant-loop : goal.invariant-loop
invariant-loop l = (l.column ≡ room_of (take l.counter (words_of l.line)) + 1) ×
    (l.words ≡ drop l.counter (words_of l.line))
