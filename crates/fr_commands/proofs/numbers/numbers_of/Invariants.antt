use Rattle.std.proofs.Common.{◌≡◌, length}
use Rattle.fr_commands.specs.Numbers.{numbers_in, words_in, joined}
use Rattle.fr_commands.proofs.numbers.numbers_of.Given as goal

abbrev pub invariant-loop-word : goal.invariant-loop-word
invariant-loop-word l = numbers_in (words_in l.fn.text) ≡ joined l.numbers.items (numbers_in l.words)

abbrev pub decreases-loop-word : goal.decreases-loop-word
decreases-loop-word l = length l.words
