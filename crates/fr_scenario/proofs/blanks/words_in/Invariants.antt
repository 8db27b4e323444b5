use Rattle.std.proofs.Common.{◌≡◌, ◌++◌, length, map}
use Rattle.std.specs.List.{filter}
use Rattle.std.specs.Prelude.{option_map}
use Rattle.fr_scenario.specs.BlankWords.{blank_words, has_bytes, split_rest}
use Rattle.fr_scenario.proofs.blanks.words_in.Given as goal

-- the words so far, and those of the pieces that are left
abbrev pub invariant-loop-left : goal.invariant-loop-left
invariant-loop-left l =
    map (λ word. word.now) l.words.items ++ filter has_bytes (split_rest (option_map (λ rest. rest.now) l.left))
    ≡ blank_words l.line

abbrev pub decreases-loop-left : goal.decreases-loop-left
decreases-loop-left l = length (split_rest (option_map (λ rest. rest.now) l.left))
