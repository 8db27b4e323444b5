use Rattle.std.proofs.Common.{◌≡◌, List, ℕ, Option, Some, None, Ok, sym, ap, ◌∙◌}
use Rattle.std.specs.Prelude.{ℤ, IfSome, IsSomeAnd}
use Rattle.fr_lines.proofs.ParameterLemmas.{params_line_takes, params_line_again, parameters_again}
use Rattle.fr_lines.specs.Reading.{params_in}
use Rattle.fr_lines.specs.Spelled.{parameter_numbers}
use Rattle.fr_lines.specs.Spelling.{params_words}
use Rattle.fr_slots.specs.Parameters.{Parameters, parameters_of}
use Rattle.fr_text.specs.Spaces.{words_of, line_of}
use Rattle.fr_lines.proofs.parameters.params_of.Goals as goal

found : (o : Option (List ℤ)) (line : List ℕ) → o ≡ params_in (words_of line)
    → IfSome o (λ numbers. (p : Parameters) → parameters_of numbers ≡ Ok p → line ≡ line_of (params_words p))
found None line h = tt
found (Some numbers) line h = λ p made. params_line_takes line numbers p (sym h) made

some_and : (o : Option (List ℤ)) (numbers : List ℤ) (p : Parameters) → o ≡ Some numbers → parameters_of numbers ≡ Ok p
    → IsSomeAnd o (λ zs. parameters_of zs ≡ Ok p)
some_and None numbers p h made = cc h
some_and (Some zs) numbers p h made = let same : zs ≡ numbers = cc h in ap parameters_of same ∙ made

pub returns-clause-found : goal.returns-clause-found
returns-clause-found c = found c.params_in.result c.args.line.now c.params_in.ensures

pub returns-clause-only : goal.returns-clause-only
returns-clause-only c p is text =
    some_and c.params_in.result (parameter_numbers p) p
    (c.params_in.ensures ∙ ap (λ l. params_in (words_of l)) text ∙ params_line_again p is) (parameters_again p is)
