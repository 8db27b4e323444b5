use Rattle.std.proofs.Common.{◌≡◌, List, ℕ, Option, Some, None, sym, ap, ◌∙◌}
use Rattle.std.specs.Prelude.{IfSome}
use Rattle.fr_lines.proofs.BufferLemmas.{buffer_line_takes, buffer_line_again, buffer_line_fits}
use Rattle.fr_lines.specs.Reading.{buffer_in}
use Rattle.fr_lines.specs.Spelled.{IsSpelledBuffer}
use Rattle.fr_lines.specs.Spelling.{buffer_words}
use Rattle.fr_slots.specs.declared.plan.Buffer.{Buffer}
use Rattle.fr_text.specs.Spaces.{words_of, line_of}
use Rattle.fr_lines.proofs.buffers.buffer_of.Goals as goal

found : (o : Option Buffer) (line : List ℕ) → o ≡ buffer_in (words_of line)
    → IfSome o (λ b. line ≡ line_of (buffer_words b))
found None line h = tt
found (Some b) line h = buffer_line_takes line b (sym h)

fits : (o : Option Buffer) (line : List ℕ) → o ≡ buffer_in (words_of line) → IfSome o IsSpelledBuffer
fits None line h = tt
fits (Some b) line h = buffer_line_fits (words_of line) b (sym h)

pub returns-clause-found : goal.returns-clause-found
returns-clause-found c = found c.buffer_in.result c.args.line.now c.buffer_in.ensures

pub returns-clause-fits : goal.returns-clause-fits
returns-clause-fits c = fits c.buffer_in.result c.args.line.now c.buffer_in.ensures

pub returns-clause-only : goal.returns-clause-only
returns-clause-only c b is text = c.buffer_in.ensures ∙ ap (λ l. buffer_in (words_of l)) text ∙ buffer_line_again b is
