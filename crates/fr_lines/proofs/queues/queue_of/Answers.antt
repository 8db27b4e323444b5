use Rattle.std.proofs.Common.{◌≡◌, List, ℕ, Option, Some, None, sym, ap, ◌∙◌}
use Rattle.std.specs.Prelude.{IfSome}
use Rattle.fr_lines.proofs.QueueLemmas.{queue_line_takes, queue_line_again, queue_line_fits}
use Rattle.fr_lines.specs.Reading.{queue_in}
use Rattle.fr_lines.specs.Spelled.{IsSpelledQueue}
use Rattle.fr_lines.specs.Spelling.{queue_words}
use Rattle.fr_slots.specs.declared.plan.Queue.{Queue}
use Rattle.fr_text.specs.Spaces.{words_of, line_of}
use Rattle.fr_lines.proofs.queues.queue_of.Goals as goal

found : (o : Option Queue) (line : List ℕ) → o ≡ queue_in (words_of line)
    → IfSome o (λ q. line ≡ line_of (queue_words q))
found None line h = tt
found (Some q) line h = queue_line_takes line q (sym h)

fits : (o : Option Queue) (line : List ℕ) → o ≡ queue_in (words_of line) → IfSome o IsSpelledQueue
fits None line h = tt
fits (Some q) line h = queue_line_fits (words_of line) q (sym h)

pub returns-clause-found : goal.returns-clause-found
returns-clause-found c = found c.queue_in.result c.args.line.now c.queue_in.ensures

pub returns-clause-fits : goal.returns-clause-fits
returns-clause-fits c = fits c.queue_in.result c.args.line.now c.queue_in.ensures

pub returns-clause-only : goal.returns-clause-only
returns-clause-only c q is text = c.queue_in.ensures ∙ ap (λ l. queue_in (words_of l)) text ∙ queue_line_again q is
