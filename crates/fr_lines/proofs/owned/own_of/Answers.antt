use Rattle.std.proofs.Common.{◌≡◌, true, List, ℕ, Option, Some, None, sym, ap, ◌∙◌}
use Rattle.std.specs.Prelude.{IfSome}
use Rattle.fr_lines.proofs.OwnLemmas.{own_line_takes, own_line_again, own_line_fits, own_line_told}
use Rattle.fr_lines.specs.declared.versions.Version.{Version}
use Rattle.fr_lines.specs.Reading.{own_in}
use Rattle.fr_lines.specs.Spelled.{IsSpelledOwn}
use Rattle.fr_lines.specs.Spelling.{own_words}
use Rattle.fr_lines.specs.Versions.{tells_own}
use Rattle.fr_slots.specs.declared.plan.Own.{Own}
use Rattle.fr_text.specs.Spaces.{words_of, line_of}
use Rattle.fr_lines.proofs.owned.own_of.Goals as goal

found : (v : Version) (o : Option Own) (line : List ℕ) → o ≡ own_in v (words_of line)
    → IfSome o (λ b. line ≡ line_of (own_words v b))
found v None line h = tt
found v (Some b) line h = own_line_takes v line b (sym h)

fits : (v : Version) (o : Option Own) (line : List ℕ) → o ≡ own_in v (words_of line) → IfSome o IsSpelledOwn
fits v None line h = tt
fits v (Some b) line h = own_line_fits v (words_of line) b (sym h)

told : (v : Version) (o : Option Own) (line : List ℕ) → o ≡ own_in v (words_of line)
    → IfSome o (λ b. tells_own v b ≡ true)
told v None line h = tt
told v (Some b) line h = own_line_told v (words_of line) b (sym h)

pub returns-clause-found : goal.returns-clause-found
returns-clause-found c = found c.args.version c.own_in.result c.args.line.now c.own_in.ensures

pub returns-clause-fits : goal.returns-clause-fits
returns-clause-fits c = fits c.args.version c.own_in.result c.args.line.now c.own_in.ensures

pub returns-clause-told : goal.returns-clause-told
returns-clause-told c = told c.args.version c.own_in.result c.args.line.now c.own_in.ensures

pub returns-clause-only : goal.returns-clause-only
returns-clause-only c b is told text =
    c.own_in.ensures ∙ ap (λ l. own_in c.args.version (words_of l)) text ∙ own_line_again c.args.version b is told
