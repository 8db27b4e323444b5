use Rattle.std.proofs.Common.{sym, ◌∙◌}
use Rattle.fr_lines.proofs.FormLaws.{wrong_so}
use Rattle.fr_text.specs.Spaces.{words_of}
use Rattle.fr_lines.proofs.forms.wrong_word.Goals as goal

pub returns-clause-wrong : goal.returns-clause-wrong
returns-clause-wrong c =
    wrong_so c.args.version (words_of c.args.line.now) c.in_ok-place.place
    (sym c.wrong_in.ensures.place ∙ c.in_ok-place.was)
