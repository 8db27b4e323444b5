use Rattle.std.proofs.Common.{sym, ◌∙◌}
use Rattle.std.proofs.lemmas.List.{take_rest}
use Rattle.fr_text.proofs.WordLemmas.{cut_at, cut_none}
use Rattle.fr_text.proofs.words.Words.next_word.Goals as goal

pub returns-in-Some-clause-words : goal.returns-in-Some-clause-words
returns-in-Some-clause-words c =
    let view = rw c.if-self.false at c.self.view_is in
    rw (c.if-self.false, take_rest) (sym view ∙ cut_at _ _ (sym c.in-Some.ensures))

pub returns-in-None-clause-words : goal.returns-in-None-clause-words
returns-in-None-clause-words c =
    let view = rw c.if-self.false at c.self.view_is in sym view ∙ cut_none _ (sym c.in-None.ensures)
