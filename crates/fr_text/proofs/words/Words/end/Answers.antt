use Rattle.std.proofs.Common.{sym, ap, ◌∙◌}
use Rattle.fr_text.specs.Words.{ended}
use Rattle.fr_text.proofs.WordLemmas.{words_some}
use Rattle.fr_text.proofs.words.Words.end.Goals as goal

pub returns-then-self : goal.returns-then-self
returns-then-self c = let view = rw c.if-self.true at c.self.view_is in record { none = sym view; more = ap ended view }

pub returns-else-self : goal.returns-else-self
returns-else-self c =
    let view = rw c.if-self.false at c.self.view_is in
    record { none = tt; more = sym (words_some c.before.self.inside.rest.now) ∙ ap ended view }
