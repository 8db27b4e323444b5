use Rattle.fr_session.proofs.SessionLemmas.{SoFar}
use Rattle.fr_session.specs.Sessions.{state_of}
use Rattle.fr_session.specs.TermsFields.{terms_in}
use Rattle.fr_session.proofs.session.Session.answer_all.Given as goal

abbrev pub invariant-loop-number : goal.invariant-loop-number
invariant-loop-number g l =
    SoFar (terms_in l.terms) (g.R.Read.remaining l.fn.reader) (g.R.Read.remaining l.reader)
    (g.W.Write.contents l.fn.writer)
    (g.W.Write.contents l.writer) l.number (state_of l.fn.world l.fn.self.noted) (state_of l.world l.self.noted)
