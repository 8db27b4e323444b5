use Rattle.fr_endless.proofs.SessionLemmas.{SoFarAlike}
use Rattle.std.proofs.Common.{◌≡◌, None}
use Rattle.fr_endless.specs.Taps.{with_taps}
use Rattle.fr_session.specs.TermsFields.{terms_in}
use Rattle.fr_endless.proofs.session.EndlessSession.answer_all.Given as goal

abbrev pub invariant-loop-number : goal.invariant-loop-number
invariant-loop-number g l =
    SoFarAlike (terms_in l.terms) (g.R.Read.remaining l.fn.reader) (g.R.Read.remaining l.reader)
    (g.W.Write.contents l.fn.writer) (g.W.Write.contents l.writer) l.number (with_taps l.fn.world l.fn.taps)
    l.fn.self.noted (with_taps l.world l.taps) l.self.noted
    × (l.taps.failed ≡ None)
