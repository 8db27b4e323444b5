use Rattle.fr_session.proofs.LawLemmas.{places_apart}
use Rattle.fr_session.proofs.laws.places_differ.Goals as goal

pub returns : goal.returns
returns c = places_apart
