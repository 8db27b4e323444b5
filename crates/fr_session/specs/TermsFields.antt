-- The fields of `Terms` as the terms of a session.
use Rattle.fr_session.specs.declared.session.Terms.{Terms as Given}
use Rattle.fr_session.specs.Sessions.{Terms}

abbrev pub terms_in : Given → Terms
terms_in given =
    record { due = given.events.now; cluster = given.cluster.now; cycles = given.cycles; keep = given.keep }
