use Rattle.std.proofs.Common.{◌/◌, length, arith}
use Rattle.std.proofs.lemmas.List.{take_rest}
use Rattle.fr_text.proofs.WordLemmas.{two_words}
use Rattle.fr_text.proofs.words.Words.take_twins.Goals as goal

pub returns-clause-first : goal.returns-clause-first
returns-clause-first g c _ =
    let view = rw c.if-self.false at c.self.view_is in
    let rest = c.self.inside.rest.now in
    let first = c.twins_into.ensures.first c.if-not-twins_into.false in
    let second = rw take_rest at (c.twins_into.ensures.second c.if-not-twins_into.false) in
    (two_words g.row.N _ rest _ _ (length rest / 2) view (omega (arith, c.if-rest-eq0.false)) c.if-rest-half-ne32.false
    first second).0

pub returns-clause-second : goal.returns-clause-second
returns-clause-second g c _ =
    let view = rw c.if-self.false at c.self.view_is in
    let rest = c.self.inside.rest.now in
    let first = c.twins_into.ensures.first c.if-not-twins_into.false in
    let second = rw take_rest at (c.twins_into.ensures.second c.if-not-twins_into.false) in
    (two_words g.row.N _ rest _ _ (length rest / 2) view (omega (arith, c.if-rest-eq0.false)) c.if-rest-half-ne32.false
    first second).1

pub returns-clause-two : goal.returns-clause-two
returns-clause-two g c _ =
    let view = rw c.if-self.false at c.self.view_is in
    let rest = c.self.inside.rest.now in
    let first = c.twins_into.ensures.first c.if-not-twins_into.false in
    let second = rw take_rest at (c.twins_into.ensures.second c.if-not-twins_into.false) in
    (two_words g.row.N _ rest _ _ (length rest / 2) view (omega (arith, c.if-rest-eq0.false)) c.if-rest-half-ne32.false
    first second).2
