use Rattle.std.proofs.Common.{arith}
use Rattle.std.proofs.lemmas.List.{take_rest}
use Rattle.fr_text.specs.Reading.{number_in}
use Rattle.fr_text.proofs.NumberLemmas.{number-dash}
use Rattle.fr_text.proofs.WordLemmas.{first_whole, first_before, no_space-digits}
use Rattle.fr_text.proofs.words.Words.next_number_or.Goals as goal

pub returns-then-len-rest-clause-number : goal.returns-then-len-rest-clause-number
returns-then-len-rest-clause-number c =
    let view = rw c.if-self.false at c.self.view_is in
    (first_whole (number_in c.args.bound) _ c.self.inside.rest.now c.in-Some.len c.in-Some.number view
    c.if-len-rest.true
    (no_space-digits c.self.inside.rest.now c.in-Some.len c.in-Some.ensures.digits c.in-Some.ensures.within)
    c.in-Some.ensures.number).0

pub returns-then-len-rest-clause-below : goal.returns-then-len-rest-clause-below
returns-then-len-rest-clause-below c = c.in-Some.ensures.below

pub returns-then-len-rest-clause-left : goal.returns-then-len-rest-clause-left
returns-then-len-rest-clause-left c =
    let view = rw c.if-self.false at c.self.view_is in
    (first_whole (number_in c.args.bound) _ c.self.inside.rest.now c.in-Some.len c.in-Some.number view
    c.if-len-rest.true
    (no_space-digits c.self.inside.rest.now c.in-Some.len c.in-Some.ensures.digits c.in-Some.ensures.within)
    c.in-Some.ensures.number).1

pub returns-then-rest-len-eq32-clause-number : goal.returns-then-rest-len-eq32-clause-number
returns-then-rest-len-eq32-clause-number c =
    let view = rw c.if-self.false at c.self.view_is in
    (first_before (number_in c.args.bound) _ c.self.inside.rest.now c.in-Some.len c.in-Some.number view
    (omega (arith, c.in-Some.ensures.within, c.if-len-rest.false)) c.if-rest-len-eq32.true
    (no_space-digits c.self.inside.rest.now c.in-Some.len c.in-Some.ensures.digits c.in-Some.ensures.within)
    c.in-Some.ensures.number).0

pub returns-then-rest-len-eq32-clause-below : goal.returns-then-rest-len-eq32-clause-below
returns-then-rest-len-eq32-clause-below c = c.in-Some.ensures.below

pub returns-then-rest-len-eq32-clause-left : goal.returns-then-rest-len-eq32-clause-left
returns-then-rest-len-eq32-clause-left c =
    let view = rw c.if-self.false at c.self.view_is in
    rw (c.if-self.false, take_rest)
    (first_before (number_in c.args.bound) _ c.self.inside.rest.now c.in-Some.len c.in-Some.number view
    (omega (arith, c.in-Some.ensures.within, c.if-len-rest.false)) c.if-rest-len-eq32.true
    (no_space-digits c.self.inside.rest.now c.in-Some.len c.in-Some.ensures.digits c.in-Some.ensures.within)
    c.in-Some.ensures.number).1

pub returns-then-rest-eq32-clause-none : goal.returns-then-rest-eq32-clause-none
returns-then-rest-eq32-clause-none c =
    number-dash c.args.bound c.self.inside.rest.now (omega arith) (omega (arith, c.if-rest-gt1.true))
    c.if-rest-eq45.true
