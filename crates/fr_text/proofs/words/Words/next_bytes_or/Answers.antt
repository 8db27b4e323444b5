use Rattle.std.proofs.Common.{arith}
use Rattle.std.proofs.lemmas.List.{take_rest}
use Rattle.fr_text.specs.Reading.{bytes_in}
use Rattle.fr_text.proofs.WordLemmas.{first_whole, first_before, no_space-bytes}
use Rattle.fr_text.proofs.words.Words.next_bytes_or.Goals as goal

pub returns-then-len-rest-clause-bytes : goal.returns-then-len-rest-clause-bytes
returns-then-len-rest-clause-bytes g c =
    let view = rw c.if-self.false at c.self.view_is in
    let read = c.in-Some.ensures.read in
    (first_whole (bytes_in g.row.N) _ c.self.inside.rest.now c.in-Some.len _ view c.if-len-rest.true
    (no_space-bytes g.row.N c.self.inside.rest.now _ c.in-Some.len read) read).0

pub returns-then-len-rest-clause-left : goal.returns-then-len-rest-clause-left
returns-then-len-rest-clause-left g c =
    let view = rw c.if-self.false at c.self.view_is in
    let read = c.in-Some.ensures.read in
    (first_whole (bytes_in g.row.N) _ c.self.inside.rest.now c.in-Some.len _ view c.if-len-rest.true
    (no_space-bytes g.row.N c.self.inside.rest.now _ c.in-Some.len read) read).1

pub returns-then-rest-len-eq32-clause-bytes : goal.returns-then-rest-len-eq32-clause-bytes
returns-then-rest-len-eq32-clause-bytes g c =
    let view = rw c.if-self.false at c.self.view_is in
    let read = c.in-Some.ensures.read in
    (first_before (bytes_in g.row.N) _ c.self.inside.rest.now c.in-Some.len _ view
    (omega (arith, c.in-Some.ensures.within, c.if-len-rest.false)) c.if-rest-len-eq32.true
    (no_space-bytes g.row.N c.self.inside.rest.now _ c.in-Some.len read) read).0

pub returns-then-rest-len-eq32-clause-left : goal.returns-then-rest-len-eq32-clause-left
returns-then-rest-len-eq32-clause-left g c =
    let view = rw c.if-self.false at c.self.view_is in
    let read = c.in-Some.ensures.read in
    rw (c.if-self.false, take_rest)
    (first_before (bytes_in g.row.N) _ c.self.inside.rest.now c.in-Some.len _ view
    (omega (arith, c.in-Some.ensures.within, c.if-len-rest.false)) c.if-rest-len-eq32.true
    (no_space-bytes g.row.N c.self.inside.rest.now _ c.in-Some.len read) read).1
