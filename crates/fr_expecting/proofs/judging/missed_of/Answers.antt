use Rattle.std.proofs.Common.{◌≡◌, ◌∙◌, Some, None, rules}
use Rattle.std.specs.Prelude.{slice_get}
use Rattle.fr_expecting.proofs.MissLemmas.{of_filter}
use Rattle.fr_expecting.specs.Expected.{receive_filter}
use Rattle.fr_slots.specs.Plans.{buffer_at}
use Rattle.fr_expecting.proofs.judging.missed_of.Goals as goal

pub returns-in-Some-receive_filter : goal.returns-in-Some-receive_filter
returns-in-Some-receive_filter c =
    let s = c.in-Some.interface.now in
    let x = c.args.expectation.now in
    let is : slice_get c.args.interfaces.now x.node ≡ Some s = search rules in
    let same : Some c.in-Some-receive_filter.filter ≡ receive_filter (buffer_at s.plan x.buffer) = search rules in
    c.missed_along.ensures
    ∙ of_filter c.args.cycles c.args.interfaces.now x s (Some c.in-Some-receive_filter.filter) is same

pub returns-in-None : goal.returns-in-None
returns-in-None c =
    let s = c.in-Some.interface.now in
    let x = c.args.expectation.now in
    let is : slice_get c.args.interfaces.now x.node ≡ Some s = search rules in
    let same : None ≡ receive_filter (buffer_at s.plan x.buffer) = search rules in
    c.missed_without-in-None.ensures ∙ of_filter c.args.cycles c.args.interfaces.now x s None is same
