use Rattle.std.proofs.Common.{rules, ◌≡◌, Some, None}
use Rattle.fr_schedule.proofs.DenseLemmas.{none_retaken, first_retaken}
use Rattle.fr_schedule.specs.DenseTable.{first_taken_in}
use Rattle.fr_schedule.proofs.senders.enter_on.Goals as goal

pub returns-in_err-cycle-clause-first : goal.returns-in_err-cycle-clause-first
returns-in_err-cycle-clause-first c =
    let f = c.args.claim.now.filter in
    let none : first_taken_in c.args.nodes.now c.start_of-start.result f.cycles ≡ None = search rules in
    rw c.from_residual.ensures (none_retaken c.args.nodes.now c.start_of-start.result f c.args.channel
    c.start_of-start.ensures.place none)

pub returns-clause-first : goal.returns-clause-first
returns-clause-first c =
    let f = c.args.claim.now.filter in
    let found : first_taken_in c.args.nodes.now c.start_of-start.result f.cycles ≡ Some c.in_ok-cycle.cycle =
    search rules in
    first_retaken c.args.nodes.now c.start_of-start.result f c.args.channel c.in_ok-cycle.cycle
    c.start_of-start.ensures.place c.start_of-start.ensures.lawful (search rules) found
