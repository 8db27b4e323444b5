use Rattle.std.proofs.Common.{◌≡◌, ◌+◌, None, drop, sym, ap, ◌∙◌, arith, rules}
use Rattle.std.proofs.lemmas.List.{at_drop_all}
use Rattle.fr_schedule.proofs.FilterLemmas.{nodes_some, nodes_none, nodes_end}
use Rattle.fr_schedule.proofs.RowLemmas.{at_item}
use Rattle.fr_schedule.specs.FileFaults.{first_in_nodes}
use Rattle.fr_schedule.specs.RuleFaults.{fault_by}
use Rattle.fr_schedule.proofs.faults.first_by.Goals as goal

pub returns-in-Some : goal.returns-in-Some
returns-in-Some c =
    let fault = fault_by c.args.rule c.args.params.now in
    let n = c.loop-number.number in
    sym (nodes_some fault n c.index-plans-number.result (drop (n + 1) c.args.plans.now) c.in-Some.fault
    (ap (λ m. fault m c.index-plans-number.result) (sym c.from_number.ensures) ∙ sym c.in-Some.ensures))
    ∙ sym (at_item (first_in_nodes fault n) c.args.plans.now n c.index-plans-number.result c.loop-number-test.true
    c.index-plans-number.is)
    ∙ c.loop-number.invariant

pub loop-number-preserved : goal.loop-number-preserved
loop-number-preserved c =
    let fault = fault_by c.args.rule c.args.params.now in
    let n = c.loop-number.number in
    let gone : c.fault_by.result ≡ None = search rules in
    sym (nodes_none fault n c.index-plans-number.result (drop (n + 1) c.args.plans.now)
    (ap (λ m. fault m c.index-plans-number.result) (sym c.from_number.ensures) ∙ sym c.fault_by.ensures ∙ gone))
    ∙ sym (at_item (first_in_nodes fault n) c.args.plans.now n c.index-plans-number.result c.loop-number-test.true
    c.index-plans-number.is)
    ∙ c.loop-number.invariant

pub returns : goal.returns
returns c =
    let fault = fault_by c.args.rule c.args.params.now in
    let n = c.loop-number.number in
    sym (nodes_end fault n)
    ∙ sym (at_drop_all (first_in_nodes fault n) c.args.plans.now n (omega (arith, c.loop-number-test.false)))
    ∙ c.loop-number.invariant
