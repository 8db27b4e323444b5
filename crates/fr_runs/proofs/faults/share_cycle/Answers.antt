use Rattle.std.proofs.Common.{◌≡◌, ◌≤◌, sym, ◌∙◌, arith}
use Rattle.fr_runs.proofs.SpanLemmas.{any_next, any_last}
use Rattle.fr_runs.specs.Suiting.{names_both}
use Rattle.fr_runs.proofs.faults.share_cycle.Goals as goal

pub loop-cycle-preserved : goal.loop-cycle-preserved
loop-cycle-preserved c = record {
  within = λ _. omega arith;
  rest = any_next (names_both c.args.cycles c.args.others) c.loop-cycle.cycle c.args.last _ c.loop-cycle-test.true
      (sym c.names_both.ensures ∙ c.if-names_both.false) c.loop-cycle.invariant.rest;
}

pub returns-then-first-last : goal.returns-then-first-last
returns-then-first-last c =
    let below : c.loop-cycle.cycle ≤ c.args.last = c.loop-cycle.invariant.within c.if-first-last.true in
    let last : c.loop-cycle.cycle ≡ c.args.last = omega arith in
    c.names_both-then-first-last.ensures
    ∙ any_last (names_both c.args.cycles c.args.others) c.loop-cycle.cycle c.args.last last
    ∙ c.loop-cycle.invariant.rest
