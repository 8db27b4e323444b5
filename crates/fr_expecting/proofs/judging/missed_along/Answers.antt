use Rattle.std.proofs.Common.{◌≡◌, ◌∙◌, true, false, Some, refl, ap, rules, arith}
use Rattle.fr_expecting.proofs.ContentLemmas.{at_end, start}
use Rattle.fr_expecting.proofs.MissLemmas.{named, room, unnamed}
use Rattle.fr_expecting.specs.Contents.{judged}
use Rattle.fr_expecting.specs.declared.missed.Found.{Found}
use Rattle.fr_expecting.specs.Expected.{found_with}
use Rattle.fr_runs.specs.Cycles.{names_cycle}
use Rattle.fr_expecting.proofs.judging.missed_along.Goals as goal

pub loop-cycle-init : goal.loop-cycle-init
loop-cycle-init c = record {
  place_is = start c.args.interface.now c.args.filter.now;
  before = omega arith;
  so_far = refl;
}

pub loop-cycle-preserved-then-not-names : goal.loop-cycle-preserved-then-not-names
loop-cycle-preserved-then-not-names c =
    let found = found_with c.args.interface.now (Some c.args.filter.now) in
    let other : names_cycle c.args.expectation.now.cycles c.loop-cycle.cycle ≡ false = search rules in
    record {
      place_is = c.loop-cycle.invariant.place_is;
      before = omega (arith, c.loop-cycle.invariant.before);
      so_far = unnamed c.args.expectation.now found c.loop-cycle.cycle c.loop-cycle.missed other
          c.loop-cycle.invariant.so_far;
    }

pub judge-requires : goal.judge-requires
judge-requires c =
    room c.args.expectation.now (found_with c.args.interface.now (Some c.args.filter.now)) c.loop-cycle.missed
    c.loop-cycle.cycle c.args.cycles c.loop-cycle.invariant.so_far c.loop-cycle-test.true
    (omega (arith, c.ranges.cycles.fits))

pub loop-cycle-preserved : goal.loop-cycle-preserved
loop-cycle-preserved c =
    let x = c.args.expectation.now in
    let found = found_with c.args.interface.now (Some c.args.filter.now) in
    let here : names_cycle x.cycles c.loop-cycle.cycle ≡ true = search rules in
    let content : c.found_left-found.result ≡ found c.loop-cycle.cycle =
    c.found_left-found.ensures
    ∙ at_end c.args.interface.now c.args.filter.now c.go_to_end.new.place c.loop-cycle.cycle c.go_to_end.ensures.place
    c.go_to_end.ensures.end in
    record {
      place_is = c.go_to_end.ensures.place;
      before = c.go_to_end.ensures.before;
      so_far = named x found c.loop-cycle.cycle c.loop-cycle.missed c.judge.new.missed here
          c.loop-cycle.invariant.so_far
          (c.judge.ensures ∙ ap (λ (f : Found). judged x c.loop-cycle.cycle f c.loop-cycle.missed) content);
    }
