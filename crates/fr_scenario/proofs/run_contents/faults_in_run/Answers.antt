use Rattle.std.proofs.Common.{◌+◌, map, arith, refl, drop}
use Rattle.std.proofs.lemmas.Option.{slice_get_read}
use Rattle.fr_scenario.proofs.RunLemmas.{faults_more, line_here, numbers_more}
use Rattle.fr_scenario.specs.RunContents.{faults_in_run, numbers_in_run}
use Rattle.fr_scenario.proofs.run_contents.faults_in_run.Goals as goal

pub loop-line-preserved : goal.loop-line-preserved
loop-line-preserved c =
    let cycles = c.args.cycles in
    let lines = c.args.lines.now in
    let at = c.loop-line.line-index in
    let item = c.line-item.result in
    let here = line_here (λ line. line.items) lines at item c.as_slice.result.now
    (slice_get_read lines _ at item refl c.loop-line-test.true c.line-item.is) c.as_slice.ensures.value in
    record {
      number = omega (arith, c.loop-line.invariant.number);
      faults = faults_more cycles c.as_slice.result.now (map (λ line. line.items) (drop (at + 1) lines))
          (map (λ line. line.items) (drop at lines)) c.loop-line.faults.items c.add_line_faults.new.faults.items
          (faults_in_run cycles (map (λ line. line.items) lines)) here c.in_ok-add_line_faults.ensures.faults
          c.loop-line.invariant.faults;
      numbers = numbers_more cycles c.loop-line.number (c.loop-line.number + 1) c.as_slice.result.now
          (map (λ line. line.items) (drop (at + 1) lines)) (map (λ line. line.items) (drop at lines))
          c.loop-line.numbers.items c.add_line_faults.new.numbers.items
          (numbers_in_run cycles 2 (map (λ line. line.items) lines)) refl here
          c.in_ok-add_line_faults.ensures.numbers c.loop-line.invariant.numbers;
    }
