use Rattle.std.proofs.Common.{◌≡◌, [], refl, sym, ap, ◌∙◌, arith}
use Rattle.fr_monitoring.specs.LineText.{lines_text}
use Rattle.fr_monitoring.proofs.WholeLemmas.{judged_there, told_empty, no_lines, ends_within}
use Rattle.fr_monitoring.proofs.monitor.judge_whole.Goals as goal

pub loop-head-init : goal.loop-head-init
loop-head-init c = record {
  within = omega arith;
  begins = c.in-Some.ensures.some;
  state = refl;
  silent = told_empty c.args.judge.now;
  quiet = λ some. absurd (omega (arith, some));
}

pub returns-then-not-is_empty-clause-judge : goal.returns-then-not-is_empty-clause-judge
returns-then-not-is_empty-clause-judge c =
    let next =
    judged_there c.args.capture.now c.args.judge.now c.loop-head.judge c.judge.new.self c.in-Some.classic
    c.args.piece.now c.in-Some-head.head.now c.loop-head.taken c.captured.result c.original.result c.time.result
    c.loop-head.invariant.begins c.loop-head.invariant.state c.loop-head.invariant.silent c.in-Some-head.ensures.some
    c.captured.ensures c.time.ensures c.original.ensures c.judge.ensures in
    next.state_is

pub returns-then-not-is_empty-clause-text : goal.returns-then-not-is_empty-clause-text
returns-then-not-is_empty-clause-text c =
    let next =
    judged_there c.args.capture.now c.args.judge.now c.loop-head.judge c.judge.new.self c.in-Some.classic
    c.args.piece.now c.in-Some-head.head.now c.loop-head.taken c.captured.result c.original.result c.time.result
    c.loop-head.invariant.begins c.loop-head.invariant.state c.loop-head.invariant.silent c.in-Some-head.ensures.some
    c.captured.ensures c.time.ensures c.original.ensures c.judge.ensures in
    λ some. next.text_is

pub loop-head-preserved : goal.loop-head-preserved
loop-head-preserved c =
    let next =
    judged_there c.args.capture.now c.args.judge.now c.loop-head.judge c.judge.new.self c.in-Some.classic
    c.args.piece.now c.in-Some-head.head.now c.loop-head.taken c.captured.result c.original.result c.time.result
    c.loop-head.invariant.begins c.loop-head.invariant.state c.loop-head.invariant.silent c.in-Some-head.ensures.some
    c.captured.ensures c.time.ensures c.original.ensures c.judge.ensures in
    let none : lines_text c.judge.new.self.lines ≡ [] =
    ap lines_text (sym c.lines.ensures)
    ∙ no_lines c.lines.result.now (sym c.is_empty.ensures ∙ c.if-not-is_empty.false) in
    record {
      within = ends_within c.in-Some.classic c.args.piece.now c.in-Some-head.head.now c.loop-head.taken
          c.captured.result c.loop-head.invariant.within c.in-Some-head.ensures.some c.captured.ensures;
      begins = next.begins;
      state = next.state_is;
      silent = sym next.text_is ∙ none;
      quiet = λ some. none;
    }
