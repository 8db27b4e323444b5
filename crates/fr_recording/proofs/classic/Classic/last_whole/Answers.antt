use Rattle.std.proofs.Common.{◌≡◌, ◌+◌, ◌-◌, ℕ, List, length, take, drop, sym, ap, ◌∙◌, arith, subst}
use Rattle.std.proofs.lemmas.List.{take_rest, length-drop}
use Rattle.fr_recording.specs.Classics.{IsWhole}
use Rattle.fr_recording.specs.Steps.{AreWhole}
use Rattle.fr_recording.proofs.ClassicLemmas.{none_whole, more_whole}
use Rattle.fr_recording.proofs.classic.Classic.last_whole.Goals as goal

pub loop-head-init : goal.loop-head-init
loop-head-init c = record {
  within = omega arith;
  last_within = omega arith;
  whole = none_whole c.args.self c.args.bytes.now;
  last_whole = none_whole c.args.self c.args.bytes.now;
}

pub loop-head-preserved : goal.loop-head-preserved
loop-head-preserved c =
    let bytes = c.args.bytes.now in
    let next = c.loop-head.next in
    let rest : List ℕ = take (length bytes - next) (drop next bytes) in
    let rest_is : rest ≡ drop next bytes = take_rest bytes next in
    let long : length rest ≡ length bytes - next = ap length rest_is ∙ length-drop next bytes in
    let whole : IsWhole c.args.self rest c.in-Some.head.now = c.in-Some.ensures.some in
    record {
      within = omega (arith, whole.whole, long, c.captured.ensures, c.loop-head.invariant.within);
      last_within = c.loop-head.invariant.within;
      whole = subst (λ (n : ℕ). AreWhole c.args.self bytes (next + (16 + n))) (sym c.captured.ensures)
          (more_whole c.args.self bytes rest c.in-Some.head.now next c.loop-head.invariant.whole rest_is whole);
      last_whole = c.loop-head.invariant.whole;
    }
