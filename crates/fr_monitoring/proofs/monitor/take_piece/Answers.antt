use Rattle.std.proofs.Common.{◌≡◌, ◌+◌, ◌-◌, ◌<◌, ◌==◌, ℕ, List, [], length, take, drop, ap, ◌∙◌, arith, false, inl}
use Rattle.std.proofs.Common.{inr}
use Rattle.std.proofs.Common.{cond, Bool}
use Rattle.std.specs.Prelude.{option_to_list}
use Rattle.std.proofs.lemmas.Bool.Decides.{nat_tests}
use Rattle.std.proofs.lemmas.List.{take_rest, length-drop}
use Rattle.fr_recording.specs.Records.{Record}
use Rattle.fr_recording.specs.Stream.{told_of}
use Rattle.fr_monitoring.proofs.TextLemmas.{followed_none, followed_next, followed_further}
use Rattle.fr_monitoring.proofs.monitor.take_piece.Goals as goal

pub loop-taken-init : goal.loop-taken-init
loop-taken-init g c = (omega arith, followed_none c.args.frames c.args.capture.now c.args.judge.now _)

some_told : (n : ℕ) (r : List Record) → 0 < n → (let x : List Record = cond (n == 0) [] r in x) ≡ r
some_told n r some =
    let more : (n == 0) ≡ false = grind (arith, nat_tests) in
    ap (λ (t : Bool). let x : List Record = cond t [] r in x) more

pub loop-taken-preserved : goal.loop-taken-preserved
loop-taken-preserved g c =
    let piece = c.args.piece.now in
    let taken = c.loop-taken.taken in
    let rest : List ℕ = take (length piece - taken) (drop taken piece) in
    let rest_is : rest ≡ drop taken piece = take_rest piece taken in
    let long : length rest ≡ length piece - taken = ap length rest_is ∙ length-drop taken piece in
    let some : 0 < c.next.result =
    elim c.next.ensures.all [ inl all ↦ omega (arith, long, all) | inr more ↦ more.0 ] in
    let one = followed_next c.args.frames c.args.capture.now c.loop-taken.capture c.next.new.self c.args.judge.now
    c.loop-taken.judge c.take_record.new.judge _ _ _ piece rest taken c.next.result c.loop-taken.invariant.1 rest_is
    c.next.ensures.state
    (c.next.ensures.records ∙ some_told c.next.result (option_to_list (told_of c.next.new.self)) some)
    c.in_ok-take_record.ensures.judge c.in_ok-take_record.ensures.text in
    let after = taken + c.next.result in
    let left : List ℕ = take (length piece - after) (drop after piece) in
    let left_is : left ≡ drop after piece = take_rest piece after in
    let left_long : length left ≡ length piece - after = ap length left_is ∙ length-drop after piece in (
      omega (arith, c.loop-taken.invariant.0, c.next.ensures.within, long, c.in_ok-taken.ensures.within, left_long),
      followed_further c.args.frames c.args.capture.now c.next.new.self c.take_whole.new.capture c.args.judge.now
          c.take_record.new.judge c.take_whole.new.judge _ _ _ piece left after c.in_ok-taken.field-0 one left_is
          c.in_ok-taken.ensures.followed,
    )
