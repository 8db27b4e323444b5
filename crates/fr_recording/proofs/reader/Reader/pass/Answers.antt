use Rattle.std.proofs.Common.{◌≡◌, ◌-◌, ◌<◌, ℕ, List, length, take, drop, rules, sym, ap, ◌∙◌, arith, inl, inr}
use Rattle.std.proofs.Math.Seq.{take-add}
use Rattle.std.proofs.lemmas.List.{take_rest, length-drop}
use Rattle.std.proofs.lemmas.List.Sums.{fold-append}
use Rattle.fr_recording.specs.Stream.{Progress, take_byte, take_bytes}
use Rattle.fr_recording.proofs.reader.Reader.pass.Goals as goal

pub loop-taken-preserved : goal.loop-taken-preserved
loop-taken-preserved c =
    let p = c.args.self.now in
    let bytes = c.args.bytes.now in
    let taken = c.loop-taken.taken in
    let count = c.next-taken.result in
    let rest : List ℕ = take (length bytes - taken) (drop taken bytes) in
    let rest_is : rest ≡ drop taken bytes = take_rest bytes taken in
    let long : length rest ≡ length bytes - taken = ap length rest_is ∙ length-drop taken bytes in
    let some : 0 < count =
    elim c.next-taken.ensures.all [ inl all ↦ omega (arith, long, all) | inr more ↦ more.0 ] in
    record {
      within = search rules;
      state = c.next-taken.ensures.state
          ∙ ap (λ (t : List ℕ). take_bytes c.loop-taken.self (take count t)) rest_is
          ∙ ap (λ (q : Progress). take_bytes q (take count (drop taken bytes))) c.loop-taken.invariant.state
          ∙ sym (fold-append take_byte p (take taken bytes) (take count (drop taken bytes)))
          ∙ ap (take_bytes p) (sym (take-add taken count bytes));
    }
