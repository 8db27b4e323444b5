use Rattle.std.proofs.Common.{◌≡◌, ◌+◌, ◌-◌, ℕ, List, [], length, take, drop, sym, ap, ◌∙◌, arith}
use Rattle.std.proofs.lemmas.List.{take_rest}
use Rattle.fr_recording.specs.Steps.{tell_next}
use Rattle.fr_recording.specs.Stream.{Progress, State, read_on, take_bytes}
use Rattle.fr_recording.proofs.ClassicLemmas.{passed}
use Rattle.fr_recording.proofs.course.Course.pass_whole.Goals as goal

pub returns-clause-state : goal.returns-clause-state
returns-clause-state c =
    let s = c.args.self.now in
    let bytes = c.args.bytes.now in
    let last = c.last_whole-last.result in
    let head = c.in-Some-whole_head.head in
    let n = c.number.result in
    let rest : List ℕ = take (length bytes - last) (drop last bytes) in
    let captured : List ℕ = take (16 + n - 16) (drop 16 rest) in
    let count : 16 + n - 16 ≡ head.captured = omega (arith, c.number.ensures.value) in
    let state_is : c.tell_next.new.self ≡ tell_next (read_on s (last + (16 + head.captured))) head captured =
    c.tell_next.ensures
    ∙ ap (λ (r : State). tell_next r head captured) c.read_on.ensures
    ∙ ap (λ (k : ℕ). tell_next (read_on s (last + (16 + k))) head captured) c.number.ensures.value in
    ap (λ (t : State). let p : Progress = record { state = t; held = [] } in p) state_is
    ∙ passed s c.in-Some.classic bytes rest captured head last c.in-Some.ensures.some c.last_whole-last.ensures.whole
    (take_rest bytes last) c.in-Some-whole_head.ensures (ap (λ (k : ℕ). take k (drop 16 rest)) count)
    ∙ ap (λ (k : ℕ). take_bytes (record { state = s; held = [] }) (take (last + (16 + k)) bytes))
    (sym c.number.ensures.value)
