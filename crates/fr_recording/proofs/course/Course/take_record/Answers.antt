use Rattle.std.proofs.Common.{◌≡◌, ◌-◌, ◌+◌, ℕ, List, take, drop, sym, ap, ◌∙◌, arith, subst}
use Rattle.std.specs.Prelude.{Some}
use Rattle.fr_recording.specs.Steps.{IsWholeHead, tell_next}
use Rattle.fr_recording.specs.Stream.{State, read_on, tell}
use Rattle.fr_recording.specs.declared.numbers.Order.{Order}
use Rattle.fr_recording.specs.declared.phase.Head.{Head}
use Rattle.fr_recording.specs.declared.phase.Phase.{Phase}
use Rattle.fr_recording.specs.declared.phase.Phase.TheVariants.{RecordHeader}
use Rattle.fr_recording.proofs.course.Course.take_record.Goals as goal

told_again : (s : State) (scale link : ℕ) (head : Head) (bytes : List ℕ) → s.phase ≡ RecordHeader scale link
    → tell_next s head bytes ≡ tell s scale link head bytes
told_again s scale link head bytes is =
    ap (λ (p : Phase). record s { captured = bytes; told = Some head; phase = p; begin = s.at }) is

pub returns-clause-record : goal.returns-clause-record
returns-clause-record c =
    let scale = c.in-RecordHeader.scale in
    let link = c.in-RecordHeader.link in
    let head = c.in-Some.head in
    let bytes = c.args.bytes.now in
    let n = c.number.result in
    let count : 16 + n - 16 ≡ head.captured = omega (arith, c.number.ensures.value) in
    let classic = ap (λ (s : State). s.phase) (sym c.self.view_is) ∙ c.in-RecordHeader.is in
    λ _. record {
      scale = scale;
      link = link;
      head = head;
      classic = classic;
      is_whole = subst (λ (o : Order). IsWholeHead o scale link bytes head)
          (ap (λ (s : State). s.order) c.self.view_is) c.in-Some.ensures;
      ends = ap (λ (k : ℕ). 16 + k) c.number.ensures.value;
      state = c.tell_next.ensures
          ∙ ap (λ (r : State). tell_next r head (take (16 + n - 16) (drop 16 bytes))) c.read_on.ensures
          ∙ ap (λ (k : ℕ). tell_next (read_on c.args.self.now (16 + n)) head (take k (drop 16 bytes))) count
          ∙ told_again (read_on c.args.self.now (16 + n)) scale link head (take head.captured (drop 16 bytes)) classic;
    }
