-- Records of a classic file that lie whole in a piece.
use Rattle.std.proofs.Common.{◌≡◌, ℕ, ◌+◌, false, List, [], take, drop, sym, ap, ◌∙◌, arith, refl, subst}
use Rattle.std.specs.Prelude.{Some, None, Option, nat_lt}
use Rattle.std.proofs.Math.Seq.{take-add}
use Rattle.std.proofs.lemmas.Bool.{cond-false}
use Rattle.std.proofs.lemmas.Bool.Decides.{nat_tests}
use Rattle.std.proofs.lemmas.List.Sums.{fold-append}
use Rattle.fr_recording.specs.Captures.{record_head}
use Rattle.fr_recording.specs.Classics.{BeginsClassic, IsWhole, captured_in, head_in}
use Rattle.fr_recording.specs.Numbers.{counted, most_captured}
use Rattle.fr_recording.specs.Steps.{Steps, IsWholeHead, GoesOn, AreWhole, tell_next}
use Rattle.fr_recording.specs.Stream.{Progress, State, read_on, tell, take_byte, take_bytes}
use Rattle.fr_recording.specs.declared.classic.Classic.{Classic}
use Rattle.fr_recording.specs.declared.numbers.Order.{Order}
use Rattle.fr_recording.specs.declared.phase.Head.{Head}
use Rattle.fr_recording.proofs.ReadLemmas.{record_parts, steps_from, counted_twice}

whole_head : (c : Classic) (bytes head : List ℕ) → IsWhole c bytes head
    → IsWholeHead c.order c.scale c.link bytes (head_in c head)
whole_head c bytes head w =
    let few : nat_lt most_captured (captured_in c head) ≡ false = grind (arith, nat_tests, w.few) in
    let none : Option Head = None in
    record {
      some = w.some;
      whole = w.whole;
      is_head = ap (record_head c.order c.scale c.link) (sym w.is_front)
          ∙ cond-false (nat_lt most_captured (captured_in c head)) none (Some (head_in c head)) few;
    }

-- the progress after such a record
abbrev pub after_whole : Progress → Classic → List ℕ → List ℕ → Progress
after_whole p c bytes head = record {
  state = tell (read_on p.state (16 + captured_in c head)) c.scale c.link (head_in c head)
      (take (captured_in c head) (drop 16 bytes));
  held = [];
}

pub whole_steps : (p : Progress) (c : Classic) (bytes head : List ℕ) → BeginsClassic p c → IsWhole c bytes head
    → Steps p (take (16 + captured_in c head) bytes) (after_whole p c bytes head)
whole_steps p c bytes head begins w =
    let from : (let q : Progress = record { state = p.state; held = [] } in q) ≡ p =
    ap (λ (h : List ℕ). record { state = p.state; held = h }) (sym begins.none_held) in
    let is_whole : IsWholeHead p.state.order c.scale c.link bytes (head_in c head) =
    subst (λ (o : Order). IsWholeHead o c.scale c.link bytes (head_in c head)) (sym begins.order_is)
    (whole_head c bytes head w) in
    steps_from _ p (take (16 + captured_in c head) bytes) _ from
    (record_parts p.state c.scale c.link (head_in c head) bytes begins.phase_is is_whole)

pub begins_again : (p : Progress) (c : Classic) (bytes head : List ℕ) → BeginsClassic p c
    → BeginsClassic (after_whole p c bytes head) c
begins_again p c bytes head begins = record {
  none_held = refl;
  order_is = begins.order_is;
  phase_is = refl;
}

-- ---- whole records, one after another

pub none_whole : (c : Classic) (bytes : List ℕ) → AreWhole c bytes 0
none_whole c bytes p begins =
    let sum : (more : ℕ) → more ≡ 0 + more = λ more. omega arith in record {
      begins = begins;
      same_sources = refl;
      same_skipped = refl;
      at_is = λ more. ap (counted p.state.at) (sum more);
    }

-- bytes up to a place, and so many more
more_bytes : (p : Progress) (bytes : List ℕ) (m n : ℕ)
    → take_bytes p (take (m + n) bytes) ≡ take_bytes (take_bytes p (take m bytes)) (take n (drop m bytes))
more_bytes p bytes m n =
    ap (take_bytes p) (take-add m n bytes) ∙ fold-append take_byte p (take m bytes) (take n (drop m bytes))

pub more_whole : (c : Classic) (bytes rest head : List ℕ) (count : ℕ) → AreWhole c bytes count
    → rest ≡ drop count bytes → IsWhole c rest head → AreWhole c bytes (count + (16 + captured_in c head))
more_whole c bytes rest head count so_far rest_is w p begins =
    let n = 16 + captured_in c head in
    let q = take_bytes p (take count bytes) in
    let before = so_far p begins in
    let steps = whole_steps q c rest head before.begins w in
    let is : take_bytes p (take (count + n) bytes) ≡ after_whole q c rest head =
    more_bytes p bytes count n ∙ ap (λ (t : List ℕ). take_bytes q (take n t)) (sym rest_is) ∙ sym steps.0 in
    let sum : (more : ℕ) → count + (n + more) ≡ count + n + more = λ more. omega arith in
    subst (λ (r : Progress). GoesOn p r c (count + n)) (sym is) (record {
      begins = begins_again q c rest head before.begins;
      same_sources = before.same_sources;
      same_skipped = before.same_skipped;
      at_is = λ more. counted_twice q.state.at n more ∙ before.at_is (n + more) ∙ ap (counted p.state.at) (sum more);
    })

-- the state after whole records, of which the last one begins at a place
pub passed : (s : State) (c : Classic) (bytes rest captured : List ℕ) (head : Head) (last : ℕ)
    → BeginsClassic (record { state = s; held = [] }) c → AreWhole c bytes last → rest ≡ drop last bytes
    → IsWholeHead c.order c.scale c.link rest head → captured ≡ take head.captured (drop 16 rest)
    → record { state = tell_next (read_on s (last + (16 + head.captured))) head captured; held = [] }
    ≡ take_bytes (record { state = s; held = [] }) (take (last + (16 + head.captured)) bytes)
passed s c bytes rest captured head last begins whole rest_is w captured_is =
    let p : Progress = record { state = s; held = [] } in
    let n = 16 + head.captured in
    let q = take_bytes p (take last bytes) in
    let before = whole p begins in
    let from : (let r : Progress = record { state = q.state; held = [] } in r) ≡ q =
    ap (λ (h : List ℕ). record { state = q.state; held = h }) (sym before.begins.none_held) in
    let is_whole : IsWholeHead q.state.order c.scale c.link rest head =
    subst (λ (o : Order). IsWholeHead o c.scale c.link rest head) (sym before.begins.order_is) w in
    let steps = steps_from _ q (take n rest) _ from
    (record_parts q.state c.scale c.link head rest before.begins.phase_is is_whole) in
    let at_is : counted s.at (last + n) ≡ counted q.state.at n = sym (before.at_is n) in
    let state_is : tell_next (read_on s (last + n)) head captured
    ≡ tell (read_on q.state n) c.scale c.link head (take head.captured (drop 16 rest)) =
    λ i. record {
      phase = begins.phase_is i;
      order = (begins.order_is ∙ sym before.begins.order_is) i;
      sources = sym before.same_sources i;
      captured = captured_is i;
      begin = at_is i;
      at = at_is i;
      skipped = sym before.same_skipped i;
      told = Some head;
    } in
    ap (λ (t : State). let r : Progress = record { state = t; held = [] } in r) state_is
    ∙ steps.0
    ∙ ap (λ (t : List ℕ). take_bytes q (take n t)) rest_is
    ∙ sym (more_bytes p bytes last n)
