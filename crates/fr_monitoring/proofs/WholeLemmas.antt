-- Records that are judged where they lie in a piece.
use Rattle.std.proofs.Common.{◌≡◌, ℕ, ◌+◌, ◌-◌, ◌<◌, false, List, [], ◌∷◌, ◌++◌, length, take, drop, refl, sym, ap}
use Rattle.std.proofs.Common.{◌∙◌, subst, arith, true, ◌==◌, ◌≤◌}
use Rattle.std.proofs.Math.Seq.{take-add}
use Rattle.std.proofs.lemmas.List.{append-nil, drop-drop, take_rest, length-drop}
use Rattle.std.proofs.lemmas.List.Sums.{fold-append}
use Rattle.std.specs.Prelude.{option_to_list, Some, ℤ}
use Rattle.std.proofs.lemmas.Bool.{eqb-true}
use Rattle.fr_judging.specs.Judging.{State, judge}
use Rattle.fr_judging.specs.declared.line.Line.{Line}
use Rattle.fr_recording.specs.Classics.{BeginsClassic, IsWhole, captured_in, original_in, time_in, head_in}
use Rattle.fr_recording.specs.Records.{Record}
use Rattle.fr_recording.specs.Stream.{Progress, take_byte, take_bytes, records_from, record_of, told_of}
use Rattle.fr_recording.specs.declared.classic.Classic.{Classic}
use Rattle.fr_recording.proofs.ClassicLemmas.{after_whole, whole_steps, begins_again}
use Rattle.fr_monitoring.specs.LineText.{lines_text}
use Rattle.fr_monitoring.specs.Monitoring.{judged, told, record_text}
use Rattle.fr_monitoring.proofs.TextLemmas.{records_more, told_more, judged_more}

-- the records of these bytes have been judged, and the last of them shows the lines
pub record IsJudged (p : Progress) (s t : State) (c : Classic) (front : List ℕ) : Type 0 where
  pub begins : BeginsClassic (take_bytes p front) c
  pub state_is : t ≡ judged s (records_from p front)
  pub text_is : lines_text t.lines ≡ told false s (records_from p front)

told_one : (s : State) (r : Record) → told false s (r ∷ []) ≡ lines_text (judge s r).lines
unfolding told
told_one s r = append-nil (record_text false s r)

pub judged_next : (p : Progress) (s t t' : State) (c : Classic) (piece rest head : List ℕ) (taken : ℕ) (r : Record)
    → BeginsClassic (take_bytes p (take taken piece)) c
    → t ≡ judged s (records_from p (take taken piece))
    → told false s (records_from p (take taken piece)) ≡ []
    → rest ≡ drop taken piece → IsWhole c rest head
    → r ≡ record_of (after_whole (take_bytes p (take taken piece)) c rest head).state (head_in c head)
    → t' ≡ judge t r
    → IsJudged p s t' c (take (taken + (16 + captured_in c head)) piece)
judged_next p s t t' c piece rest head taken r begins state silent rest_is whole r_is is =
    let n = 16 + captured_in c head in
    let q = take_bytes p (take taken piece) in
    let front = take taken piece in
    let done = after_whole q c rest head in
    let steps = whole_steps q c rest head begins whole in
    let cut : take (taken + n) piece ≡ front ++ take n rest =
    take-add taken n piece ∙ ap (λ (u : List ℕ). front ++ take n u) (sym rest_is) in
    let progress : take_bytes p (take (taken + n) piece) ≡ done =
    ap (take_bytes p) cut ∙ fold-append take_byte p front (take n rest) ∙ sym steps.0 in
    let one : records_from q (take n rest) ≡ r ∷ [] = steps.1 ∙ ap (λ (x : Record). x ∷ []) (sym r_is) in
    let all : records_from p (take (taken + n) piece) ≡ records_from p front ++ r ∷ [] =
    ap (records_from p) cut
    ∙ records_more front (take n rest) p
    ∙ ap (λ (u : List Record). records_from p front ++ u) one in
    let before : State = judged s (records_from p front) in
    let now : t' ≡ judge before r = is ∙ ap (λ (u : State). judge u r) state in
    record {
      begins = subst (λ (x : Progress). BeginsClassic x c) (sym progress) (begins_again q c rest head begins);
      state_is = now ∙ sym (judged_more s (records_from p front) (r ∷ [])) ∙ ap (judged s) (sym all);
      text_is = ap (λ (u : State). lines_text u.lines) now
          ∙ sym (told_one before r)
          ∙ ap (λ (u : List ℕ). u ++ told false before (r ∷ [])) (sym silent)
          ∙ sym (told_more false s (records_from p front) (r ∷ []))
          ∙ ap (told false s) (sym all);
    }

-- the next record, with its numbers and bytes as the code takes them
pub judged_there : (p : Progress) (s t t' : State) (c : Classic) (piece head : List ℕ) (taken n original : ℕ) (time : ℤ)
    → BeginsClassic (take_bytes p (take taken piece)) c
    → t ≡ judged s (records_from p (take taken piece))
    → told false s (records_from p (take taken piece)) ≡ []
    → IsWhole c (take (length piece - taken) (drop taken piece)) head
    → n ≡ captured_in c head → time ≡ time_in c head → original ≡ original_in c head
    → t' ≡ judge t (record {
      time = Some time;
      link = c.link;
      original = original;
      bytes = take (taken + 16 + n - (taken + 16)) (drop (taken + 16) piece);
    })
    → IsJudged p s t' c (take (taken + 16 + n) piece)
judged_there p s t t' c piece head taken n original time begins state silent whole n_is time_is original_is is =
    let rest = take (length piece - taken) (drop taken piece) in
    let rest_is : rest ≡ drop taken piece = take_rest piece taken in
    let count : taken + 16 + n - (taken + 16) ≡ captured_in c head = omega (arith, n_is) in
    let bytes_is : take (taken + 16 + n - (taken + 16)) (drop (taken + 16) piece)
    ≡ take (captured_in c head) (drop 16 rest) =
    ap (λ (k : ℕ). take k (drop (taken + 16) piece)) count
    ∙ ap (take (captured_in c head)) (sym (drop-drop 16 taken piece))
    ∙ ap (λ (u : List ℕ). take (captured_in c head) (drop 16 u)) (sym rest_is) in
    let q = take_bytes p (take taken piece) in
    let r : Record = record {
      time = Some time;
      link = c.link;
      original = original;
      bytes = take (taken + 16 + n - (taken + 16)) (drop (taken + 16) piece);
    } in
    let r_is : r ≡ record_of (after_whole q c rest head).state (head_in c head) =
    λ i. record { time = Some (time_is i); link = c.link; original = original_is i; bytes = bytes_is i } in
    let sum : taken + (16 + captured_in c head) ≡ taken + 16 + n = omega (arith, n_is) in
    subst (λ (m : ℕ). IsJudged p s t' c (take m piece)) sum
    (judged_next p s t t' c piece rest head taken r begins state silent rest_is whole r_is is)

pub told_empty : (s : State) → told false s [] ≡ []
unfolding told
told_empty s = refl

pub no_lines : (lines : List Line) → (length lines == 0) ≡ true → lines_text lines ≡ []
no_lines [] none = refl
no_lines (line ∷ lines) none =
    let zero_long : length (line ∷ lines) ≡ 0 = eqb-true (length (line ∷ lines)) 0 none in
    absurd (omega arith)

pub ends_within : (c : Classic) (piece head : List ℕ) (taken n : ℕ) → taken ≤ length piece
    → IsWhole c (take (length piece - taken) (drop taken piece)) head → n ≡ captured_in c head
    → taken + 16 + n ≤ length piece
ends_within c piece head taken n within whole n_is =
    let long : length (take (length piece - taken) (drop taken piece)) ≡ length piece - taken =
    ap length (take_rest piece taken) ∙ length-drop taken piece in
    omega (arith, within, whole.whole, long, n_is)
