-- The report, with one more buffer.
use Rattle.std.proofs.Common.{◌≡◌, ℕ, zero, suc, ◌+◌, ◌<◌, true, false, cond, List, [], ◌∷◌, ◌++◌, length, take, Some}
use Rattle.std.proofs.Common.{None, refl, sym, ap, ◌∙◌, append_assoc, append-nil, arith}
use Rattle.std.specs.Prelude.{slice_get}
use Rattle.fr_journal.specs.Fate.{tally_of}
use Rattle.fr_journal.specs.Held.{held}
use Rattle.fr_interface.specs.State.{State, received_by, tally_by}
use Rattle.fr_slots.specs.declared.plan.Buffer.{Buffer}
use Rattle.fr_slots.specs.Plans.{is_receive, buffer_at}
use Rattle.fr_trace.specs.ReportText.{answer_words, reports_from, buffer_report, report_words, held_words, tally_words}
use Rattle.fr_lines.specs.Spelling.{line_text}
use Rattle.fr_text.specs.Spaces.{line_of}

-- the buffer of a number in range
line_at : (buffers : List Buffer) (place : ℕ) → place < length buffers
    → (b : Buffer) × (slice_get buffers place ≡ Some b)
line_at [] place lt = absurd (omega arith)
line_at (b ∷ buffers) zero lt = (b, refl)
line_at (b ∷ buffers) (suc place) lt = line_at buffers place (omega arith)

-- the answers of the interface about a buffer make its line
answers_is : (s : State) (number : ℕ) (b : Buffer) → buffer_at s.plan number ≡ Some b
    → report_words s number b ≡ answer_words number (tally_by s number) (received_by s number)
answers_is s number b is =
    let held_there = held s.params b.filter s.entries in
    let tally = tally_of number s.entries in
    rw is (elim (is_receive b.mode) as (λ r. cond r (held_words number held_there) (tally_words number tally)
    ≡ answer_words number (cond r None (Some tally)) (cond r held_there None)) [
      | true ↦ refl
      | false ↦ refl
    ])

reports-more : (s : State) (number place : ℕ) (buffers : List Buffer) (b : Buffer) → slice_get buffers place ≡ Some b
    → reports_from s number (take (place + 1) buffers) ≡ reports_from s number (take place buffers) ++ buffer_report s
    (number + place) b
unfolding reports_from
reports-more s number place [] b is = cc is
reports-more s number zero (x ∷ buffers) b is =
    let same : x ≡ b = cc is in
    let place : number ≡ number + 0 = omega arith in
    append-nil (buffer_report s number x) ∙ ap (buffer_report s number) same ∙ ap (λ (n : ℕ). buffer_report s n b) place
reports-more s number (suc place) (x ∷ buffers) b is =
    let next : suc place + 1 ≡ suc (place + 1) = omega arith in
    let here : number + 1 + place ≡ number + suc place = omega arith in
    ap (λ (n : ℕ). reports_from s number (take n (x ∷ buffers))) next
    ∙ ap (λ (t : List ℕ). buffer_report s number x ++ t) (reports-more s (number + 1) place buffers b is ∙ ap
    (λ (n : ℕ). reports_from s (number + 1) (take place buffers) ++ buffer_report s n b) here)
    ∙ sym (append_assoc (buffer_report s number x) (reports_from s (number + 1) (take place buffers))
    (buffer_report s (number + suc place) b))

-- one more line
pub report-more : (s : State) (place : ℕ) → place < length s.plan.buffers
    → reports_from s 0 (take (place + 1) s.plan.buffers) ≡ reports_from s 0 (take place s.plan.buffers) ++ line_text
    (answer_words place (tally_by s place) (received_by s place))
report-more s place lt =
    let (b, is) = line_at s.plan.buffers place lt in
    let here : 0 + place ≡ place = omega arith in
    reports-more s 0 place s.plan.buffers b is
    ∙ ap (λ (n : ℕ). reports_from s 0 (take place s.plan.buffers) ++ buffer_report s n b) here
    ∙ ap (λ (w : List (List ℕ)). reports_from s 0 (take place s.plan.buffers) ++ line_text w) (answers_is s place b is)

pub report-none : (s : State) → reports_from s 0 (take 0 s.plan.buffers) ≡ []
unfolding reports_from
report-none s = refl

-- a line without its first three words, and the whole line
pub line-behind_three : (a b c d : List ℕ) (words : List (List ℕ))
    → line_text (a ∷ b ∷ c ∷ d ∷ words) ≡ (a ++ 32 ∷ (b ++ 32 ∷ c)) ++ (32 ∷ line_text (d ∷ words))
line-behind_three a b c d words =
    let rest = line_of (d ∷ words) in
    append_assoc a (32 ∷ (b ++ 32 ∷ (c ++ 32 ∷ rest))) (10 ∷ [])
    ∙ ap (λ (t : List ℕ). a ++ 32 ∷ t) (append_assoc b (32 ∷ (c ++ 32 ∷ rest)) (10 ∷ []))
    ∙ ap (λ (t : List ℕ). a ++ 32 ∷ (b ++ 32 ∷ t)) (append_assoc c (32 ∷ rest) (10 ∷ []))
    ∙ ap (λ (t : List ℕ). a ++ 32 ∷ t) (sym (append_assoc b (32 ∷ c) (32 ∷ (rest ++ 10 ∷ []))))
    ∙ sym (append_assoc a (32 ∷ (b ++ 32 ∷ c)) (32 ∷ (rest ++ 10 ∷ [])))
