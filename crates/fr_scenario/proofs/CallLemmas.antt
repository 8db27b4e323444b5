-- Words spell at most one call of a task, and the words of a call are read as this call.
use Rattle.std.proofs.Common.{◌≡◌, ℕ, inl, inr, List, [], ◌∷◌, codes, None, Some, refl, sym, subst, ◌∙◌, arith}
use Rattle.std.proofs.Common.{if◌then◌else◌}
use Rattle.std.specs.Str.{bytes_eq}
use Rattle.fr_interface.specs.declared.call.Call.{Call}
use Rattle.fr_interface.specs.declared.call.Call.TheVariants.{Commit, Withdraw, Read, Pop}
use Rattle.fr_lines.proofs.PartLemmas.{word_or}
use Rattle.fr_lines.proofs.PlanPartLemmas.{payload_takes, payload_again}
use Rattle.fr_lines.specs.PartReading.{payload_in}
use Rattle.fr_scenario.specs.declared.version.Version.{Version}
use Rattle.fr_scenario.specs.declared.version.Version.TheVariants.{One, Two}
use Rattle.fr_scenario.specs.CallReading.{commit_in, withdraw_in, read_in, pop_in, call_in}
use Rattle.fr_scenario.specs.LineReading.{told_call_in}
use Rattle.fr_scenario.specs.Spelled.{IsSpelledCall}
use Rattle.fr_scenario.specs.Spelling.{kind_word, call_words}
use Rattle.fr_text.proofs.BindLemmas.{bind_some}
use Rattle.fr_text.proofs.LineLemmas.{cons_same}
use Rattle.fr_text.proofs.NumberLemmas.{number_takes, number_again}
use Rattle.fr_text.specs.Reading.{number_in}

-- ---- words that are read as a call spell it

-- the words are those of the call, and the call is in range
abbrev pub IsTold : Version → List ℕ → List (List ℕ) → Call → Type 0
IsTold version kind words call = (kind ≡ kind_word call) × (words ≡ call_words call) × IsSpelledCall version call

commit_takes : (words : List (List ℕ)) (call : Call) → commit_in words ≡ Some call
    → IsTold Two (codes "commit") words call
unfolding commit_in
commit_takes [] call h = cc h
commit_takes (a ∷ []) call h = cc h
commit_takes (a ∷ b ∷ []) call h =
    let (m, hm, h1) = bind_some (number_in 64 a) _ call h in
    let (p, hp, h2) = bind_some (payload_in b) _ call h1 in
    let is : Commit m p ≡ call = cc h2 in
    let buffer = number_takes 64 a m hm in
    let payload = payload_takes b p hp in
    rw (← is)
    (refl, cons_same (sym buffer.0) (cons_same payload.0 refl), (buffer.1, payload.1, payload.2))
commit_takes (a ∷ b ∷ c ∷ words) call h = cc h

withdraw_takes : (words : List (List ℕ)) (call : Call) → withdraw_in words ≡ Some call
    → IsTold Two (codes "withdraw") words call
unfolding withdraw_in
withdraw_takes [] call h = cc h
withdraw_takes (a ∷ []) call h =
    let (m, hm, h1) = bind_some (number_in 64 a) _ call h in
    let is : Withdraw m ≡ call = cc h1 in
    let buffer = number_takes 64 a m hm in
    rw (← is) (refl, cons_same (sym buffer.0) refl, buffer.1)
withdraw_takes (a ∷ b ∷ words) call h = cc h

read_takes : (words : List (List ℕ)) (call : Call) → read_in words ≡ Some call
    → IsTold Two (codes "read") words call
unfolding read_in
read_takes [] call h = cc h
read_takes (a ∷ []) call h =
    let (m, hm, h1) = bind_some (number_in 64 a) _ call h in
    let is : Read m ≡ call = cc h1 in
    let buffer = number_takes 64 a m hm in
    rw (← is) (refl, cons_same (sym buffer.0) refl, buffer.1)
read_takes (a ∷ b ∷ words) call h = cc h

pop_takes : (words : List (List ℕ)) (call : Call) → pop_in words ≡ Some call
    → IsTold Two (codes "pop") words call
unfolding pop_in
pop_takes [] call h =
    let is : Pop ≡ call = cc h in
    rw (← is) (refl, refl, tt)
pop_takes (a ∷ words) call h = cc h

call_takes : (kind : List ℕ) (words : List (List ℕ)) (call : Call) → call_in kind words ≡ Some call
    → IsTold Two kind words call
unfolding call_in
call_takes kind words call h =
    elim (word_or kind (codes "commit") (commit_in words) _ call h) [
      | inl commit ↦ let t = commit_takes words call commit.1 in (commit.0 ∙ t.0, t.1, t.2)
      | inr h1 ↦
          elim (word_or kind (codes "withdraw") (withdraw_in words) _ call h1) [
            | inl withdraw ↦ let t = withdraw_takes words call withdraw.1 in (withdraw.0 ∙ t.0, t.1, t.2)
            | inr h2 ↦
                elim (word_or kind (codes "read") (read_in words) _ call h2) [
                  | inl read ↦ let t = read_takes words call read.1 in (read.0 ∙ t.0, t.1, t.2)
                  | inr h3 ↦
                      elim (word_or kind (codes "pop") (pop_in words) _ call h3) [
                        | inl pop ↦ let t = pop_takes words call pop.1 in (pop.0 ∙ t.0, t.1, t.2)
                        | inr h4 ↦ cc h4
                      ]
                ]
          ]
    ]

-- a call that version 1 tells isn't a withdraw
fits_one : (kind : List ℕ) (words : List (List ℕ)) (call : Call) → told_call_in One kind words ≡ Some call
    → kind ≡ kind_word call → IsSpelledCall Two call → IsSpelledCall One call
unfolding told_call_in
fits_one kind words (Commit buffer payload) h is fits = fits
fits_one kind words (Withdraw buffer) h is fits =
    let none : None ≡ Some (Withdraw buffer) =
    subst (λ (k : List ℕ). (if bytes_eq k (codes "withdraw") then None else call_in k words)
    ≡ Some (Withdraw buffer)) is h in
    absurd (cc none)
fits_one kind words (Read buffer) h is fits = fits
fits_one kind words Pop h is fits = fits

pub told_takes : (version : Version) (kind : List ℕ) (words : List (List ℕ)) (call : Call)
    → told_call_in version kind words ≡ Some call → IsTold version kind words call
unfolding told_call_in
told_takes One kind words call h =
    elim (word_or kind (codes "withdraw") None (call_in kind words) call h) [
      | inl withdraw ↦ cc withdraw.1
      | inr h1 ↦ let t = call_takes kind words call h1 in (t.0, t.1, fits_one kind words call h t.0 t.2)
    ]
told_takes Two kind words call h = call_takes kind words call h

-- ---- the words of a call are read as this call

call_again : (call : Call) → IsSpelledCall Two call → call_in (kind_word call) (call_words call) ≡ Some call
unfolding call_in commit_in withdraw_in read_in pop_in
call_again (Commit buffer payload) bytes =
    rw (number_again 64 buffer bytes.0 (omega arith), payload_again payload bytes.1 bytes.2) refl
call_again (Withdraw buffer) few = rw (number_again 64 buffer few (omega arith)) refl
call_again (Read buffer) few = rw (number_again 64 buffer few (omega arith)) refl
call_again Pop fits = refl

pub told_again : (version : Version) (call : Call) → IsSpelledCall version call
    → told_call_in version (kind_word call) (call_words call) ≡ Some call
unfolding told_call_in
told_again One (Commit buffer payload) fits = call_again (Commit buffer payload) fits
told_again One (Withdraw buffer) fits = absurd fits
told_again One (Read buffer) fits = call_again (Read buffer) fits
told_again One Pop fits = call_again Pop fits
told_again Two call fits = call_again call fits
