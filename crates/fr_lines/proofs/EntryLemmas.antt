-- The line of an entry, for the entries that are read.
use Rattle.std.proofs.Common.{◌≡◌, ℕ, ◌≤◌, ◌^◌, inl, inr, true, false, List, [], ◌∷◌, length, codes, Option, None, Some}
use Rattle.std.proofs.Common.{refl, sym, ap, ◌∙◌, arith, if◌then◌else◌}
use Rattle.std.proofs.lemmas.Bool.{cases_Bool}
use Rattle.std.specs.Fmt.{decimal}
use Rattle.std.specs.Str.{bytes_eq}
use Rattle.fr_journal.specs.Forms.{Entry}
use Rattle.fr_journal.specs.declared.entry.Entry.TheVariants.{Commit, Withdraw, Read, Pop, Fetch, Observe}
use Rattle.fr_lines.proofs.PartLemmas.{word_or, from_takes, from_again, offered_takes, offered_again, seen_takes}
use Rattle.fr_lines.proofs.PartLemmas.{seen_again, taken_back_takes, taken_back_again}
use Rattle.fr_lines.proofs.PlanPartLemmas.{payload_takes, payload_again}
use Rattle.fr_lines.proofs.WindowLemmas.{window_takes, window_again}
use Rattle.fr_lines.proofs.WordLemmas.{number_word, long_word, payload_word, slot_word, from_plain, offered_plain}
use Rattle.fr_lines.proofs.WordLemmas.{seen_plain, taken_back_plain}
use Rattle.fr_lines.specs.declared.versions.Version.{Version}
use Rattle.fr_lines.specs.PartReading.{payload_in, taken_back_in, from_in, offered_in, seen_in, window_in}
use Rattle.fr_lines.specs.Parts.{optional_number, from_word, offered_word, seen_word}
use Rattle.fr_lines.specs.Reading.{commit_in, told_withdraw_in, withdraw_in, read_in, pop_in, fetch_in}
use Rattle.fr_lines.specs.Reading.{observe_in, entry_in}
use Rattle.fr_lines.specs.Spelled.{IsSpelledEntry}
use Rattle.fr_lines.specs.Spelling.{entry_words, begin_line, end_line}
use Rattle.fr_lines.specs.Versions.{has_withdraws, tells}
use Rattle.fr_slots.specs.Windows.{IsInRange}
use Rattle.fr_text.proofs.BindLemmas.{bind_some}
use Rattle.fr_text.proofs.LineLemmas.{cons_same, line_of-words_of, words_of-line_of, has_no_feed-line_of}
use Rattle.fr_text.proofs.LineLemmas.{length-line_of-le}
use Rattle.fr_text.proofs.NumberLemmas.{number_takes, number_again}
use Rattle.fr_text.specs.Plain.{ArePlain, has_no_feed}
use Rattle.fr_text.specs.Reading.{number_in}
use Rattle.fr_text.specs.Spaces.{words_of, line_of}
use Rattle.fr_text.specs.Spelling.{hex_text}

-- ---- an entry that is read is spelled by these words

abbrev Takes : Version → List (List ℕ) → Entry → Type 0
Takes v words e = (words ≡ entry_words e) × IsSpelledEntry e × (tells v e ≡ true)

commit_takes : (v : Version) (words : List (List ℕ)) (e : Entry) → commit_in words ≡ Some e
    → Takes v (codes "commit" ∷ words) e
unfolding commit_in
commit_takes v [] e h = cc h
commit_takes v (a ∷ []) e h = cc h
commit_takes v (a ∷ b ∷ []) e h = cc h
commit_takes v (a ∷ b ∷ c ∷ []) e h =
    let (t, ht, h1) = bind_some (number_in 8 a) _ e h in
    let (n, hn, h2) = bind_some (number_in 64 b) _ e h1 in
    let (p, hp, h3) = bind_some (payload_in c) _ e h2 in
    let is : Commit t n p ≡ e = cc h3 in
    let task = number_takes 8 a t ht in
    let buffer = number_takes 64 b n hn in
    let payload = payload_takes c p hp in
    let low = task.1 in
    let few = buffer.1 in
    rw (← is) (
      cons_same refl (cons_same (sym task.0) (cons_same (sym buffer.0) (cons_same payload.0 refl))),
      ((low, omega arith, payload.1, payload.2), few),
      refl,
    )
commit_takes v (a ∷ b ∷ c ∷ d ∷ words) e h = cc h

told_withdraw_takes : (v : Version) (words : List (List ℕ)) (e : Entry) → has_withdraws v ≡ true
    → told_withdraw_in words ≡ Some e → Takes v (codes "withdraw" ∷ words) e
unfolding told_withdraw_in
told_withdraw_takes v [] e told h = cc h
told_withdraw_takes v (a ∷ []) e told h = cc h
told_withdraw_takes v (a ∷ b ∷ []) e told h = cc h
told_withdraw_takes v (a ∷ b ∷ c ∷ []) e told h =
    let (t, ht, h1) = bind_some (number_in 8 a) _ e h in
    let (n, hn, h2) = bind_some (number_in 64 b) _ e h1 in
    let (of, ho, h3) = bind_some (taken_back_in c) _ e h2 in
    let is : Withdraw t n of ≡ e = cc h3 in
    let task = number_takes 8 a t ht in
    let buffer = number_takes 64 b n hn in
    let commit = taken_back_takes c of ho in
    let low = task.1 in
    let few = buffer.1 in
    rw (← is) (
      cons_same refl (cons_same (sym task.0) (cons_same (sym buffer.0) (cons_same commit.0 refl))),
      ((low, omega arith, commit.1), few),
      told,
    )
told_withdraw_takes v (a ∷ b ∷ c ∷ d ∷ words) e told h = cc h

withdraw_takes : (v : Version) (words : List (List ℕ)) (e : Entry) → withdraw_in v words ≡ Some e
    → Takes v (codes "withdraw" ∷ words) e
unfolding withdraw_in
withdraw_takes v words e h =
    elim (cases_Bool (has_withdraws v)) [
      | inl told ↦ told_withdraw_takes v words e told (rw told at h)
      | inr untold ↦ cc (rw untold at h)
    ]

read_takes : (v : Version) (words : List (List ℕ)) (e : Entry) → read_in words ≡ Some e
    → Takes v (codes "read" ∷ words) e
unfolding read_in
read_takes v [] e h = cc h
read_takes v (a ∷ []) e h = cc h
read_takes v (a ∷ b ∷ []) e h = cc h
read_takes v (a ∷ b ∷ c ∷ []) e h =
    let (t, ht, h1) = bind_some (number_in 8 a) _ e h in
    let (n, hn, h2) = bind_some (number_in 64 b) _ e h1 in
    let (from, hf, h3) = bind_some (from_in c) _ e h2 in
    let is : Read t n from ≡ e = cc h3 in
    let task = number_takes 8 a t ht in
    let buffer = number_takes 64 b n hn in
    let origin = from_takes c from hf in
    let low = task.1 in
    let few = buffer.1 in
    rw (← is) (
      cons_same refl (cons_same (sym task.0) (cons_same (sym buffer.0) (cons_same origin.0 refl))),
      ((low, omega arith, origin.1), few),
      refl,
    )
read_takes v (a ∷ b ∷ c ∷ d ∷ words) e h = cc h

pop_takes : (v : Version) (words : List (List ℕ)) (e : Entry) → pop_in words ≡ Some e → Takes v (codes "pop" ∷ words) e
unfolding pop_in
pop_takes v [] e h = cc h
pop_takes v (a ∷ []) e h = cc h
pop_takes v (a ∷ b ∷ []) e h =
    let (t, ht, h1) = bind_some (number_in 8 a) _ e h in
    let (from, hf, h2) = bind_some (from_in b) _ e h1 in
    let is : Pop t from ≡ e = cc h2 in
    let task = number_takes 8 a t ht in
    let origin = from_takes b from hf in
    rw (← is) (cons_same refl (cons_same (sym task.0) (cons_same origin.0 refl)), (task.1, origin.1), refl)
pop_takes v (a ∷ b ∷ c ∷ words) e h = cc h

fetch_takes : (v : Version) (words : List (List ℕ)) (e : Entry) → fetch_in words ≡ Some e
    → Takes v (codes "fetch" ∷ words) e
unfolding fetch_in
fetch_takes v [] e h = cc h
fetch_takes v (n ∷ []) e h = cc h
fetch_takes v (n ∷ c ∷ []) e h = cc h
fetch_takes v (n ∷ c ∷ m ∷ []) e h = cc h
fetch_takes v (n ∷ c ∷ m ∷ sa ∷ []) e h = cc h
fetch_takes v (n ∷ c ∷ m ∷ sa ∷ sb ∷ []) e h = cc h
fetch_takes v (n ∷ c ∷ m ∷ sa ∷ sb ∷ oa ∷ []) e h = cc h
fetch_takes v (n ∷ c ∷ m ∷ sa ∷ sb ∷ oa ∷ ob ∷ []) e h =
    let (w, hw, h1) = bind_some (window_in n c m sa sb) _ e h in
    let (a, ha, h2) = bind_some (offered_in oa) _ e h1 in
    let (b, hb, h3) = bind_some (offered_in ob) _ e h2 in
    let is : Fetch w a b ≡ e = cc h3 in
    let window = window_takes n c m sa sb w hw in
    let words = window.0 in
    let fits = window.1 in
    let ta = offered_takes oa a ha in
    let tb = offered_takes ob b hb in
    let rest = cons_same words.slot_a_is (cons_same words.slot_b_is (cons_same ta.0 (cons_same tb.0 refl))) in
    rw (← is) (
      cons_same refl (cons_same words.number_is (cons_same words.cycle_is (cons_same words.minislot_is rest))),
      record { window_is = fits; a_fits = ta.1; b_fits = tb.1 },
      refl,
    )
fetch_takes v (n ∷ c ∷ m ∷ sa ∷ sb ∷ oa ∷ ob ∷ more ∷ words) e h = cc h

observe_takes : (v : Version) (words : List (List ℕ)) (e : Entry) → observe_in words ≡ Some e
    → Takes v (codes "see" ∷ words) e
unfolding observe_in
observe_takes v [] e h = cc h
observe_takes v (w ∷ []) e h = cc h
observe_takes v (w ∷ sa ∷ []) e h = cc h
observe_takes v (w ∷ sa ∷ sb ∷ []) e h =
    let (n, hn, h1) = bind_some (number_in (2 ^ 32) w) _ e h in
    let (a, ha, h2) = bind_some (seen_in sa) _ e h1 in
    let (b, hb, h3) = bind_some (seen_in sb) _ e h2 in
    let is : Observe n a b ≡ e = cc h3 in
    let window = number_takes (2 ^ 32) w n hn in
    let ta = seen_takes sa a ha in
    let tb = seen_takes sb b hb in
    rw (← is) (
      cons_same refl (cons_same (sym window.0) (cons_same ta.0 (cons_same tb.0 refl))),
      (window.1, ta.1, tb.1),
      refl,
    )
observe_takes v (w ∷ sa ∷ sb ∷ more ∷ words) e h = cc h

-- the first word, and those after it
taken_of : (v : Version) (kind this : List ℕ) (words : List (List ℕ)) (e : Entry) → kind ≡ this
    → Takes v (this ∷ words) e → Takes v (kind ∷ words) e
taken_of v kind this words e same t = (cons_same same refl ∙ t.0, t.1, t.2)

-- a fetch or an observe, if it is no entry of the host
slot_taken : (v : Version) (kind : List ℕ) (words : List (List ℕ)) (e : Entry)
    → (if bytes_eq kind (codes "fetch") then fetch_in words
    else if bytes_eq kind (codes "see") then observe_in words else None) ≡ Some e
    → Takes v (kind ∷ words) e
slot_taken v kind words e h =
    elim (word_or kind (codes "fetch") (fetch_in words) _ e h) [
      | inl fetch ↦ taken_of v kind (codes "fetch") words e fetch.0 (fetch_takes v words e fetch.1)
      | inr h1 ↦
          elim (word_or kind (codes "see") (observe_in words) _ e h1) [
            | inl see ↦ taken_of v kind (codes "see") words e see.0 (observe_takes v words e see.1)
            | inr h2 ↦ cc h2
          ]
    ]

taken : (v : Version) (words : List (List ℕ)) (e : Entry) → entry_in v words ≡ Some e → Takes v words e
unfolding entry_in
taken v [] e h = cc h
taken v (kind ∷ words) e h =
    elim (word_or kind (codes "commit") (commit_in words) _ e h) [
      | inl commit ↦ taken_of v kind (codes "commit") words e commit.0 (commit_takes v words e commit.1)
      | inr h1 ↦
          elim (word_or kind (codes "withdraw") (withdraw_in v words) _ e h1) [
            | inl withdraw ↦ taken_of v kind (codes "withdraw") words e withdraw.0 (withdraw_takes v words e withdraw.1)
            | inr h2 ↦
                elim (word_or kind (codes "read") (read_in words) _ e h2) [
                  | inl read ↦ taken_of v kind (codes "read") words e read.0 (read_takes v words e read.1)
                  | inr h3 ↦
                      elim (word_or kind (codes "pop") (pop_in words) _ e h3) [
                        | inl pop ↦ taken_of v kind (codes "pop") words e pop.0 (pop_takes v words e pop.1)
                        | inr h4 ↦ slot_taken v kind words e h4
                      ]
                ]
          ]
    ]

pub entry_takes : (v : Version) (words : List (List ℕ)) (e : Entry) → entry_in v words ≡ Some e → words ≡ entry_words e
entry_takes v words e h = (taken v words e h).0

-- an entry that is read is in range
pub entry_fits : (v : Version) (words : List (List ℕ)) (e : Entry) → entry_in v words ≡ Some e → IsSpelledEntry e
entry_fits v words e h = (taken v words e h).1

-- and the version has a line for it
pub entry_told : (v : Version) (words : List (List ℕ)) (e : Entry) → entry_in v words ≡ Some e → tells v e ≡ true
entry_told v words e h = (taken v words e h).2

pub entry_line_takes : (v : Version) (line : List ℕ) (e : Entry) → entry_in v (words_of line) ≡ Some e
    → line ≡ line_of (entry_words e)
entry_line_takes v line e h = sym (line_of-words_of line) ∙ ap line_of (entry_takes v (words_of line) e h)

-- ---- an entry that is spelled is read again

withdraw_again : (v : Version) (task buffer : ℕ) (of : Option ℕ) → IsSpelledEntry (Withdraw task buffer of)
    → has_withdraws v ≡ true
    → withdraw_in v (decimal task ∷ decimal buffer ∷ optional_number of ∷ []) ≡ Some (Withdraw task buffer of)
unfolding withdraw_in told_withdraw_in
withdraw_again v task buffer of fits told =
    rw (
      told,
      number_again 8 task fits.0.0 (omega arith),
      number_again 64 buffer fits.1 (omega arith),
      taken_back_again of fits.0.2,
    ) refl

pub entry_again : (v : Version) (e : Entry) → IsSpelledEntry e → tells v e ≡ true → entry_in v (entry_words e) ≡ Some e
unfolding entry_in commit_in read_in pop_in fetch_in observe_in
entry_again v (Commit task buffer payload) fits told =
    rw (
      number_again 8 task fits.0.0 (omega arith),
      number_again 64 buffer fits.1 (omega arith),
      payload_again payload fits.0.2 fits.0.3,
    ) refl
entry_again v (Withdraw task buffer of) fits told = withdraw_again v task buffer of fits told
entry_again v (Read task buffer from) fits told =
    rw (
      number_again 8 task fits.0.0 (omega arith),
      number_again 64 buffer fits.1 (omega arith),
      from_again from fits.0.2,
    ) refl
entry_again v (Pop task from) fits told = rw (number_again 8 task fits.0 (omega arith), from_again from fits.1) refl
entry_again v (Fetch window a b) fits told =
    let is : IsInRange window = fits.window_is in
    rw (window_again window is, offered_again a fits.a_fits, offered_again b fits.b_fits) refl
entry_again v (Observe window a b) fits told =
    rw (number_again (2 ^ 32) window fits.0 (omega arith), seen_again a fits.1, seen_again b fits.2) refl

-- ---- the words are plain

pub entry_plain : (e : Entry) → IsSpelledEntry e → ArePlain (entry_words e)
entry_plain (Commit task buffer payload) fits =
    let t = fits.0.0 in
    let n = fits.1 in (
      refl,
      (
        (number_word 1 task (omega arith) (omega arith) (omega arith)).plain,
        (
          (number_word 2 buffer (omega arith) (omega arith) (omega arith)).plain,
          ((payload_word payload fits.0.2.short).plain, tt),
        ),
      ),
    )
entry_plain (Withdraw task buffer of) fits =
    let t = fits.0.0 in
    let n = fits.1 in (
      refl,
      (
        (number_word 1 task (omega arith) (omega arith) (omega arith)).plain,
        (
          (number_word 2 buffer (omega arith) (omega arith) (omega arith)).plain,
          ((taken_back_plain of fits.0.2).plain, tt),
        ),
      ),
    )
entry_plain (Read task buffer from) fits =
    let t = fits.0.0 in
    let n = fits.1 in (
      refl,
      (
        (number_word 1 task (omega arith) (omega arith) (omega arith)).plain,
        (
          (number_word 2 buffer (omega arith) (omega arith) (omega arith)).plain,
          ((from_plain from fits.0.2).plain, tt),
        ),
      ),
    )
entry_plain (Pop task from) fits =
    let t = fits.0 in
    (refl, ((number_word 1 task (omega arith) (omega arith) (omega arith)).plain, ((from_plain from fits.1).plain, tt)))
entry_plain (Fetch window a b) fits =
    let c = fits.window_is.cycle_fits in
    let m = fits.window_is.window_is.minislot_fits in (
      refl,
      (
        (long_word window.number fits.window_is.number_fits).plain,
        (
          (number_word 2 window.cycle (omega arith) (omega arith) (omega arith)).plain,
          (
            (number_word 4 window.minislot (omega arith) (omega arith) (omega arith)).plain,
            (
              (slot_word window.a fits.window_is.slot_a).plain,
              (
                (slot_word window.b fits.window_is.slot_b).plain,
                ((offered_plain a fits.a_fits).plain, ((offered_plain b fits.b_fits).plain, tt)),
              ),
            ),
          ),
        ),
      ),
    )
entry_plain (Observe window a b) fits =
    (refl, ((long_word window fits.0).plain, ((seen_plain a fits.1).plain, ((seen_plain b fits.2).plain, tt))))

pub entry_no_feed : (e : Entry) → IsSpelledEntry e → has_no_feed (line_of (entry_words e)) ≡ true
entry_no_feed e fits = has_no_feed-line_of (entry_words e) (entry_plain e fits)

-- so the line is cut into them
pub entry_cut : (e : Entry) → IsSpelledEntry e → words_of (line_of (entry_words e)) ≡ entry_words e
entry_cut (Commit task buffer payload) fits =
    words_of-line_of (codes "commit") (decimal task ∷ decimal buffer ∷ hex_text payload ∷ [])
    (entry_plain (Commit task buffer payload) fits)
entry_cut (Withdraw task buffer of) fits =
    words_of-line_of (codes "withdraw") (decimal task ∷ decimal buffer ∷ optional_number of ∷ [])
    (entry_plain (Withdraw task buffer of) fits)
entry_cut (Read task buffer from) fits =
    words_of-line_of (codes "read") (decimal task ∷ decimal buffer ∷ from_word from ∷ [])
    (entry_plain (Read task buffer from) fits)
entry_cut (Pop task from) fits =
    words_of-line_of (codes "pop") (decimal task ∷ from_word from ∷ []) (entry_plain (Pop task from) fits)
entry_cut (Fetch window a b) fits =
    words_of-line_of (codes "fetch")
    (decimal window.number ∷ decimal window.cycle ∷ decimal window.minislot ∷ optional_number window.a
    ∷ optional_number window.b ∷ offered_word a ∷ offered_word b ∷ [])
    (entry_plain (Fetch window a b) fits)
entry_cut (Observe window a b) fits =
    words_of-line_of (codes "see") (decimal window ∷ seen_word a ∷ seen_word b ∷ [])
    (entry_plain (Observe window a b) fits)

pub entry_line_again : (v : Version) (e : Entry) → IsSpelledEntry e → tells v e ≡ true
    → entry_in v (words_of (line_of (entry_words e))) ≡ Some e
entry_line_again v e fits told = ap (entry_in v) (entry_cut e fits) ∙ entry_again v e fits told

-- ---- the line is short

pub entry_short : (e : Entry) → IsSpelledEntry e → length (line_of (entry_words e)) ≤ 1200
entry_short (Commit task buffer payload) fits =
    let t = fits.0.0 in
    let n = fits.1 in
    let task_short = (number_word 1 task (omega arith) (omega arith) (omega arith)).short in
    let buffer_short = (number_word 2 buffer (omega arith) (omega arith) (omega arith)).short in
    let payload_short = (payload_word payload fits.0.2.short).short in
    let all = length-line_of-le (entry_words (Commit task buffer payload)) in
    omega arith
entry_short (Withdraw task buffer of) fits =
    let t = fits.0.0 in
    let n = fits.1 in
    let task_short = (number_word 1 task (omega arith) (omega arith) (omega arith)).short in
    let buffer_short = (number_word 2 buffer (omega arith) (omega arith) (omega arith)).short in
    let of_short = (taken_back_plain of fits.0.2).short in
    let all = length-line_of-le (entry_words (Withdraw task buffer of)) in
    omega arith
entry_short (Read task buffer from) fits =
    let t = fits.0.0 in
    let n = fits.1 in
    let task_short = (number_word 1 task (omega arith) (omega arith) (omega arith)).short in
    let buffer_short = (number_word 2 buffer (omega arith) (omega arith) (omega arith)).short in
    let from_short = (from_plain from fits.0.2).short in
    let all = length-line_of-le (entry_words (Read task buffer from)) in
    omega arith
entry_short (Pop task from) fits =
    let t = fits.0 in
    let task_short = (number_word 1 task (omega arith) (omega arith) (omega arith)).short in
    let from_short = (from_plain from fits.1).short in
    let all = length-line_of-le (entry_words (Pop task from)) in
    omega arith
entry_short (Fetch window a b) fits =
    let c = fits.window_is.cycle_fits in
    let m = fits.window_is.window_is.minislot_fits in
    let number_short = (long_word window.number fits.window_is.number_fits).short in
    let cycle_short = (number_word 2 window.cycle (omega arith) (omega arith) (omega arith)).short in
    let minislot_short = (number_word 4 window.minislot (omega arith) (omega arith) (omega arith)).short in
    let slot_a_short = (slot_word window.a fits.window_is.slot_a).short in
    let slot_b_short = (slot_word window.b fits.window_is.slot_b).short in
    let a_short = (offered_plain a fits.a_fits).short in
    let b_short = (offered_plain b fits.b_fits).short in
    let all = length-line_of-le (entry_words (Fetch window a b)) in
    omega arith
entry_short (Observe window a b) fits =
    let window_short = (long_word window fits.0).short in
    let a_short = (seen_plain a fits.1).short in
    let b_short = (seen_plain b fits.2).short in
    let all = length-line_of-le (entry_words (Observe window a b)) in
    omega arith

-- ---- no entry's line begins or ends the entries

pub entry_not_begin : (e : Entry) → bytes_eq (line_of (entry_words e)) begin_line ≡ false
entry_not_begin (Commit task buffer payload) = refl
entry_not_begin (Withdraw task buffer of) = refl
entry_not_begin (Read task buffer from) = refl
entry_not_begin (Pop task from) = refl
entry_not_begin (Fetch window a b) = refl
entry_not_begin (Observe window a b) = refl

pub entry_not_end : (e : Entry) → bytes_eq (line_of (entry_words e)) end_line ≡ false
entry_not_end (Commit task buffer payload) = refl
entry_not_end (Withdraw task buffer of) = refl
entry_not_end (Read task buffer from) = refl
entry_not_end (Pop task from) = refl
entry_not_end (Fetch window a b) = refl
entry_not_end (Observe window a b) = refl
