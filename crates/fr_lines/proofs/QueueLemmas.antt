-- The line of a receive FIFO.
use Rattle.std.proofs.Common.{◌≡◌, ℕ, ◌≤◌, ◌&&◌, inl, inr, true, false, List, [], ◌∷◌, length, codes, None, Some, refl}
use Rattle.std.proofs.Common.{sym, ap, ◌∙◌, arith}
use Rattle.std.proofs.lemmas.Bool.{and_parts, cases_Bool, leb-true}
use Rattle.std.specs.Prelude.{nat_le}
use Rattle.std.specs.Fmt.{decimal}
use Rattle.std.specs.Str.{bytes_eq}
use Rattle.fr_lines.proofs.PartLemmas.{word_or, slot_takes, slot_again, channels_takes, channels_again, cycles_takes}
use Rattle.fr_lines.proofs.PartLemmas.{cycles_again, repetition_small}
use Rattle.fr_lines.proofs.WordLemmas.{number_word, channels_plain}
use Rattle.fr_lines.specs.PartReading.{slot_in, channels_in, cycles_in}
use Rattle.fr_lines.specs.Parts.{channels_word}
use Rattle.fr_lines.specs.Reading.{fitting_queue, reception_in, queue_in, own_in, buffer_in}
use Rattle.fr_lines.specs.Spelled.{IsSpelledQueue}
use Rattle.fr_lines.specs.declared.versions.Version.{Version}
use Rattle.fr_lines.specs.Spelling.{queue_words, begin_line}
use Rattle.fr_slots.specs.declared.plan.Queue.{Queue}
use Rattle.fr_slots.specs.Plans.{queue_fits}
use Rattle.fr_text.proofs.BindLemmas.{bind_some}
use Rattle.fr_text.proofs.LineLemmas.{cons_same, line_of-words_of, words_of-line_of, has_no_feed-line_of}
use Rattle.fr_text.proofs.LineLemmas.{length-line_of-le}
use Rattle.fr_text.proofs.NumberLemmas.{number_takes, number_again}
use Rattle.fr_text.specs.Plain.{ArePlain, has_no_feed}
use Rattle.fr_text.specs.Reading.{number_in}
use Rattle.fr_text.specs.Spaces.{words_of, line_of}

-- ---- a receive FIFO that is read is spelled by these words

fitting_takes : (q found : Queue) → fitting_queue found ≡ Some q → (found ≡ q) × (queue_fits found ≡ true)
fitting_takes q found h =
    elim (cases_Bool (queue_fits found)) [
      | inl pass ↦ (cc (rw pass at h), pass)
      | inr fail ↦ cc (rw fail at h)
    ]

reception_takes : (words : List (List ℕ)) (q : Queue) → reception_in words ≡ Some q
    → (codes "queue" ∷ words ≡ queue_words q) × IsSpelledQueue q
unfolding reception_in
reception_takes [] q h = cc h
reception_takes (n ∷ []) q h = cc h
reception_takes (n ∷ f ∷ []) q h = cc h
reception_takes (n ∷ f ∷ l ∷ []) q h = cc h
reception_takes (n ∷ f ∷ l ∷ c ∷ []) q h = cc h
reception_takes (n ∷ f ∷ l ∷ c ∷ b ∷ []) q h = cc h
reception_takes (n ∷ f ∷ l ∷ c ∷ b ∷ r ∷ []) q h =
    let (capacity, hn, h1) = bind_some (number_in 257 n) _ q h in
    let (first, hf, h2) = bind_some (slot_in f) _ q h1 in
    let (last, hl, h3) = bind_some (slot_in l) _ q h2 in
    let (channels, hc, h4) = bind_some (channels_in c) _ q h3 in
    let (cycles, hy, h5) = bind_some (cycles_in b r) _ q h4 in
    let found : Queue =
    record { capacity = capacity; first = first; last = last; channels = channels; cycles = cycles } in
    let fitting = fitting_takes q found h5 in
    let tn = number_takes 257 n capacity hn in
    let tf = slot_takes f first hf in
    let tl = slot_takes l last hl in
    let ty = cycles_takes b r cycles hy in
    let rest = cons_same (channels_takes c channels hc) (cons_same ty.0 (cons_same ty.1 refl)) in
    rw (← fitting.0) (
      cons_same refl (cons_same (sym tn.0) (cons_same tf.0 (cons_same tl.0 rest))),
      record { is = record { first_is = tf.1; last_is = tl.1; cycles_are = ty.2 }; fits = fitting.1 },
    )
reception_takes (n ∷ f ∷ l ∷ c ∷ b ∷ r ∷ more ∷ words) q h = cc h

taken : (words : List (List ℕ)) (q : Queue) → queue_in words ≡ Some q → (words ≡ queue_words q) × IsSpelledQueue q
unfolding queue_in
taken [] q h = cc h
taken (kind ∷ words) q h =
    elim (word_or kind (codes "queue") (reception_in words) _ q h) [
      | inl queue ↦ let t = reception_takes words q queue.1 in (cons_same queue.0 refl ∙ t.0, t.1)
      | inr h1 ↦ cc h1
    ]

pub queue_takes : (words : List (List ℕ)) (q : Queue) → queue_in words ≡ Some q → words ≡ queue_words q
queue_takes words q h = (taken words q h).0

-- it is a receive FIFO that a plan can have
pub queue_line_fits : (words : List (List ℕ)) (q : Queue) → queue_in words ≡ Some q → IsSpelledQueue q
queue_line_fits words q h = (taken words q h).1

pub queue_line_takes : (line : List ℕ) (q : Queue) → queue_in (words_of line) ≡ Some q → line ≡ line_of (queue_words q)
queue_line_takes line q h = sym (line_of-words_of line) ∙ ap line_of (queue_takes (words_of line) q h)

-- ---- a receive FIFO that is spelled is read again

few_frames : (q : Queue) → queue_fits q ≡ true → q.capacity ≤ 256
few_frames q fits =
    let front = and_parts (nat_le 1 q.capacity && nat_le q.capacity 256) (nat_le q.first q.last) fits in
    leb-true q.capacity 256 (and_parts (nat_le 1 q.capacity) (nat_le q.capacity 256) front.0).1

pub queue_again : (q : Queue) → IsSpelledQueue q → queue_in (queue_words q) ≡ Some q
unfolding queue_in reception_in
queue_again q is =
    let few = few_frames q is.fits in
    rw (
      number_again 257 q.capacity (omega arith) (omega arith),
      slot_again q.first is.is.first_is,
      slot_again q.last is.is.last_is,
      channels_again q.channels,
      cycles_again q.cycles is.is.cycles_are,
      is.fits,
    ) refl

-- ---- the words are plain, and the line is short

both_plain : (q : Queue) → IsSpelledQueue q → ArePlain (queue_words q) × (length (line_of (queue_words q)) ≤ 1200)
both_plain q is =
    let few = few_frames q is.fits in
    let first_high = is.is.first_is.at_most in
    let last_high = is.is.last_is.at_most in
    let small = repetition_small q.cycles.repetition is.is.cycles_are.repetition_is in
    let below = is.is.cycles_are.base_below in
    let capacity_is = number_word 3 q.capacity (omega arith) (omega arith) (omega arith) in
    let first_is = number_word 4 q.first (omega arith) (omega arith) (omega arith) in
    let last_is = number_word 4 q.last (omega arith) (omega arith) (omega arith) in
    let channels_are = channels_plain q.channels in
    let base_is = number_word 2 q.cycles.base (omega arith) (omega arith) (omega arith) in
    let repetition_is = number_word 2 q.cycles.repetition (omega arith) (omega arith) (omega arith) in
    let all = length-line_of-le (queue_words q) in
    let capacity_short = capacity_is.short in
    let first_short = first_is.short in
    let last_short = last_is.short in
    let channels_short = channels_are.short in
    let base_short = base_is.short in
    let repetition_short = repetition_is.short in
    let rest : ArePlain (channels_word q.channels ∷ decimal q.cycles.base ∷ decimal q.cycles.repetition ∷ []) =
    (channels_are.plain, (base_is.plain, (repetition_is.plain, tt))) in
    ((refl, (capacity_is.plain, (first_is.plain, (last_is.plain, rest)))), omega arith)

pub queue_plain : (q : Queue) → IsSpelledQueue q → ArePlain (queue_words q)
queue_plain q is = (both_plain q is).0

pub queue_no_feed : (q : Queue) → IsSpelledQueue q → has_no_feed (line_of (queue_words q)) ≡ true
queue_no_feed q is = has_no_feed-line_of (queue_words q) (queue_plain q is)

pub queue_short : (q : Queue) → IsSpelledQueue q → length (line_of (queue_words q)) ≤ 1200
queue_short q is = (both_plain q is).1

-- so the line is cut into them
pub queue_cut : (q : Queue) → IsSpelledQueue q → words_of (line_of (queue_words q)) ≡ queue_words q
queue_cut q is =
    words_of-line_of (codes "queue")
    (decimal q.capacity ∷ decimal q.first ∷ decimal q.last ∷ channels_word q.channels ∷ decimal q.cycles.base
    ∷ decimal q.cycles.repetition ∷ [])
    (queue_plain q is)

pub queue_line_again : (q : Queue) → IsSpelledQueue q → queue_in (words_of (line_of (queue_words q))) ≡ Some q
queue_line_again q is = ap queue_in (queue_cut q is) ∙ queue_again q is

-- ---- a line of a receive FIFO is no other line of a plan, and doesn't begin the entries

not_own : (v : Version) (q : Queue) → own_in v (queue_words q) ≡ None
unfolding own_in
not_own v q = refl

pub queue_not_own : (v : Version) (q : Queue) → IsSpelledQueue q → own_in v (words_of (line_of (queue_words q))) ≡ None
queue_not_own v q is = ap (own_in v) (queue_cut q is) ∙ not_own v q

not_buffer : (q : Queue) → buffer_in (queue_words q) ≡ None
unfolding buffer_in
not_buffer q = refl

pub queue_not_buffer : (q : Queue) → IsSpelledQueue q → buffer_in (words_of (line_of (queue_words q))) ≡ None
queue_not_buffer q is = ap buffer_in (queue_cut q is) ∙ not_buffer q

pub queue_not_begin : (q : Queue) → bytes_eq (line_of (queue_words q)) begin_line ≡ false
queue_not_begin q = refl
