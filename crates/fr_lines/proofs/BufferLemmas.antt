-- The line of a buffer.
use Rattle.std.proofs.Common.{◌≡◌, ℕ, ◌≤◌, ◌⊎◌, inl, inr, Bool, true, false, List, [], ◌∷◌, length, codes, Option, Some}
use Rattle.std.proofs.Common.{None, refl, sym, ap, ◌∙◌, arith}
use Rattle.std.proofs.lemmas.Bool.{and_parts}
use Rattle.std.specs.Fmt.{decimal}
use Rattle.std.specs.Str.{bytes_eq}
use Rattle.fr_lines.proofs.PartLemmas.{word_or, repetition_small}
use Rattle.fr_lines.proofs.PlanPartLemmas.{filter_takes, filter_again, flag_takes, flag_again, mode_takes, mode_again}
use Rattle.fr_lines.proofs.PlanPartLemmas.{size_takes, size_again}
use Rattle.fr_lines.proofs.WordLemmas.{number_word, channels_plain, flag_plain, size_word}
use Rattle.fr_lines.specs.PartReading.{filter_in, flag_in, mode_in, size_in}
use Rattle.fr_lines.specs.Parts.{channels_word, flag_word, optional_number}
use Rattle.fr_lines.specs.Reading.{own_in, transmit_in, receive_in, buffer_in}
use Rattle.fr_lines.specs.Spelled.{IsSpelledBuffer}
use Rattle.fr_lines.specs.declared.versions.Version.{Version}
use Rattle.fr_lines.specs.Spelling.{buffer_words, transmit_words, receive_words, words_of_mode, begin_line, end_line}
use Rattle.fr_slots.specs.declared.filter.Filter.{Filter}
use Rattle.fr_slots.specs.declared.plan.Buffer.{Buffer}
use Rattle.fr_slots.specs.declared.plan.Mode.{Mode}
use Rattle.fr_slots.specs.declared.plan.Mode.TheVariants.{Event, State, Receive}
use Rattle.fr_slots.specs.Plans.{IsFilter, words_fit, buffer_fits}
use Rattle.fr_text.proofs.BindLemmas.{bind_some}
use Rattle.fr_text.proofs.LineLemmas.{cons_same, line_of-words_of, words_of-line_of, has_no_feed-line_of}
use Rattle.fr_text.proofs.LineLemmas.{length-line_of-le}
use Rattle.fr_text.specs.Plain.{ArePlain, has_no_feed}
use Rattle.fr_text.specs.Spaces.{words_of, line_of}

abbrev buffer : Mode → Filter → Option ℕ → Bool → Buffer
buffer m f w p = record { mode = m; filter = f; words = w; preamble = p }

-- ---- a buffer that is read is spelled by these words

-- the words after a transmit buffer's mode
abbrev parts_of : Filter → Option ℕ → Bool → List (List ℕ)
parts_of f w p =
    decimal f.slot ∷ channels_word f.channels ∷ decimal f.cycles.base ∷ decimal f.cycles.repetition
    ∷ optional_number w ∷ flag_word p ∷ []

transmits : (word : List ℕ) (words : List (List ℕ)) (m : Mode) (f : Filter) (w : Option ℕ) (p : Bool) (b : Buffer)
    → IsFilter f → words_fit w ≡ true
    → words ≡ parts_of f w p
    → ((word ≡ codes "event") × (m ≡ Event)) ⊎ ((word ≡ codes "state") × (m ≡ State)) → buffer m f w p ≡ b
    → (codes "tx" ∷ word ∷ words ≡ buffer_words b) × IsSpelledBuffer b
transmits word words m f w p b is fits rest (inl event) made =
    let same : buffer Event f w p ≡ b = ap (λ (n : Mode). buffer n f w p) (sym event.1) ∙ made in
    rw (← same) (cons_same refl (cons_same event.0 rest), record { is = is; fits = rw fits refl })
transmits word words m f w p b is fits rest (inr state) made =
    let same : buffer State f w p ≡ b = ap (λ (n : Mode). buffer n f w p) (sym state.1) ∙ made in
    rw (← same) (cons_same refl (cons_same state.0 rest), record { is = is; fits = rw fits refl })

transmit_takes : (words : List (List ℕ)) (b : Buffer) → transmit_in words ≡ Some b
    → (codes "tx" ∷ words ≡ buffer_words b) × IsSpelledBuffer b
unfolding transmit_in
transmit_takes [] b h = cc h
transmit_takes (m ∷ []) b h = cc h
transmit_takes (m ∷ s ∷ []) b h = cc h
transmit_takes (m ∷ s ∷ c ∷ []) b h = cc h
transmit_takes (m ∷ s ∷ c ∷ p ∷ []) b h = cc h
transmit_takes (m ∷ s ∷ c ∷ p ∷ q ∷ []) b h = cc h
transmit_takes (m ∷ s ∷ c ∷ p ∷ q ∷ z ∷ []) b h = cc h
transmit_takes (m ∷ s ∷ c ∷ p ∷ q ∷ z ∷ r ∷ []) b h =
    let (mode, hm, h1) = bind_some (mode_in m) _ b h in
    let (filter, hf, h2) = bind_some (filter_in s c p q) _ b h1 in
    let (size, hz, h3) = bind_some (size_in z) _ b h2 in
    let (preamble, hp, h4) = bind_some (flag_in r) _ b h3 in
    let is : buffer mode filter size preamble ≡ b = cc h4 in
    let tf = filter_takes s c p q filter hf in
    let tz = size_takes z size hz in
    let tp = flag_takes r preamble hp in
    let last = cons_same tf.repetition_is (cons_same tz.0 (cons_same tp refl)) in
    let rest : s ∷ c ∷ p ∷ q ∷ z ∷ r ∷ [] ≡ parts_of filter size preamble =
    cons_same tf.slot_is (cons_same tf.channels_is (cons_same tf.base_is last)) in
    transmits m (s ∷ c ∷ p ∷ q ∷ z ∷ r ∷ []) mode filter size preamble b tf.fits tz.1 rest (mode_takes m mode hm) is
transmit_takes (m ∷ s ∷ c ∷ p ∷ q ∷ z ∷ r ∷ more ∷ words) b h = cc h

receive_takes : (words : List (List ℕ)) (b : Buffer) → receive_in words ≡ Some b
    → (codes "rx" ∷ words ≡ buffer_words b) × IsSpelledBuffer b
unfolding receive_in
receive_takes [] b h = cc h
receive_takes (s ∷ []) b h = cc h
receive_takes (s ∷ c ∷ []) b h = cc h
receive_takes (s ∷ c ∷ p ∷ []) b h = cc h
receive_takes (s ∷ c ∷ p ∷ q ∷ []) b h =
    let (filter, hf, h1) = bind_some (filter_in s c p q) _ b h in
    let is : buffer Receive filter None false ≡ b = cc h1 in
    let tf = filter_takes s c p q filter hf in
    rw (← is) (
      cons_same refl
          (cons_same tf.slot_is (cons_same tf.channels_is (cons_same tf.base_is (cons_same tf.repetition_is refl)))),
      record { is = tf.fits; fits = refl },
    )
receive_takes (s ∷ c ∷ p ∷ q ∷ more ∷ words) b h = cc h

taken : (words : List (List ℕ)) (b : Buffer) → buffer_in words ≡ Some b → (words ≡ buffer_words b) × IsSpelledBuffer b
unfolding buffer_in
taken [] b h = cc h
taken (kind ∷ words) b h =
    elim (word_or kind (codes "tx") (transmit_in words) _ b h) [
      | inl tx ↦ let t = transmit_takes words b tx.1 in (cons_same tx.0 refl ∙ t.0, t.1)
      | inr h1 ↦
          elim (word_or kind (codes "rx") (receive_in words) _ b h1) [
            | inl rx ↦ let t = receive_takes words b rx.1 in (cons_same rx.0 refl ∙ t.0, t.1)
            | inr h2 ↦ cc h2
          ]
    ]

pub buffer_takes : (words : List (List ℕ)) (b : Buffer) → buffer_in words ≡ Some b → words ≡ buffer_words b
buffer_takes words b h = (taken words b h).0

-- it is a buffer that a plan can have
pub buffer_line_fits : (words : List (List ℕ)) (b : Buffer) → buffer_in words ≡ Some b → IsSpelledBuffer b
buffer_line_fits words b h = (taken words b h).1

pub buffer_line_takes : (line : List ℕ) (b : Buffer) → buffer_in (words_of line) ≡ Some b
    → line ≡ line_of (buffer_words b)
buffer_line_takes line b h = sym (line_of-words_of line) ∙ ap line_of (buffer_takes (words_of line) b h)

-- ---- the parts of a buffer's line

-- A transmit buffer has words that fit, and a receive buffer none and no preamble.
abbrev Parts : Mode → Option ℕ → Bool → Type 0
Parts Event w p = words_fit w ≡ true
Parts State w p = words_fit w ≡ true
Parts Receive w p = (w ≡ None) × (p ≡ false)

parts_at : (m : Mode) (f : Filter) (w : Option ℕ) (p : Bool) → buffer_fits (buffer m f w p) ≡ true → Parts m w p
parts_at Event f w p fits = (and_parts (words_fit w) true fits).0
parts_at State f w p fits = (and_parts (words_fit w) true fits).0
parts_at Receive f None true fits = cc fits
parts_at Receive f None false fits = (refl, refl)
parts_at Receive f (Some w) p fits = cc ((and_parts (words_fit (Some w)) false fits).1)

-- ---- a buffer that is spelled is read again

again_at : (m : Mode) (f : Filter) (w : Option ℕ) (p : Bool) → IsFilter f → Parts m w p
    → buffer_in (words_of_mode m (buffer m f w p)) ≡ Some (buffer m f w p)
unfolding buffer_in transmit_in receive_in
again_at Event f w p is fits = rw (mode_again.0, filter_again f is, size_again w fits, flag_again p) refl
again_at State f w p is fits = rw (mode_again.1, filter_again f is, size_again w fits, flag_again p) refl
again_at Receive f w p is fits = rw (filter_again f is, fits.0, fits.1) refl

pub buffer_again : (b : Buffer) → IsSpelledBuffer b → buffer_in (buffer_words b) ≡ Some b
buffer_again b is =
    again_at b.mode b.filter b.words b.preamble is.is (parts_at b.mode b.filter b.words b.preamble is.fits)

-- ---- the words are plain, and the line is short

abbrev IsPlainLine : List (List ℕ) → Type 0
IsPlainLine words = ArePlain words × (length (line_of words) ≤ 1200)

transmit_plain : (mode : List ℕ) (f : Filter) (w : Option ℕ) (p : Bool) → has_no_feed mode ≡ true → ArePlain (mode ∷ [])
    → length mode ≤ 5 → IsFilter f → words_fit w ≡ true
    → IsPlainLine (transmit_words mode (buffer Event f w p))
transmit_plain mode f w p unfed plain short is fits =
    let high = is.slot_is.at_most in
    let few = repetition_small f.cycles.repetition is.cycles_are.repetition_is in
    let below = is.cycles_are.base_below in
    let slot_is = number_word 4 f.slot (omega arith) (omega arith) (omega arith) in
    let channels_are = channels_plain f.channels in
    let base_is = number_word 2 f.cycles.base (omega arith) (omega arith) (omega arith) in
    let repetition_is = number_word 2 f.cycles.repetition (omega arith) (omega arith) (omega arith) in
    let size_is = size_word w fits in
    let preamble_is = flag_plain p in
    let all = length-line_of-le (transmit_words mode (buffer Event f w p)) in
    let last : ArePlain (decimal f.cycles.repetition ∷ optional_number w ∷ flag_word p ∷ []) =
    (repetition_is.plain, (size_is.plain, (preamble_is.plain, tt))) in
    ((refl, (plain.0, (slot_is.plain, (channels_are.plain, (base_is.plain, last))))), omega arith)

receive_plain : (f : Filter) → IsFilter f → IsPlainLine (receive_words f)
receive_plain f is =
    let high = is.slot_is.at_most in
    let few = repetition_small f.cycles.repetition is.cycles_are.repetition_is in
    let below = is.cycles_are.base_below in
    let slot_is = number_word 4 f.slot (omega arith) (omega arith) (omega arith) in
    let channels_are = channels_plain f.channels in
    let base_is = number_word 2 f.cycles.base (omega arith) (omega arith) (omega arith) in
    let repetition_is = number_word 2 f.cycles.repetition (omega arith) (omega arith) (omega arith) in
    let all = length-line_of-le (receive_words f) in
    ((refl, (slot_is.plain, (channels_are.plain, (base_is.plain, (repetition_is.plain, tt))))), omega arith)

plain_at : (m : Mode) (f : Filter) (w : Option ℕ) (p : Bool) → IsFilter f → Parts m w p
    → IsPlainLine (words_of_mode m (buffer m f w p))
plain_at Event f w p is fits = transmit_plain (codes "event") f w p refl (refl, tt) (omega arith) is fits
plain_at State f w p is fits = transmit_plain (codes "state") f w p refl (refl, tt) (omega arith) is fits
plain_at Receive f w p is fits = receive_plain f is

both_plain : (b : Buffer) → IsSpelledBuffer b → IsPlainLine (buffer_words b)
both_plain b is =
    plain_at b.mode b.filter b.words b.preamble is.is (parts_at b.mode b.filter b.words b.preamble is.fits)

pub buffer_plain : (b : Buffer) → IsSpelledBuffer b → ArePlain (buffer_words b)
buffer_plain b is = (both_plain b is).0

pub buffer_no_feed : (b : Buffer) → IsSpelledBuffer b → has_no_feed (line_of (buffer_words b)) ≡ true
buffer_no_feed b is = has_no_feed-line_of (buffer_words b) (buffer_plain b is)

pub buffer_short : (b : Buffer) → IsSpelledBuffer b → length (line_of (buffer_words b)) ≤ 1200
buffer_short b is = (both_plain b is).1

-- so the line is cut into them
abbrev rest_of : Buffer → List (List ℕ)
rest_of b =
    decimal b.filter.slot ∷ channels_word b.filter.channels ∷ decimal b.filter.cycles.base
    ∷ decimal b.filter.cycles.repetition ∷ optional_number b.words ∷ flag_word b.preamble ∷ []

cut_at : (m : Mode) (b : Buffer) → ArePlain (words_of_mode m b)
    → words_of (line_of (words_of_mode m b)) ≡ words_of_mode m b
cut_at Event b plain = words_of-line_of (codes "tx") (codes "event" ∷ rest_of b) plain
cut_at State b plain = words_of-line_of (codes "tx") (codes "state" ∷ rest_of b) plain
cut_at Receive b plain =
    words_of-line_of (codes "rx")
    (decimal b.filter.slot ∷ channels_word b.filter.channels ∷ decimal b.filter.cycles.base
    ∷ decimal b.filter.cycles.repetition ∷ [])
    plain

pub buffer_cut : (b : Buffer) → IsSpelledBuffer b → words_of (line_of (buffer_words b)) ≡ buffer_words b
buffer_cut b is = cut_at b.mode b (buffer_plain b is)

pub buffer_line_again : (b : Buffer) → IsSpelledBuffer b → buffer_in (words_of (line_of (buffer_words b))) ≡ Some b
buffer_line_again b is = ap buffer_in (buffer_cut b is) ∙ buffer_again b is

-- ---- no buffer's line is an ownership line, or begins or ends the entries

not_own_at : (v : Version) (m : Mode) (b : Buffer) → own_in v (words_of_mode m b) ≡ None
unfolding own_in
not_own_at v Event b = refl
not_own_at v State b = refl
not_own_at v Receive b = refl

pub buffer_not_own : (v : Version) (b : Buffer) → IsSpelledBuffer b
    → own_in v (words_of (line_of (buffer_words b))) ≡ None
buffer_not_own v b is = ap (own_in v) (buffer_cut b is) ∙ not_own_at v b.mode b

not_begin_at : (b : Buffer) (m : Mode) → b.mode ≡ m → bytes_eq (line_of (buffer_words b)) begin_line ≡ false
not_begin_at b Event is = rw is refl
not_begin_at b State is = rw is refl
not_begin_at b Receive is = rw is refl

pub buffer_not_begin : (b : Buffer) → bytes_eq (line_of (buffer_words b)) begin_line ≡ false
buffer_not_begin b = not_begin_at b b.mode refl

not_end_at : (b : Buffer) (m : Mode) → b.mode ≡ m → bytes_eq (line_of (buffer_words b)) end_line ≡ false
not_end_at b Event is = rw is refl
not_end_at b State is = rw is refl
not_end_at b Receive is = rw is refl

pub buffer_not_end : (b : Buffer) → bytes_eq (line_of (buffer_words b)) end_line ≡ false
buffer_not_end b = not_end_at b b.mode refl
