-- The line of an ownership, in each version.
use Rattle.std.proofs.Common.{◌≡◌, ℕ, ◌≤◌, ◌||◌, ◌==◌, inl, inr, true, false, List, [], ◌∷◌, length, codes, Some, refl}
use Rattle.std.proofs.Common.{sym, ap, ◌∙◌, arith}
use Rattle.std.proofs.lemmas.Bool.{and_parts, cases_Bool, eqb-true}
use Rattle.std.specs.Fmt.{decimal}
use Rattle.std.specs.Str.{bytes_eq}
use Rattle.fr_lines.proofs.PartLemmas.{word_or, slot_takes, slot_again, channels_takes, channels_again, cycles_takes}
use Rattle.fr_lines.proofs.PartLemmas.{cycles_again, repetition_small}
use Rattle.fr_lines.proofs.PlanPartLemmas.{flag_takes, flag_again}
use Rattle.fr_lines.proofs.WordLemmas.{number_word, channels_plain, flag_plain}
use Rattle.fr_lines.specs.declared.versions.Version.{Version}
use Rattle.fr_lines.specs.declared.versions.Version.TheVariants.{One, Two, Three}
use Rattle.fr_lines.specs.PartReading.{slot_in, channels_in, flag_in}
use Rattle.fr_lines.specs.Parts.{channels_word, flag_word}
use Rattle.fr_lines.specs.Reading.{every_cycle, at_end, fitting_own, last_cycles_in}
use Rattle.fr_lines.specs.Reading.{own_cycles_in, ownership_in, own_in}
use Rattle.fr_lines.specs.Spelled.{IsSpelledOwn}
use Rattle.fr_lines.specs.Spelling.{own_cycles_words, own_words, begin_line}
use Rattle.fr_lines.specs.Versions.{has_own_cycles, tells_own}
use Rattle.fr_slots.specs.Admission.{CycleClass, IsCycleClass, is_every_cycle}
use Rattle.fr_slots.specs.declared.plan.Own.{Own}
use Rattle.fr_slots.specs.Plans.{own_fits}
use Rattle.fr_text.proofs.BindLemmas.{bind_some}
use Rattle.fr_text.proofs.LineLemmas.{cons_same, line_of-words_of, words_of-line_of, has_no_feed-line_of}
use Rattle.fr_text.proofs.LineLemmas.{length-line_of-le}
use Rattle.fr_text.specs.Plain.{ArePlain, has_no_feed}
use Rattle.fr_text.specs.Spaces.{words_of, line_of}

-- ---- cycles

-- these words after the flags spell these cycles in the version
record TellsCycles (v : Version) (words : List (List ℕ)) (c : CycleClass) : Type 0 where
  pub words_are : words ≡ own_cycles_words v c
  pub cycles_are : IsCycleClass c
  pub told : (has_own_cycles v || is_every_cycle c) ≡ true

every_takes : (v : Version) (words : List (List ℕ)) (c : CycleClass) → has_own_cycles v ≡ false
    → at_end every_cycle words ≡ Some c → TellsCycles v words c
every_takes v [] c short h =
    let is : every_cycle ≡ c = cc h in
    rw (← is) (record {
      words_are = rw short refl;
      cycles_are = record { repetition_is = refl; base_below = omega arith };
      told = rw short refl;
    })
every_takes v (w ∷ words) c short h = cc h

last_takes : (v : Version) (words : List (List ℕ)) (c : CycleClass) → has_own_cycles v ≡ true
    → last_cycles_in words ≡ Some c → TellsCycles v words c
unfolding last_cycles_in
last_takes v [] c long h = cc h
last_takes v (b ∷ []) c long h = cc h
last_takes v (b ∷ r ∷ []) c long h =
    let t = cycles_takes b r c h in
    record { words_are = rw long (cons_same t.0 (cons_same t.1 refl)); cycles_are = t.2; told = rw long refl }
last_takes v (b ∷ r ∷ more ∷ words) c long h = cc h

own_cycles_takes : (v : Version) (words : List (List ℕ)) (c : CycleClass) → own_cycles_in v words ≡ Some c
    → TellsCycles v words c
unfolding own_cycles_in
own_cycles_takes v words c h =
    elim (cases_Bool (has_own_cycles v)) [
      | inl long ↦ last_takes v words c long (rw long at h)
      | inr short ↦ every_takes v words c short (rw short at h)
    ]

every_is : (c : CycleClass) → is_every_cycle c ≡ true → every_cycle ≡ c
every_is c h =
    let parts = and_parts (c.base == 0) (c.repetition == 1) h in
    let base_is : 0 ≡ c.base = sym (eqb-true c.base 0 parts.0) in
    let repetition_is : 1 ≡ c.repetition = sym (eqb-true c.repetition 1 parts.1) in
    λ i. record { base = base_is i; repetition = repetition_is i }

own_cycles_again : (v : Version) (c : CycleClass) → IsCycleClass c → (has_own_cycles v || is_every_cycle c) ≡ true
    → own_cycles_in v (own_cycles_words v c) ≡ Some c
unfolding own_cycles_in last_cycles_in
own_cycles_again One c lawful told = ap Some (every_is c told)
own_cycles_again Two c lawful told = ap Some (every_is c told)
own_cycles_again Three c lawful told = cycles_again c lawful

-- ---- an ownership that is read is spelled by these words

fitting_takes : (o found : Own) → fitting_own found ≡ Some o → (found ≡ o) × (own_fits found ≡ true)
fitting_takes o found h =
    elim (cases_Bool (own_fits found)) [
      | inl pass ↦ (cc (rw pass at h), pass)
      | inr fail ↦ cc (rw fail at h)
    ]

abbrev Takes : Version → List (List ℕ) → Own → Type 0
Takes v words o = (words ≡ own_words v o) × IsSpelledOwn o × (tells_own v o ≡ true)

ownership_takes : (v : Version) (words : List (List ℕ)) (o : Own) → ownership_in v words ≡ Some o
    → Takes v (codes "own" ∷ words) o
unfolding ownership_in
ownership_takes v [] o h = cc h
ownership_takes v (s ∷ []) o h = cc h
ownership_takes v (s ∷ c ∷ []) o h = cc h
ownership_takes v (s ∷ c ∷ y ∷ []) o h = cc h
ownership_takes v (s ∷ c ∷ y ∷ t ∷ rest) o h =
    let (slot, hs, h1) = bind_some (slot_in s) _ o h in
    let (channels, hc, h2) = bind_some (channels_in c) _ o h1 in
    let (sync, hy, h3) = bind_some (flag_in y) _ o h2 in
    let (startup, ht, h4) = bind_some (flag_in t) _ o h3 in
    let (cycles, hr, h5) = bind_some (own_cycles_in v rest) _ o h4 in
    let fitting =
    fitting_takes o (record { slot = slot; channels = channels; cycles = cycles; sync = sync; startup = startup }) h5 in
    let ts = slot_takes s slot hs in
    let tr = own_cycles_takes v rest cycles hr in
    let last = cons_same (flag_takes y sync hy) (cons_same (flag_takes t startup ht) tr.words_are) in
    rw (← fitting.0) (
      cons_same refl (cons_same ts.0 (cons_same (channels_takes c channels hc) last)),
      record { is = record { slot_is = ts.1; cycles_are = tr.cycles_are }; fits = fitting.1 },
      tr.told,
    )

taken : (v : Version) (words : List (List ℕ)) (o : Own) → own_in v words ≡ Some o → Takes v words o
unfolding own_in
taken v [] o h = cc h
taken v (kind ∷ words) o h =
    elim (word_or kind (codes "own") (ownership_in v words) _ o h) [
      | inl own ↦ let t = ownership_takes v words o own.1 in (cons_same own.0 refl ∙ t.0, t.1, t.2)
      | inr h1 ↦ cc h1
    ]

pub own_takes : (v : Version) (words : List (List ℕ)) (o : Own) → own_in v words ≡ Some o → words ≡ own_words v o
own_takes v words o h = (taken v words o h).0

-- it is an ownership line that a plan can have
pub own_line_fits : (v : Version) (words : List (List ℕ)) (o : Own) → own_in v words ≡ Some o → IsSpelledOwn o
own_line_fits v words o h = (taken v words o h).1

-- and the version has a line for it
pub own_line_told : (v : Version) (words : List (List ℕ)) (o : Own) → own_in v words ≡ Some o → tells_own v o ≡ true
own_line_told v words o h = (taken v words o h).2

pub own_line_takes : (v : Version) (line : List ℕ) (o : Own) → own_in v (words_of line) ≡ Some o
    → line ≡ line_of (own_words v o)
own_line_takes v line o h = sym (line_of-words_of line) ∙ ap line_of (own_takes v (words_of line) o h)

-- ---- an ownership that is spelled is read again

pub own_again : (v : Version) (o : Own) → IsSpelledOwn o → tells_own v o ≡ true → own_in v (own_words v o) ≡ Some o
unfolding own_in ownership_in
own_again v o is told =
    rw (
      slot_again o.slot is.is.slot_is,
      channels_again o.channels,
      flag_again o.sync,
      flag_again o.startup,
      own_cycles_again v o.cycles is.is.cycles_are told,
      is.fits,
    ) refl

-- ---- the words are plain, and the line is short

abbrev IsPlainLine : List (List ℕ) → Type 0
IsPlainLine words = ArePlain words × (length (line_of words) ≤ 1200)

short_plain : (v : Version) (o : Own) → IsSpelledOwn o → has_own_cycles v ≡ false → IsPlainLine (own_words v o)
short_plain v o is short =
    let high = is.is.slot_is.at_most in
    let slot_is = number_word 4 o.slot (omega arith) (omega arith) (omega arith) in
    let channels_are = channels_plain o.channels in
    let sync_is = flag_plain o.sync in
    let startup_is = flag_plain o.startup in
    let words : List (List ℕ) =
    codes "own" ∷ decimal o.slot ∷ channels_word o.channels ∷ flag_word o.sync ∷ flag_word o.startup ∷ [] in
    let all = length-line_of-le words in
    let slot_short = slot_is.short in
    let channels_short = channels_are.short in
    let sync_short = sync_is.short in
    let startup_short = startup_is.short in
    rw short ((refl, (slot_is.plain, (channels_are.plain, (sync_is.plain, (startup_is.plain, tt))))), omega arith)

long_plain : (v : Version) (o : Own) → IsSpelledOwn o → has_own_cycles v ≡ true → IsPlainLine (own_words v o)
long_plain v o is long =
    let high = is.is.slot_is.at_most in
    let small = repetition_small o.cycles.repetition is.is.cycles_are.repetition_is in
    let below = is.is.cycles_are.base_below in
    let slot_is = number_word 4 o.slot (omega arith) (omega arith) (omega arith) in
    let channels_are = channels_plain o.channels in
    let sync_is = flag_plain o.sync in
    let startup_is = flag_plain o.startup in
    let base_is = number_word 2 o.cycles.base (omega arith) (omega arith) (omega arith) in
    let repetition_is = number_word 2 o.cycles.repetition (omega arith) (omega arith) (omega arith) in
    let words : List (List ℕ) =
    codes "own" ∷ decimal o.slot ∷ channels_word o.channels ∷ flag_word o.sync ∷ flag_word o.startup
    ∷ decimal o.cycles.base ∷ decimal o.cycles.repetition ∷ [] in
    let all = length-line_of-le words in
    let slot_short = slot_is.short in
    let channels_short = channels_are.short in
    let sync_short = sync_is.short in
    let startup_short = startup_is.short in
    let base_short = base_is.short in
    let repetition_short = repetition_is.short in
    let last : ArePlain (flag_word o.startup ∷ decimal o.cycles.base ∷ decimal o.cycles.repetition ∷ []) =
    (startup_is.plain, (base_is.plain, (repetition_is.plain, tt))) in
    rw long ((refl, (slot_is.plain, (channels_are.plain, (sync_is.plain, last)))), omega arith)

both_plain : (v : Version) (o : Own) → IsSpelledOwn o → IsPlainLine (own_words v o)
both_plain v o is =
    elim (cases_Bool (has_own_cycles v)) [
      | inl long ↦ long_plain v o is long
      | inr short ↦ short_plain v o is short
    ]

pub own_plain : (v : Version) (o : Own) → IsSpelledOwn o → ArePlain (own_words v o)
own_plain v o is = (both_plain v o is).0

pub own_no_feed : (v : Version) (o : Own) → IsSpelledOwn o → has_no_feed (line_of (own_words v o)) ≡ true
own_no_feed v o is = has_no_feed-line_of (own_words v o) (own_plain v o is)

pub own_short : (v : Version) (o : Own) → IsSpelledOwn o → length (line_of (own_words v o)) ≤ 1200
own_short v o is = (both_plain v o is).1

-- so the line is cut into them
pub own_cut : (v : Version) (o : Own) → IsSpelledOwn o → words_of (line_of (own_words v o)) ≡ own_words v o
own_cut v o is =
    words_of-line_of (codes "own")
    (decimal o.slot ∷ channels_word o.channels ∷ flag_word o.sync ∷ flag_word o.startup ∷ own_cycles_words v o.cycles)
    (own_plain v o is)

pub own_line_again : (v : Version) (o : Own) → IsSpelledOwn o → tells_own v o ≡ true
    → own_in v (words_of (line_of (own_words v o))) ≡ Some o
own_line_again v o is told = ap (own_in v) (own_cut v o is) ∙ own_again v o is told

-- ---- no ownership line begins the entries

pub own_not_begin : (v : Version) (o : Own) → bytes_eq (line_of (own_words v o)) begin_line ≡ false
own_not_begin v o = refl
