-- The observations of a legal interface have rising times.
use Rattle.std.proofs.Common.{◌≡◌, ℕ, zero, suc, ◌+◌, ◌-◌, ◌*◌, ◌<◌, ◌≤◌, Bool, true, false, cond, inl, inr, List, []}
use Rattle.std.proofs.Common.{◌∷◌, ◌++◌, Option, Some, None, refl, sym, ap, subst, ◌∙◌, arith}
use Rattle.std.proofs.Math.Nat.{suc-mul}
use Rattle.std.proofs.lemmas.Bool.{cases_Bool, leb-false}
use Rattle.std.specs.Option.{option_or}
use Rattle.std.specs.Prelude.{nat_le, unwrap_or, IfSome}
use Rattle.fr_capture.specs.Moments.{start_of, place_in_round, round_length, fetched, last_window, is_not_later}
use Rattle.fr_capture.specs.Moments.{begins_round, rounds}
use Rattle.fr_capture.specs.Sightings.{Sighting, in_window, sightings_at, sightings}
use Rattle.fr_concord.specs.Rising.{AreRisingFrom, AreCapturesRising}
use Rattle.fr_hearing.proofs.punctual.WindowLemmas.{row_within}
use Rattle.fr_interface.specs.State.{State}
use Rattle.fr_journal.specs.declared.entry.Entry.TheVariants.{Commit, Withdraw, Read, Pop, Fetch, Observe}
use Rattle.fr_journal.specs.declared.entry.Offered.{Offered}
use Rattle.fr_journal.specs.Entries.{IsEntry}
use Rattle.fr_journal.specs.Forms.{Entry}
use Rattle.fr_slots.proofs.HistoryLemmas.{last_after-snoc, count_after-snoc}
use Rattle.fr_slots.specs.History.{AllAfter, each_after, last_after}
use Rattle.fr_slots.specs.Parameters.{Parameters, IsParameters}
use Rattle.fr_slots.specs.Windows.{Opportunity, is_static}
use Rattle.fr_status.specs.Forms.{Seen}
use Rattle.fr_timing.specs.declared.place.Place.TheVariants.{Static, Minislot}
use Rattle.fr_timing.specs.Division.{start_at}
use Rattle.fr_timing.specs.Segments.{dynamic_start}

-- ---- the start of a window lies in its cycle

times_more : (k n part : ℕ) → k ≤ n → k * part ≤ n * part
times_more zero n part less = omega arith
times_more (suc k) zero part less = absurd (omega arith)
times_more (suc k) (suc n) part less =
    let rest = times_more k n part (omega arith) in
    omega (arith, suc-mul k part, suc-mul n part, rest)

at_most_row : (first count part k : ℕ) → 1 ≤ k → k ≤ count → first + (k - 1) * part + 0 ≤ first + count * part
at_most_row first count part k from most =
    let rest = times_more (k - 1) count part (omega arith) in omega (arith, rest)

module _ (p : Parameters) (lawful : IsParameters p) where
  place_within : (b : Bool) (slot minislot : ℕ)
      → unwrap_or (start_at p (cond b (Static slot 0) (Minislot minislot 0))) 0 ≤ p.cycle_mt
  unfolding start_at
  place_within true slot minislot =
      let fills = lawful.fills_the_cycle in
      row_within 0 p.static_slots p.static_mt slot p.cycle_mt (omega arith)
  place_within false slot minislot =
      let fills = lawful.fills_the_cycle in
      row_within (dynamic_start p) p.minislots p.minislot_mt minislot p.cycle_mt (omega arith)

  round_within : (w : Opportunity) → w.cycle < 64 → place_in_round p w ≤ round_length p
  round_within w few =
      let start : start_of p w ≤ p.cycle_mt = place_within (is_static w) (unwrap_or w.a 1) w.minislot in
      let cycles : suc w.cycle * p.cycle_mt ≤ 64 * p.cycle_mt = times_more (suc w.cycle) 64 p.cycle_mt (omega arith) in
      omega (arith, start, cycles, suc-mul w.cycle p.cycle_mt)

  -- ---- the time that a journal has reached

  abbrev now_of : ℕ → Option Opportunity → ℕ
  now_of done None = 0
  now_of done (Some w) = done * round_length p + place_in_round p w

  abbrev now : List Entry → ℕ
  now before = now_of (rounds p before) (last_window before)

  abbrev IsWithinRound : Option Opportunity → Type 0
  IsWithinRound o = IfSome o (λ w. place_in_round p w ≤ round_length p)

  -- a window after another is not before it
  next_later : (done : ℕ) (o : Option Opportunity) (w : Opportunity) → IsWithinRound o
      → now_of done o ≤ (done + cond (is_not_later p w o) 1 0) * round_length p + place_in_round p w
  next_later done None w within = omega arith
  next_later done (Some v) w within =
      elim (cases_Bool (nat_le (place_in_round p w) (place_in_round p v))) [
        | inl low ↦
            let more : done + cond (is_not_later p w (Some v)) 1 0 ≡ suc done =
            ap (λ (b : Bool). done + cond b 1 0) low ∙ (let one : done + 1 ≡ suc done = omega arith in one) in
            let goal : now_of done (Some v) ≤ suc done * round_length p + place_in_round p w =
            omega (arith, within, suc-mul done (round_length p)) in
            subst (λ (n : ℕ). now_of done (Some v) ≤ n * round_length p + place_in_round p w) (sym more) goal
        | inr high ↦
            let later = leb-false (place_in_round p w) (place_in_round p v) high in
            let same : done + cond (is_not_later p w (Some v)) 1 0 ≡ done =
            ap (λ (b : Bool). done + cond b 1 0) high ∙ (let none : done + 0 ≡ done = omega arith in none) in
            let goal : now_of done (Some v) ≤ done * round_length p + place_in_round p w = omega (arith, later) in
            subst (λ (n : ℕ). now_of done (Some v) ≤ n * round_length p + place_in_round p w) (sym same) goal
      ]

  window_next : (before : List Entry) (e : Entry)
      → last_window (before ++ e ∷ []) ≡ option_or (fetched before e) (last_window before)
  window_next before e = last_after-snoc fetched before e

  rounds_next : (before : List Entry) (e : Entry)
      → rounds p (before ++ e ∷ []) ≡ rounds p before + cond (begins_round p before e) 1 0
  rounds_next before e = count_after-snoc (begins_round p) before e

  -- an entry other than a fetch
  now_kept : (before : List Entry) (e : Entry) → fetched before e ≡ None → begins_round p before e ≡ false
      → last_window (before ++ e ∷ []) ≡ last_window before → now (before ++ e ∷ []) ≡ now before
  now_kept before e none still window =
      let count : rounds p before + cond (begins_round p before e) 1 0 ≡ rounds p before =
      ap (λ (b : Bool). rounds p before + cond b 1 0) still
      ∙ (let zero_more : rounds p before + 0 ≡ rounds p before = omega arith in zero_more) in
      ap (λ (n : ℕ). now_of n (last_window (before ++ e ∷ []))) (rounds_next before e ∙ count)
      ∙ ap (λ (o : Option Opportunity). now_of (rounds p before) o) window

  window_kept : (before : List Entry) (e : Entry) → fetched before e ≡ None
      → last_window (before ++ e ∷ []) ≡ last_window before
  window_kept before e none =
      window_next before e ∙ ap (λ (o : Option Opportunity). option_or o (last_window before)) none

lower : (a b : ℕ) (xs : List Sighting) → a ≤ b → AreRisingFrom b xs → AreRisingFrom a xs
lower a b [] less rising = tt
lower a b (x ∷ xs) less rising = let first = rising.0 in (omega arith, rising.1)

module _ (s : State) (lawful : IsParameters s.params) where
  abbrev clock : List Entry → ℕ
  clock before = now s.params lawful before

  abbrev IsWithin : List Entry → Type 0
  IsWithin before = IsWithinRound s.params lawful (last_window before)

  abbrev seen_from : List Entry → List Entry → List Sighting
  seen_from before entries = each_after (sightings_at s) before entries

  seen_now : (before : List Entry) (done : ℕ) (o : Option Opportunity) (a b : Seen) (rest : List Sighting)
      → done ≡ rounds s.params before → AreRisingFrom (now_of s.params lawful done o) rest
      → AreRisingFrom (now_of s.params lawful done o) (in_window s before o a b ++ rest)
  seen_now before done None a b rest same rising = rising
  seen_now before done (Some w) a b rest same rising =
      let time : done * round_length s.params + place_in_round s.params w
      ≡ rounds s.params before * round_length s.params + place_in_round s.params w =
      ap (λ (n : ℕ). n * round_length s.params + place_in_round s.params w) same in
      (omega (arith, time), (omega arith, subst (λ (n : ℕ). AreRisingFrom n rest) time rising))

  -- after an entry that is no fetch
  kept : (before : List Entry) (e : Entry) (rest : List Sighting) → fetched before e ≡ None
      → begins_round s.params before e ≡ false → AreRisingFrom (clock (before ++ e ∷ [])) rest
      → AreRisingFrom (clock before) rest
  kept before e rest none still rising =
      subst (λ (n : ℕ). AreRisingFrom n rest)
      (now_kept s.params lawful before e none still (window_kept s.params lawful before e none)) rising

  within_kept : (before : List Entry) (e : Entry) → fetched before e ≡ None → IsWithin before
      → IsWithin (before ++ e ∷ [])
  within_kept before e none within =
      subst (IsWithinRound s.params lawful) (sym (window_kept s.params lawful before e none)) within

  -- after a fetch
  window_is : (before : List Entry) (w : Opportunity) (a b : Offered)
      → last_window (before ++ Fetch w a b ∷ []) ≡ Some w
  window_is before w a b = window_next s.params lawful before (Fetch w a b)

  clock_next : (before : List Entry) (w : Opportunity) (a b : Offered)
      → (rounds s.params before + cond (is_not_later s.params w (last_window before)) 1 0) * round_length s.params
      + place_in_round s.params w
      ≡ clock (before ++ Fetch w a b ∷ [])
  clock_next before w a b =
      let done = rounds s.params before + cond (is_not_later s.params w (last_window before)) 1 0 in
      ap (λ (n : ℕ). now_of s.params lawful n (Some w)) (sym (rounds_next s.params lawful before (Fetch w a b)))
      ∙ ap (λ (o : Option Opportunity). now_of s.params lawful (rounds s.params (before ++ Fetch w a b ∷ [])) o)
      (sym (window_is before w a b))

  fetch_later : (before : List Entry) (w : Opportunity) (a b : Offered) → IsWithin before
      → clock before ≤ clock (before ++ Fetch w a b ∷ [])
  fetch_later before w a b within =
      subst (λ (n : ℕ). clock before ≤ n) (clock_next before w a b)
      (next_later s.params lawful (rounds s.params before) (last_window before) w within)

  rising : (before entries : List Entry) → IsWithin before
      → AllAfter (λ (b : List Entry) (e : Entry). IsEntry e) before entries
      → AreRisingFrom (clock before) (seen_from before entries)
  unfolding each_after AllAfter
  rising before [] within are = tt
  rising before (Commit task buffer payload ∷ entries) within are =
      let e = Commit task buffer payload in
      kept before e (seen_from (before ++ e ∷ []) entries) refl refl
      (rising (before ++ e ∷ []) entries (within_kept before e refl within) are.1)
  rising before (Withdraw task buffer of ∷ entries) within are =
      let e = Withdraw task buffer of in
      kept before e (seen_from (before ++ e ∷ []) entries) refl refl
      (rising (before ++ e ∷ []) entries (within_kept before e refl within) are.1)
  rising before (Read task buffer from ∷ entries) within are =
      let e = Read task buffer from in
      kept before e (seen_from (before ++ e ∷ []) entries) refl refl
      (rising (before ++ e ∷ []) entries (within_kept before e refl within) are.1)
  rising before (Pop task from ∷ entries) within are =
      let e = Pop task from in
      kept before e (seen_from (before ++ e ∷ []) entries) refl refl
      (rising (before ++ e ∷ []) entries (within_kept before e refl within) are.1)
  rising before (Fetch w a b ∷ entries) within are =
      let e = Fetch w a b in
      let inside = subst (IsWithinRound s.params lawful) (sym (window_is before w a b))
      (round_within s.params lawful w are.0.window_is.cycle_fits) in
      lower (clock before) (clock (before ++ e ∷ [])) (seen_from (before ++ e ∷ []) entries)
      (fetch_later before w a b within) (rising (before ++ e ∷ []) entries inside are.1)
  rising before (Observe number a b ∷ entries) within are =
      let e = Observe number a b in
      let rest = seen_from (before ++ e ∷ []) entries in
      seen_now before (rounds s.params before) (last_window before) a b rest refl
      (kept before e rest refl refl (rising (before ++ e ∷ []) entries (within_kept before e refl within) are.1))

-- ---- the law

no_window : last_window [] ≡ None
unfolding last_after
no_window = refl

pub captures_rising : AreCapturesRising
captures_rising s legal =
    let all = rising s legal.params_are [] s.entries
    (subst (IsWithinRound s.params legal.params_are) (sym no_window) tt) legal.entries_are in
    lower 0 (clock s legal.params_are []) (sightings s) (omega arith) all
