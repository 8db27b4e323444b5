-- The moment that the code keeps is the one that follows from the entries, with one entry more.
use Rattle.std.proofs.Common.{◌≡◌, ℕ, ◌+◌, ◌*◌, ◌≤◌, Bool, true, false, cond, List, [], ◌∷◌, ◌++◌, length, Option, Some}
use Rattle.std.proofs.Common.{None, refl, sym, ap, ◌∙◌, arith, leb}
use Rattle.std.specs.Option.{option_or}
use Rattle.fr_capture.specs.Clocks.{IsMoment, moment_after, rounds_at, seen_after, in_moment, time_at, HasRounds}
use Rattle.fr_capture.specs.declared.moment.Moment.{Moment}
use Rattle.fr_capture.specs.Moments.{begins_round, fetch_number, fetched, is_not_later, last_fetch, last_window}
use Rattle.fr_capture.specs.Moments.{place_in_round, round_length, rounds, time_of}
use Rattle.fr_capture.specs.Sightings.{in_window, sighting, sightings_at, sightings_in}
use Rattle.fr_interface.specs.State.{State}
use Rattle.fr_journal.specs.Forms.{Entry}
use Rattle.fr_journal.specs.declared.entry.Entry.TheVariants.{Commit, Withdraw, Read, Pop, Fetch, Observe}
use Rattle.fr_journal.specs.declared.entry.Offered.{Offered}
use Rattle.fr_slots.proofs.HistoryLemmas.{last_after-snoc, each_after-snoc, count_after-snoc}
use Rattle.fr_slots.specs.declared.channel.Channel.TheVariants.{A, B}
use Rattle.fr_slots.specs.History.{count_after}
use Rattle.fr_slots.specs.Parameters.{Parameters}
use Rattle.fr_slots.specs.Windows.{Opportunity}
use Rattle.fr_status.specs.Forms.{Seen}

-- ---- one entry more

last_window-snoc : (before : List Entry) (e : Entry) → last_window (before ++ e ∷ []) ≡ option_or (fetched before e)
    (last_window before)
last_window-snoc before e = last_after-snoc fetched before e

last_fetch-snoc : (before : List Entry) (e : Entry) → last_fetch (before ++ e ∷ []) ≡ option_or (fetch_number before e)
    (last_fetch before)
last_fetch-snoc before e = last_after-snoc fetch_number before e

rounds-snoc : (p : Parameters) (before : List Entry) (e : Entry)
    → rounds p (before ++ e ∷ []) ≡ rounds p before + cond (begins_round p before e) 1 0
rounds-snoc p before e = count_after-snoc (begins_round p) before e

pub sightings-snoc : (s : State) (before : List Entry) (e : Entry)
    → sightings_in s (before ++ e ∷ []) ≡ sightings_in s before ++ sightings_at s before e
sightings-snoc s before e = each_after-snoc (sightings_at s) before e

-- ---- an entry other than a fetch

IsMoment-same : (p : Parameters) (before after : List Entry) (last : Option Moment)
    → last_window after ≡ last_window before → last_fetch after ≡ last_fetch before
    → rounds p after ≡ rounds p before + 0 → IsMoment p before last → IsMoment p after last
IsMoment-same p before after None windows fetches same h = (windows ∙ h.0, omega (arith, same, h.1))
IsMoment-same p before after (Some m) windows fetches same h =
    (windows ∙ h.0, h.1, omega (arith, same, h.2), fetches ∙ h.3)

-- ---- a fetch

first_round : (p : Parameters) (before : List Entry) (w : Opportunity) → last_window before ≡ None → rounds p before ≡ 0
    → 0 ≡ rounds p before + cond (is_not_later p w (last_window before)) 1 0
first_round p before w none start = rw none (omega (arith, start))

later_round : (low : Bool) (r : ℕ) → cond low (r + 1) r ≡ r + cond low 1 0
later_round true r = refl
later_round false r = omega arith

next_round : (p : Parameters) (before : List Entry) (w : Opportunity) (m : Moment) → last_window before ≡ Some m.window
    → m.place ≡ place_in_round p m.window → m.rounds ≡ rounds p before
    → rounds_at (place_in_round p w) (Some m) ≡ rounds p before + cond (is_not_later p w (last_window before)) 1 0
next_round p before w m window place over =
    ap (λ (n : ℕ). cond (leb (place_in_round p w) n) (m.rounds + 1) m.rounds) place
    ∙ later_round (leb (place_in_round p w) (place_in_round p m.window)) m.rounds
    ∙ ap (λ (n : ℕ). n + cond (leb (place_in_round p w) (place_in_round p m.window)) 1 0) over
    ∙ ap (λ (o : Option Opportunity). rounds p before + cond (is_not_later p w o) 1 0) (sym window)

fetch_moment : (p : Parameters) (before : List Entry) (last : Option Moment) (number : ℕ) (w : Opportunity)
    (a b : Offered) → number ≡ length before → IsMoment p before last
    → IsMoment p (before ++ Fetch w a b ∷ []) (moment_after p last number (Fetch w a b))
fetch_moment p before None number w a b here h = (
  last_window-snoc before (Fetch w a b),
  refl,
  first_round p before w h.0 h.1 ∙ sym (rounds-snoc p before (Fetch w a b)),
  last_fetch-snoc before (Fetch w a b) ∙ ap (λ (n : ℕ). Some n) (sym here),
)
fetch_moment p before (Some m) number w a b here h = (
  last_window-snoc before (Fetch w a b),
  refl,
  next_round p before w m h.0 h.1 h.2 ∙ sym (rounds-snoc p before (Fetch w a b)),
  last_fetch-snoc before (Fetch w a b) ∙ ap (λ (n : ℕ). Some n) (sym here),
)

module _ (p : Parameters) (before : List Entry) (last : Option Moment) (number : ℕ) (here : number ≡ length before)
    (h : IsMoment p before last) where
  none : (e : Entry) → fetched before e ≡ None → fetch_number before e ≡ None → begins_round p before e ≡ false
      → IsMoment p (before ++ e ∷ []) last
  none e window fetch begins =
      IsMoment-same p before (before ++ e ∷ []) last
      (last_window-snoc before e ∙ ap (λ (o : Option Opportunity). option_or o (last_window before)) window)
      (last_fetch-snoc before e ∙ ap (λ (o : Option ℕ). option_or o (last_fetch before)) fetch)
      (rounds-snoc p before e ∙ ap (λ (b : Bool). rounds p before + cond b 1 0) begins) h

  pub one_moment : (e : Entry) → IsMoment p (before ++ e ∷ []) (moment_after p last number e)
  one_moment (Commit task buffer payload) = none (Commit task buffer payload) refl refl refl
  one_moment (Withdraw task buffer of) = none (Withdraw task buffer of) refl refl refl
  one_moment (Read task buffer from) = none (Read task buffer from) refl refl refl
  one_moment (Pop task from) = none (Pop task from) refl refl refl
  one_moment (Fetch w a b) = fetch_moment p before last number w a b here h
  one_moment (Observe window a b) = none (Observe window a b) refl refl refl

-- ---- the observations of the window

time_same : (p : Parameters) (before : List Entry) (m : Moment) → m.place ≡ place_in_round p m.window
    → m.rounds ≡ rounds p before → time_of p before m.window ≡ time_at p m
time_same p before m place over =
    ap (λ (n : ℕ). n * round_length p + place_in_round p m.window) (sym over) ∙ ap
    (λ (n : ℕ). m.rounds * round_length p + n) (sym place)

window_same : (s : State) (before : List Entry) (last : Option Moment) (a b : Seen) → IsMoment s.params before last
    → in_window s before (last_window before) a b ≡ in_moment s last a b
window_same s before None a b h = ap (λ (o : Option Opportunity). in_window s before o a b) h.0
window_same s before (Some m) a b h =
    ap (λ (o : Option Opportunity). in_window s before o a b) h.0
    ∙ ap (λ (t : ℕ). sighting s t (last_fetch before) m.window a b A ∷ sighting s t
    (last_fetch before) m.window a b B ∷ []) (time_same s.params before m h.1 h.2)
    ∙ ap (λ (f : Option ℕ). sighting s (time_at s.params m) f m.window a b A ∷ sighting s
    (time_at s.params m) f m.window a b B ∷ []) h.3

pub seen_same : (s : State) (before : List Entry) (last : Option Moment) (e : Entry) → IsMoment s.params before last
    → sightings_at s before e ≡ seen_after s last e
seen_same s before last (Commit task buffer payload) h = refl
seen_same s before last (Withdraw task buffer of) h = refl
seen_same s before last (Read task buffer from) h = refl
seen_same s before last (Pop task from) h = refl
seen_same s before last (Fetch w a b) h = refl
seen_same s before last (Observe window a b) h = window_same s before last a b h

-- ---- few rounds

counted : (b : Bool) → cond {A = ℕ} b 1 0 ≤ 1
counted true = omega arith
counted false = omega arith

count-few : {X : Type 0} (test : List X → X → Bool) (before xs : List X) → count_after test before xs ≤ length xs
unfolding count_after
count-few test before [] = omega arith
count-few test before (x ∷ xs) = omega (arith, counted (test before x), count-few test (before ++ x ∷ []) xs)

pub few_rounds : (p : Parameters) (before : List Entry) (last : Option Moment) (most : ℕ) → IsMoment p before last
    → length before ≤ most → HasRounds most last
few_rounds p before None most h few = tt
few_rounds p before (Some m) most h few = omega (arith, h.2, count-few (begins_round p) [] before)
