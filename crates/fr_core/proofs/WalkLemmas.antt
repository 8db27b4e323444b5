-- One more entry of a journal, beside the record.
use Rattle.std.proofs.Common.{◌≡◌, Bool, true, false, ◌&&◌, ◌<◌, ◌≤◌, ◌↔◌, ℕ, zero, suc, ◌+◌, List, [], ◌∷◌, ◌++◌}
use Rattle.std.proofs.Common.{length, map, Option, Some, None, refl, sym, ap, subst, ◌∙◌, arith, take, drop}
use Rattle.std.proofs.Common.{append_assoc, inl, inr}
use Rattle.std.specs.Prelude.{slice_get, option_to_list, option_map, nat_lt, if◌then◌else◌, IsTrue, is_none}
use Rattle.std.specs.Option.{option_and_then, option_or}
use Rattle.std.proofs.lemmas.Bool.{ltb-true, ltb-false}
use Rattle.std.proofs.lemmas.Bool.Decides.{eqb_tells}
use Rattle.std.proofs.lemmas.List.{take_more, take_all, append-nil, length-append, length-map, take-append-drop}
use Rattle.std.proofs.lemmas.Option.{slice_get_past, slice_get_within, get_or_from_slice_get}
use Rattle.fr_bus.specs.Record.{Recorded}
use Rattle.fr_core.specs.Agreeing.{Sight, sight_of, handed_at, sight_at, offers_of, sights_of}
use Rattle.fr_core.specs.declared.walk.Fetches.{Fetches}
use Rattle.fr_core.specs.declared.walk.Observes.{Observes}
use Rattle.fr_core.specs.Settling.{HasWindows, fetches_at, observes_at, windows_fetched, windows_observed, windows_of}
use Rattle.fr_core.specs.Walks.{Finds, FindsBelow, FindsNext, IsCompared, AreFetches, FetchesNext, AreObserves}
use Rattle.fr_core.specs.Walks.{SightsNext, ObservesNext, handed_by, opened_after, sight_told, is_nothing, is_silent}
use Rattle.fr_interface.specs.Handing.{offered_on, bytes_in_entry, bytes_handed}
use Rattle.fr_interface.specs.State.{State}
use Rattle.fr_journal.proofs.OpenWindowLemmas.{open_window-snoc}
use Rattle.fr_journal.specs.Forms.{Entry}
use Rattle.fr_journal.specs.declared.entry.Entry.TheVariants.{Commit, Withdraw, Read, Pop, Fetch, Observe}
use Rattle.fr_journal.specs.declared.entry.Offered.{Offered}
use Rattle.fr_journal.specs.declared.entry.Offered.TheVariants.{Nothing, Null, Data}
use Rattle.fr_journal.specs.Offers.{frame_with, frame_of_offer, bytes_of}
use Rattle.fr_journal.specs.OpenWindow.{open_window}
use Rattle.fr_slots.specs.declared.channel.Channel.{Channel}
use Rattle.fr_slots.specs.declared.channel.Channel.TheVariants.{A, B}
use Rattle.fr_slots.specs.Parameters.{Parameters}
use Rattle.fr_slots.specs.Plans.{Plan}
use Rattle.fr_slots.specs.Windows.{Opportunity, slot_of}
use Rattle.fr_slots.proofs.HistoryLemmas.{each_after-snoc}
use Rattle.fr_slots.specs.History.{each_after, last_after}

-- ---- places of lists

pub some_alike : {X : Type 0} (x y : X) → ◌≡◌ {A = Option X} (Some x) (Some y) → x ≡ y
some_alike x y e = cc

pub none_past : {X : Type 0} (xs : List X) (k : ℕ) → k < length xs → slice_get xs k ≡ None → ⊥
none_past [] k below none = omega (arith, below)
none_past (x ∷ xs) zero below none = cc
none_past (x ∷ xs) (suc k) below none = none_past xs k (omega (arith, below)) none

get_after : {X : Type 0} (xs : List X) (y : X) (more : List X) (k : ℕ) → length xs ≡ k
    → slice_get (xs ++ y ∷ more) k ≡ Some y
get_after [] y more zero long = refl
get_after [] y more (suc k) long = absurd (let none : ⊥ = omega (arith, long) in none)
get_after (x ∷ xs) y more zero long = absurd (let none : ⊥ = omega (arith, long) in none)
get_after (x ∷ xs) y more (suc k) long = get_after xs y more k (omega (arith, long))

pub get_map : {X Y : Type 0} (f : X → Y) (xs : List X) (k : ℕ) → slice_get (map f xs) k ≡ option_map f (slice_get xs k)
get_map f [] k = refl
get_map f (x ∷ xs) zero = refl
get_map f (x ∷ xs) (suc k) = get_map f xs k

pub same_places : {X : Type 0} (xs ys : List X) → ((k : ℕ) → slice_get xs k ≡ slice_get ys k) → xs ≡ ys
same_places [] [] same = refl
same_places [] (y ∷ ys) same = absurd (let none : ⊥ = (let clash : None ≡ Some y = same 0 in cc) in none)
same_places (x ∷ xs) [] same = absurd (let none : ⊥ = (let clash : Some x ≡ None = same 0 in cc) in none)
same_places (x ∷ xs) (y ∷ ys) same =
    ap (λ z. z ∷ xs) (some_alike x y (same 0)) ∙ ap (λ zs. y ∷ zs) (same_places xs ys (λ k. same (suc k)))

-- ---- searches

-- the places before this one, and this place
pub next_below : (P : ℕ → Type 0) (Same : Type 0) (place : ℕ) (o r : Option ℕ) → (Same → P place) → (P place → Same)
    → FindsBelow place P o → FindsNext Same place o r → FindsBelow (place + 1) P r
next_below P Same place (Some j) r to from first next = subst (FindsBelow (place + 1) P) (sym next) first
next_below P Same place None None to from below next = λ n few.
    elim (eqb_tells n place) [
      | inl is ↦ subst P (sym is.1) (to next)
      | inr other ↦ below n (let less : n < place = omega (arith, few, other.1) in less)
    ]
next_below P Same place None (Some j) to from below next =
    let is = next.0 in
    record {
      fails = λ holds. next.1 (from (subst P is holds));
      before = λ m few. below m (omega (arith, few, is));
    }

-- a test in place of its fact
pub next_told : (P : Type 0) (b : Bool) (place : ℕ) (o r : Option ℕ) → (IsTrue b ↔ P) → FindsNext (IsTrue b) place o r
    → FindsNext P place o r
next_told P b place (Some j) r told next = next
next_told P b place None None told next = told.0 next
next_told P b place None (Some j) told next = (next.0, λ holds. next.1 (told.1 holds))

-- ---- the values of entries

module _ {X A : Type 0} (f : List X → X → List A) where
  nil : each_after f [] [] ≡ []
  unfolding each_after
  nil = refl

  step : (xs : List X) (k : ℕ) (x : X) → slice_get xs k ≡ Some x
      → each_after f [] (take (k + 1) xs) ≡ each_after f [] (take k xs) ++ f (take k xs) x
  step xs k x at =
      let within : k < length xs = slice_get_within xs k x at in
      ap (each_after f []) (take_more xs k x within ∙ ap (λ y. take k xs ++ y ∷ []) (get_or_from_slice_get xs k x x at))
      ∙ each_after-snoc f (take k xs) x

  -- the values of all entries are the first ones, and more
  rest : (before xs : List X) → (more : List A) × (each_after f [] (before ++ xs) ≡ each_after f [] before ++ more)
  rest before [] = ([], ap (each_after f []) (append-nil before) ∙ sym (append-nil (each_after f [] before)))
  rest before (x ∷ xs) =
      let later = rest (before ++ x ∷ []) xs in (
        f before x ++ later.0,
        ap (each_after f []) (sym (append_assoc before (x ∷ []) xs)) ∙ later.1
            ∙ ap (λ l. l ++ later.0) (each_after-snoc f before x)
            ∙ append_assoc (each_after f [] before) (f before x) later.0,
      )

  some_rest : (xs : List X) (k : ℕ) → (more : List A) × (each_after f [] xs ≡ each_after f [] (take k xs) ++ more)
  some_rest xs k =
      let all = rest (take k xs) (drop k xs) in
      (all.0, ap (each_after f []) (sym (take-append-drop k xs)) ∙ all.1)

  module _ (xs : List X) (k place : ℕ) (x : X) (at : slice_get xs k ≡ Some x)
      (many : length (each_after f [] (take k xs)) ≡ place) where
    pub as_many_past : f (take k xs) x ≡ [] → length (each_after f [] (take (k + 1) xs)) ≡ place
    as_many_past is =
        ap length (step xs k x at ∙ ap (λ l. each_after f [] (take k xs) ++ l) is ∙ append-nil
        (each_after f [] (take k xs))) ∙ many

    module _ (y : A) (is : f (take k xs) x ≡ y ∷ []) where
      one_more : each_after f [] (take (k + 1) xs) ≡ each_after f [] (take k xs) ++ y ∷ []
      one_more = step xs k x at ∙ ap (λ l. each_after f [] (take k xs) ++ l) is

      pub as_many_on : length (each_after f [] (take (k + 1) xs)) ≡ place + 1
      as_many_on = ap length one_more ∙ length-append (each_after f [] (take k xs)) (y ∷ []) ∙ ap (λ m. m + 1) many

      -- the value of the entry is at its place among those of all entries
      pub stands : slice_get (each_after f [] xs) place ≡ Some y
      stands =
          let more = some_rest xs (k + 1) in
          ap (λ l. slice_get l place) (more.1 ∙ ap (λ l. l ++ more.0) one_more ∙ append_assoc
          (each_after f [] (take k xs)) (y ∷ []) more.0)
          ∙ get_after (each_after f [] (take k xs)) y more.0 place many

  pub as_many_all : (xs : List X) (place : ℕ) → length (each_after f [] (take (length xs) xs)) ≡ place
      → length (each_after f [] xs) ≡ place
  as_many_all xs place many = ap (λ l. length (each_after f [] l)) (sym (take_all (length xs) xs (omega arith))) ∙ many

-- ---- beside the record

module _ {X A : Type 0} (f : List X → X → List A) (xs : List X) (g : Recorded → A) (rs : List Recorded) where
  pub compared_first : IsCompared f xs (map g rs) 0 0 None
  compared_first = record {
    as_many = ap length (nil f);
    few = omega arith;
    finds =
        λ n below. absurd (omega (arith, below));
  }

  module _ (k place : ℕ) (found : Option ℕ) (x : X) (at : slice_get xs k ≡ Some x)
      (far : IsCompared f xs (map g rs) k place found) where
    pub compared_past : f (take k xs) x ≡ [] → IsCompared f xs (map g rs) (k + 1) place found
    compared_past is =
        let few = far.few in
        record { as_many = as_many_past f xs k place x at far.as_many is; few = omega (arith, few); finds = far.finds }

    pub compared_on : (y : A) (next : Option ℕ) → f (take k xs) x ≡ y ∷ []
        → FindsNext (option_map g (slice_get rs place) ≡ Some y) place found next
        → IsCompared f xs (map g rs) (k + 1) (place + 1) next
    compared_on y next is told =
        let few = far.few in
        let here : slice_get (each_after f [] xs) place ≡ Some y = stands f xs k place x at far.as_many y is in
        record {
          as_many = as_many_on f xs k place x at far.as_many y is;
          few = omega (arith, few);
          finds = next_below (λ j. slice_get (each_after f [] xs) j ≡ slice_get (map g rs) j)
              (option_map g (slice_get rs place) ≡ Some y) place found next
              (λ same. here ∙ sym same ∙ sym (get_map g rs place))
              (λ same. sym (get_map g rs place) ∙ sym same ∙ here) far.finds told;
        }

  pub finds_rest : (k place : ℕ) (found r : Option ℕ) → k ≡ length xs → IsCompared f xs (map g rs) k place found
      → r ≡ option_or found (if nat_lt place (length rs) then Some place else None)
      → Finds (λ j. slice_get (each_after f [] xs) j ≡ slice_get (map g rs) j) r
  finds_rest k place found r end far is =
      let whole : IsCompared f xs (map g rs) (length xs) place found =
      subst (λ m. IsCompared f xs (map g rs) m place found) end far in
      by_found found (nat_lt place (length rs)) refl (as_many_all f xs place whole.as_many) whole.finds is
    where
      by_found : (o : Option ℕ) (b : Bool) → nat_lt place (length rs) ≡ b → length (each_after f [] xs) ≡ place
          → FindsBelow place (λ j. slice_get (each_after f [] xs) j ≡ slice_get (map g rs) j) o
          → r ≡ option_or o (if b then Some place else None)
          → Finds (λ j. slice_get (each_after f [] xs) j ≡ slice_get (map g rs) j) r
      by_found (Some j) b test long first is = subst (Finds
          (λ j. slice_get (each_after f [] xs) j ≡ slice_get (map g rs) j)) (sym is) first
      by_found None true test long below is =
          let short : place < length rs = ltb-true place (length rs) test in
          let rows : length (map g rs) ≡ length rs = length-map rs g in
          subst (Finds (λ j. slice_get (each_after f [] xs) j ≡ slice_get (map g rs) j)) (sym is)
          (record {
            fails = λ same. none_past (map g rs) place (omega (arith, short, rows))
                (sym same ∙ slice_get_past (each_after f [] xs) place (omega (arith, long)));
            before = below;
          })
      by_found None false test long below is =
          let great : length rs ≤ place = ltb-false place (length rs) test in
          let rows : length (map g rs) ≡ length rs = length-map rs g in
          subst (Finds (λ j. slice_get (each_after f [] xs) j ≡ slice_get (map g rs) j)) (sym is)
          (λ n. by_place n (nat_lt n place) refl great rows below)
        where
          by_place : (n : ℕ) (t : Bool) → nat_lt n place ≡ t → length rs ≤ place → length (map g rs) ≡ length rs
              → ((m : ℕ) → m < place → slice_get (each_after f [] xs) m ≡ slice_get (map g rs) m)
              → slice_get (each_after f [] xs) n ≡ slice_get (map g rs) n
          by_place n true test great rows below = below n (ltb-true n place test)
          by_place n false test great rows below =
              let past : place ≤ n = ltb-false n place test in
              slice_get_past (each_after f [] xs) n (omega (arith, long, past)) ∙ sym
              (slice_get_past (map g rs) n (omega (arith, great, rows, past)))

-- ---- fetches

pub silent_nothing : (p : Parameters) (plan : Plan) (before : List Entry) (channel : Channel) (o : Option Entry)
    (e : Entry) → o ≡ Some e → is_silent channel e ≡ true
    → option_and_then (bytes_in_entry p plan before channel) o ≡ None
silent_nothing p plan before channel o e at silent = ap (option_and_then (bytes_in_entry p plan before channel)) at ∙
    by_entry e silent
  where
    no_frame : (w : Opportunity) (slot : Option ℕ) → option_and_then
        (λ n. frame_of_offer p plan before w channel n Nothing) slot ≡ None
    no_frame w None = refl
    no_frame w (Some slot) = refl

    by_offer : (w : Opportunity) (o : Offered) → is_nothing o ≡ true
        → bytes_of channel (frame_with p plan before w channel o) ≡ None
    by_offer w Nothing is = ap (bytes_of channel) (no_frame w (slot_of w channel))
    by_offer w Null is = absurd (let none : ⊥ = cc in none)
    by_offer w (Data commit) is = absurd (let none : ⊥ = cc in none)

    by_entry : (x : Entry) → is_silent channel x ≡ true → bytes_in_entry p plan before channel x ≡ None
    by_entry (Commit task buffer payload) is = refl
    by_entry (Withdraw task buffer of) is = refl
    by_entry (Read task buffer from) is = refl
    by_entry (Pop task from) is = refl
    by_entry (Fetch window a b) is = by_offer window (offered_on channel a b) is
    by_entry (Observe number a b) is = refl

handed_in : (s : State) (k : ℕ) (window : Opportunity) (a b : Offered) → slice_get s.entries k ≡ Some (Fetch window a b)
    → handed_at s.params s.plan (take k s.entries) (Fetch window a b) ≡ handed_by s k window ∷ []
handed_in s k window a b at =
    let on : (channel : Channel) → bytes_handed s k channel ≡ bytes_of channel
    (frame_with s.params s.plan (take k s.entries) window channel (offered_on channel a b)) =
    λ channel. ap (option_and_then (bytes_in_entry s.params s.plan (take k s.entries) channel)) at in
    let e = on A in
    let g = on B in
    rw (e, g) refl

module _ (s : State) (n : ℕ) (rs : List Recorded) where
  pub fetches_first : AreFetches s n rs 0 (record { count = 0; window = None; offer = None })
  fetches_first = record {
    windows = compared_first fetches_at s.entries (λ (r : Recorded). r.window) rs;
    offers = compared_first (handed_at s.params s.plan) s.entries (offers_of n) rs;
  }

  module _ (k : ℕ) (x : Fetches) (far : AreFetches s n rs k x) where
    none_more : (e : Entry) (y : Fetches) → slice_get s.entries k ≡ Some e → fetches_at (take k s.entries) e ≡ []
        → handed_at s.params s.plan (take k s.entries) e ≡ []
        → y ≡ x → AreFetches s n rs (k + 1) y
    none_more e y at no_window no_offer same = subst (AreFetches s n rs (k + 1)) (sym same)
        (record {
          windows = compared_past fetches_at s.entries (λ (r : Recorded). r.window) rs k x.count x.window e at
              far.windows no_window;
          offers = compared_past (handed_at s.params s.plan) s.entries
              (offers_of n) rs k x.count x.offer e at far.offers no_offer;
        })

    pub fetches_on : (e : Entry) (y : Fetches) → slice_get s.entries k ≡ Some e → FetchesNext s n rs k x e y
        → AreFetches s n rs (k + 1) y
    fetches_on (Commit task buffer payload) y at next = none_more (Commit task buffer payload) y at refl refl next
    fetches_on (Withdraw task buffer of) y at next = none_more (Withdraw task buffer of) y at refl refl next
    fetches_on (Read task buffer from) y at next = none_more (Read task buffer from) y at refl refl next
    fetches_on (Pop task from) y at next = none_more (Pop task from) y at refl refl next
    fetches_on (Observe number a b) y at next = none_more (Observe number a b) y at refl refl next
    fetches_on (Fetch window a b) y at next = record {
      windows = subst (λ m. IsCompared fetches_at s.entries (windows_of rs) (k + 1) m y.window) (sym next.0)
          (compared_on fetches_at s.entries (λ (r : Recorded). r.window) rs k x.count x.window
          (Fetch window a b) at far.windows window y.window refl next.1);
      offers = subst (λ m. IsCompared (handed_at s.params s.plan) s.entries (map (offers_of n) rs) (k + 1) m y.offer)
          (sym next.0)
          (compared_on (handed_at s.params s.plan) s.entries (offers_of n) rs k x.count x.offer
          (Fetch window a b) at far.offers (handed_by s k window) y.offer
          (handed_in s k window a b at) next.2);
    }

-- ---- observes

sight_given : (before : List Entry) (e : Entry) → sight_at before e ≡ option_to_list (sight_told (open_window before) e)
sight_given before (Commit task buffer payload) = refl
sight_given before (Withdraw task buffer of) = refl
sight_given before (Read task buffer from) = refl
sight_given before (Pop task from) = refl
sight_given before (Fetch window a b) = refl
sight_given before (Observe number a b) = refl

window_given : (before : List Entry) (e : Entry) → observes_at before e ≡ option_to_list
    (option_map (λ (x : Sight). x.window) (sight_told (open_window before) e))
window_given before (Commit task buffer payload) = refl
window_given before (Withdraw task buffer of) = refl
window_given before (Read task buffer from) = refl
window_given before (Pop task from) = refl
window_given before (Fetch window a b) = refl
window_given before (Observe number a b) = by_window (open_window before)
  where
    by_window : (w : Option Opportunity) → option_to_list w ≡ option_to_list
        (option_map (λ (x : Sight). x.window) (option_map (sight_of a b) w))
    by_window None = refl
    by_window (Some x) = refl

opened-snoc : (before : List Entry) (e : Entry) → open_window (before ++ e ∷ []) ≡ opened_after (open_window before) e
opened-snoc before (Commit task buffer payload) = open_window-snoc before (Commit task buffer payload)
opened-snoc before (Withdraw task buffer of) = open_window-snoc before (Withdraw task buffer of)
opened-snoc before (Read task buffer from) = open_window-snoc before (Read task buffer from)
opened-snoc before (Pop task from) = open_window-snoc before (Pop task from)
opened-snoc before (Fetch window a b) = open_window-snoc before (Fetch window a b)
opened-snoc before (Observe number a b) = open_window-snoc before (Observe number a b)

opened_nil : open_window [] ≡ None
unfolding last_after
opened_nil = refl

opened_more : (xs : List Entry) (k : ℕ) (e : Entry) → slice_get xs k ≡ Some e
    → open_window (take (k + 1) xs) ≡ opened_after (open_window (take k xs)) e
opened_more xs k e at =
    ap open_window (take_more xs k e (slice_get_within xs k e at) ∙ ap (λ y. take k xs ++ y ∷ [])
    (get_or_from_slice_get xs k e e at)) ∙ opened-snoc (take k xs) e

module _ (p : Parameters) (s : State) (n : ℕ) (rs : List Recorded) where
  pub observes_first : AreObserves p s n rs 0 (record { count = 0; opened = None; window = None; sight = None })
  observes_first = record {
    opened = sym opened_nil;
    windows = compared_first observes_at s.entries (λ (r : Recorded). r.window) rs;
    sights = compared_first sight_at s.entries (sights_of p n) rs;
  }

  pub observes_on : (k : ℕ) (x : Observes) (e : Entry) (y : Observes) → AreObserves p s n rs k x
      → slice_get s.entries k ≡ Some e → ObservesNext p n rs x e y
      → AreObserves p s n rs (k + 1) y
  observes_on k x e y far at next =
      let opened : y.opened ≡ open_window (take (k + 1) s.entries) =
      next.opened ∙ ap (λ w. opened_after w e) far.opened ∙ sym (opened_more s.entries k e at) in
      by_sight (sight_told x.opened e) opened
      (sight_given (take k s.entries) e ∙ ap (λ w. option_to_list (sight_told w e)) (sym far.opened))
      (window_given (take k s.entries) e ∙ ap (λ w. option_to_list
      (option_map (λ (z : Sight). z.window) (sight_told w e))) (sym far.opened)) next.sights
    where
      by_sight : (o : Option Sight) → y.opened ≡ open_window (take (k + 1) s.entries)
          → sight_at (take k s.entries) e ≡ option_to_list o
          → observes_at (take k s.entries) e ≡ option_to_list (option_map (λ (z : Sight). z.window) o)
          → SightsNext p n rs x o y → AreObserves p s n rs (k + 1) y
      by_sight None opened sight window told = record {
        opened = opened;
        windows = subst (λ m. IsCompared observes_at s.entries (windows_of rs) (k + 1) m y.window) (sym told.0)
            (subst (IsCompared observes_at s.entries (windows_of rs) (k + 1) x.count) (sym told.1)
            (compared_past observes_at s.entries (λ (r : Recorded). r.window) rs k x.count x.window e at far.windows
            window));
        sights = subst (λ m. IsCompared sight_at s.entries (map (sights_of p n) rs) (k + 1) m y.sight) (sym told.0)
            (subst (IsCompared sight_at s.entries (map (sights_of p n) rs) (k + 1) x.count) (sym told.2)
            (compared_past sight_at s.entries (sights_of p n) rs k x.count x.sight e at far.sights sight));
      }
      by_sight (Some z) opened sight window told = record {
        opened = opened;
        windows = subst (λ m. IsCompared observes_at s.entries (windows_of rs) (k + 1) m y.window) (sym told.0)
            (compared_on observes_at s.entries (λ (r : Recorded). r.window) rs k x.count x.window e at far.windows
            z.window y.window window told.1);
        sights = subst (λ m. IsCompared sight_at s.entries (map (sights_of p n) rs) (k + 1) m y.sight) (sym told.0)
            (compared_on sight_at s.entries (sights_of p n) rs k x.count x.sight e at far.sights z y.sight sight
            told.2);
      }

-- ---- windows of both

pub windows_told : (rs : List Recorded) (s : State) (a b : Option ℕ) (has : Bool) → has ≡ (is_none a && is_none b)
    → Finds (λ j. slice_get (windows_fetched s) j ≡ slice_get (windows_of rs) j) a
    → Finds (λ j. slice_get (windows_observed s) j ≡ slice_get (windows_of rs) j) b
    → IsTrue has ↔ HasWindows rs s
windows_told rs s None None has is fetches observes = (
  λ yes. record {
    fetches = same_places (windows_fetched s) (windows_of rs) fetches;
    observes =
        same_places (windows_observed s) (windows_of rs) observes;
  },
  λ windows. is,
)
windows_told rs s (Some j) b has is first observes = (
  λ yes. absurd (let none : ⊥ = cc in none),
  λ windows. absurd
      (first.fails (ap (λ l. slice_get l j) windows.fetches)),
)
windows_told rs s None (Some j) has is fetches first = (
  λ yes. absurd (let none : ⊥ = cc in none),
  λ windows. absurd
      (first.fails (ap (λ l. slice_get l j) windows.observes)),
)
