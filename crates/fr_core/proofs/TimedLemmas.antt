-- The windows of a journal are timed, as those of the record that it follows.
use Rattle.std.proofs.Common.{◌≡◌, ◌≤◌, ◌<◌, ℕ, ◌+◌, ◌-◌, ◌%◌, Bool, false, cond, List, [], ◌∷◌, ◌++◌, length, take}
use Rattle.std.proofs.Common.{map, Some, refl, sym, ap, subst, ◌∙◌, arith, slice_get}
use Rattle.std.specs.Prelude.{count_by}
use Rattle.std.proofs.lemmas.Option.{slice_get_within}
use Rattle.fr_bus.specs.Windows.{begins_cycle, cycles_begun}
use Rattle.fr_slots.specs.Windows.{opens_cycle}
use Rattle.fr_bus.specs.Record.{Recorded}
use Rattle.fr_journal.specs.Cycles.{begins_cycle_at}
use Rattle.fr_core.proofs.TimingLemmas.{IsOnTime, AreOnTime, IsTimed, count_more}
use Rattle.fr_core.specs.Agreeing.{Handed, handed_at, fetched, offers_of, Follows}
use Rattle.fr_core.proofs.CaseLemmas.{both_first}
use Rattle.fr_core.proofs.HandingLemmas.{IsFetchOf, fetch_in}
use Rattle.fr_slots.proofs.PlaceLemmas.{same_head, same_tail, get-append, map-get, each_after-cut, each_after-placed}
use Rattle.fr_slots.proofs.PlaceLemmas.{AllAfter-take, front-map}
use Rattle.fr_interface.specs.State.{State}
use Rattle.fr_journal.specs.Forms.{Entry}
use Rattle.fr_journal.specs.declared.entry.Entry.TheVariants.{Commit, Withdraw, Read, Pop, Fetch, Observe}
use Rattle.fr_journal.specs.declared.entry.Offered.{Offered}
use Rattle.fr_slots.specs.History.{AllAfter, each_after}
use Rattle.fr_slots.specs.Parameters.{Parameters}
use Rattle.fr_slots.specs.Plans.{Plan}
use Rattle.fr_slots.specs.Windows.{Opportunity, is_static}

-- ---- a journal that fetched the windows of a record

counted_none : (begun : ℕ) (before : List Entry) (e : Entry) → begins_cycle_at e ≡ false
    → count_by begins_cycle_at before ≡ begun → count_by begins_cycle_at (before ++ e ∷ []) ≡ begun
counted_none begun before e other same =
    let none : cond {A = ℕ} (begins_cycle_at e) 1 0 ≡ 0 = ap (λ (b : Bool). cond {A = ℕ} b 1 0) other in
    omega (arith, none, same, count_more begins_cycle_at before e)

counted_fetch : (sofar : List Recorded) (r : Recorded) (before : List Entry) (w : Opportunity) (a b : Offered)
    → w ≡ r.window → count_by begins_cycle_at before ≡ cycles_begun sofar
    → count_by begins_cycle_at (before ++ Fetch w a b ∷ []) ≡ cycles_begun (sofar ++ r ∷ [])
counted_fetch sofar r before w a b is same =
    let begun : cond {A = ℕ} (opens_cycle w) 1 0 ≡ cond {A = ℕ} (opens_cycle r.window) 1 0 =
    ap (λ (x : Opportunity). cond {A = ℕ} (opens_cycle x) 1 0) is in
    let entries : count_by begins_cycle_at (before ++ Fetch w a b ∷ []) ≡ count_by begins_cycle_at before + cond {A = ℕ}
    (opens_cycle w) 1 0 = count_more begins_cycle_at before (Fetch w a b) in
    let records : cycles_begun (sofar ++ r ∷ []) ≡ cycles_begun sofar + cond {A = ℕ} (opens_cycle r.window) 1 0 =
    count_more begins_cycle sofar r in
    omega (arith, begun, entries, records, same)

fetch_timed : (slot : ℕ) (sofar : List Recorded) (r : Recorded) (before : List Entry) (w : Opportunity) (a b : Offered)
    → w ≡ r.window → count_by begins_cycle_at before ≡ cycles_begun sofar
    → IsOnTime (cycles_begun sofar) r.window → IsTimed slot before (Fetch w a b)
fetch_timed slot sofar r before w a b is same on_time window =
    let on_time_w : IsOnTime (cycles_begun sofar) w = subst (IsOnTime (cycles_begun sofar)) (sym is) on_time in
    ap (λ n. (n - 1) % 64) (count_more begins_cycle_at before (Fetch w a b) ∙ ap
    (λ n. n + cond {A = ℕ} (opens_cycle w) 1 0) same) ∙ sym (on_time_w (both_first (is_static w) _ window))

journal_timed : (p : Parameters) (plan : Plan) (slot n : ℕ) (sofar rs : List Recorded) (before es : List Entry)
    → count_by begins_cycle_at before ≡ cycles_begun sofar
    → each_after (handed_at p plan) before es ≡ map (offers_of n) rs → AreOnTime sofar rs
    → AllAfter (IsTimed slot) before es
unfolding AllAfter each_after
journal_timed p plan slot n sofar rs before [] same is on_time = tt
journal_timed p plan slot n sofar rs before (Commit task buffer payload ∷ es) same is on_time = (
  tt,
  journal_timed p plan slot n sofar rs (before ++ Commit task buffer payload ∷ []) es
      (counted_none (cycles_begun sofar) before (Commit task buffer payload) refl same) is on_time,
)
journal_timed p plan slot n sofar rs before (Withdraw task buffer of ∷ es) same is on_time = (
  tt,
  journal_timed p plan slot n sofar rs (before ++ Withdraw task buffer of ∷ []) es
      (counted_none (cycles_begun sofar) before (Withdraw task buffer of) refl same) is on_time,
)
journal_timed p plan slot n sofar rs before (Read task buffer from ∷ es) same is on_time = (
  tt,
  journal_timed p plan slot n sofar rs (before ++ Read task buffer from ∷ []) es
      (counted_none (cycles_begun sofar) before (Read task buffer from) refl same) is on_time,
)
journal_timed p plan slot n sofar rs before (Pop task from ∷ es) same is on_time = (
  tt,
  journal_timed p plan slot n sofar rs (before ++ Pop task from ∷ []) es
      (counted_none (cycles_begun sofar) before (Pop task from) refl same) is on_time,
)
journal_timed p plan slot n sofar rs before (Observe number a b ∷ es) same is on_time = (
  tt,
  journal_timed p plan slot n sofar rs (before ++ Observe number a b ∷ []) es
      (counted_none (cycles_begun sofar) before (Observe number a b) refl same) is on_time,
)
journal_timed p plan slot n sofar [] before (Fetch w a b ∷ es) same is on_time = absurd (let none : ⊥ = cc in none)
journal_timed p plan slot n sofar (r ∷ rs) before (Fetch w a b ∷ es) same is on_time =
    let window : w ≡ r.window = ap (λ (h : Handed). h.window) (same_head _ _ _ _ is) in (
      fetch_timed slot sofar r before w a b window same on_time.0,
      journal_timed p plan slot n (sofar ++ r ∷ []) rs (before ++ Fetch w a b ∷ []) es
          (counted_fetch sofar r before w a b window same) (same_tail _ _ _ _ is) on_time.1,
    )

-- ---- the fetch of a recorded window

-- a value given before a cut is given before all the rest
cut_given : {A : Type 0} (give : List Entry → Entry → List A) (entries inner : List Entry) (here : Entry)
    (after : List Entry) (out : List A) → entries ≡ inner ++ here ∷ after
    → each_after give [] entries ≡ out → each_after give [] inner ++
    (give inner here ++ each_after give (inner ++ here ∷ []) after) ≡ out
cut_given give entries inner here after out cut is = sym (each_after-cut give [] inner here after) ∙ sym
    (ap (each_after give []) cut) ∙ is

-- the entry that fetched the window, and the entries before it, whose windows are timed
pub record IsWindowFetched (node : ℕ) (s : State) (r : Recorded) : Type 0 where
  pub before : List Entry
  pub fetch : Entry
  pub after : List Entry
  pub cut : s.entries ≡ before ++ fetch ∷ after
  pub is : IsFetchOf s before fetch (offers_of node r)
  pub timed : (slot : ℕ) → AllAfter (IsTimed slot) [] before

pub fetch_of_window : (node : ℕ) (s : State) (rs : List Recorded) (k : ℕ) (r : Recorded) {p : Parameters}
    → Follows p rs node s → AreOnTime [] rs → slice_get rs k ≡ Some r → IsWindowFetched node s r
fetch_of_window node s rs k r f on_time at =
    let give = handed_at s.params s.plan in
    let there : slice_get (fetched s) k ≡ Some (offers_of node r) =
    ap (λ (l : List Handed). slice_get l k) f.fetches ∙ get-append (map (offers_of node) rs) f.under_way k
    (offers_of node r) (map-get (offers_of node) rs k r at) in
    let c = each_after-placed give [] s.entries k (offers_of node r) there in
    let first = each_after give [] c.inner in
    let all : first ++ (give c.inner c.here ++ each_after give (c.inner ++ c.here ∷ []) c.after) ≡ map
    (offers_of node) rs ++ f.under_way =
    cut_given give s.entries c.inner c.here c.after (map (offers_of node) rs ++ f.under_way) c.cut f.fetches in
    let within : k < length rs = slice_get_within rs k r at in
    let place = c.place_is in
    let few : length first ≤ length rs = omega (arith, within, place) in
    record {
      before = c.inner;
      fetch = c.here;
      after = c.after;
      cut = c.cut;
      is = fetch_in s c.inner c.here (offers_of node r) c.place c.at;
      timed = λ slot. journal_timed s.params s.plan slot node [] (take (length first) rs) [] c.inner refl
          (front-map (offers_of node) first (give c.inner c.here ++ each_after give (c.inner ++ c.here ∷ []) c.after)
          f.under_way rs all few)
          (AllAfter-take (λ (b : List Recorded) (x : Recorded). IsOnTime (cycles_begun b) x.window)
          (length first) [] rs on_time);
    }
