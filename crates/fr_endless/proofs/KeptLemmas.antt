-- The lines of the windows that were sealed last, and the replies to `record` by them.
use Rattle.std.proofs.Common.{◌≡◌, ◌≢◌, ◌⊎◌, ◌<◌, ◌≤◌, ℕ, suc, ◌+◌, ◌*◌, ◌/◌, ◌%◌, max, Bool, true, false}
use Rattle.std.proofs.Common.{List, [], ◌∷◌, ◌++◌, length, set, get_or, replicate, Option, Some, None, refl, sym, ap}
use Rattle.std.proofs.Common.{subst, ◌∙◌, arith, inl, inr, cond, leb, eqb, length-append, ◌-◌}
use Rattle.std.proofs.lemmas.Bool.{cases_lt, eq-eqb, eqb-true, le-leb, leb-true}
use Rattle.std.proofs.lemmas.Bool.Decides.{eqb_tells, leb_tells}
use Rattle.std.proofs.lemmas.List.{get_or-replicate, get_or-set_other, get_or-set_same, get_or_past, length-replicate}
use Rattle.std.proofs.lemmas.List.{length-set}
use Rattle.std.proofs.lemmas.Option.{slice_get_past, slice_get_within}
use Rattle.std.proofs.Math.Nat.{div-add-mod, eq-or-lt_of_le, mod-lt, mul-le-mul_left, mul-suc}
use Rattle.std.specs.Prelude.{slice_get}
use Rattle.fr_bus.specs.Record.{Recorded}
use Rattle.fr_core.proofs.ScriptLemmas.{get_within}
use Rattle.fr_core.specs.Worlds.{WorldState}
use Rattle.fr_endless.proofs.AlikeLemmas.{last_same, windows_same}
use Rattle.fr_endless.specs.Answers.{if_numbered, windows_by}
use Rattle.fr_endless.specs.Kept.{HoldsLast, IsKeptRecord, IsLastOr, IsOlder, IsOlderBy, IsRecordBy, IsTextOf}
use Rattle.fr_endless.specs.Kept.{IsTextReply, KeepsLast, KeepsNext, forgotten, is_kept, text_at}
use Rattle.fr_live.specs.LiveWorlds.{IsWorldHistory, LiveState}
use Rattle.fr_session.specs.Queries.{IsBlock, sealed_text}
use Rattle.fr_slots.proofs.PlaceLemmas.{IsInSecond, get-after, place-append, same_some}

-- ---- comparisons

leb_false : (a b : ℕ) → leb a b ≡ false → b < a
leb_false a b is = elim (leb_tells a b) [
  | inl below ↦ absurd (let none : ⊥ = cc (sym is ∙ below.0) in none)
  | inr above ↦ above.1
]

lt-leb_false : (a b : ℕ) → b < a → leb a b ≡ false
lt-leb_false a b less = elim (leb_tells a b) [
  | inl below ↦ absurd (let few = below.1 in let none : ⊥ = omega (arith, less, few) in none)
  | inr above ↦ above.0
]

-- ---- places

-- a number has another place than the next ones, of which there are fewer than places
pub apart : (n d places : ℕ) → 1 ≤ d → d < places → n % places ≢ (n + d) % places
apart n d places some few same = by (cases_lt (n / places) ((n + d) / places))
  where
    first : places * (n / places) + n % places ≡ n
    first = div-add-mod n places

    second : places * ((n + d) / places) + (n + d) % places ≡ n + d
    second = div-add-mod (n + d) places

    by : (n / places < (n + d) / places) ⊎ ((n + d) / places ≤ n / places) → ⊥
    by (inl above) =
        let more : places * suc (n / places) ≤ places * ((n + d) / places) = mul-le-mul_left places above in
        let product : places * suc (n / places) ≡ places * (n / places) + places = mul-suc places (n / places) in
        omega (arith, first, second, more, product, same, few)
    by (inr below) =
        let less : places * ((n + d) / places) ≤ places * (n / places) = mul-le-mul_left places below in
        omega (arith, first, second, less, same, some)

-- ---- the texts of the last windows

pub holds_as : (old new : List (Option (List ℕ))) (before after : List Recorded) → new ≡ old → after ≡ before
    → HoldsLast old before → HoldsLast new after
holds_as old new before after same still holds =
    subst (λ (k : List (Option (List ℕ))). HoldsLast k after) (sym same)
    (subst (λ (rs : List Recorded). HoldsLast old rs) (sym still) holds)

-- no text is known of any window
none_at : (places number : ℕ) → text_at (replicate places None) number ≡ None
none_at places number = by (cases_lt (number % length kept) places)
  where
    kept : List (Option (List ℕ))
    kept = replicate places None

    by : (number % length kept < places) ⊎ (places ≤ number % length kept) → text_at kept number ≡ None
    by (inl within) = get_or-replicate places (number % length kept) None None within
    by (inr past) =
        let many : length kept ≡ places = length-replicate places None in
        get_or_past kept (number % length kept) None (omega (arith, past, many))

pub holds_none : (kept : List (Option (List ℕ))) (rs : List Recorded) → HoldsLast (forgotten kept) rs
holds_none kept rs number r at few =
    subst (λ (o : Option (List ℕ)). IsTextOf o r) (sym (none_at (length kept) number)) tt

-- the texts before this place are forgotten
pub record AreForgotten (old new : List (Option (List ℕ))) (place : ℕ) : Type 0 where
  pub many : length new ≡ length old
  pub none : (n : ℕ) → n < place → get_or new n None ≡ None

pub forgot_none : (texts : List (Option (List ℕ))) → AreForgotten texts texts 0
forgot_none texts = record { many = refl; none = λ n less. absurd (let no : ⊥ = omega (arith, less) in no) }

pub forgot_more : (old mid : List (Option (List ℕ))) (place : ℕ) → AreForgotten old mid place
    → place < length mid → AreForgotten old (set mid place None) (place + 1)
forgot_more old mid place so_far within = record {
  many = length-set mid place None ∙ so_far.many;
  none = λ n less. by n less (eqb_tells n place);
}
  where
    by : (n : ℕ) → n < place + 1 → ((eqb n place ≡ true) × (n ≡ place)) ⊎ ((eqb n place ≡ false) × (n ≢ place))
        → get_or (set mid place None) n None ≡ None
    by n less (inl (test, same)) =
        ap (λ (i : ℕ). get_or (set mid place None) i None) same ∙ get_or-set_same mid place None None within
    by n less (inr (test, other)) =
        get_or-set_other mid place n None None other ∙ so_far.none n (before less other)
      where
        before : n < place + 1 → n ≢ place → n < place
        before few apart_from = elim (cases_lt n place) [
          | inl below ↦ below
          | inr past ↦ absurd (apart_from (omega (arith, few, past)))
        ]

none_all : (new : List (Option (List ℕ))) → ((n : ℕ) → n < length new → get_or new n None ≡ None)
    → new ≡ replicate (length new) None
none_all [] none = refl
none_all (x ∷ new) none =
    let first : x ≡ None = none 0 (omega arith) in
    let rest : new ≡ replicate (length new) None = none_all new (λ n less. none (suc n) (omega (arith, less))) in
    λ i. first i ∷ rest i

pub forgot_all : (old new : List (Option (List ℕ))) (place : ℕ) → AreForgotten old new place → length new ≤ place
    → new ≡ forgotten old
forgot_all old new place all past =
    none_all new (λ n less. all.none n (omega (arith, less, past)))
    ∙ ap (λ (n : ℕ). replicate {A = Option (List ℕ)} n None) all.many

pub forgotten_places : (kept : List (Option (List ℕ))) → length (forgotten kept) ≡ length kept
forgotten_places kept = length-replicate (length kept) None

-- the text of one more window
module _ (old new : List (Option (List ℕ))) (rs : List Recorded) (made : Recorded) (holds : HoldsLast old rs)
    (numbered : made.window.number ≡ length rs) (keeps : KeepsNext old made new) where
  abbrev places : ℕ
  places = length old

  abbrev next : ℕ
  next = made.window.number % places

  many : length new ≡ places
  many = ap (λ (l : List (Option (List ℕ))). length l) keeps.2 ∙ length-set old next keeps.0

  at_is : (number : ℕ) → text_at new number ≡ get_or (set old next keeps.0) (number % places) None
  at_is number =
      ap (λ (n : ℕ). get_or new (number % n) None) many
      ∙ ap (λ (l : List (Option (List ℕ))). get_or l (number % places) None) keeps.2

  here : (number : ℕ) → number ≡ length rs → 1 ≤ places → text_at new number ≡ keeps.0
  here number is some =
      let same : number % places ≡ next = ap (λ (n : ℕ). n % places) (is ∙ sym numbered) in
      at_is number ∙ ap (λ (i : ℕ). get_or (set old next keeps.0) i None) same
      ∙ get_or-set_same old next keeps.0 None (mod-lt made.window.number some)

  before : (number : ℕ) → number < length rs → length rs + 1 ≤ number + places → text_at new number ≡ text_at old number
  before number below few =
      let d : ℕ = length rs - number in
      let sum : number + d ≡ length rs = omega (arith, below) in
      let other : number % places ≢ next =
      λ same. apart number d places (omega (arith, below)) (omega (arith, below, few))
      (same ∙ ap (λ (n : ℕ). n % places) (numbered ∙ sym sum)) in
      at_is number ∙ get_or-set_other old next (number % places) keeps.0 None other

  pub holds_next : HoldsLast new (rs ++ made ∷ [])
  holds_next number r at few = by (place-append rs (made ∷ []) number r at)
    where
      longer : length (rs ++ made ∷ []) ≡ length rs + 1
      longer = length-append rs (made ∷ [])

      by : (slice_get rs number ≡ Some r) ⊎ IsInSecond rs (made ∷ []) number r → IsTextOf (text_at new number) r
      by (inl earlier) =
          let below : number < length rs = slice_get_within rs number r earlier in
          let fits : length rs + 1 ≤ number + places = omega (arith, few, longer, many) in
          subst (λ (o : Option (List ℕ)). IsTextOf o r) (sym (before number below fits))
          (holds number r earlier (omega (arith, fits)))
      by (inr last) =
          let only : last.place < 1 = slice_get_within (made ∷ []) last.place r last.at in
          let place : last.place ≡ 0 = omega (arith, only) in
          let is : number ≡ length rs =
          let sum = last.place_is in omega (arith, sum, place) in
          let it : made ≡ r = same_some made r (ap (slice_get (made ∷ [])) (sym place) ∙ last.at) in
          let some : 1 ≤ places = omega (arith, few, longer, many, is) in
          subst (λ (o : Option (List ℕ)). IsTextOf o r) (sym (here number is some))
          (subst (IsTextOf keeps.0) it keeps.1)

-- a seal
pub holds_sealed : (m : LiveState) (w v : WorldState) (made : Recorded) (old new : List (Option (List ℕ)))
    → v.bus.sealed ≡ w.bus.sealed ++ made ∷ [] → IsWorldHistory m v → HoldsLast old w.bus.sealed
    → KeepsLast old m.bus.last new → HoldsLast new v.bus.sealed
holds_sealed m w v made old new grows is holds keeps =
    subst (HoldsLast new) (sym grows)
    (holds_next old new w.bus.sealed made holds numbered (subst
    (λ (o : Option Recorded). KeepsLast old o new) last keeps))
  where
    last : m.bus.last ≡ Some made
    last = sym (last_same m v is) ∙ ap (λ (rs : List Recorded). slice_get rs (length rs - 1)) grows
        ∙ ap (slice_get (w.bus.sealed ++ made ∷ []))
        (let long = length-append w.bus.sealed (made ∷ []) in omega (arith, long))
        ∙ get-after w.bus.sealed [] made

    counts : made.window.number + 1 ≡ length w.bus.sealed + 1
    counts = ap windows_by (sym last) ∙ windows_same m v is ∙ ap (λ (rs : List Recorded). length rs) grows
        ∙ length-append w.bus.sealed (made ∷ [])

    numbered : made.window.number ≡ length w.bus.sealed
    numbered = omega (arith, counts)

pub as_many_places : (last : Option Recorded) (old new : List (Option (List ℕ))) → KeepsLast old last new
    → length new ≡ length old
as_many_places None old new keeps = ap (λ (l : List (Option (List ℕ))). length l) keeps
as_many_places (Some r) old new keeps =
    ap (λ (l : List (Option (List ℕ))). length l) keeps.2
    ∙ length-set old (r.window.number % length old) keeps.0

-- ---- the replies to `record`

record_of_text : (text : Option (List ℕ)) (r : Recorded) (reply : List ℕ) → IsTextOf text r → IsTextReply text reply
    → IsBlock (sealed_text r) reply
record_of_text None r reply is answered = inr answered
record_of_text (Some text) r reply is answered = subst (λ (t : List ℕ). IsBlock t reply) is answered

module _ (kept : List (Option (List ℕ))) (rs : List Recorded) (number : ℕ) (reply : List ℕ) where
  abbrev is_kept_now : Bool
  is_kept_now = is_kept (length kept) (length rs) number

  -- the window that was sealed last is always kept
  last_reply : (r : Recorded) → slice_get rs number ≡ Some r → number + 1 ≡ length rs → IsBlock (sealed_text r) reply
      → IsKeptRecord is_kept_now (slice_get rs number) reply
  last_reply r at last block =
      let yes : is_kept_now ≡ true =
      le-leb (length rs) (number + max 1 (length kept)) (omega (arith, last)) in
      subst (λ (b : Bool). IsKeptRecord b (slice_get rs number) reply) (sym yes)
      (subst (λ (o : Option Recorded). IsKeptRecord true o reply) (sym at) block)

  -- a window before it
  older_reply : HoldsLast kept rs → number + 1 ≢ length rs → IsOlder kept (length rs) number reply
      → IsKeptRecord is_kept_now (slice_get rs number) reply
  older_reply holds other older =
      by (leb (length rs) number) (leb (length rs) (number + length kept)) refl refl older
    where
      not_past : leb (length rs) number ≡ false → number < length rs
      not_past is = leb_false (length rs) number is

      before_last : number < length rs → number + 1 < length rs
      before_last below = elim (eq-or-lt_of_le below) [
        | inl same ↦ absurd (other (let is = same in omega (arith, is)))
        | inr less ↦ omega (arith, less)
      ]

      by : (past placed : Bool) → leb (length rs) number ≡ past → leb (length rs) (number + length kept) ≡ placed
          → IsOlderBy past placed (text_at kept number) reply → IsKeptRecord is_kept_now (slice_get rs number) reply
      by true placed is fits answered =
          subst (λ (o : Option Recorded). IsKeptRecord is_kept_now o reply)
          (sym (slice_get_past rs number (leb-true (length rs) number is))) answered
      by false true is fits answered =
          let placed : length rs ≤ number + length kept = leb-true (length rs) (number + length kept) fits in
          let below : number < length rs = not_past is in
          let (r, at) = get_within rs number below in
          let yes : is_kept_now ≡ true =
          le-leb (length rs) (number + max 1 (length kept)) (omega (arith, placed)) in
          subst (λ (b : Bool). IsKeptRecord b (slice_get rs number) reply) (sym yes)
          (subst (λ (o : Option Recorded). IsKeptRecord true o reply) (sym at)
          (record_of_text (text_at kept number) r reply (holds number r at placed) answered))
      by false false is fits answered =
          let below : number < length rs = not_past is in
          let unplaced : number + length kept < length rs = leb_false (length rs) (number + length kept) fits in
          let (r, at) = get_within rs number below in
          let early : number + 1 < length rs = before_last below in
          let no : is_kept_now ≡ false =
          lt-leb_false (length rs) (number + max 1 (length kept)) (omega (arith, unplaced, early)) in
          subst (λ (b : Bool). IsKeptRecord b (slice_get rs number) reply) (sym no)
          (subst (λ (o : Option Recorded). IsKeptRecord false o reply) (sym at) answered)

-- the reply by the kept data is that of each world
module _ (l : LiveState) (kept : List (Option (List ℕ))) (w : WorldState) (is : IsWorldHistory l w)
    (holds : HoldsLast kept w.bus.sealed) (number : ℕ) (reply : List ℕ) where
  abbrev rs : List Recorded
  rs = w.bus.sealed

  counts : windows_by l.bus.last ≡ length rs
  counts = windows_same l w is

  pub record_replied : IsRecordBy l.bus.last kept number reply
      → IsKeptRecord (is_kept (length kept) (length rs) number) (slice_get rs number) reply
  record_replied answered = by l.bus.last refl answered
    where
      older : number + 1 ≢ length rs → IsOlder kept (windows_by l.bus.last) number reply
          → IsKeptRecord (is_kept (length kept) (length rs) number) (slice_get rs number) reply
      older other told =
          older_reply kept rs number reply holds other
          (subst (λ (n : ℕ). IsOlder kept n number reply) counts told)

      by_last : (r : Recorded) → l.bus.last ≡ Some r → (b : Bool) → eqb r.window.number number ≡ b
          → IsLastOr (cond b (Some r) None) (IsOlder kept (windows_by l.bus.last) number reply) reply
          → IsKeptRecord (is_kept (length kept) (length rs) number) (slice_get rs number) reply
      by_last r last true test told =
          let named : r.window.number ≡ number = eqb-true r.window.number number test in
          let many : r.window.number + 1 ≡ length rs = ap windows_by (sym last) ∙ counts in
          let place : length rs - 1 ≡ number = omega (arith, named, many) in
          let at : slice_get rs number ≡ Some r =
          ap (slice_get rs) (sym place) ∙ last_same l w is ∙ last in
          last_reply kept rs number reply r at (omega (arith, named, many)) told
      by_last r last false test told =
          let many : r.window.number + 1 ≡ length rs = ap windows_by (sym last) ∙ counts in
          older (λ same.
          let equal : r.window.number ≡ number = omega (arith, many, same) in
          absurd (let no : ⊥ = cc (sym test ∙ eq-eqb r.window.number number equal) in no)) told

      by : (last : Option Recorded) → l.bus.last ≡ last
          → IsLastOr (if_numbered number last) (IsOlder kept (windows_by l.bus.last) number reply) reply
          → IsKeptRecord (is_kept (length kept) (length rs) number) (slice_get rs number) reply
      by None last told =
          let none : 0 ≡ length rs = ap windows_by (sym last) ∙ counts in
          older (λ same. absurd (let no : ⊥ = omega (arith, none, same) in no)) told
      by (Some r) last told = by_last r last (eqb r.window.number number) refl told
