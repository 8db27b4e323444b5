-- The text of the log, as the code writes it along lists.
use Rattle.std.proofs.Common.{◌≡◌, ◌≤◌, ◌<◌, ℕ, zero, suc, ◌+◌, List, [], ◌∷◌, ◌++◌, length, map, take, drop, Option}
use Rattle.std.proofs.Common.{Some}
use Rattle.std.proofs.Common.{None, refl, sym, ap, ap₂, subst, ◌∙◌, append_assoc, append-nil, arith, get_or}
use Rattle.std.specs.Prelude.{slice_get}
use Rattle.std.specs.Io.KnownBytes.{Appends}
use Rattle.std.specs.List.{flat_map, range_with_len}
use Rattle.std.proofs.KnownBytes.{Appends-nil, Appends-trans}
use Rattle.std.proofs.lemmas.Grind.{flat_map-append}
use Rattle.std.proofs.lemmas.List.{map-append, take_all}
use Rattle.std.proofs.lemmas.Option.{slice_get_read, slice_get-get_or}
use Rattle.fr_bus.specs.Record.{Recorded}
use Rattle.fr_interface.specs.Standing.{Standing}
use Rattle.fr_schedule.specs.Descriptions.{Description}
use Rattle.fr_showing.proofs.GoingLemmas.{here}
use Rattle.fr_slots.specs.Windows.{Opportunity}
use Rattle.fr_streaming.specs.declared.log.NodeOffers.{NodeOffers}
use Rattle.fr_streaming.specs.LogSteps.{left_at, left_in, left_on, offers_of, sent_at, sent_from}

-- ---- the offers of one interface more

pub offers_more : (window : Opportunity) (hs : List Standing) (n : ℕ) (h : Standing) (os more : List NodeOffers)
    → n < length hs → h ≡ get_or hs n h → os ≡ map (offers_of window) (take n hs)
    → more ≡ os ++ offers_of window h ∷ [] → more ≡ map (offers_of window) (take (n + 1) hs)
offers_more window hs n h os more lt is before one =
    let at = here hs n h (slice_get_read hs (length hs) n h refl lt is) in
    one ∙ ap (λ (xs : List NodeOffers). xs ++ offers_of window h ∷ []) before
    ∙ sym (map-append (offers_of window) (take n hs) (h ∷ []))
    ∙ ap (map (offers_of window)) (sym at.passed)

-- ---- the lines of one node more

sent_append : (d : Description) (r : Recorded) (cycle node : ℕ) (xs ys : List NodeOffers)
    → sent_from d r cycle node (xs ++ ys) ≡ sent_from d r cycle node xs ++ sent_from d r cycle (node + length xs) ys
sent_append d r cycle node [] ys =
    let same : node ≡ node + 0 = omega arith in
    ap (λ (k : ℕ). sent_from d r cycle k ys) same
sent_append d r cycle node (x ∷ xs) ys =
    let same : node + 1 + length xs ≡ node + suc (length xs) = omega arith in
    ap (λ (t : List ℕ). sent_at d r cycle node x ++ t)
    (sent_append d r cycle (node + 1) xs ys
    ∙ ap (λ (k : ℕ). sent_from d r cycle (node + 1) xs ++ sent_from d r cycle k ys) same)
    ∙ sym (append_assoc (sent_at d r cycle node x) (sent_from d r cycle (node + 1) xs)
    (sent_from d r cycle (node + suc (length xs)) ys))

pub sent_more : (d : Description) (r : Recorded) (cycle n : ℕ) (os : List NodeOffers) (none : NodeOffers)
    (old mid new : Option (List ℕ)) → n < length os → Appends old mid (sent_from d r cycle 0 (take n os))
    → Appends mid new (sent_at d r cycle n (get_or os n none))
    → Appends old new (sent_from d r cycle 0 (take (n + 1) os))
sent_more d r cycle n os none old mid new lt before one =
    let o : NodeOffers = get_or os n none in
    let at = here os n o (slice_get-get_or os n none lt) in
    let place : 0 + length (take n os) ≡ n = omega (arith, at.place) in
    let text : sent_from d r cycle 0 (take (n + 1) os) ≡ sent_from d r cycle 0 (take n os) ++ sent_at d r cycle n o =
    ap (sent_from d r cycle 0) at.passed
    ∙ sent_append d r cycle 0 (take n os) (o ∷ [])
    ∙ ap (λ (t : List ℕ). sent_from d r cycle 0 (take n os) ++ t)
    (append-nil (sent_at d r cycle (0 + length (take n os)) o) ∙ ap (λ (k : ℕ). sent_at d r cycle k o) place) in
    subst (Appends old new) (sym text)
    (Appends-trans old mid new (sent_from d r cycle 0 (take n os)) (sent_at d r cycle n o) before one)

pub sent_all : (d : Description) (r : Recorded) (cycle n : ℕ) (os : List NodeOffers) (old new : Option (List ℕ))
    → length os ≤ n → Appends old new (sent_from d r cycle 0 (take n os)) → Appends old new (sent_from d r cycle 0 os)
sent_all d r cycle n os old new all given =
    subst (λ (xs : List NodeOffers). Appends old new (sent_from d r cycle 0 xs)) (take_all n os all) given

-- ---- the pending commits of one buffer more

range_more : (first count : ℕ) → range_with_len first (count + 1) ≡ range_with_len first count ++ (first + count) ∷ []
range_more first zero = ap (λ (n : ℕ). n ∷ []) (omega arith)
range_more first (suc count) =
    let next : suc count + 1 ≡ suc (count + 1) = omega arith in
    let place : first + 1 + count ≡ first + suc count = omega arith in
    ap (λ (n : ℕ). range_with_len first n) next
    ∙ ap (λ (xs : List ℕ). first ∷ xs) (range_more (first + 1) count ∙ ap
    (λ (n : ℕ). range_with_len (first + 1) count ++ n ∷ []) place)

pub left_more : (node : ℕ) (h : Standing) (count : ℕ) (old mid new : Option (List ℕ))
    → Appends old mid (left_at node h count) → Appends mid new (left_on node h count)
    → Appends old new (left_at node h (count + 1))
left_more node h count old mid new before one =
    let place : 0 + count ≡ count = omega arith in
    let text : left_at node h (count + 1) ≡ left_at node h count ++ left_on node h count =
    ap (flat_map (left_on node h)) (range_more 0 count)
    ∙ flat_map-append (left_on node h) (range_with_len 0 count) ((0 + count) ∷ [])
    ∙ ap (λ (t : List ℕ). left_at node h count ++ t)
    (append-nil (left_on node h (0 + count)) ∙ ap (left_on node h) place) in
    subst (Appends old new) (sym text)
    (Appends-trans old mid new (left_at node h count) (left_on node h count) before one)

-- ---- the pending commits of the nodes that are left

-- once the text of the nodes that are left is written, all is written
pub record IsLeft (hs : List Standing) (counts : List ℕ) (old now : Option (List ℕ)) (n : ℕ) : Type 0 where
  pub then_all : (new : Option (List ℕ)) → Appends now new (left_in (drop n hs) (drop n counts) n)
      → Appends old new (left_in hs counts 0)

pub left_start : (hs : List Standing) (counts : List ℕ) (old : Option (List ℕ)) → IsLeft hs counts old old 0
left_start hs counts old = record { then_all = λ new more. more }

nothing_at : {X : Type 0} (xs : List X) (n : ℕ) → slice_get xs n ≡ None → drop n xs ≡ []
nothing_at [] zero none = refl
nothing_at [] (suc n) none = refl
nothing_at (x ∷ xs) zero none = absurd (let never : ⊥ = cc in never)
nothing_at (x ∷ xs) (suc n) none = nothing_at xs n none

no_counts : (hs : List Standing) (n : ℕ) → left_in hs [] n ≡ []
no_counts [] n = refl
no_counts (h ∷ hs) n = refl

pub left_next : (hs : List Standing) (counts : List ℕ) (n count : ℕ) (h : Standing) (old now mid : Option (List ℕ))
    → n < length hs → h ≡ get_or hs n h → slice_get counts n ≡ Some count → IsLeft hs counts old now n
    → Appends now mid (left_at n h count) → IsLeft hs counts old mid (n + 1)
left_next hs counts n count h old now mid lt is counted so_far one =
    let at = here hs n h (slice_get_read hs (length hs) n h refl lt is) in
    let there = here counts n count counted in
    record {
      then_all = λ new more.
          so_far.then_all new
          (subst (λ (t : List ℕ). Appends now new t)
          (sym (ap₂ (λ (xs : List Standing) (ys : List ℕ). left_in xs ys n) at.left there.left))
          (Appends-trans now mid new (left_at n h count) (left_in (drop (n + 1) hs) (drop (n + 1) counts) (n + 1))
          one more));
    }

pub left_short : (hs : List Standing) (counts : List ℕ) (n : ℕ) (old now : Option (List ℕ)) → slice_get counts n ≡ None
    → IsLeft hs counts old now n → Appends old now (left_in hs counts 0)
left_short hs counts n old now none so_far =
    so_far.then_all now
    (subst (λ (t : List ℕ). Appends now now t)
    (sym (ap (λ (ys : List ℕ). left_in (drop n hs) ys n) (nothing_at counts n none) ∙ no_counts (drop n hs) n))
    (Appends-nil now))

past : {X : Type 0} (xs : List X) (n : ℕ) → length xs ≤ n → drop n xs ≡ []
past [] zero le = refl
past [] (suc n) le = refl
past (x ∷ xs) zero le = absurd (omega (arith, le))
past (x ∷ xs) (suc n) le = past xs n (omega (arith, le))

pub left_over : (hs : List Standing) (counts : List ℕ) (n : ℕ) (old now : Option (List ℕ)) → length hs ≤ n
    → IsLeft hs counts old now n → Appends old now (left_in hs counts 0)
left_over hs counts n old now all so_far =
    so_far.then_all now
    (subst (λ (t : List ℕ). Appends now now t)
    (sym (ap (λ (xs : List Standing). left_in xs (drop n counts) n) (past hs n all))) (Appends-nil now))
