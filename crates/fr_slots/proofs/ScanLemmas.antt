-- The first slot, channel and cycle of a plan's faults, from the first one that filters share.
use Rattle.std.proofs.Common.{◌≡◌, ℕ, ◌<◌, Bool, true, false, cond, ◌&&◌, ◌||◌, List, [], ◌∷◌, map, Option}
use Rattle.std.proofs.Common.{Some, None, refl, sym, ap, ◌∙◌, arith}
use Rattle.std.proofs.lemmas.Bool.{cond-true, cond-false, false_from_ne_true}
use Rattle.std.specs.List.{list_any, filter}
use Rattle.std.specs.Option.{option_or}
use Rattle.fr_slots.specs.declared.channel.Channel.{Channel}
use Rattle.fr_slots.specs.declared.channel.Channel.TheVariants.{A, B}
use Rattle.fr_slots.specs.declared.fault.PlanFault.TheVariants.{Overlap}
use Rattle.fr_slots.specs.declared.plan.Own.{Own}
use Rattle.fr_slots.specs.declared.plan.Buffer.{Buffer}
use Rattle.fr_slots.specs.declared.sharing.Occasion.{Occasion}
use Rattle.fr_slots.specs.Faults.{two_pass, first_of, channels, slots, claims, transmits, sends_at}
use Rattle.fr_slots.specs.Faults.{is_overlap, overlap_at, overlap_on, first_overlap}
use Rattle.fr_slots.specs.Numbers.{IsSlot}
use Rattle.fr_slots.specs.Sharing.{place_of, IsFirstAt, IsFirst, admits_at, is_shared, own_filter, own_filters}
use Rattle.fr_slots.specs.Sharing.{buffer_filter, transmit_filters}
use Rattle.fr_slots.proofs.FaultLemmas.{first-is, first-is_none}
use Rattle.fr_slots.proofs.SharingLemmas.{IsEither}

-- ---- all slots on all channels

module _ {X : Type 0} (g : ℕ → Channel → Option X) where
  abbrev in_slot : ℕ → Option X
  in_slot slot = first_of (g slot) channels

  no-slot : (slot : ℕ) → g slot A ≡ None → g slot B ≡ None → in_slot slot ≡ None
  unfolding first_of
  no-slot slot on_a on_b = ap (λ o. option_or o (option_or (g slot B) None)) on_a ∙ ap (λ o. option_or o None) on_b

  some-slot_a : (slot : ℕ) (x : X) → g slot A ≡ Some x → in_slot slot ≡ Some x
  unfolding first_of
  some-slot_a slot x on_a = ap (λ o. option_or o (option_or (g slot B) None)) on_a

  some-slot_b : (slot : ℕ) (x : X) → g slot A ≡ None → g slot B ≡ Some x → in_slot slot ≡ Some x
  unfolding first_of
  some-slot_b slot x on_a on_b = ap (λ o. option_or o (option_or (g slot B) None)) on_a ∙ ap
      (λ o. option_or o None) on_b

  pub slots-none : ((slot : ℕ) (channel : Channel) → g slot channel ≡ None) → first_of in_slot slots ≡ None
  slots-none none = first-is_none in_slot 1 2047 (λ slot low high. no-slot slot (none slot A) (none slot B))

  -- no slot and channel before this one gives anything
  abbrev pub IsNoneBefore : ℕ → Channel → Type 0
  IsNoneBefore slot channel = (s : ℕ) (c : Channel) → place_of s c 0 < place_of slot channel 0 → g s c ≡ None

  some-slot : (slot : ℕ) (channel : Channel) (x : X) → g slot channel ≡ Some x → IsNoneBefore slot channel
      → in_slot slot ≡ Some x
  some-slot slot A x found before = some-slot_a slot x found
  some-slot slot B x found before = some-slot_b slot x (before slot A (omega arith)) found

  none-before : (slot s : ℕ) (channel : Channel) → s < slot → IsNoneBefore slot channel → in_slot s ≡ None
  none-before slot s A less before = no-slot s (before s A (omega arith)) (before s B (omega arith))
  none-before slot s B less before = no-slot s (before s A (omega arith)) (before s B (omega arith))

  pub slots-some : (slot : ℕ) (channel : Channel) (x : X) → IsSlot slot → g slot channel ≡ Some x
      → IsNoneBefore slot channel
      → first_of in_slot slots ≡ Some x
  slots-some slot channel x is_slot found before =
      first-is in_slot 1 2047 slot x is_slot.from_one (omega (arith, is_slot.at_most))
      (some-slot slot channel x found before)
      (λ s low less. none-before slot s channel less before)

-- ---- places in the order of slots, channels and cycles

before-all : (s : ℕ) (c : Channel) (m : ℕ) (slot : ℕ) (channel : Channel) (n : ℕ) → m < 64
    → place_of s c 0 < place_of slot channel 0
    → place_of s c m < place_of slot channel n
before-all s A m slot A n few less = omega arith
before-all s A m slot B n few less = omega arith
before-all s B m slot A n few less = omega arith
before-all s B m slot B n few less = omega arith

same-channel : (slot : ℕ) (channel : Channel) (m n : ℕ) → m < n → place_of slot channel m < place_of slot channel n
same-channel slot A m n less = omega arith
same-channel slot B m n less = omega arith

-- a test passes at no place before the first one
fails-before : (test : ℕ → Channel → ℕ → Bool) (o : Occasion) → IsFirstAt test o
    → (slot : ℕ) (channel : Channel) (cycle : ℕ) → cycle < 64
    → place_of slot channel cycle < place_of o.slot o.channel o.cycle → test slot channel cycle ≡ false
fails-before test o is slot channel cycle few less =
    false_from_ne_true _ (λ pass. let le = is.first slot channel cycle few pass in let no : ⊥ =
    omega (arith, le, less) in no)

-- ---- lists of filters

module _ {X Y : Type 0} where
  list_any-map : (t : Y → Bool) (f : X → Y) (xs : List X) → list_any t (map f xs) ≡ list_any (λ x. t (f x)) xs
  list_any-map t f [] = refl
  list_any-map t f (x ∷ xs) = ap (λ b. t (f x) || b) (list_any-map t f xs)

  two_pass-map : (t : Y → Bool) (f : X → Y) (xs : List X) → two_pass t (map f xs) ≡ two_pass (λ x. t (f x)) xs
  unfolding two_pass
  two_pass-map t f [] = refl
  two_pass-map t f (x ∷ xs) =
      ap (λ b. t (f x) && b || two_pass t (map f xs)) (list_any-map t f xs)
      ∙ ap (λ b. t (f x) && list_any (λ y. t (f y)) xs || b) (two_pass-map t f xs)

module _ {X : Type 0} (p t : X → Bool) where
  list_any-filter_at : (b : Bool) (x : X) (xs : List X) → list_any t (cond b (x ∷ xs) xs) ≡ (b && t x || list_any t xs)
  list_any-filter_at true x xs = refl
  list_any-filter_at false x xs = refl

  list_any-filter : (xs : List X) → list_any t (filter p xs) ≡ list_any (λ x. p x && t x) xs
  list_any-filter [] = refl
  list_any-filter (x ∷ xs) = list_any-filter_at (p x) x (filter p xs) ∙ ap (λ b. p x && t x || b) (list_any-filter xs)

  two_pass-filter_at : (b : Bool) (x : X) (xs : List X) → two_pass t (cond b (x ∷ xs) xs) ≡
      (b && t x && list_any t xs || two_pass t xs)
  unfolding two_pass
  two_pass-filter_at true x xs = refl
  two_pass-filter_at false x xs = refl

  two_pass-filter : (xs : List X) → two_pass t (filter p xs) ≡ two_pass (λ x. p x && t x) xs
  unfolding two_pass
  two_pass-filter [] = refl
  two_pass-filter (x ∷ xs) =
      two_pass-filter_at (p x) x (filter p xs)
      ∙ ap (λ b. p x && t x && b || two_pass t (filter p xs)) (list_any-filter xs)
      ∙ ap (λ b. p x && t x && list_any (λ y. p y && t y) xs || b) (two_pass-filter xs)

module _ {X : Type 0} (t u : X → Bool) (same : (x : X) → t x ≡ u x) where
  list_any-same : (xs : List X) → list_any t xs ≡ list_any u xs
  list_any-same [] = refl
  list_any-same (x ∷ xs) = ap (λ b. b || list_any t xs) (same x) ∙ ap (λ b. u x || b) (list_any-same xs)

  two_pass-same : (xs : List X) → two_pass t xs ≡ two_pass u xs
  unfolding two_pass
  two_pass-same [] = refl
  two_pass-same (x ∷ xs) =
      ap (λ b. b && list_any t xs || two_pass t xs) (same x)
      ∙ ap (λ b. u x && b || two_pass t xs) (list_any-same xs)
      ∙ ap (λ b. u x && list_any u xs || b) (two_pass-same xs)

-- two filters of ownership lines admit the slots that two lines claim
claimed-shared : (owned : List Own) (slot : ℕ) (channel : Channel) (cycle : ℕ)
    → is_shared (own_filters owned) slot channel cycle ≡ two_pass (claims slot channel cycle) owned
claimed-shared owned slot channel cycle = two_pass-map (admits_at slot channel cycle) own_filter owned

-- two filters of transmit buffers admit the slots that two of these buffers do
sent-shared : (buffers : List Buffer) (slot : ℕ) (channel : Channel) (cycle : ℕ)
    → is_shared (transmit_filters buffers) slot channel cycle ≡ two_pass (sends_at slot channel cycle) buffers
sent-shared buffers slot channel cycle =
    two_pass-map (admits_at slot channel cycle) buffer_filter (filter transmits buffers)
    ∙ two_pass-filter transmits (λ b. admits_at slot channel cycle (buffer_filter b)) buffers

-- ---- overlaps

-- two lines or two buffers, by their filters
pub overlap-shared : (owned : List Own) (buffers : List Buffer)
    → IsEither (is_shared (own_filters owned)) (is_shared (transmit_filters buffers)) (is_overlap owned buffers)
overlap-shared owned buffers slot channel cycle =
    sym (ap (λ b. b || is_shared (transmit_filters buffers) slot channel cycle)
    (claimed-shared owned slot channel cycle)
    ∙ ap (λ b. two_pass (claims slot channel cycle) owned || b) (sent-shared buffers slot channel cycle))

pub overlap-none : (owned : List Own) (buffers : List Buffer) → IsFirst (is_overlap owned buffers) None
    → first_overlap owned buffers ≡ None
overlap-none owned buffers none =
    slots-none (overlap_on owned buffers) (λ slot channel.
    first-is_none (overlap_at owned buffers slot channel) 0 64 (λ cycle low high.
    cond-false _ (Some (Overlap slot channel cycle)) None (none slot channel cycle (omega arith))))

pub overlap-some : (owned : List Own) (buffers : List Buffer) (o : Occasion) → IsFirstAt (is_overlap owned buffers) o
    → first_overlap owned buffers ≡ Some (Overlap o.slot o.channel o.cycle)
overlap-some owned buffers o is =
    slots-some (overlap_on owned buffers) o.slot o.channel (Overlap o.slot o.channel o.cycle) is.in_slots
    (first-is (overlap_at owned buffers o.slot o.channel) 0 64 o.cycle (Overlap o.slot o.channel o.cycle) (omega arith)
    (omega (arith, is.in_cycles))
    (cond-true _ (Some (Overlap o.slot o.channel o.cycle)) None is.passes)
    (λ cycle low less. not-at o.slot o.channel cycle (omega (arith, is.in_cycles))
    (same-channel o.slot o.channel cycle o.cycle less)))
    (λ slot channel before.
    first-is_none (overlap_at owned buffers slot channel) 0 64
    (λ cycle low high. not-at slot channel cycle (omega arith)
    (before-all slot channel cycle o.slot o.channel o.cycle (omega arith) before)))
  where
    not-at : (slot : ℕ) (channel : Channel) (cycle : ℕ) → cycle < 64
        → place_of slot channel cycle < place_of o.slot o.channel o.cycle
        → overlap_at owned buffers slot channel cycle ≡ None
    not-at slot channel cycle few less =
        cond-false _ (Some (Overlap slot channel cycle)) None
        (fails-before (is_overlap owned buffers) o is slot channel cycle few less)
