-- The first slot, on a channel and in a cycle, that passes a test, and that filters share.
use Rattle.std.proofs.Common.{◌≡◌, ℕ, ◌<◌, ◌≤◌, ◌==◌, Bool, true, false, cond, subst, ◌&&◌, ◌||◌, List, [], ◌∷◌, ◌++◌}
use Rattle.std.proofs.Common.{Option, Some, None, refl, sym, ap, ◌∙◌, inl, inr, arith}
use Rattle.std.proofs.lemmas.Bool.{cases_Bool, cases_lt, eqb-true, eq-eqb, cond-true, and_from, and_parts, or_cases}
use Rattle.std.proofs.lemmas.Bool.{or_left, or_right, false_from_ne_true, both_ways, ltb-true, ltb-false}
use Rattle.std.proofs.lemmas.Option.{cond_some}
use Rattle.std.specs.List.{list_any}
use Rattle.fr_slots.specs.declared.channel.Channel.{Channel}
use Rattle.fr_slots.specs.declared.channel.Channel.TheVariants.{A, B}
use Rattle.fr_slots.specs.declared.channel.Channels.{Channels}
use Rattle.fr_slots.specs.declared.filter.Filter.{Filter}
use Rattle.fr_slots.specs.declared.sharing.Occasion.{Occasion}
use Rattle.fr_slots.specs.Admission.{includes, cycle_admitted}
use Rattle.fr_slots.specs.Faults.{two_pass, common_in, first_common}
use Rattle.fr_slots.specs.Numbers.{IsSlot}
use Rattle.fr_slots.proofs.FaultLemmas.{first-none, first-some}
use Rattle.fr_slots.specs.Sharing.{place_of, is_before, earlier, IsFirstAt, IsFirst, admits_at, is_shared}
use Rattle.fr_slots.specs.Sharing.{is_shared_with, is_shared_by, both_include, common_channel}

abbrev Test : Type 0
Test = ℕ → Channel → ℕ → Bool

or-false : (b : Bool) → (b || false) ≡ b
or-false true = refl
or-false false = refl

and-false : (b : Bool) → (b && false || false) ≡ false
and-false true = refl
and-false false = refl

or_assoc : (a b c : Bool) → (a || (b || c)) ≡ (a || b || c)
or_assoc true b c = refl
or_assoc false b c = refl

or_and : (a b c : Bool) → ((a || b) && c) ≡ (a && c || b && c)
or_and true b true = refl
or_and true true false = refl
or_and true false false = refl
or_and false b c = refl

regroup : (x any y two : Bool) → (x && (any || y) || (two || any && y)) ≡ (x && any || two || (x || any) && y)
regroup true true y true = refl
regroup true true true false = refl
regroup true true false false = refl
regroup true false true true = refl
regroup true false false true = refl
regroup true false true false = refl
regroup true false false false = refl
regroup false true true true = refl
regroup false true true false = refl
regroup false true false true = refl
regroup false true false false = refl
regroup false false y true = refl
regroup false false y false = refl

-- ---- the first of two

-- the last test passes if one of the others does
abbrev pub IsEither : Test → Test → Test → Type 0
IsEither s t u = (slot : ℕ) (channel : Channel) (cycle : ℕ) → u slot channel cycle ≡
    (s slot channel cycle || t slot channel cycle)

IsFirst-left : (s t u : Test) (o : Occasion) → IsEither s t u → IsFirstAt s o
    → ((slot : ℕ) (channel : Channel) (cycle : ℕ) → cycle < 64 → t slot channel cycle ≡ true
    → place_of o.slot o.channel o.cycle ≤ place_of slot channel cycle)
    → IsFirstAt u o
IsFirst-left s t u o either is others = record {
  in_slots = is.in_slots;
  in_cycles = is.in_cycles;
  passes = either o.slot o.channel o.cycle ∙ or_left _ _ is.passes;
  first = λ slot channel cycle in_cycles pass.
      elim (or_cases (s slot channel cycle) (t slot channel cycle) (sym (either slot channel cycle) ∙ pass)) [
        | inl here ↦ is.first slot channel cycle in_cycles here
        | inr there ↦ others slot channel cycle in_cycles there
      ];
}

IsFirst-right : (s t u : Test) (o : Occasion) → IsEither s t u → IsFirstAt t o
    → ((slot : ℕ) (channel : Channel) (cycle : ℕ) → cycle < 64 → s slot channel cycle ≡ true
    → place_of o.slot o.channel o.cycle ≤ place_of slot channel cycle)
    → IsFirstAt u o
IsFirst-right s t u o either is others = record {
  in_slots = is.in_slots;
  in_cycles = is.in_cycles;
  passes = either o.slot o.channel o.cycle ∙ or_right _ _ is.passes;
  first = λ slot channel cycle in_cycles pass.
      elim (or_cases (s slot channel cycle) (t slot channel cycle) (sym (either slot channel cycle) ∙ pass)) [
        | inl here ↦ others slot channel cycle in_cycles here
        | inr there ↦ is.first slot channel cycle in_cycles there
      ];
}

pub IsFirst-earlier : (s t u : Test) (p q : Option Occasion) → IsEither s t u → IsFirst s p → IsFirst t q
    → IsFirst u (earlier p q)
IsFirst-earlier s t u None None either is_p is_q = λ slot channel cycle in_cycles.
    either slot channel cycle ∙ ap (λ b. b || t slot channel cycle) (is_p slot channel cycle in_cycles)
    ∙ is_q slot channel cycle in_cycles
IsFirst-earlier s t u None (Some q) either is_p is_q =
    IsFirst-right s t u q either is_q (λ slot channel cycle in_cycles pass. absurd
    (both_ways _ (is_p slot channel cycle in_cycles) pass))
IsFirst-earlier s t u (Some p) None either is_p is_q =
    IsFirst-left s t u p either is_p (λ slot channel cycle in_cycles pass. absurd
    (both_ways _ (is_q slot channel cycle in_cycles) pass))
IsFirst-earlier s t u (Some p) (Some q) either is_p is_q =
    elim (cases_Bool (is_before q p)) [
      | inl before ↦
          rw before
          (IsFirst-right s t u q either is_q
          (λ slot channel cycle in_cycles pass. omega (
            arith,
            ltb-true _ _ before,
            is_p.first slot channel cycle in_cycles pass,
          )))
      | inr after ↦
          rw after
          (IsFirst-left s t u p either is_p
          (λ slot channel cycle in_cycles pass. omega (
            arith,
            ltb-false _ _ after,
            is_q.first slot channel cycle in_cycles pass,
          )))
    ]

-- ---- one more in a list

list_any-snoc : {X : Type 0} (t : X → Bool) (xs : List X) (y : X) → list_any t (xs ++ y ∷ []) ≡ (list_any t xs || t y)
list_any-snoc t [] y = or-false (t y)
list_any-snoc t (x ∷ xs) y = ap (λ b. t x || b) (list_any-snoc t xs y) ∙ or_assoc (t x) (list_any t xs) (t y)

two_pass-snoc : {X : Type 0} (t : X → Bool) (xs : List X) (y : X)
    → two_pass t (xs ++ y ∷ []) ≡ (two_pass t xs || list_any t xs && t y)
unfolding two_pass
two_pass-snoc t [] y = and-false (t y)
two_pass-snoc t (x ∷ xs) y =
    ap (λ b. t x && b || two_pass t (xs ++ y ∷ [])) (list_any-snoc t xs y)
    ∙ ap (λ b. t x && (list_any t xs || t y) || b) (two_pass-snoc t xs y)
    ∙ regroup (t x) (list_any t xs) (t y) (two_pass t xs)

pub with-more : (f g : Filter) (filters : List Filter)
    → IsEither (is_shared_with f filters) (is_shared_by f g) (is_shared_with f (filters ++ g ∷ []))
with-more f g filters slot channel cycle =
    let t : Filter → Bool = admits_at slot channel cycle in
    ap (λ b. b && t f) (list_any-snoc t filters g) ∙ or_and (list_any t filters) (t g) (t f)

pub shared-more : (g : Filter) (filters : List Filter)
    → IsEither (is_shared filters) (is_shared_with g filters) (is_shared (filters ++ g ∷ []))
shared-more g filters slot channel cycle = two_pass-snoc (admits_at slot channel cycle) filters g

pub with-none : (f : Filter) → IsFirst (is_shared_with f []) None
with-none f slot channel cycle in_cycles = refl

pub shared-none : IsFirst (is_shared []) None
unfolding two_pass
shared-none slot channel cycle in_cycles = refl

-- ---- two filters

record AreBoth (f g : Filter) (slot : ℕ) (channel : Channel) (cycle : ℕ) : Type 0 where
  pub slot_is : f.slot ≡ slot
  pub other_is : g.slot ≡ slot
  pub channel_is : both_include f.channels g.channels channel ≡ true
  pub cycle_is : (cycle_admitted f.cycles cycle && cycle_admitted g.cycles cycle) ≡ true

both_parts : (f g : Filter) (slot : ℕ) (channel : Channel) (cycle : ℕ) → is_shared_by f g slot channel cycle ≡ true
    → AreBoth f g slot channel cycle
both_parts f g slot channel cycle pass =
    let (in_g, in_f) = and_parts (admits_at slot channel cycle g) (admits_at slot channel cycle f) pass in
    let (front_g, cycle_g) = and_parts (g.slot == slot && includes g.channels channel)
    (cycle_admitted g.cycles cycle) in_g in
    let (slot_g, channel_g) = and_parts (g.slot == slot) (includes g.channels channel) front_g in
    let (front_f, cycle_f) = and_parts (f.slot == slot && includes f.channels channel)
    (cycle_admitted f.cycles cycle) in_f in
    let (slot_f, channel_f) = and_parts (f.slot == slot) (includes f.channels channel) front_f in
    record {
      slot_is = eqb-true f.slot slot slot_f;
      other_is = eqb-true g.slot slot slot_g;
      channel_is = and_from _ _ channel_f channel_g;
      cycle_is = and_from _ _ cycle_f cycle_g;
    }

pub no_slot : (f g : Filter) → (f.slot ≡ g.slot → ⊥) → IsFirst (is_shared_by f g) None
no_slot f g differ slot channel cycle in_cycles =
    false_from_ne_true _ (λ pass. let b = both_parts f g slot channel cycle pass in differ (b.slot_is ∙ sym b.other_is))

-- the test of A, or of B
abbrev picked_by : Bool → Bool → Channel → Bool
picked_by a b A = a
picked_by a b B = b

both_at : (c d : Channels) (channel : Channel) → picked_by (both_include c d A) (both_include c d B) channel ≡
    both_include c d channel
both_at c d A = refl
both_at c d B = refl

no_channel_at : (a b : Bool) (channel : Channel) → cond a (Some A) (cond b (Some B) None) ≡ None
    → picked_by a b channel ≡ true → ⊥
no_channel_at true b channel none pass = cc none
no_channel_at false true channel none pass = cc none
no_channel_at false false A none pass = cc pass
no_channel_at false false B none pass = cc pass

pub no_channel : (f g : Filter) → common_channel f.channels g.channels ≡ None → IsFirst (is_shared_by f g) None
no_channel f g none slot channel cycle in_cycles =
    false_from_ne_true _ (λ pass.
    no_channel_at (both_include f.channels g.channels A) (both_include f.channels g.channels B) channel none
    (both_at f.channels g.channels channel ∙ (both_parts f g slot channel cycle pass).channel_is))

pub no_cycle : (f g : Filter) → first_common f.cycles g.cycles ≡ None → IsFirst (is_shared_by f g) None
no_cycle f g none slot channel cycle in_cycles =
    false_from_ne_true _ (λ pass.
    cc (sym (cond-true _ (Some cycle) None (both_parts f g slot channel cycle pass).cycle_is)
    ∙ first-none (common_in f.cycles g.cycles) 0 64 none cycle (omega arith) (omega arith)))

-- the first channel that both include, with none before it
record IsFirstChannel (a b : Bool) (channel : Channel) : Type 0 where
  pub passes : picked_by a b channel ≡ true
  pub first : (other : Channel) (slot m n : ℕ) → picked_by a b other ≡ true → m < 64 → m ≤ n
      → place_of slot channel m ≤ place_of slot other n

first_channel : (a b : Bool) (channel : Channel) → cond a (Some A) (cond b (Some B) None) ≡ Some channel
    → IsFirstChannel a b channel
first_channel true b A is = record { passes = refl; first = first_a }
  where
    first_a : (other : Channel) (slot m n : ℕ) → picked_by true b other ≡ true → m < 64 → m ≤ n
        → place_of slot A m ≤ place_of slot other n
    first_a A slot m n pass few le = omega arith
    first_a B slot m n pass few le = omega arith
first_channel true b B is = cc is
first_channel false true A is = cc is
first_channel false true B is = record { passes = refl; first = first_b }
  where
    first_b : (other : Channel) (slot m n : ℕ) → picked_by false true other ≡ true → m < 64 → m ≤ n
        → place_of slot B m ≤ place_of slot other n
    first_b A slot m n pass few le = cc pass
    first_b B slot m n pass few le = omega arith
first_channel false false channel is = cc is

both_pass : (f g : Filter) (channel : Channel) (cycle : ℕ) → f.slot ≡ g.slot
    → both_include f.channels g.channels channel ≡ true
    → (cycle_admitted f.cycles cycle && cycle_admitted g.cycles cycle) ≡ true
    → is_shared_by f g f.slot channel cycle ≡ true
both_pass f g channel cycle same channel_is cycle_is =
    let (channel_f, channel_g) = and_parts (includes f.channels channel) (includes g.channels channel) channel_is in
    let (cycle_f, cycle_g) = and_parts (cycle_admitted f.cycles cycle) (cycle_admitted g.cycles cycle) cycle_is in
    and_from (admits_at f.slot channel cycle g) (admits_at f.slot channel cycle f)
    (and_from _ _ (and_from _ _ (eq-eqb g.slot f.slot (sym same)) channel_g) cycle_g)
    (and_from _ _ (and_from _ _ (eq-eqb f.slot f.slot refl) channel_f) cycle_f)

pub some_shared : (f g : Filter) (channel : Channel) (cycle : ℕ) → IsSlot f.slot → f.slot ≡ g.slot
    → common_channel f.channels g.channels ≡ Some channel
    → first_common f.cycles g.cycles ≡ Some cycle → IsFirstAt (is_shared_by f g)
    (record { slot = f.slot; channel = channel; cycle = cycle })
some_shared f g channel cycle is_slot same channel_is cycle_is =
    let picked = first_channel (both_include f.channels g.channels A)
    (both_include f.channels g.channels B) channel channel_is in
    let (n, number) = first-some (common_in f.cycles g.cycles) 0 64 cycle cycle_is in
    let (common, n_is) = cond_some (cycle_admitted f.cycles n && cycle_admitted g.cycles n) n cycle number.found in
    record {
      in_slots = is_slot;
      in_cycles = omega (arith, number.below);
      passes = both_pass f g channel cycle same (sym (both_at f.channels g.channels channel) ∙ picked.passes)
          (subst (λ (k : ℕ). (cycle_admitted f.cycles k && cycle_admitted g.cycles k) ≡ true) n_is common);
      first = λ slot other k in_cycles pass.
          (let parts = both_parts f g slot other k pass in
          let above : cycle ≤ k =
          elim (cases_lt k n) [
            | inl less ↦ cc (sym (cond-true _ (Some k) None parts.cycle_is) ∙ number.before k (omega arith) less)
            | inr above ↦ omega (arith, above, n_is)
          ] in
          subst (λ (s : ℕ). place_of f.slot channel cycle ≤ place_of s other k) parts.slot_is
          (picked.first other f.slot cycle k (both_at f.channels g.channels other ∙ parts.channel_is)
          (omega (arith, number.below, n_is)) above));
    }
