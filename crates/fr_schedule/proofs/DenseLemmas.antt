-- Claims that are entered into the table of senders.
use Rattle.std.proofs.Common.{◌≡◌, ℕ, ◌+◌, ◌-◌, ◌<◌, ◌≤◌, ◌==◌, Bool, true, false, not, cond, ◌&&◌, ◌||◌, List, []}
use Rattle.std.proofs.Common.{◌∷◌, ◌++◌, Option, Some, None, refl, sym, ap, subst, ◌∙◌, inl, inr, arith}
use Rattle.std.proofs.lemmas.Bool.{cases_Bool, cases_lt, eqb-true, eq-eqb, cond-true, and_from, and_parts}
use Rattle.std.proofs.lemmas.Bool.{false_from_ne_true, both_ways}
use Rattle.std.proofs.lemmas.List.{map-append}
use Rattle.std.proofs.lemmas.Option.{cond_some}
use Rattle.std.specs.List.{list_any}
use Rattle.fr_slots.specs.declared.channel.Channel.{Channel}
use Rattle.fr_slots.specs.declared.channel.Channel.TheVariants.{A, B}
use Rattle.fr_slots.specs.declared.filter.Filter.{Filter}
use Rattle.fr_slots.specs.declared.sharing.Occasion.{Occasion}
use Rattle.fr_slots.specs.Admission.{includes, cycle_admitted, is_channel}
use Rattle.fr_slots.specs.Numbers.{IsSlot}
use Rattle.fr_slots.specs.Plans.{Each}
use Rattle.fr_slots.specs.Sharing.{place_of, earlier, IsFirstAt, IsFirst, admits_at, is_shared, is_shared_with}
use Rattle.fr_slots.proofs.FaultLemmas.{first-none, first-some}
use Rattle.fr_slots.proofs.PlanLemmas.{Each-snoc}
use Rattle.fr_slots.proofs.SharingLemmas.{IsFirst-earlier, shared-more, shared-none}
use Rattle.fr_schedule.specs.declared.claims.Claim.{Claim}
use Rattle.fr_schedule.specs.DenseTable.{nobody, at_place, is_taken_in, taken_in, first_taken_in, node_at, is_taken}
use Rattle.fr_schedule.specs.DenseTable.{IsFree, is_admitted_on, is_retaken_on, is_retaken, IsEntered, after_claims}
use Rattle.fr_schedule.specs.DenseTable.{AreEntered}
use Rattle.fr_schedule.specs.Claims.{IsClaim, filter_of, filters_of}

-- ---- places

place_in_row : (slot : ℕ) (channel : Channel) (cycle start : ℕ) → start + 128 ≡ place_of slot channel 0
    → place_of slot channel cycle - 128 ≡ start + cycle
place_in_row slot A cycle start is = omega (arith, is)
place_in_row slot B cycle start is = omega (arith, is)

ordered_in_row : (slot : ℕ) (channel : Channel) (m n : ℕ) → m ≤ n → place_of slot channel m ≤ place_of slot channel n
ordered_in_row slot A m n le = omega arith
ordered_in_row slot B m n le = omega arith

same_channel : (a b : Channel) → is_channel a b ≡ true → a ≡ b
same_channel A A is = refl
same_channel B B is = refl
same_channel A B is = cc is
same_channel B A is = cc is

channel_itself : (a : Channel) → is_channel a a ≡ true
channel_itself A = refl
channel_itself B = refl

-- ---- the occupied occasions of a filter on a channel

record IsRetaken (nodes : List ℕ) (start : ℕ) (f : Filter) (on : Channel) (slot : ℕ) (channel : Channel)
    (cycle : ℕ) : Type 0 where
  pub channel_is : on ≡ channel
  pub slot_is : f.slot ≡ slot
  pub taken : is_taken_in nodes start f.cycles cycle ≡ true

retaken : (nodes : List ℕ) (start : ℕ) (f : Filter) (on : Channel) (slot : ℕ) (channel : Channel) (cycle : ℕ)
    → start + 128 ≡ place_of f.slot on 0 → is_retaken_on nodes f on slot channel cycle ≡ true
    → IsRetaken nodes start f on slot channel cycle
retaken nodes start f on slot channel cycle at pass =
    let (on_channel, rest) = and_parts (is_channel on channel)
    (is_taken nodes slot channel cycle && admits_at slot channel cycle f) pass in
    let (taken, admits) = and_parts (is_taken nodes slot channel cycle) (admits_at slot channel cycle f) rest in
    let (front, in_cycle) = and_parts (f.slot == slot && includes f.channels channel)
    (cycle_admitted f.cycles cycle) admits in
    let (same, includes_it) = and_parts (f.slot == slot) (includes f.channels channel) front in
    let same_slot = eqb-true f.slot slot same in
    let same_on = same_channel on channel on_channel in
    let start_is : start + 128 ≡ place_of slot channel 0 = at ∙ ap (λ (s : ℕ). place_of s on 0) same_slot ∙ ap
    (λ (c : Channel). place_of slot c 0) same_on in
    record {
      channel_is = same_on;
      slot_is = same_slot;
      taken = and_from _ _ in_cycle (ap (λ (p : ℕ). not (at_place nodes p == nobody))
          (sym (place_in_row slot channel cycle start start_is)) ∙ taken);
    }

pub none_retaken : (nodes : List ℕ) (start : ℕ) (f : Filter) (on : Channel) → start + 128 ≡ place_of f.slot on 0
    → first_taken_in nodes start f.cycles ≡ None → IsFirst (is_retaken_on nodes f on) None
none_retaken nodes start f on at none slot channel cycle in_cycles =
    false_from_ne_true _ (λ pass.
    let r = retaken nodes start f on slot channel cycle at pass in
    cc (sym (cond-true _ (Some cycle) None r.taken) ∙ first-none (taken_in nodes start f.cycles) 0 64 none cycle
    (omega arith) (omega arith)))

pub first_retaken : (nodes : List ℕ) (start : ℕ) (f : Filter) (on : Channel) (cycle : ℕ)
    → start + 128 ≡ place_of f.slot on 0 → IsSlot f.slot
    → includes f.channels on ≡ true → first_taken_in nodes start f.cycles ≡ Some cycle
    → IsFirstAt (is_retaken_on nodes f on) (record { slot = f.slot; channel = on; cycle = cycle })
first_retaken nodes start f on cycle at is_slot includes_it found =
    let (n, number) = first-some (taken_in nodes start f.cycles) 0 64 cycle found in
    let (taken_n, n_is) = cond_some (is_taken_in nodes start f.cycles n) n cycle number.found in
    let taken : is_taken_in nodes start f.cycles cycle ≡ true =
    subst (λ (k : ℕ). is_taken_in nodes start f.cycles k ≡ true) n_is taken_n in
    let (in_cycle, some) = and_parts (cycle_admitted f.cycles cycle)
    (not (at_place nodes (start + cycle) == nobody)) taken in
    record {
      in_slots = is_slot;
      in_cycles = omega (arith, number.below, n_is);
      passes = and_from _ _ (channel_itself on)
          (and_from _ _ (ap (λ (p : ℕ). not (at_place nodes p == nobody)) (place_in_row f.slot on cycle start at)
          ∙ some)
          (and_from _ _ (and_from _ _ (eq-eqb f.slot f.slot refl) includes_it) in_cycle));
      first = λ slot channel k in_cycles pass.
          (let r = retaken nodes start f on slot channel k at pass in
          let above : cycle ≤ k =
          elim (cases_lt k n) [
            | inl less ↦ cc (sym (cond-true _ (Some k) None r.taken) ∙ number.before k (omega arith) less)
            | inr after ↦ omega (arith, after, n_is)
          ] in
          subst (λ (s : ℕ). place_of f.slot on cycle ≤ place_of s channel k) r.slot_is
          (subst (λ (c : Channel). place_of f.slot on cycle ≤ place_of f.slot c k) r.channel_is
          (ordered_in_row f.slot on cycle k above)));
    }

pub not_included : (nodes : List ℕ) (f : Filter) (on : Channel) → includes f.channels on ≡ false
    → IsFirst (is_retaken_on nodes f on) None
not_included nodes f on is slot channel cycle in_cycles =
    false_from_ne_true _ (λ pass.
    let (on_channel, rest) = and_parts (is_channel on channel)
    (is_taken nodes slot channel cycle && admits_at slot channel cycle f) pass in
    let (taken, admits) = and_parts (is_taken nodes slot channel cycle) (admits_at slot channel cycle f) rest in
    let (front, in_cycle) = and_parts (f.slot == slot && includes f.channels channel)
    (cycle_admitted f.cycles cycle) admits in
    let (same, includes_it) = and_parts (f.slot == slot) (includes f.channels channel) front in
    both_ways (includes f.channels on) is (ap (includes f.channels) (same_channel on channel on_channel) ∙ includes_it))

-- ---- the same occasions

-- two equal tests have the same first occasion
pub same_first : (s t : ℕ → Channel → ℕ → Bool) → ((slot : ℕ) (channel : Channel) (cycle : ℕ) → cycle < 64
    → s slot channel cycle ≡ t slot channel cycle)
    → (o : Option Occasion) → IsFirst s o → IsFirst t o
same_first s t same None is = λ slot channel cycle in_cycles. sym (same slot channel cycle in_cycles)
    ∙ is slot channel cycle in_cycles
same_first s t same (Some o) is = record {
  in_slots = is.in_slots;
  in_cycles = is.in_cycles;
  passes = sym (same o.slot o.channel o.cycle is.in_cycles) ∙ is.passes;
  first = λ slot channel cycle in_cycles pass. is.first slot channel cycle in_cycles
      (same slot channel cycle in_cycles ∙ pass);
}

-- two tests that are equal on a filter's occasions are equal when narrowed to these
pub same_admitted : (f : Filter) (a b : Bool) (slot : ℕ) (channel : Channel) (cycle : ℕ) → IsSlot f.slot
    → (IsSlot slot → a ≡ b)
    → (a && admits_at slot channel cycle f) ≡ (b && admits_at slot channel cycle f)
same_admitted f a b slot channel cycle is_slot same =
    elim (cases_Bool (admits_at slot channel cycle f)) [
      | inl admits ↦
          (let (front, in_cycle) = and_parts (f.slot == slot && includes f.channels channel)
          (cycle_admitted f.cycles cycle) admits in
          let (slot_is, includes_it) = and_parts (f.slot == slot) (includes f.channels channel) front in
          ap (λ (c : Bool). c && admits_at slot channel cycle f)
          (same (subst IsSlot (eqb-true f.slot slot slot_is) is_slot)))
      | inr not_admitted ↦ ap (λ (c : Bool). a && c) not_admitted ∙ never a b ∙ sym
          (ap (λ (c : Bool). b && c) not_admitted)
    ]
  where
    never : (x y : Bool) → (x && false) ≡ (y && false)
    never true true = refl
    never true false = refl
    never false true = refl
    never false false = refl

-- ---- both channels

on_either : (x : Bool) (channel : Channel) → x ≡ (is_channel A channel && x || is_channel B channel && x)
on_either true A = refl
on_either true B = refl
on_either false A = refl
on_either false B = refl

narrowed : (c x y z : Bool) → (c ≡ true → (x && z) ≡ (y && z)) → (c && (x && z)) ≡ (c && (y && z))
narrowed true x y z same = same refl
narrowed false x y z same = refl

-- entries on A don't change the occupied places on B
pub retaken_both : (old mid : List ℕ) (f : Filter) (node : ℕ) (on_a on_b : Option Occasion) → IsSlot f.slot
    → IsFirst (is_retaken_on old f A) on_a → IsEntered (is_admitted_on f A) node old mid
    → IsFirst (is_retaken_on mid f B) on_b
    → IsFirst (is_retaken old f) (earlier on_a on_b)
retaken_both old mid f node on_a on_b is_slot first_a entered first_b =
    IsFirst-earlier (is_retaken_on old f A) (is_retaken_on old f B) (is_retaken old f) on_a on_b
    (λ slot channel cycle. on_either (is_taken old slot channel cycle && admits_at slot channel cycle f) channel)
    first_a
    (same_first (is_retaken_on mid f B) (is_retaken_on old f B) same on_b first_b)
  where
    untouched : (slot : ℕ) (channel : Channel) (cycle : ℕ) → cycle < 64 → is_channel B channel ≡ true → IsSlot slot
        → is_taken mid slot channel cycle ≡ is_taken old slot channel cycle
    untouched slot A cycle in_cycles is lawful = cc is
    untouched slot B cycle in_cycles is lawful = ap (λ (n : ℕ). not (n == nobody))
        (entered.each slot B cycle in_cycles lawful)

    same : (slot : ℕ) (channel : Channel) (cycle : ℕ) → cycle < 64
        → is_retaken_on mid f B slot channel cycle ≡ is_retaken_on old f B slot channel cycle
    same slot channel cycle in_cycles =
        narrowed (is_channel B channel) (is_taken mid slot channel cycle) (is_taken old slot channel cycle)
        (admits_at slot channel cycle f)
        (λ on_b. same_admitted f (is_taken mid slot channel cycle)
        (is_taken old slot channel cycle) slot channel cycle is_slot (untouched slot channel cycle in_cycles on_b))

-- ---- claims, one after another

after_more : (claims : List Claim) (claim : Claim) (before slot : ℕ) (channel : Channel) (cycle : ℕ)
    → after_claims (claims ++ claim ∷ []) before slot channel cycle
    ≡ cond (admits_at slot channel cycle claim.filter) claim.node (after_claims claims before slot channel cycle)
after_more [] claim before slot channel cycle = refl
after_more (c ∷ claims) claim before slot channel cycle =
    after_more claims claim (cond (admits_at slot channel cycle c.filter) c.node before) slot channel cycle

pub entered_none : (nodes : List ℕ) → AreEntered [] nodes nodes
entered_none nodes = record { size = refl; each = λ slot channel cycle in_cycles lawful. refl }

pub entered_more : (claims : List Claim) (claim : Claim) (old mid new : List ℕ) → AreEntered claims old mid
    → IsEntered (λ slot channel cycle. admits_at slot channel cycle claim.filter) claim.node mid new
    → AreEntered (claims ++ claim ∷ []) old new
entered_more claims claim old mid new before now = record {
  size = now.size ∙ before.size;
  each = λ slot channel cycle in_cycles lawful.
      now.each slot channel cycle in_cycles lawful
      ∙ ap (λ (n : ℕ). cond (admits_at slot channel cycle claim.filter) claim.node n)
      (before.each slot channel cycle in_cycles lawful)
      ∙ sym (after_more claims claim (node_at old slot channel cycle) slot channel cycle);
}

-- an entry is a node if a claim is for the occasion, or if it was a node before
pub is_some_node : (n : ℕ) → n ≤ 15 → not (n == nobody) ≡ true
is_some_node n le = ap not (false_from_ne_true (n == nobody)
    (λ same. let e = eqb-true n nobody same in absurd (omega (arith, e))))

pub after_taken : (claims : List Claim) (before slot : ℕ) (channel : Channel) (cycle : ℕ) → Each IsClaim claims
    → not (after_claims claims before slot channel cycle == nobody)
    ≡ (list_any (admits_at slot channel cycle) (filters_of claims) || not (before == nobody))
after_taken [] before slot channel cycle each = refl
after_taken (claim ∷ claims) before slot channel cycle each =
    after_taken claims (cond (admits_at slot channel cycle claim.filter) claim.node before) slot channel cycle each.1
    ∙ here (admits_at slot channel cycle claim.filter) (list_any (admits_at slot channel cycle) (filters_of claims))
  where
    here : (a rest : Bool) → (rest || not (cond a claim.node before == nobody)) ≡
        ((a || rest) || not (before == nobody))
    here true true = refl
    here true false = is_some_node claim.node each.0.node_is
    here false rest = refl

shared_here : (fs : List Filter) (f : Filter) (nodes : List ℕ) → IsSlot f.slot
    → ((slot : ℕ) (channel : Channel) (cycle : ℕ) → cycle < 64 → IsSlot slot
    → is_taken nodes slot channel cycle ≡ list_any (admits_at slot channel cycle) fs)
    → (o : Option Occasion) → IsFirst (is_retaken nodes f) o → IsFirst (is_shared_with f fs) o
shared_here fs f nodes is_slot taken =
    same_first (is_retaken nodes f) (is_shared_with f fs)
    (λ slot channel cycle in_cycles.
    same_admitted f (is_taken nodes slot channel cycle) (list_any (admits_at slot channel cycle) fs) slot channel cycle
    is_slot (taken slot channel cycle in_cycles))

or_nothing : (a b : Bool) → b ≡ false → (a || b) ≡ a
or_nothing true b is = refl
or_nothing false b is = is

-- the occupied occasions after the claims were entered into a free table
taken_after : (claims : List Claim) (old mid : List ℕ) → Each IsClaim claims → AreEntered claims old mid → IsFree old
    → (slot : ℕ) (channel : Channel) (cycle : ℕ) → cycle < 64 → IsSlot slot
    → is_taken mid slot channel cycle ≡ list_any (admits_at slot channel cycle) (filters_of claims)
taken_after claims old mid lawful entered free slot channel cycle in_cycles is_slot =
    ap (λ (n : ℕ). not (n == nobody)) (entered.each slot channel cycle in_cycles is_slot)
    ∙ after_taken claims (node_at old slot channel cycle) slot channel cycle lawful
    ∙ or_nothing (list_any (admits_at slot channel cycle) (filters_of claims)) _
    (free slot channel cycle in_cycles is_slot)

pub shared_more : (claims : List Claim) (claim : Claim) (old mid : List ℕ) (first here : Option Occasion)
    → Each IsClaim claims → IsClaim claim
    → AreEntered claims old mid → IsFree old → IsFirst (is_shared (filters_of claims)) first
    → IsFirst (is_retaken mid claim.filter) here
    → IsFirst (is_shared (filters_of (claims ++ claim ∷ []))) (earlier first here)
shared_more claims claim old mid first here lawful this entered free is_first is_here =
    subst (λ (fs : List Filter). IsFirst (is_shared fs) (earlier first here))
    (sym (map-append filter_of claims (claim ∷ [])))
    (IsFirst-earlier (is_shared (filters_of claims)) (is_shared_with claim.filter (filters_of claims)) _ first here
    (shared-more claim.filter (filters_of claims)) is_first
    (shared_here (filters_of claims) claim.filter mid this.slot_is
    (taken_after claims old mid lawful entered free) here is_here))

-- the invariant of the loop over the claims
pub record IsSoFar (claims : List Claim) (old new : List ℕ) (first : Option Occasion) : Type 0 where
  pub lawful : Each IsClaim claims
  pub entered : AreEntered claims old new
  pub is_first : IsFree old → IsFirst (is_shared (filters_of claims)) first

pub so_far_none : (nodes : List ℕ) → IsSoFar [] nodes nodes None
so_far_none nodes = record { lawful = tt; entered = entered_none nodes; is_first = λ free. shared-none }

pub so_far_more : (claims : List Claim) (claim : Claim) (old mid new : List ℕ) (first here : Option Occasion)
    → IsSoFar claims old mid first → IsClaim claim
    → IsFirst (is_retaken mid claim.filter) here
    → IsEntered (λ slot channel cycle. admits_at slot channel cycle claim.filter) claim.node mid new
    → IsSoFar (claims ++ claim ∷ []) old new (earlier first here)
so_far_more claims claim old mid new first here h this is_here entered = record {
  lawful = Each-snoc IsClaim claims claim h.lawful this;
  entered = entered_more claims claim old mid new h.entered entered;
  is_first = λ free. shared_more claims claim old mid first here h.lawful this h.entered free (h.is_first free) is_here;
}
