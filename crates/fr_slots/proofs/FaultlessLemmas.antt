-- The properties of a plan without fault.
use Rattle.std.proofs.Common.{◌≡◌, ℕ, zero, suc, ◌+◌, ◌-◌, ◌<◌, ◌≤◌, nat_lt, leb, not, Bool, true, false, cond, ◌&&◌}
use Rattle.std.proofs.Common.{◌||◌, List, [], ◌∷◌, Option, Some, None, refl, sym, ap, ◌∙◌, inl, inr, arith}
use Rattle.std.proofs.lemmas.Bool.{cases_Bool, and_from, or_parts, both_ways, not-false, true_from_ne_false}
use Rattle.std.proofs.lemmas.Bool.{false_from_ne_true, ltb-false, le-leb, leb-true, cond-true, cond-false}
use Rattle.std.proofs.lemmas.Iterator.Adapters.{position_from-zero}
use Rattle.std.proofs.lemmas.Option.{same_Some}
use Rattle.std.specs.Prelude.{IfNone, is_some, position, slice_get}
use Rattle.std.specs.List.{list_any, list_all, position_from}
use Rattle.std.specs.Option.{option_or, option_map}
use Rattle.fr_slots.specs.declared.channel.Channel.{Channel}
use Rattle.fr_slots.specs.declared.channel.Channel.TheVariants.{A, B}
use Rattle.fr_slots.specs.declared.fault.PlanFault.{PlanFault}
use Rattle.fr_slots.specs.declared.fault.PlanFault.TheVariants.{OutOfParams, NotOwned, DynamicBoth, Overlap, TooLong}
use Rattle.fr_slots.specs.declared.plan.Own.{Own}
use Rattle.fr_slots.specs.declared.plan.Buffer.{Buffer}
use Rattle.fr_slots.specs.Admission.{includes, cycle_admitted}
use Rattle.fr_slots.specs.Faults.{two_pass, first_of, channels, slots, claims, is_owned, sends_at, transmits_static}
use Rattle.fr_slots.specs.Faults.{transmits_dynamic, words_of, latest_on, minislots_filled, has_wrong_words}
use Rattle.fr_slots.specs.Faults.{is_owned_beyond, has_late_latest, is_out_of_params, out_of_params, any_unowned}
use Rattle.fr_slots.specs.Faults.{first_buffer, is_unowned_on, is_unowned_in, not_owned, dynamic_both, is_overlap}
use Rattle.fr_slots.specs.Faults.{overlap_at, overlap_on, overlap_in, first_overlap, cycles, ends_late, ends_late_on}
use Rattle.fr_slots.specs.Faults.{too_long, ownership_fault, buffer_fault, plan_fault, HasOneSender, HasOneOwner}
use Rattle.fr_slots.specs.Faults.{FitsStatic, FitsDynamic, IsFaultless}
use Rattle.fr_slots.specs.Numbers.{IsSlot}
use Rattle.fr_slots.specs.Parameters.{Parameters, is_static_slot}
use Rattle.fr_slots.specs.Plans.{Plan}
use Rattle.fr_slots.proofs.FaultLemmas.{first-none, any-none}

-- ---- nothing found

pub or_none : {X : Type 0} (p q : Option X) → option_or p q ≡ None → (p ≡ None) × (q ≡ None)
or_none None q none = (refl, none)
or_none (Some x) q none = cc none

pub cond_none : {X : Type 0} (b : Bool) (x : X) → cond b (Some x) None ≡ None → b ≡ false
cond_none true x none = cc none
cond_none false x none = refl

any_none : {X : Type 0} (test : X → Bool) (xs : List X) (n : ℕ) (x : X) → list_any test xs ≡ false
    → slice_get xs n ≡ Some x → test x ≡ false
any_none test [] n x none at = cc at
any_none test (y ∷ xs) zero x none at = ap test (sym (same_Some y x at)) ∙ (or_parts (test y) (list_any test xs) none).0
any_none test (y ∷ xs) (suc n) x none at = any_none test xs n x (or_parts (test y) (list_any test xs) none).1 at

pub position_from-none : {X : Type 0} (test : X → Bool) (i : ℕ) (xs : List X) (n : ℕ) (x : X)
    → position_from test i xs ≡ None
    → slice_get xs n ≡ Some x → test x ≡ false
position_from-none test i [] n x none at = cc at
position_from-none test i (y ∷ xs) zero x none at =
    ap test (sym (same_Some y x at))
    ∙ false_from_ne_true (test y)
    (λ pass. let found : Some i ≡ None = sym (cond-true (test y) (Some i) (position_from test (i + 1) xs) pass) ∙ none
    in cc found)
position_from-none test i (y ∷ xs) (suc n) x none at =
    elim (cases_Bool (test y)) [
      | inl pass ↦ (let found : Some i ≡ None = sym (cond-true (test y) (Some i) (position_from test (i + 1) xs) pass) ∙
          none in cc found)
      | inr fail ↦ position_from-none test (i + 1) xs n x (sym
          (cond-false (test y) (Some i) (position_from test (i + 1) xs) fail) ∙ none) at
    ]

pub map_none : {X Y : Type 0} (f : X → Y) (o : Option X) → option_map f o ≡ None → o ≡ None
map_none f None none = refl
map_none f (Some x) none = cc none

buffer_none : (fault : ℕ → PlanFault) (test : Buffer → Bool) (buffers : List Buffer) (n : ℕ) (b : Buffer)
    → first_buffer fault test buffers ≡ None → slice_get buffers n ≡ Some b → test b ≡ false
buffer_none fault test buffers n b none at =
    position_from-none test 0 buffers n b (sym (position_from-zero test buffers) ∙ map_none fault
    (position test buffers) none) at

-- ---- two of a list

two_pass-once : {X : Type 0} (test : X → Bool) (xs : List X) (m n : ℕ) (x y : X) → two_pass test xs ≡ false
    → slice_get xs m ≡ Some x → slice_get xs n ≡ Some y → test x ≡ true → test y ≡ true → m ≡ n
unfolding two_pass
two_pass-once test [] m n x y none at_m at_n pass_x pass_y = cc at_m
two_pass-once test (z ∷ xs) zero zero x y none at_m at_n pass_x pass_y = refl
two_pass-once test (z ∷ xs) zero (suc n) x y none at_m at_n pass_x pass_y =
    absurd (both_ways (test z && list_any test xs) (or_parts (test z && list_any test xs) (two_pass test xs) none).0
    (and_from (test z) (list_any test xs) (ap test (same_Some z x at_m) ∙ pass_x)
    (true_from_ne_false (list_any test xs) (λ fail. both_ways (test y) (any_none test xs n y fail at_n) pass_y))))
two_pass-once test (z ∷ xs) (suc m) zero x y none at_m at_n pass_x pass_y =
    absurd (both_ways (test z && list_any test xs) (or_parts (test z && list_any test xs) (two_pass test xs) none).0
    (and_from (test z) (list_any test xs) (ap test (same_Some z y at_n) ∙ pass_y)
    (true_from_ne_false (list_any test xs) (λ fail. both_ways (test x) (any_none test xs m x fail at_m) pass_x))))
two_pass-once test (z ∷ xs) (suc m) (suc n) x y none at_m at_n pass_x pass_y =
    ap suc (two_pass-once test xs m n x y (or_parts (test z && list_any test xs) (two_pass test xs) none).1 at_m at_n
    pass_x pass_y)

-- ---- slots and channels

pub on_channels : {X : Type 0} (f : Channel → Option X) (channel : Channel) → first_of f channels ≡ None
    → f channel ≡ None
unfolding first_of
on_channels f A none = (or_none (f A) (option_or (f B) None) none).0
on_channels f B none = (or_none (f B) None (or_none (f A) (option_or (f B) None) none).1).0

pub in_slots : {X : Type 0} (f : ℕ → Option X) (slot : ℕ) → IsSlot slot → first_of f slots ≡ None → f slot ≡ None
in_slots f slot is none = first-none f 1 2047 none slot is.from_one (omega (arith, is.at_most))

any_channel : (test : Channel → Bool) (channel : Channel) → list_any test channels ≡ false → test channel ≡ false
any_channel test A none = (or_parts (test A) (test B || false) none).0
any_channel test B none = (or_parts (test B) false (or_parts (test A) (test B || false) none).1).0

-- a test that passes for a cycle passes for one of all cycles
any_cycle : (test : ℕ → Bool) (cycle : ℕ) → cycle < 64 → list_any test cycles ≡ false → test cycle ≡ false
any_cycle test cycle below none = any-none test 0 64 none cycle (omega arith) (omega arith)

no_overlap : (owned : List Own) (buffers : List Buffer) (slot : ℕ) (channel : Channel) (cycle : ℕ)
    → first_overlap owned buffers ≡ None
    → cycle < 64 → IsSlot slot → is_overlap owned buffers slot channel cycle ≡ false
no_overlap owned buffers slot channel cycle none in_cycles is_slot =
    let free : overlap_on owned buffers slot channel ≡ None = on_channels (overlap_on owned buffers slot) channel
    (in_slots (overlap_in owned buffers) slot is_slot none) in
    let no : overlap_at owned buffers slot channel cycle ≡ None =
    first-none (overlap_at owned buffers slot channel) 0 64 free cycle
    (omega arith) (omega arith) in
    cond_none (is_overlap owned buffers slot channel cycle) (Overlap slot channel cycle) no

one_owner : (plan : Plan) → first_overlap plan.owned plan.buffers ≡ None → HasOneOwner plan
one_owner plan none slot channel cycle m n o p in_cycles is_slot at_m at_n claims_o claims_p =
    two_pass-once (claims slot channel cycle) plan.owned m n o p
    (or_parts (two_pass (claims slot channel cycle) plan.owned) (two_pass (sends_at slot channel cycle) plan.buffers)
    (no_overlap plan.owned plan.buffers slot channel cycle none in_cycles is_slot)).0
    at_m at_n claims_o claims_p

one_sender : (plan : Plan) → first_overlap plan.owned plan.buffers ≡ None → HasOneSender plan
one_sender plan none slot channel cycle m n b c in_cycles is_slot sender_b sender_c =
    two_pass-once (sends_at slot channel cycle) plan.buffers m n b c
    (or_parts (two_pass (claims slot channel cycle) plan.owned) (two_pass (sends_at slot channel cycle) plan.buffers)
    (no_overlap plan.owned plan.buffers slot channel cycle none in_cycles is_slot)).1
    sender_b.at sender_c.at sender_b.sends sender_c.sends

-- ---- each buffer

-- if a conjunction is false and its first part true, its second part is false
and_second : (b c : Bool) → (b && c) ≡ false → b ≡ true → c ≡ false
and_second true c none pass = none
and_second false c none pass = cc pass

absent : {X : Type 0} (o : Option X) → is_some o ≡ false → o ≡ None
absent None none = refl
absent (Some x) none = cc none

fits_static : (p : Parameters) (plan : Plan) (b : Buffer) → transmits_static p b ≡ true → has_wrong_words p b ≡ false
    → not_owned p plan.owned b ≡ false → FitsStatic p plan b
fits_static p plan b is right owned = record {
  words_are = absent b.words
      (and_second (transmits_static p b) (is_some b.words)
      (or_parts (transmits_static p b && is_some b.words) (transmits_dynamic p b && not (is_some b.words)) right).0 is);
  owned = λ channel cycle in_cycles includes_it admits_it.
      not-false (is_owned plan.owned b.filter.slot channel cycle)
      (and_second (cycle_admitted b.filter.cycles cycle) (not (is_owned plan.owned b.filter.slot channel cycle))
      (any_cycle (is_unowned_in plan.owned b.filter channel) cycle in_cycles
      (and_second (includes b.filter.channels channel) (any_unowned plan.owned b.filter channel)
      (any_channel (is_unowned_on plan.owned b.filter) channel
      (and_second (transmits_static p b) (list_any (is_unowned_on plan.owned b.filter) channels) owned is))
      includes_it))
      admits_it);
}

fits_dynamic : (p : Parameters) (plan : Plan) (b : Buffer) → transmits_dynamic p b ≡ true → has_wrong_words p b ≡ false
    → dynamic_both p b ≡ false → too_long p plan b ≡ false
    → FitsDynamic p plan b
fits_dynamic p plan b is right one short = record {
  words_are = not-false (is_some b.words)
      (and_second (transmits_dynamic p b) (not (is_some b.words))
      (or_parts (transmits_static p b && is_some b.words) (transmits_dynamic p b && not (is_some b.words)) right).1 is);
  one_channel = and_second (transmits_dynamic p b) (list_all (includes b.filter.channels) channels) one is;
  ends = λ channel includes_it begins.
      (let late : ends_late p plan (words_of p b) channel ≡ false =
      and_second (includes b.filter.channels channel) (ends_late p plan (words_of p b) channel)
      (any_channel (ends_late_on p plan b) channel
      (and_second (transmits_dynamic p b) (list_any (ends_late_on p plan b) channels) short is)) includes_it in
      ltb-false p.minislots (latest_on plan channel - 1 + minislots_filled p (words_of p b))
      (and_second (leb 1 (latest_on plan channel))
      (nat_lt p.minislots (latest_on plan channel - 1 + minislots_filled p (words_of p b))) late
      (le-leb 1 (latest_on plan channel) begins)));
}

-- ---- the plan

latest_fit : (p : Parameters) (plan : Plan) (channel : Channel) → has_late_latest p plan ≡ false
    → latest_on plan channel ≤ p.minislots
latest_fit p plan A none = ltb-false p.minislots plan.latest_a
    (or_parts (nat_lt p.minislots plan.latest_a) (nat_lt p.minislots plan.latest_b) none).0
latest_fit p plan B none = ltb-false p.minislots plan.latest_b
    (or_parts (nat_lt p.minislots plan.latest_a) (nat_lt p.minislots plan.latest_b) none).1

pub faultless : (p : Parameters) (plan : Plan) → plan_fault p plan ≡ None → IsFaultless p plan
unfolding plan_fault ownership_fault buffer_fault
faultless p plan none =
    let (lines, buffers) = or_none (ownership_fault p plan) (buffer_fault p plan) none in
    let not_owned_is = first_buffer NotOwned (not_owned p plan.owned) plan.buffers in
    let both_is = first_buffer DynamicBoth (dynamic_both p) plan.buffers in
    let long_is = first_buffer TooLong (too_long p plan) plan.buffers in
    let (in_params, all_owned) = or_none (out_of_params p plan) not_owned_is lines in
    let (not_both, apart_short) = or_none both_is (option_or (first_overlap plan.owned plan.buffers) long_is) buffers in
    let (apart, short) = or_none (first_overlap plan.owned plan.buffers) long_is apart_short in
    let fits = cond_none (is_out_of_params p plan) OutOfParams in_params in
    let (front, right_words) = or_parts (list_any (is_owned_beyond p) plan.owned || has_late_latest p plan)
    (list_any (has_wrong_words p) plan.buffers) fits in
    let (all_static, in_time) = or_parts (list_any (is_owned_beyond p) plan.owned) (has_late_latest p plan) front in
    record {
      latest_fits = λ channel. latest_fit p plan channel in_time;
      owned_are_static = λ number own at.
          leb-true own.slot p.static_slots
          (not-false (is_static_slot p own.slot) (any_none (is_owned_beyond p) plan.owned number own all_static at));
      one_owner = one_owner plan apart;
      one_sender = one_sender plan apart;
      static_fit = λ number b at is.
          fits_static p plan b is (any_none (has_wrong_words p) plan.buffers number b right_words at)
          (buffer_none NotOwned (not_owned p plan.owned) plan.buffers number b all_owned at);
      dynamic_fit = λ number b at is.
          fits_dynamic p plan b is (any_none (has_wrong_words p) plan.buffers number b right_words at)
          (buffer_none DynamicBoth (dynamic_both p) plan.buffers number b not_both at)
          (buffer_none TooLong (too_long p plan) plan.buffers number b short at);
    }

pub faultless_if : (p : Parameters) (plan : Plan) (o : Option PlanFault) → o ≡ plan_fault p plan
    → IfNone o (IsFaultless p plan)
faultless_if p plan None is = faultless p plan (sym is)
faultless_if p plan (Some fault) is = tt
