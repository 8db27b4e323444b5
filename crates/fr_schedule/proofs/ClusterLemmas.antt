-- Lawful plans that fit these parameters, without a fault among them, are those of a cluster.
use Rattle.std.proofs.Common.{◌≡◌, ℕ, zero, suc, ◌+◌, ◌<◌, ◌≤◌, ◌==◌, Bool, true, false, ◌&&◌, ◌||◌, if◌then◌else◌}
use Rattle.std.proofs.Common.{List, [], ◌∷◌, ◌++◌, length, Option, Some, None, option_map, refl, sym, ap, subst, ◌∙◌}
use Rattle.std.proofs.Common.{inl, inr, arith}
use Rattle.std.proofs.lemmas.Bool.{cases_Bool, cases_eq, eqb-true, and_parts, or_cases, or_parts, or_left, or_right}
use Rattle.std.proofs.lemmas.Bool.{cond-true, cond-false, both_ways}
use Rattle.std.proofs.lemmas.Option.{same_Some}
use Rattle.std.specs.List.{list_any, slice_get}
use Rattle.std.specs.Option.{option_or}
use Rattle.std.specs.Prelude.{position}
use Rattle.fr_schedule.proofs.FilterLemmas.{no_overlap_plans}
use Rattle.fr_schedule.proofs.TwoLemmas.{two_left, two_right, two_at}
use Rattle.fr_schedule.specs.Clusters.{IsNode, IsCluster}
use Rattle.fr_schedule.specs.Descriptions.{Description}
use Rattle.fr_schedule.specs.SenderTable.{HasOneSender, may_send}
use Rattle.fr_schedule.specs.declared.error.ConfigError.{ConfigError}
use Rattle.fr_schedule.specs.declared.error.ConfigError.TheVariants as error
use Rattle.fr_schedule.specs.FileFaults.{all_owned, all_buffers, first_overlap, buffer_fault, first_in_nodes, first_by}
use Rattle.fr_schedule.specs.FileFaults.{not_owned_in, dynamic_both_in, too_long_in, file_fault}
use Rattle.fr_slots.proofs.FaultLemmas.{first-none}
use Rattle.fr_slots.proofs.FaultlessLemmas.{or_none, cond_none, map_none, on_channels, in_slots}
use Rattle.fr_slots.specs.declared.channel.Channel.{Channel}
use Rattle.fr_slots.specs.declared.fault.PlanFault.TheVariants as fault
use Rattle.fr_slots.specs.declared.plan.Own.{Own}
use Rattle.fr_slots.specs.declared.plan.Buffer.{Buffer}
use Rattle.fr_slots.specs.Admission.{includes, cycle_admitted}
use Rattle.fr_slots.specs.Faults as plan
use Rattle.fr_slots.specs.Faults.{buffer_fault as sending_fault, first_of, two_pass, slots, channels, cycles, claims}
use Rattle.fr_slots.specs.Faults.{sends_at, is_owned, is_overlap, transmits, not_owned, dynamic_both, too_long}
use Rattle.fr_slots.specs.Faults.{is_out_of_params, out_of_params, ownership_fault, plan_fault}
use Rattle.fr_slots.specs.Numbers.{IsSlot}
use Rattle.fr_slots.specs.Parameters.{Parameters, IsParameters, is_static_slot}
use Rattle.fr_slots.specs.Plans.{Plan, IsPlan, IsOwn, IsBuffer, Each, filter_admits}

-- ---- each of a list

module _ {X : Type 0} where
  pub each_at : (P : X → Type 0) (xs : List X) (n : ℕ) (x : X) → Each P xs → slice_get xs n ≡ Some x → P x
  each_at P [] n x all at = cc at
  each_at P (y ∷ xs) zero x all at = subst P (same_Some y x at) all.0
  each_at P (y ∷ xs) (suc n) x all at = each_at P xs n x all.1 at

  each_both : (P Q : X → Type 0) (xs : List X) → Each P xs → Each Q xs → Each (λ x. P x × Q x) xs
  each_both P Q [] ps qs = tt
  each_both P Q (x ∷ xs) ps qs = ((ps.0, qs.0), each_both P Q xs ps.1 qs.1)

  each_so : (P Q : X → Type 0) → ((x : X) → P x → Q x) → (xs : List X) → Each P xs → Each Q xs
  each_so P Q so [] ps = tt
  each_so P Q so (x ∷ xs) ps = (so x ps.0, each_so P Q so xs ps.1)

-- ---- nothing found in all lines, so nothing in those of one node

module _ {X A : Type 0} (f g : X → Option A) (so : (x : X) → f x ≡ None → g x ≡ None) where
  none_so : (xs : List X) → first_of f xs ≡ None → first_of g xs ≡ None
  unfolding first_of
  none_so [] none = refl
  none_so (x ∷ xs) none =
      let (here, later) = or_none (f x) (first_of f xs) none in
      ap (λ o. option_or o (first_of g xs)) (so x here) ∙ none_so xs later

none_if : {A : Type 0} (b c : Bool) (x : A) → (c ≡ true → b ≡ true) → (if b then Some x else None) ≡ None
    → (if c then Some x else None) ≡ None
none_if b false x so none = refl
none_if true true x so none = none
none_if false true x so none = cc (so refl)

either_so : (a b c d : Bool) → (c ≡ true → a ≡ true) → (d ≡ true → b ≡ true) → (c || d) ≡ true → (a || b) ≡ true
either_so a b c d left right any =
    elim (or_cases c d any) [
      | inl here ↦ or_left a b (left here)
      | inr there ↦ or_right a b (right there)
    ]

overlap_so : (xs ys : List Own) (bs cs : List Buffer) → ((t : Own → Bool) → two_pass t ys ≡ true → two_pass t xs ≡ true)
    → ((t : Buffer → Bool) → two_pass t cs ≡ true → two_pass t bs ≡ true) → plan.first_overlap xs bs ≡ None
    → plan.first_overlap ys cs ≡ None
overlap_so xs ys bs cs owns sends =
    none_so (plan.overlap_in xs bs) (plan.overlap_in ys cs)
    (λ slot.
    none_so (plan.overlap_on xs bs slot) (plan.overlap_on ys cs slot)
    (λ channel.
    none_so (plan.overlap_at xs bs slot channel) (plan.overlap_at ys cs slot channel)
    (λ cycle.
    none_if (is_overlap xs bs slot channel cycle) (is_overlap ys cs slot channel cycle)
    (fault.Overlap slot channel cycle)
    (either_so (two_pass (claims slot channel cycle) xs) (two_pass (sends_at slot channel cycle) bs)
    (two_pass (claims slot channel cycle) ys) (two_pass (sends_at slot channel cycle) cs)
    (owns (claims slot channel cycle)) (sends (sends_at slot channel cycle))))
    cycles)
    channels)
    slots

none_overlap : (plans : List Plan) → plan.first_overlap (all_owned plans) (all_buffers plans) ≡ None
    → Each (λ q. plan.first_overlap q.owned q.buffers ≡ None) plans
none_overlap [] none = tt
none_overlap (q ∷ plans) none = (
  overlap_so (q.owned ++ all_owned plans) q.owned (q.buffers ++ all_buffers plans) q.buffers
      (λ t. two_left t q.owned (all_owned plans)) (λ t. two_left t q.buffers (all_buffers plans)) none,
  none_overlap plans
      (overlap_so (q.owned ++ all_owned plans) (all_owned plans) (q.buffers ++ all_buffers plans) (all_buffers plans)
      (λ t. two_right t q.owned (all_owned plans)) (λ t. two_right t q.buffers (all_buffers plans)) none),
)

-- ---- buffers at fault by themselves

-- no buffer passes the test
abbrev HasNone : (Plan → Buffer → Bool) → Plan → Type 0
HasNone test q = position (test q) q.buffers ≡ None

none_in_nodes : (made : ℕ → ℕ → ConfigError) (test : Plan → Buffer → Bool) (n : ℕ) (plans : List Plan)
    → first_in_nodes (buffer_fault made test) n plans ≡ None → Each (HasNone test) plans
unfolding first_in_nodes
none_in_nodes made test n [] none = tt
none_in_nodes made test n (q ∷ plans) none =
    let (here, later) = or_none (buffer_fault made test n q)
    (first_in_nodes (buffer_fault made test) (n + 1) plans) none in
    (map_none (made n) (position (test q) q.buffers) here, none_in_nodes made test (n + 1) plans later)

-- ---- a node without fault

-- the facts that the file's tests leave for a node
record IsFree (p : Parameters) (q : Plan) : Type 0 where
  pub owned : HasNone (λ r. not_owned p r.owned) q
  pub one_channel : HasNone (λ r. dynamic_both p) q
  pub apart : plan.first_overlap q.owned q.buffers ≡ None
  pub in_time : HasNone (too_long p) q

-- the plan fits these parameters
abbrev pub IsFor : Parameters → Plan → Type 0
IsFor p q = is_out_of_params p q ≡ false

or_of_none : {A : Type 0} (o r : Option A) → o ≡ None → r ≡ None → option_or o r ≡ None
or_of_none o r none_o none_r = ap (λ x. option_or x r) none_o ∙ none_r

no_fault : (p : Parameters) (q : Plan) → IsFor p q → IsFree p q → plan_fault p q ≡ None
unfolding plan_fault ownership_fault sending_fault
no_fault p q is_for free =
    or_of_none (ownership_fault p q) (sending_fault p q)
    (or_of_none (out_of_params p q) _ (cond-false (is_out_of_params p q) (Some fault.OutOfParams) None is_for)
    (ap (option_map fault.NotOwned) free.owned))
    (or_of_none (plan.first_buffer fault.DynamicBoth (dynamic_both p) q.buffers) _
    (ap (option_map fault.DynamicBoth) free.one_channel)
    (or_of_none (plan.first_overlap q.owned q.buffers) _ free.apart (ap (option_map fault.TooLong) free.in_time)))

-- the four parts of a file without fault
record HasNoFault (p : Parameters) (plans : List Plan) : Type 0 where
  pub owned : first_by (not_owned_in p) plans ≡ None
  pub one_channel : first_by (dynamic_both_in p) plans ≡ None
  pub apart : first_overlap plans ≡ None
  pub in_time : first_by (too_long_in p) plans ≡ None

parts : (p : Parameters) (plans : List Plan) → file_fault p plans ≡ None → HasNoFault p plans
unfolding file_fault
parts p plans none =
    let last = option_or (first_overlap plans) (first_by (too_long_in p) plans) in
    let (owned, after) = or_none (first_by (not_owned_in p) plans)
    (option_or (first_by (dynamic_both_in p) plans) last) none in
    let (one_channel, later) = or_none (first_by (dynamic_both_in p) plans) last after in
    let (apart, in_time) = or_none (first_overlap plans) (first_by (too_long_in p) plans) later in
    record { owned = owned; one_channel = one_channel; apart = apart; in_time = in_time }

each_free : (p : Parameters) (plans : List Plan) → HasNoFault p plans → Each (IsFree p) plans
each_free p plans none =
    each_so _ (IsFree p) (λ q h. record { owned = h.0; one_channel = h.1.0; apart = h.1.1.0; in_time = h.1.1.1 }) plans
    (each_both _ _ plans (none_in_nodes error.NotOwned (λ r. not_owned p r.owned) 0 plans none.owned)
    (each_both _ _ plans (none_in_nodes error.DynamicBoth (λ r. dynamic_both p) 0 plans none.one_channel)
    (each_both _ _ plans (none_overlap plans (no_overlap_plans plans none.apart))
    (none_in_nodes error.TooLong (too_long p) 0 plans none.in_time))))

nodes_are : (p : Parameters) (plans : List Plan) → Each IsPlan plans → Each (IsFor p) plans → HasNoFault p plans
    → Each (IsNode p) plans
nodes_are p plans lawful fit none =
    each_so _ (IsNode p) (λ q h. (h.0, no_fault p q h.1.0 h.1.1)) plans
    (each_both IsPlan _ plans lawful (each_both (IsFor p) (IsFree p) plans fit (each_free p plans none)))

-- ---- one sender

claimed_slot : (owned : List Own) (slot : ℕ) (channel : Channel) (cycle : ℕ) → Each IsOwn owned
    → is_owned owned slot channel cycle ≡ true → IsSlot slot
claimed_slot [] slot channel cycle each any = cc any
claimed_slot (own ∷ owned) slot channel cycle each any =
    elim (or_cases (claims slot channel cycle own) (is_owned owned slot channel cycle) any) [
      | inl here ↦
          (let (front, in_cycle) = and_parts (own.slot == slot && includes own.channels channel)
          (cycle_admitted own.cycles cycle) here in
          let (same, includes_it) = and_parts (own.slot == slot) (includes own.channels channel) front in
          subst IsSlot (eqb-true own.slot slot same) each.0.slot_is)
      | inr later ↦ claimed_slot owned slot channel cycle each.1 later
    ]

sent_slot : (buffers : List Buffer) (slot : ℕ) (channel : Channel) (cycle : ℕ) → Each IsBuffer buffers
    → list_any (sends_at slot channel cycle) buffers ≡ true → IsSlot slot
sent_slot [] slot channel cycle each any = cc any
sent_slot (b ∷ buffers) slot channel cycle each any =
    elim (or_cases (sends_at slot channel cycle b) (list_any (sends_at slot channel cycle) buffers) any) [
      | inl here ↦
          (let (sends, admits) = and_parts (transmits b) (filter_admits b.filter cycle slot channel) here in
          let (front, in_cycle) = and_parts (b.filter.slot == slot && includes b.filter.channels channel)
          (cycle_admitted b.filter.cycles cycle) admits in
          let (same, includes_it) = and_parts (b.filter.slot == slot) (includes b.filter.channels channel) front in
          subst IsSlot (eqb-true b.filter.slot slot same) each.0.slot_is)
      | inr later ↦ sent_slot buffers slot channel cycle each.1 later
    ]

no_two : (plans : List Plan) (slot : ℕ) (channel : Channel) (cycle : ℕ) → IsSlot slot → cycle < 64
    → first_overlap plans ≡ None
    → is_overlap (all_owned plans) (all_buffers plans) slot channel cycle ≡ false
no_two plans slot channel cycle is few none =
    let owned = all_owned plans in
    let buffers = all_buffers plans in
    cond_none (is_overlap owned buffers slot channel cycle) (fault.Overlap slot channel cycle)
    (first-none (plan.overlap_at owned buffers slot channel) 0 64
    (on_channels (plan.overlap_on owned buffers slot) channel
    (in_slots (plan.overlap_in owned buffers) slot is (no_overlap_plans plans none))) cycle
    (omega arith) (omega (arith, few)))

two_owners : (plans : List Plan) (slot : ℕ) (channel : Channel) (cycle : ℕ) → IsSlot slot → cycle < 64
    → first_overlap plans ≡ None
    → two_pass (claims slot channel cycle) (all_owned plans) ≡ false
two_owners plans slot channel cycle is few none =
    (or_parts (two_pass (claims slot channel cycle) (all_owned plans))
    (two_pass (sends_at slot channel cycle) (all_buffers plans))
    (no_two plans slot channel cycle is few none)).0

two_senders : (plans : List Plan) (slot : ℕ) (channel : Channel) (cycle : ℕ) → IsSlot slot → cycle < 64
    → first_overlap plans ≡ None
    → two_pass (sends_at slot channel cycle) (all_buffers plans) ≡ false
two_senders plans slot channel cycle is few none =
    (or_parts (two_pass (claims slot channel cycle) (all_owned plans))
    (two_pass (sends_at slot channel cycle) (all_buffers plans))
    (no_two plans slot channel cycle is few none)).1

one_sender : (d : Description) → Each IsPlan d.plans → HasNoFault d.params d.plans → HasOneSender d
one_sender d lawful none cycle slot channel m n few at_m at_n =
    elim (cases_eq m n) [
      | inl same ↦ same
      | inr differ ↦
          elim (cases_Bool (is_static_slot d.params slot)) [
            | inl static ↦
                (let by_line : (q : Plan) → may_send d.params cycle slot channel q ≡ true
                → is_owned q.owned slot channel cycle ≡ true =
                λ q sends. sym (cond-true (is_static_slot d.params slot) (is_owned q.owned slot channel cycle)
                (list_any (sends_at slot channel cycle) q.buffers) static) ∙ sends in
                let owner = by_line at_m.plan at_m.sends in
                let is = claimed_slot at_m.plan.owned slot channel cycle
                (each_at IsPlan d.plans m at_m.plan lawful at_m.at).owned_are owner in
                absurd (both_ways (two_pass (claims slot channel cycle) (all_owned d.plans))
                (two_owners d.plans slot channel cycle is few none.apart)
                (two_at (claims slot channel cycle) (λ q. q.owned) d.plans m n at_m.plan at_n.plan differ at_m.at
                at_n.at owner (by_line at_n.plan at_n.sends))))
            | inr dynamic ↦
                (let by_buffer : (q : Plan) → may_send d.params cycle slot channel q ≡ true
                → list_any (sends_at slot channel cycle) q.buffers ≡ true =
                λ q sends. sym (cond-false (is_static_slot d.params slot) (is_owned q.owned slot channel cycle)
                (list_any (sends_at slot channel cycle) q.buffers) dynamic) ∙ sends in
                let sender = by_buffer at_m.plan at_m.sends in
                let is = sent_slot at_m.plan.buffers slot channel cycle
                (each_at IsPlan d.plans m at_m.plan lawful at_m.at).buffers_are sender in
                absurd (both_ways (two_pass (sends_at slot channel cycle) (all_buffers d.plans))
                (two_senders d.plans slot channel cycle is few none.apart)
                (two_at (sends_at slot channel cycle) (λ q. q.buffers) d.plans m n at_m.plan at_n.plan differ at_m.at
                at_n.at sender (by_buffer at_n.plan at_n.sends))))
          ]
    ]

-- ---- a cluster

pub cluster_is : (d : Description) → IsParameters d.params → 1 ≤ length d.plans → length d.plans ≤ 16
    → Each IsPlan d.plans → Each (IsFor d.params) d.plans
    → file_fault d.params d.plans ≡ None → IsCluster d
cluster_is d params some few lawful fit free =
    let none = parts d.params d.plans free in
    record {
      params_are = params;
      some_nodes = some;
      few_nodes = few;
      nodes_are = nodes_are d.params d.plans lawful fit none;
      one_sender = one_sender d lawful none;
    }

-- the plan of each of its nodes is without fault
pub node_faultless : (d : Description) → IsCluster d → (n : ℕ) (plan : Plan) → slice_get d.plans n ≡ Some plan
    → plan_fault d.params plan ≡ None
node_faultless d lawful n plan at = (each_at (IsNode d.params) d.plans n plan lawful.nodes_are at).1
