-- The table of senders is that of the cluster.
use Rattle.std.proofs.Common.{◌≡◌, ℕ, zero, suc, ◌+◌, ◌-◌, ◌<◌, ◌≤◌, ◌==◌, Bool, true, false, not, cond, ◌&&◌, ◌||◌}
use Rattle.std.proofs.Common.{List, [], ◌∷◌, ◌++◌, length, get_or, map, replicate, Option, Some, None, refl, sym, ap}
use Rattle.std.proofs.Common.{subst, ◌∙◌, inl, inr, arith}
use Rattle.std.proofs.lemmas.Bool.{cases_Bool, eqb-true, cond-true, cond-false, and_from, and_parts, or_cases, or_left}
use Rattle.std.proofs.lemmas.Bool.{or_right, both_ways, le-leb}
use Rattle.std.proofs.lemmas.List.{map-append, get_or-replicate, length-replicate, get_or_default}
use Rattle.std.specs.Prelude.{IfNone, nat_le}
use Rattle.std.specs.List.{list_any, flat_map, filter, slice_get}
use Rattle.fr_slots.specs.declared.channel.Channel.{Channel}
use Rattle.fr_slots.specs.declared.channel.Channel.TheVariants.{A, B}
use Rattle.fr_slots.specs.declared.filter.Filter.{Filter}
use Rattle.fr_slots.specs.declared.plan.Own.{Own}
use Rattle.fr_slots.specs.declared.plan.Buffer.{Buffer}
use Rattle.fr_slots.specs.declared.sharing.Occasion.{Occasion}
use Rattle.fr_slots.specs.Admission.{includes, cycle_admitted}
use Rattle.fr_slots.specs.Faults.{claims, is_owned, is_overlap, transmits, sends_at}
use Rattle.fr_slots.specs.Faults.{transmits_static, FitsStatic, IsFaultless}
use Rattle.fr_slots.specs.Numbers.{IsSlot, number_within}
use Rattle.fr_slots.specs.Parameters.{Parameters, is_static_slot}
use Rattle.fr_slots.specs.Plans.{Plan, filter_admits}
use Rattle.fr_slots.specs.Sharing.{place_of, earlier, IsFirst, is_shared, admits_at, own_filter, own_filters}
use Rattle.fr_slots.specs.Sharing.{buffer_filter, transmit_filters}
use Rattle.fr_slots.proofs.FaultlessLemmas.{faultless}
use Rattle.fr_slots.proofs.ScanLemmas.{overlap-shared}
use Rattle.fr_slots.proofs.SharingLemmas.{IsFirst-earlier}
use Rattle.fr_schedule.proofs.ClusterLemmas.{each_at}
use Rattle.fr_schedule.proofs.DenseLemmas.{after_taken}
use Rattle.fr_schedule.proofs.TwoLemmas.{any_at}
use Rattle.fr_schedule.specs.declared.claims.Claim.{Claim}
use Rattle.fr_schedule.specs.declared.claims.Lines.TheVariants.{Owned, Transmitting}
use Rattle.fr_schedule.specs.Claims.{filter_of, filters_of, filters_by, claim_of, claims_from}
use Rattle.fr_schedule.specs.Clusters.{IsNode, IsCluster}
use Rattle.fr_schedule.specs.DenseTable.{nobody, at_place, node_at, is_taken, IsFree, after_claims, free, HasClaims}
use Rattle.fr_schedule.specs.DenseTable.{IsDenseTable}
use Rattle.fr_schedule.specs.Descriptions.{Description}
use Rattle.fr_schedule.specs.FileFaults.{all_owned, all_buffers}
use Rattle.fr_schedule.specs.SenderTable.{IsSender}

-- ---- the filters of all claims

map_claims : (node : ℕ) (fs : List Filter) → filters_of (map (claim_of node) fs) ≡ fs
map_claims node [] = refl
map_claims node (f ∷ fs) = ap (λ (more : List Filter). f ∷ more) (map_claims node fs)

filters_from : (filters : Plan → List Filter) (n : ℕ) (plans : List Plan)
    → filters_of (claims_from filters n plans) ≡ flat_map filters plans
filters_from filters n [] = refl
filters_from filters n (plan ∷ plans) =
    map-append filter_of (map (claim_of n) (filters plan)) (claims_from filters (n + 1) plans)
    ∙ ap (λ (fs : List Filter). fs ++ filters_of (claims_from filters (n + 1) plans)) (map_claims n (filters plan))
    ∙ ap (λ (fs : List Filter). filters plan ++ fs) (filters_from filters (n + 1) plans)

own_filters_all : (plans : List Plan) → flat_map (filters_by Owned) plans ≡ own_filters (all_owned plans)
own_filters_all [] = refl
own_filters_all (plan ∷ plans) =
    ap (λ (fs : List Filter). own_filters plan.owned ++ fs) (own_filters_all plans)
    ∙ sym (map-append own_filter plan.owned (all_owned plans))

transmit-append : (bs cs : List Buffer) → transmit_filters (bs ++ cs) ≡ transmit_filters bs ++ transmit_filters cs
transmit-append [] cs = refl
transmit-append (b ∷ bs) cs = here (transmit-append bs cs) (transmits b)
  where
    here : transmit_filters (bs ++ cs) ≡ transmit_filters bs ++ transmit_filters cs → (t : Bool)
        → map buffer_filter (cond t (b ∷ filter transmits (bs ++ cs)) (filter transmits (bs ++ cs)))
        ≡ map buffer_filter (cond t (b ∷ filter transmits bs) (filter transmits bs)) ++ transmit_filters cs
    here more true = ap (λ (fs : List Filter). b.filter ∷ fs) more
    here more false = more

transmit_filters_all : (plans : List Plan) → flat_map (filters_by Transmitting) plans ≡ transmit_filters
    (all_buffers plans)
transmit_filters_all [] = refl
transmit_filters_all (plan ∷ plans) =
    ap (λ (fs : List Filter). transmit_filters plan.buffers ++ fs) (transmit_filters_all plans)
    ∙ sym (transmit-append plan.buffers (all_buffers plans))

-- the first occasion that lines or buffers share, of the first ones that claims share
pub first_overlapping : (plans : List Plan) (p q : Option Occasion)
    → IsFirst (is_shared (filters_of (claims_from (filters_by Owned) 0 plans))) p
    → IsFirst (is_shared (filters_of (claims_from (filters_by Transmitting) 0 plans))) q
    → IsFirst (is_overlap (all_owned plans) (all_buffers plans)) (earlier p q)
first_overlapping plans p q is_p is_q =
    IsFirst-earlier (is_shared (own_filters (all_owned plans))) (is_shared (transmit_filters (all_buffers plans)))
    (is_overlap (all_owned plans) (all_buffers plans)) p q (overlap-shared (all_owned plans) (all_buffers plans))
    (subst (λ (fs : List Filter). IsFirst (is_shared fs) p) (filters_from (filters_by Owned) 0 plans
    ∙ own_filters_all plans) is_p)
    (subst (λ (fs : List Filter). IsFirst (is_shared fs) q) (filters_from (filters_by Transmitting) 0 plans
    ∙ transmit_filters_all plans) is_q)

-- ---- the free table

in_table : (slot : ℕ) (channel : Channel) (cycle : ℕ) → cycle < 64 → IsSlot slot
    → place_of slot channel cycle - 128 < 262016
in_table slot A cycle in_cycles is = omega (arith, is.from_one, is.at_most)
in_table slot B cycle in_cycles is = omega (arith, is.from_one, is.at_most)

pub free_from : (nodes : List ℕ) → nodes ≡ replicate 262016 nobody → nodes ≡ free
unfolding free
free_from nodes is = is

pub free_size : length free ≡ 262016
unfolding free
free_size = length-replicate 262016 nobody

pub nobody_at : (slot : ℕ) (channel : Channel) (cycle : ℕ) → cycle < 64 → IsSlot slot
    → node_at free slot channel cycle ≡ nobody
unfolding free
nobody_at slot channel cycle in_cycles is =
    get_or-replicate 262016 (place_of slot channel cycle - 128) nobody nobody (in_table slot channel cycle in_cycles is)

pub free_is : IsFree free
free_is slot channel cycle in_cycles is = ap (λ (n : ℕ). not (n == nobody)) (nobody_at slot channel cycle in_cycles is)

-- ---- lines and filters

any_owned : (owned : List Own) (slot : ℕ) (channel : Channel) (cycle : ℕ)
    → list_any (admits_at slot channel cycle) (own_filters owned) ≡ is_owned owned slot channel cycle
any_owned [] slot channel cycle = refl
any_owned (own ∷ owned) slot channel cycle =
    ap (λ (b : Bool). claims slot channel cycle own || b) (any_owned owned slot channel cycle)

any_sent : (buffers : List Buffer) (slot : ℕ) (channel : Channel) (cycle : ℕ)
    → list_any (admits_at slot channel cycle) (transmit_filters buffers) ≡ list_any
    (sends_at slot channel cycle) buffers
any_sent [] slot channel cycle = refl
any_sent (b ∷ buffers) slot channel cycle =
    here (transmits b) (filter_admits b.filter cycle slot channel) refl ∙ ap
    (λ (r : Bool). sends_at slot channel cycle b || r) (any_sent buffers slot channel cycle)
  where
    here : (t a : Bool) → filter_admits b.filter cycle slot channel ≡ a
        → list_any (admits_at slot channel cycle) (map buffer_filter
        (cond t (b ∷ filter transmits buffers) (filter transmits buffers)))
        ≡ (t && a || list_any (admits_at slot channel cycle) (transmit_filters buffers))
    here true a is = ap (λ (r : Bool). r || list_any (admits_at slot channel cycle) (transmit_filters buffers)) is
    here false a is = refl

-- ---- the entries of the table

-- a node of this plan, numbered from n up, or the earlier entry
data Stands (filters : Plan → List Filter) (n : ℕ) (plans : List Plan) (before slot : ℕ) (channel : Channel)
    (cycle node : ℕ) : Type 0 where
  of_node : (m : ℕ) (plan : Plan) → slice_get plans m ≡ Some plan
      → list_any (admits_at slot channel cycle) (filters plan) ≡ true → node ≡ n + m
      → Stands filters n plans before slot channel cycle node
  of_before : node ≡ before → Stands filters n plans before slot channel cycle node

after-append : (xs ys : List Claim) (before slot : ℕ) (channel : Channel) (cycle : ℕ)
    → after_claims (xs ++ ys) before slot channel cycle ≡ after_claims ys
    (after_claims xs before slot channel cycle) slot channel cycle
after-append [] ys before slot channel cycle = refl
after-append (x ∷ xs) ys before slot channel cycle = after-append xs ys
    (cond (admits_at slot channel cycle x.filter) x.node before) slot channel cycle

-- the claims of one node
after_node : (node : ℕ) (fs : List Filter) (before slot : ℕ) (channel : Channel) (cycle : ℕ)
    → after_claims (map (claim_of node) fs) before slot channel cycle ≡ cond
    (list_any (admits_at slot channel cycle) fs) node before
after_node node [] before slot channel cycle = refl
after_node node (f ∷ fs) before slot channel cycle =
    after_node node fs (cond (admits_at slot channel cycle f) node before) slot channel cycle
    ∙ here (admits_at slot channel cycle f) (list_any (admits_at slot channel cycle) fs)
  where
    here : (a rest : Bool) → cond rest node (cond a node before) ≡ cond (a || rest) node before
    here true true = refl
    here true false = refl
    here false rest = refl

stands_more : (filters : Plan → List Filter) (n : ℕ) (plan : Plan) (plans : List Plan) (before slot : ℕ)
    (channel : Channel) (cycle node : ℕ)
    → Stands filters (n + 1) plans (cond (list_any (admits_at slot channel cycle) (filters plan)) n before) slot channel
    cycle node
    → Stands filters n (plan ∷ plans) before slot channel cycle node
stands_more filters n plan plans before slot channel cycle node (of_node m other at any is) =
    of_node (suc m) other at any (omega (arith, is))
stands_more filters n plan plans before slot channel cycle node (of_before is) =
    elim (cases_Bool (list_any (admits_at slot channel cycle) (filters plan))) [
      | inl any ↦ of_node 0 plan refl any (is ∙ cond-true _ n before any ∙ (let e : n ≡ n + 0 = omega arith in e))
      | inr none ↦ of_before (is ∙ cond-false _ n before none)
    ]

stands : (filters : Plan → List Filter) (n : ℕ) (plans : List Plan) (before slot : ℕ) (channel : Channel)
    (cycle node : ℕ)
    → node ≡ after_claims (claims_from filters n plans) before slot channel cycle
    → Stands filters n plans before slot channel cycle node
stands filters n [] before slot channel cycle node is = of_before is
stands filters n (plan ∷ plans) before slot channel cycle node is =
    stands_more filters n plan plans before slot channel cycle node
    (stands filters (n + 1) plans (cond (list_any (admits_at slot channel cycle) (filters plan)) n before) slot channel
    cycle node
    (is
    ∙ after-append (map (claim_of n) (filters plan)) (claims_from filters (n + 1) plans) before slot channel cycle
    ∙ ap (λ (b : ℕ). after_claims (claims_from filters (n + 1) plans) b slot channel cycle)
    (after_node n (filters plan) before slot channel cycle)))

-- ---- a node that is entered sends

-- an owned slot is static
static_if_owned : (p : Parameters) (plan : Plan) (slot : ℕ) (channel : Channel) (cycle : ℕ) → IsFaultless p plan
    → is_owned plan.owned slot channel cycle ≡ true → is_static_slot p slot ≡ true
static_if_owned p plan slot channel cycle h owned = of_lines plan.owned (λ k own at. h.owned_are_static k own at) owned
  where
    of_lines : (lines : List Own) → ((k : ℕ) (own : Own) → slice_get lines k ≡ Some own → own.slot ≤ p.static_slots)
        → is_owned lines slot channel cycle ≡ true → is_static_slot p slot ≡ true
    of_lines [] static any = cc any
    of_lines (own ∷ lines) static any =
        elim (or_cases (claims slot channel cycle own) (is_owned lines slot channel cycle) any) [
          | inl here ↦
              (let (front, in_cycle) = and_parts (own.slot == slot && includes own.channels channel)
              (cycle_admitted own.cycles cycle) here in
              let (same, includes_it) = and_parts (own.slot == slot) (includes own.channels channel) front in
              subst (λ (s : ℕ). is_static_slot p s ≡ true) (eqb-true own.slot slot same)
              (le-leb own.slot p.static_slots (static 0 own refl)))
          | inr later ↦ of_lines lines (λ k o at. static (suc k) o at) later
        ]

-- the node owns a static slot in each cycle in which a buffer of the node sends there
owned_if_sent : (p : Parameters) (plan : Plan) (slot : ℕ) (channel : Channel) (cycle : ℕ) → cycle < 64
    → IsFaultless p plan
    → is_static_slot p slot ≡ true → list_any (sends_at slot channel cycle) plan.buffers ≡ true
    → is_owned plan.owned slot channel cycle ≡ true
owned_if_sent p plan slot channel cycle few h static any = of_buffers plan.buffers (λ k b at is. h.static_fit k b at is)
    any
  where
    of_buffers : (buffers : List Buffer)
        → ((k : ℕ) (b : Buffer) → slice_get buffers k ≡ Some b → transmits_static p b ≡ true → FitsStatic p plan b)
        → list_any (sends_at slot channel cycle) buffers ≡ true → is_owned plan.owned slot channel cycle ≡ true
    of_buffers [] fits any = cc any
    of_buffers (b ∷ buffers) fits any =
        elim (or_cases (sends_at slot channel cycle b) (list_any (sends_at slot channel cycle) buffers) any) [
          | inl here ↦
              (let (sends, admits) = and_parts (transmits b) (filter_admits b.filter cycle slot channel) here in
              let (front, in_cycle) = and_parts (b.filter.slot == slot && includes b.filter.channels channel)
              (cycle_admitted b.filter.cycles cycle) admits in
              let (same, includes_it) = and_parts (b.filter.slot == slot) (includes b.filter.channels channel) front in
              let slot_is = eqb-true b.filter.slot slot same in
              let is_static : transmits_static p b ≡ true =
              ap (λ (t : Bool). t && is_static_slot p b.filter.slot) sends ∙ ap (is_static_slot p) slot_is ∙ static in
              subst (λ (s : ℕ). is_owned plan.owned s channel cycle ≡ true) slot_is
              ((fits 0 b refl is_static).owned channel cycle few includes_it in_cycle))
          | inr later ↦ of_buffers buffers (λ k o at is. fits (suc k) o at is) later
        ]

owner_sends : (d : Description) → IsCluster d → (slot : ℕ) (channel : Channel) (cycle m : ℕ) (plan : Plan)
    → slice_get d.plans m ≡ Some plan
    → is_owned plan.owned slot channel cycle ≡ true → IsSender d cycle slot channel m
owner_sends d lawful slot channel cycle m plan at owned =
    let of_node = each_at (IsNode d.params) d.plans m plan lawful.nodes_are at in
    let static = static_if_owned d.params plan slot channel cycle (faultless d.params plan of_node.1) owned in
    record {
      plan = plan;
      at = at;
      sends = cond-true (is_static_slot d.params slot)
          (is_owned plan.owned slot channel cycle) _ static ∙ owned;
    }

buffer_sends : (d : Description) → IsCluster d → (slot : ℕ) (channel : Channel) (cycle m : ℕ) (plan : Plan) → cycle < 64
    → slice_get d.plans m ≡ Some plan → list_any (sends_at slot channel cycle) plan.buffers ≡ true
    → IsSender d cycle slot channel m
buffer_sends d lawful slot channel cycle m plan few at any =
    elim (cases_Bool (is_static_slot d.params slot)) [
      | inl static ↦
          (let of_node = each_at (IsNode d.params) d.plans m plan lawful.nodes_are at in
          owner_sends d lawful slot channel cycle m plan at (owned_if_sent d.params plan slot channel cycle few
          (faultless d.params plan of_node.1) static any))
      | inr dynamic ↦
          record {
            plan = plan;
            at = at;
            sends = cond-false (is_static_slot d.params slot) _
                (list_any (sends_at slot channel cycle) plan.buffers) dynamic ∙ any;
          }
    ]

from_zero : (m : ℕ) → 0 + m ≡ m
from_zero m = omega arith

sender_stands : (d : Description) → IsCluster d → (nodes : List ℕ) → HasClaims d.plans nodes
    → (slot : ℕ) (channel : Channel) (cycle : ℕ)
    → cycle < 64 → IsSlot slot → is_taken nodes slot channel cycle ≡ true
    → IsSender d cycle slot channel (node_at nodes slot channel cycle)
sender_stands d lawful nodes h slot channel cycle in_cycles is taken =
    by_owner (stands (filters_by Owned) 0 d.plans (node_at h.sending slot channel cycle) slot channel cycle
    (node_at nodes slot channel cycle)
    (h.owned_are.each slot channel cycle in_cycles is))
  where
    by_buffer : (node : ℕ) → not (node == nobody) ≡ true → Stands (filters_by Transmitting) 0 d.plans
        (node_at free slot channel cycle) slot channel cycle node
        → IsSender d cycle slot channel node
    by_buffer node some (of_node m plan at any node_is) =
        subst (IsSender d cycle slot channel) (sym (node_is ∙ from_zero m))
        (buffer_sends d lawful slot channel cycle m plan in_cycles at
        (sym (any_sent plan.buffers slot channel cycle) ∙ any))
    by_buffer node some (of_before node_is) =
        absurd (both_ways (not (node == nobody)) (ap (λ (n : ℕ). not (n == nobody))
        (node_is ∙ nobody_at slot channel cycle in_cycles is)) some)

    by_owner : Stands (filters_by Owned) 0 d.plans (node_at h.sending slot channel cycle) slot channel cycle
        (node_at nodes slot channel cycle)
        → IsSender d cycle slot channel (node_at nodes slot channel cycle)
    by_owner (of_node m plan at any node_is) =
        subst (IsSender d cycle slot channel) (sym (node_is ∙ from_zero m))
        (owner_sends d lawful slot channel cycle m plan at (sym (any_owned plan.owned slot channel cycle) ∙ any))
    by_owner (of_before node_is) =
        by_buffer (node_at nodes slot channel cycle) taken
        (stands (filters_by Transmitting) 0 d.plans (node_at free slot channel cycle) slot channel cycle
        (node_at nodes slot channel cycle)
        (node_is ∙ h.buffers_are.each slot channel cycle in_cycles is))

-- ---- a node that sends is entered

some_claim : (filters : Plan → List Filter) (plans : List Plan) (m : ℕ) (plan : Plan) (slot : ℕ) (channel : Channel)
    (cycle : ℕ) → slice_get plans m ≡ Some plan
    → list_any (admits_at slot channel cycle) (filters plan) ≡ true
    → list_any (admits_at slot channel cycle) (filters_of (claims_from filters 0 plans)) ≡ true
some_claim filters plans m plan slot channel cycle at any =
    ap (list_any (admits_at slot channel cycle)) (filters_from filters 0 plans) ∙ any_at
    (admits_at slot channel cycle) filters plans m plan at any

taken_if_sender : (d : Description) (nodes : List ℕ) → HasClaims d.plans nodes
    → (slot : ℕ) (channel : Channel) (cycle m : ℕ) → cycle < 64 → IsSlot slot
    → IsSender d cycle slot channel m → is_taken nodes slot channel cycle ≡ true
taken_if_sender d nodes h slot channel cycle m in_cycles is sender =
    ap (λ (n : ℕ). not (n == nobody)) (h.owned_are.each slot channel cycle in_cycles is)
    ∙ after_taken (claims_from (filters_by Owned) 0 d.plans)
    (node_at h.sending slot channel cycle) slot channel cycle h.owned_lawful
    ∙ elim (cases_Bool (is_static_slot d.params slot)) [
      | inl static ↦
          or_left _ _
          (some_claim (filters_by Owned) d.plans m sender.plan slot channel cycle sender.at
          (any_owned sender.plan.owned slot channel cycle
          ∙ sym (cond-true (is_static_slot d.params slot) (is_owned sender.plan.owned slot channel cycle)
          (list_any (sends_at slot channel cycle) sender.plan.buffers) static) ∙ sender.sends))
      | inr dynamic ↦
          or_right _ _
          (ap (λ (n : ℕ). not (n == nobody)) (h.buffers_are.each slot channel cycle in_cycles is)
          ∙ after_taken (claims_from (filters_by Transmitting) 0 d.plans)
          (node_at free slot channel cycle) slot channel cycle h.sending_lawful
          ∙ or_left _ _
          (some_claim (filters_by Transmitting) d.plans m sender.plan slot channel cycle sender.at
          (any_sent sender.plan.buffers slot channel cycle
          ∙ sym (cond-false (is_static_slot d.params slot) (is_owned sender.plan.owned slot channel cycle)
          (list_any (sends_at slot channel cycle) sender.plan.buffers) dynamic) ∙ sender.sends)))
    ]

pub dense_table : (d : Description) (nodes : List ℕ) → IsCluster d → HasClaims d.plans nodes → IsDenseTable d nodes
dense_table d nodes lawful h = record {
  size = h.owned_are.size ∙ h.buffers_are.size ∙ free_size;
  senders = λ slot channel cycle in_cycles is taken. sender_stands d lawful nodes h slot channel cycle in_cycles is
      taken;
  all = λ slot channel cycle node in_cycles is sender. taken_if_sender d nodes h slot channel cycle node in_cycles is
      sender;
}

-- ---- reading the table

within_plans : {X : Type 0} (xs : List X) (n : ℕ) (x : X) → slice_get xs n ≡ Some x → n < length xs
within_plans [] n x at = cc at
within_plans (y ∷ xs) zero x at = omega arith
within_plans (y ∷ xs) (suc n) x at = let less = within_plans xs n x at in omega (arith, less)

pub read_nobody : (d : Description) (nodes : List ℕ) → IsCluster d → IsDenseTable d nodes
    → (slot : ℕ) (channel : Channel) (cycle place : ℕ) → cycle < 64 → IsSlot slot
    → place + 128 ≡ place_of slot channel cycle → place < 262016 → (n : ℕ) → n ≡ get_or nodes place n → (o : Option ℕ)
    → o ≡ number_within 0 15 n
    → IfNone o ((m : ℕ) → IsSender d cycle slot channel m → ⊥)
read_nobody d nodes lawful h slot channel cycle place in_cycles is at within n read (Some m) told = tt
read_nobody d nodes lawful h slot channel cycle place in_cycles is at within n read None told =
    λ m sender.
    (let here : place_of slot channel cycle - 128 ≡ place = omega (arith, at) in
    let node_is : node_at nodes slot channel cycle ≡ n =
    ap (at_place nodes) here ∙ get_or_default nodes place nobody n (subst (λ k. place < k) (sym h.size) within)
    ∙ sym read in
    let stands = h.senders slot channel cycle in_cycles is (h.all slot channel cycle m in_cycles is sender) in
    let below = within_plans d.plans (node_at nodes slot channel cycle) stands.plan stands.at in
    let few : n ≤ 15 = omega (arith, below, node_is, lawful.few_nodes) in
    cc (told ∙ cond-true (nat_le 0 n && nat_le n 15) (Some n) None
    (and_from _ _ (le-leb 0 n (omega arith)) (le-leb n 15 few))))
