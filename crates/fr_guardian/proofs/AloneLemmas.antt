-- In a static slot on a guarded channel the transmissions of at most one node pass.
use Rattle.std.proofs.Common.{◌≡◌, ℕ, zero, suc, ◌%◌, true, false, Bool, not, cond, ◌&&◌, ◌||◌, List, [], ◌∷◌, Option}
use Rattle.std.proofs.Common.{Some, None, refl, sym, ap, subst, ◌∙◌, slice_get, arith}
use Rattle.std.specs.List.{list_any}
use Rattle.std.proofs.lemmas.List.Folds.{Any-from_list_any}
use Rattle.std.proofs.lemmas.Option.{slice_get-get_or}
use Rattle.std.proofs.lemmas.Bool.Decides.{nat_tests}
use Rattle.std.proofs.lemmas.Nat.{mod_below}
use Rattle.fr_slots.specs.declared.channel.Channel.{Channel}
use Rattle.fr_slots.specs.declared.plan.Own.{Own}
use Rattle.fr_slots.specs.Faults.{sends_at, claims, is_owned, IsFaultless}
use Rattle.fr_slots.specs.Parameters.{Parameters, is_static_slot}
use Rattle.fr_slots.specs.Plans.{Plan, Each}
use Rattle.fr_slots.specs.Windows.{Opportunity, slot_of, is_static}
use Rattle.fr_slots.proofs.FaultlessLemmas.{faultless}
use Rattle.fr_schedule.specs.Clusters.{IsNode, IsCluster}
use Rattle.fr_schedule.specs.Descriptions.{Description, is_guarded}
use Rattle.fr_schedule.specs.SenderTable.{IsSender}
use Rattle.fr_guardian.specs.Guarding.{passes_in, passes, PassesAlone}
use Rattle.fr_guardian.proofs.PeriodLemmas.{owned_again, within_64}

pub each_at : {X : Type 0} (P : X → Type 0) (xs : List X) (k : ℕ) (x : X) → Each P xs → slice_get xs k ≡ Some x → P x
each_at P [] k x each is = absurd (cc)
each_at P (y ∷ ys) zero x each is = subst P (cc) each.0
each_at P (y ∷ ys) (suc k) x each is = each_at P ys k x each.1 is

-- an owned slot is static
pub static_if_owned : (p : Parameters) (plan : Plan) (slot : ℕ) (channel : Channel) (cycle : ℕ) → IsFaultless p plan
    → is_owned plan.owned slot channel cycle ≡ true → is_static_slot p slot ≡ true
static_if_owned p plan slot channel cycle h owned =
    let (k, own, below, is, claimed) = Any-from_list_any (claims slot channel cycle) plan.owned owned in
    let fits = h.owned_are_static k own (slice_get-get_or plan.owned k own below ∙ ap (λ (o : Own). Some o) is) in
    grind (arith, nat_tests)

-- the plan of a node whose transmission passes in a guarded static slot, and that slot
record IsPassing (d : Description) (w : Opportunity) (channel : Channel) (found : Option Plan)
    (opened : Option ℕ) : Type 0 where
  plan : Plan
  slot : ℕ
  found_is : found ≡ Some plan
  slot_is : opened ≡ Some slot
  owned : is_owned plan.owned slot channel w.cycle ≡ true

passing : (d : Description) (w : Opportunity) (channel : Channel) (found : Option Plan) (opened : Option ℕ)
    → is_static w ≡ true → is_guarded d.guard channel ≡ true
    → passes_in d w channel found opened ≡ true → IsPassing d w channel found opened
passing d w channel None opened static guarded h = absurd (cc)
passing d w channel (Some plan) None static guarded h = absurd (cc)
passing d w channel (Some plan) (Some slot) static guarded h =
    let watched : (is_static w && is_guarded d.guard channel) ≡ true =
    ap (λ (b : Bool). b && is_guarded d.guard channel) static ∙ guarded in
    record {
      plan = plan;
      slot = slot;
      found_is = refl;
      slot_is = refl;
      owned =
          sym (ap (λ (b : Bool). not b || is_owned plan.owned slot channel w.cycle) watched) ∙ h;
    }

-- an owner of a slot in a cycle is its sender in that cycle
sender_if_owner : (d : Description) → IsCluster d → (cycle node : ℕ) (channel : Channel) (plan : Plan) (slot : ℕ)
    → slice_get d.plans node ≡ Some plan
    → is_owned plan.owned slot channel cycle ≡ true → IsSender d cycle slot channel node
sender_if_owner d lawful cycle node channel plan slot is owned =
    let of_node = each_at (IsNode d.params) d.plans node plan lawful.nodes_are is in
    let static = static_if_owned d.params plan slot channel cycle (faultless d.params plan of_node.1) owned in
    record {
      plan = plan;
      at = is;
      sends = ap (λ (b : Bool). cond b (is_owned plan.owned slot channel cycle)
          (list_any (sends_at slot channel cycle) plan.buffers)) static ∙ owned;
    }

-- the owner in a cycle of any number owns the slot in the cycle below 64 with the same lines
owned_below : (d : Description) → IsCluster d → (node : ℕ) (plan : Plan) (slot : ℕ) (channel : Channel) (cycle : ℕ)
    → slice_get d.plans node ≡ Some plan
    → is_owned plan.owned slot channel cycle ≡ true → is_owned plan.owned slot channel (cycle % 64) ≡ true
owned_below d lawful node plan slot channel cycle is owned =
    let lines = (each_at (IsNode d.params) d.plans node plan lawful.nodes_are is).0.owned_are in
    owned_again 64 refl plan.owned lines (within_64 plan.owned lines) slot channel cycle ∙ owned

pub passes_alone : (d : Description) → IsCluster d → (node : ℕ) (w : Opportunity) (channel : Channel)
    → passes d node w channel ≡ true → PassesAlone d node w channel
passes_alone d lawful node w channel h static guarded other k =
    let here = passing d w channel (slice_get d.plans node) (slot_of w channel) static guarded h in
    let there = passing d w channel (slice_get d.plans other) (slot_of w channel) static guarded k in
    let same : there.slot ≡ here.slot = (let a = here.slot_is in let b = there.slot_is in cc) in
    let cycle = w.cycle % 64 in
    lawful.one_sender cycle here.slot channel other node (mod_below w.cycle 64 (omega arith))
    (subst (λ (slot : ℕ). IsSender d cycle slot channel other) same
    (sender_if_owner d lawful cycle other channel there.plan there.slot there.found_is
    (owned_below d lawful other there.plan there.slot channel w.cycle there.found_is there.owned)))
    (sender_if_owner d lawful cycle node channel here.plan here.slot here.found_is
    (owned_below d lawful node here.plan here.slot channel w.cycle here.found_is here.owned))

-- a node whose transmission passes in a guarded static slot is the slot's sender in the window's cycle
pub passing_sends : (d : Description) → IsCluster d → (node slot : ℕ) (w : Opportunity) (channel : Channel)
    → is_static w ≡ true → is_guarded d.guard channel ≡ true
    → slot_of w channel ≡ Some slot → passes d node w channel ≡ true → IsSender d w.cycle slot channel node
passing_sends d lawful node slot w channel static guarded opened h =
    let here = passing d w channel (slice_get d.plans node) (slot_of w channel) static guarded h in
    let same : here.slot ≡ slot = (let a = here.slot_is in cc) in
    subst (λ (n : ℕ). IsSender d w.cycle n channel node) same
    (sender_if_owner d lawful w.cycle node channel here.plan here.slot here.found_is here.owned)

or_true : (b : Bool) → (b || true) ≡ true
or_true true = refl
or_true false = refl

-- the transmission of an owner in the window's cycle passes
pub owner_passes : (d : Description) (node : ℕ) (w : Opportunity) (channel : Channel) (plan : Plan) (slot : ℕ)
    → slice_get d.plans node ≡ Some plan → slot_of w channel ≡ Some slot
    → is_owned plan.owned slot channel w.cycle ≡ true → passes d node w channel ≡ true
owner_passes d node w channel plan slot is opened owned =
    let watched = is_static w && is_guarded d.guard channel in
    ap (λ (found : Option Plan). passes_in d w channel found (slot_of w channel)) is
    ∙ ap (λ (o : Option ℕ). passes_in d w channel (Some plan) o) opened
    ∙ ap (λ (b : Bool). not watched || b) owned
    ∙ or_true (not watched)
