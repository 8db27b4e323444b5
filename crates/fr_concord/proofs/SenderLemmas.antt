-- Each transmit buffer has a link for each slot, channel and cycle in which it sends. What stores its frames is among
-- the receivers of these links.
use Rattle.std.proofs.Common.{◌≡◌, ℕ, zero, suc, ◌+◌, ◌<◌, ◌≤◌, ◌==◌, Bool, true, false, not, ◌&&◌, List, [], ◌∷◌, ◌++◌}
use Rattle.std.proofs.Common.{Option, Some, refl, sym, ap, subst, ◌∙◌, inl, inr, arith}
use Rattle.std.proofs.lemmas.Bool.{and_from, and_parts, both_ways, cases_Bool, cases_lt, cond-true, eq-eqb, eqb-true}
use Rattle.std.proofs.lemmas.Bool.{leb-true, or_cases}
use Rattle.std.proofs.lemmas.List.Elements.{Contains-append_left, Contains-append_right}
use Rattle.std.proofs.lemmas.Option.{get_or_from_slice_get, slice_get_read, slice_get_within}
use Rattle.std.specs.List.{flat_map, range_with_len}
use Rattle.std.specs.Prelude.{Contains, if◌then◌else◌, nat_lt, slice_get}
use Rattle.fr_capture.specs.Takers.{takers_of}
use Rattle.fr_concord.proofs.LinkedLemmas.{among, nothing, single, takers_linked}
use Rattle.fr_concord.specs.Linked.{AreFramesLinked, AreSendersLinked, IsLinkOf}
use Rattle.fr_guardian.proofs.PeriodLemmas.{at_most_64}
use Rattle.fr_links.proofs.CycleLemmas.{none_common}
use Rattle.fr_links.specs.Cycles.{rarer, rarer_if, shared}
use Rattle.fr_links.specs.declared.links.Link.{Link}
use Rattle.fr_links.specs.declared.links.Owner.{Owner}
use Rattle.fr_links.specs.Links.{base_links, begun_links, buffer_links, channel_links, dynamic_link, dynamic_links}
use Rattle.fr_links.specs.Links.{filled_links, fills, link_if, link_of, links, node_links, node_owners, null_link}
use Rattle.fr_links.specs.Links.{numbered, or_null, owner_if, owner_links, owners, plan_links, slot_links, static_links}
use Rattle.fr_schedule.proofs.ClusterLemmas.{each_at}
use Rattle.fr_schedule.specs.Clusters.{IsCluster, IsNode}
use Rattle.fr_schedule.specs.Descriptions.{Description}
use Rattle.fr_slots.proofs.FaultLemmas.{option_cases}
use Rattle.fr_slots.proofs.FaultlessLemmas.{faultless}
use Rattle.fr_slots.specs.Admission.{CycleClass, cycle_admitted, includes}
use Rattle.fr_slots.specs.declared.channel.Channel.{Channel}
use Rattle.fr_slots.specs.declared.channel.Channel.TheVariants.{A, B}
use Rattle.fr_slots.specs.declared.plan.Buffer.{Buffer}
use Rattle.fr_slots.specs.declared.plan.Own.{Own}
use Rattle.fr_slots.specs.Faults.{claims, first_common, is_owned, transmits, transmits_dynamic, transmits_static}
use Rattle.fr_slots.specs.Numbers.{cycle_count}
use Rattle.fr_slots.specs.Parameters.{is_static_slot}
use Rattle.fr_slots.specs.Plans.{IsBuffer, IsOwn, Plan, filter_admits}
use Rattle.fr_slots.specs.Windows.{slot_of}

-- ---- lists

at_contains : {X : Type 0} (xs : List X) (k : ℕ) (x : X) → slice_get xs k ≡ Some x → Contains xs x
at_contains xs k x at = (k, slice_get_within xs k x at, get_or_from_slice_get xs k x x at)

flat_at : {X Y : Type 0} (f : X → List Y) (xs : List X) (k : ℕ) (x : X) (y : Y) → slice_get xs k ≡ Some x
    → Contains (f x) y → Contains (flat_map f xs) y
flat_at f [] k x y at is = cc at
flat_at f (z ∷ xs) zero x y at is =
    let same : z ≡ x = cc at in
    Contains-append_left (f z) (flat_map f xs) y (subst (λ v. Contains (f v) y) (sym same) is)
flat_at f (z ∷ xs) (suc k) x y at is = Contains-append_right (f z) (flat_map f xs) y (flat_at f xs k x y at is)

flat : {X Y : Type 0} (f : X → List Y) (xs : List X) (x : X) (y : Y) → Contains xs x → Contains (f x) y
    → Contains (flat_map f xs) y
flat f xs x y (k, below, is) here = flat_at f xs k x y (slice_get_read xs _ k x refl below (sym is)) here

in_range : {Y : Type 0} (f : ℕ → List Y) (first count n : ℕ) (y : Y) → first ≤ n → n < first + count
    → Contains (f n) y → Contains (flat_map f (range_with_len first count)) y
in_range f first zero n y low high is = absurd (omega (arith, low, high))
in_range f first (suc count) n y low high is =
    elim (cases_lt first n) [
      | inl less ↦
          Contains-append_right (f first) (flat_map f (range_with_len (first + 1) count)) y
          (in_range f (first + 1) count n y (omega (arith, less)) (omega (arith, high)) is)
      | inr most ↦
          (let same : n ≡ first = omega (arith, low, most) in
          Contains-append_left (f first) (flat_map f (range_with_len (first + 1) count)) y
          (subst (λ (m : ℕ). Contains (f m) y) same is))
    ]

on_channel : {Y : Type 0} (f : Channel → List Y) (channel : Channel) (y : Y) → Contains (f channel) y
    → Contains (f A ++ f B) y
on_channel f A y is = Contains-append_left (f A) (f B) y is
on_channel f B y is = Contains-append_right (f A) (f B) y is

chosen : {X : Type 0} (test : Bool) (xs : List X) (x : X) → test ≡ true → Contains xs x
    → Contains (if test then xs else []) x
chosen test xs x passes is = subst (λ ys. Contains ys x) (sym (cond-true test xs [] passes)) is

from_zero : {X Y : Type 0} (f : ℕ → X → List Y) (place : ℕ) (xs : List X) (x : X) (y : Y)
    → slice_get xs place ≡ Some x → Contains (f place x) y → Contains (numbered f 0 xs) y
from_zero f place xs x y at is =
    let here : place ≡ 0 + place = omega arith in
    among f 0 place xs x y at (subst (λ (n : ℕ). Contains (f n x) y) here is)

-- ---- cycles in common

rarer_admits : (is_rarer : Bool) (c d : CycleClass) (cycle : ℕ) → cycle_admitted c cycle ≡ true
    → cycle_admitted d cycle ≡ true → cycle_admitted (if is_rarer then d else c) cycle ≡ true
rarer_admits true c d cycle in_c in_d = in_d
rarer_admits false c d cycle in_c in_d = in_c

record HasShared (c d : CycleClass) (cycle : ℕ) : Type 0 where
  both : CycleClass
  shared_is : shared c d ≡ Some both
  admitted : cycle_admitted both cycle ≡ true

has_shared : (c d : CycleClass) (cycle : ℕ) → cycle < cycle_count → cycle_admitted c cycle ≡ true
    → cycle_admitted d cycle ≡ true → HasShared c d cycle
has_shared c d cycle fits in_c in_d =
    elim (option_cases (first_common c d)) [
      | inl none ↦
          absurd (both_ways (cycle_admitted c cycle && cycle_admitted d cycle) (none_common c d none cycle fits)
          (and_from (cycle_admitted c cycle) (cycle_admitted d cycle) in_c in_d))
      | inr some ↦ record {
        both = rarer c d;
        shared_is = ap (rarer_if c d) some.1;
        admitted = rarer_admits (nat_lt c.repetition d.repetition) c d cycle in_c in_d;
      }
    ]

-- ---- an ownership line

record HasOwner (owned : List Own) (slot : ℕ) (channel : Channel) (cycle : ℕ) : Type 0 where
  place : ℕ
  own : Own
  at : slice_get owned place ≡ Some own
  claims_it : claims slot channel cycle own ≡ true

has_owner : (owned : List Own) (slot : ℕ) (channel : Channel) (cycle : ℕ) → is_owned owned slot channel cycle ≡ true
    → HasOwner owned slot channel cycle
has_owner [] slot channel cycle is = absurd (let none : ⊥ = cc is in none)
has_owner (own ∷ owned) slot channel cycle is =
    elim (or_cases (claims slot channel cycle own) (is_owned owned slot channel cycle) is) [
      | inl here ↦ record { place = 0; own = own; at = refl; claims_it = here }
      | inr later ↦
          (let found = has_owner owned slot channel cycle later in
          record { place = suc found.place; own = found.own; at = found.at; claims_it = found.claims_it })
    ]

-- ---- a transmit buffer

kept : (null link : Link) (found : List Link) → Contains found link → Contains (or_null null found) link
kept null link [] is = absurd (nothing link is)
kept null link (first ∷ found) is = is

record Sends (b : Buffer) (channel : Channel) (cycle : ℕ) : Type 0 where
  transmits_it : transmits b ≡ true
  includes_it : includes b.filter.channels channel ≡ true
  admitted : cycle_admitted b.filter.cycles cycle ≡ true

module _ (d : Description) (lawful : IsCluster d) (node number : ℕ) (plan : Plan) (b : Buffer) (channel : Channel)
    (cycle : ℕ) (at_plan : slice_get d.plans node ≡ Some plan) (at_buffer : slice_get plan.buffers number ≡ Some b)
    (fits : cycle < cycle_count) (sends : Sends b channel cycle) where
  abbrev slot : ℕ
  slot = b.filter.slot

  abbrev Linked : Type 0
  Linked = (l : Link) × Contains (links d) l × IsLinkOf node number slot channel cycle l

  of_cycles : (cycles : CycleClass) → cycle_admitted cycles cycle ≡ true
      → IsLinkOf node number slot channel cycle (link_of d.params channel node number b cycles)
  of_cycles cycles admitted =
      record { node_is = refl; buffer_is = refl; slot_is = refl; channel_is = refl; admitted = admitted }

  -- ---- in a dynamic slot

  dynamic_linked : transmits_dynamic d.params b ≡ true → Linked
  unfolding links
  dynamic_linked dynamic =
      let link = link_of d.params channel node number b b.filter.cycles in
      let here : Contains (dynamic_link d.params node number b channel) link =
      chosen (transmits_dynamic d.params b && includes b.filter.channels channel) (link ∷ []) link
      (and_from (transmits_dynamic d.params b) (includes b.filter.channels channel) dynamic sends.includes_it)
      (single link) in
      let of_buffer : Contains (buffer_links d.params node number b) link =
      on_channel (dynamic_link d.params node number b) channel link here in
      let of_node : Contains (node_links d.params node plan) link =
      from_zero (buffer_links d.params node) number plan.buffers b link at_buffer of_buffer in (
        link,
        Contains-append_right (static_links d) (dynamic_links d) link
            (from_zero (node_links d.params) node d.plans plan link at_plan of_node),
        of_cycles b.filter.cycles sends.admitted,
      )

  -- ---- in a static slot

  module _ (static : is_static_slot d.params slot ≡ true) where
    of_node : IsNode d.params plan
    of_node = each_at (IsNode d.params) d.plans node plan lawful.nodes_are at_plan

    is_static : transmits_static d.params b ≡ true
    is_static = and_from (transmits b) (is_static_slot d.params slot) sends.transmits_it static

    owner : HasOwner plan.owned slot channel cycle
    owner = has_owner plan.owned slot channel cycle
        (((faultless d.params plan of_node.1).static_fit number b at_buffer is_static).owned channel cycle fits
        sends.includes_it sends.admitted)

    parts : ((owner.own.slot == slot && includes owner.own.channels channel) ≡ true)
        × (cycle_admitted owner.own.cycles cycle ≡ true)
    parts = and_parts (owner.own.slot == slot && includes owner.own.channels channel)
        (cycle_admitted owner.own.cycles cycle) owner.claims_it

    common : HasShared owner.own.cycles b.filter.cycles cycle
    common = has_shared owner.own.cycles b.filter.cycles cycle fits parts.1 sends.admitted

    abbrev line : Owner
    line = record { node = node; cycles = owner.own.cycles }

    abbrev link : Link
    link = link_of d.params channel node number b common.both

    among_owners : Contains (owners d.plans slot channel) line
    among_owners =
        from_zero (node_owners slot channel) node d.plans plan line at_plan
        (flat_at (owner_if slot channel node) plan.owned owner.place owner.own line owner.at
        (chosen (owner.own.slot == slot && includes owner.own.channels channel) (line ∷ []) line parts.0 (single line)))

    fills_it : fills slot channel b ≡ true
    fills_it =
        and_from (transmits b) (b.filter.slot == slot && includes b.filter.channels channel) sends.transmits_it
        (and_from (b.filter.slot == slot) (includes b.filter.channels channel) (eq-eqb slot slot refl)
        sends.includes_it)

    of_buffer : Contains (filled_links d.params slot channel line number b) link
    of_buffer =
        chosen (fills slot channel b) (link_if d.params channel node number b (shared line.cycles b.filter.cycles)) link
        fills_it
        (subst (λ (both : Option CycleClass). Contains (link_if d.params channel node number b both) link)
        (sym common.shared_is) (single link))

    of_plan : Contains (plan_links d.params slot channel line plan.buffers) link
    of_plan =
        kept (null_link d.params slot channel line) link
        (numbered (filled_links d.params slot channel line) 0 plan.buffers)
        (from_zero (filled_links d.params slot channel line) number plan.buffers b link at_buffer of_buffer)

    begun : Contains (begun_links d slot channel owner.own.cycles.base line) link
    begun =
        chosen (line.cycles.base == owner.own.cycles.base)
        (owner_links d.params slot channel line (slice_get d.plans node)) link
        (eq-eqb owner.own.cycles.base owner.own.cycles.base refl)
        (subst (λ (found : Option Plan). Contains (owner_links d.params slot channel line found) link) (sym at_plan)
        of_plan)

    base_fits : owner.own.cycles.base < 64
    base_fits =
        let own_is = each_at IsOwn plan.owned owner.place owner.own of_node.0.owned_are owner.at in
        let most = at_most_64 owner.own.cycles.repetition own_is.cycles_are.repetition_is in
        omega (arith, most, own_is.cycles_are.base_below)

    on_the_channel : Contains (channel_links d slot channel) link
    on_the_channel =
        in_range (base_links d slot channel) 0 64 owner.own.cycles.base link (omega arith) (omega (arith, base_fits))
        (flat (begun_links d slot channel owner.own.cycles.base) (owners d.plans slot channel) line link among_owners
        begun)

    static_linked : Linked
    unfolding links
    static_linked =
        let buffer_is = each_at IsBuffer plan.buffers number b of_node.0.buffers_are at_buffer in
        let most : slot ≤ d.params.static_slots = leb-true slot d.params.static_slots static in (
          link,
          Contains-append_left (static_links d) (dynamic_links d) link
              (in_range (slot_links d) 1 d.params.static_slots slot link buffer_is.slot_is.from_one
              (omega (arith, most)) (on_channel (channel_links d slot) channel link on_the_channel)),
          of_cycles common.both common.admitted,
        )

  linked : Linked
  linked =
      elim (cases_Bool (is_static_slot d.params slot)) [
        | inl static ↦ static_linked static
        | inr dynamic ↦
            dynamic_linked (and_from (transmits b) (not (is_static_slot d.params slot)) sends.transmits_it
            (ap not dynamic))
      ]

pub senders_linked : AreSendersLinked
senders_linked d node number b its_slot channel cycle lawful is fits sends =
    let (transmits_it, admits) = and_parts (transmits b) (filter_admits b.filter cycle its_slot channel) sends in
    let (place, admitted) = and_parts (b.filter.slot == its_slot && includes b.filter.channels channel)
    (cycle_admitted b.filter.cycles cycle) admits in
    let (same, includes_it) = and_parts (b.filter.slot == its_slot) (includes b.filter.channels channel) place in
    subst (λ (s : ℕ). (l : Link) × Contains (links d) l × IsLinkOf node number s channel cycle l)
    (eqb-true b.filter.slot its_slot same)
    (linked d lawful node number is.plan b channel cycle is.of_node is.of_plan fits
    (record { transmits_it = transmits_it; includes_it = includes_it; admitted = admitted }))

-- ---- frames

pub frames_linked : AreFramesLinked
frames_linked d node number b its_slot channel w other plan on_a on_b t lawful is slot_is fits sends at differs taken =
    let (l, among, of) = senders_linked d node number b its_slot channel w.cycle lawful is fits sends in
    let here : slot_of w l.channel ≡ Some l.slot =
    ap (slot_of w) of.channel_is ∙ slot_is ∙ ap (λ (s : ℕ). Some s) (sym of.slot_is) in (
      l,
      among,
      of,
      takers_linked d.params d.plans l number other plan w on_a on_b t of.buffer_is
          (record { slot_is = here; cycle_fits = fits; admitted = of.admitted }) at
          (λ same. differs (same ∙ of.node_is))
          (subst (λ (c : Channel). Contains (takers_of d.params plan w on_a on_b c (Some other)) t) (sym of.channel_is)
          taken),
    )
