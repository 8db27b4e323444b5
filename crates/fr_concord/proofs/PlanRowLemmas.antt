-- The lines of a plan are the rows of the sender table.
use Rattle.std.proofs.Common.{◌≡◌, ◌≢◌, ℕ, zero, suc, ◌+◌, ◌%◌, ◌<◌, ◌≤◌, ◌==◌, Bool, true, false, cond, ◌&&◌, ◌⊎◌, inl}
use Rattle.std.proofs.Common.{inr, List, [], ◌∷◌, ◌++◌, Some, refl, sym, ap, subst, ◌∙◌, arith, slice_get}
use Rattle.std.proofs.lemmas.Bool.{and_parts, cases_Bool, eqb-true, eqb-false, eq-eqb, le-leb, and_from, or_right}
use Rattle.std.proofs.lemmas.Bool.{or_left}
use Rattle.std.proofs.lemmas.Grind.{flat_map-append}
use Rattle.std.proofs.Math.Nat.{mod-le}
use Rattle.std.proofs.lemmas.List.{append-nil}
use Rattle.std.specs.List.{flat_map, range_with_len, list_any}
use Rattle.fr_commands.specs.PlanText.{begins_at, own_text, owner_text, base_text, owners_text, slot_text}
use Rattle.fr_concord.proofs.FaultLineLemmas.{rest_passes}
use Rattle.fr_concord.specs.PlanRows.{PlanRow, row_line, IsAmong, IsTold, ArePlanRows, ArePlansTables}
use Rattle.fr_files.specs.NodeTexts.{of_nodes}
use Rattle.fr_schedule.specs.Descriptions.{Description}
use Rattle.fr_schedule.specs.SenderTable.{may_send, IsSender}
use Rattle.fr_slots.specs.Admission.{cycle_admitted, includes}
use Rattle.fr_slots.specs.declared.channel.Channel.{Channel}
use Rattle.fr_slots.specs.declared.channel.Channel.TheVariants.{A, B}
use Rattle.fr_slots.specs.declared.plan.Own.{Own}
use Rattle.fr_slots.specs.Faults.{claims, is_owned, sends_at}
use Rattle.fr_slots.specs.Parameters.{is_static_slot}
use Rattle.fr_slots.specs.Plans.{Plan}

-- ---- elements of joined lists

module _ {A : Type 0} where
  pub among_left : (x : A) (xs ys : List A) → IsAmong x xs → IsAmong x (xs ++ ys)
  among_left x [] ys is = absurd is
  among_left x (z ∷ xs) ys (inl same) = inl same
  among_left x (z ∷ xs) ys (inr later) = inr (among_left x xs ys later)

  pub among_right : (x : A) (xs ys : List A) → IsAmong x ys → IsAmong x (xs ++ ys)
  among_right x [] ys is = is
  among_right x (z ∷ xs) ys is = inr (among_right x xs ys is)

  pub among_either : (x : A) (xs ys : List A) → IsAmong x (xs ++ ys) → IsAmong x xs ⊎ IsAmong x ys
  among_either x [] ys is = inr is
  among_either x (z ∷ xs) ys (inl same) = inl (inl same)
  among_either x (z ∷ xs) ys (inr later) =
      elim (among_either x xs ys later) [ inl here ↦ inl (inr here) | inr there ↦ inr there ]

-- an element of a flattened list, and the one that it comes from
pub record IsFrom {A B : Type 0} (x : B) (f : A → List B) (ys : List A) : Type 0 where
  pub source : A
  pub among : IsAmong source ys
  pub made : IsAmong x (f source)

pub from_flat : {A B : Type 0} (x : B) (f : A → List B) (ys : List A) → IsAmong x (flat_map f ys) → IsFrom x f ys
from_flat x f [] is = absurd is
from_flat x f (y ∷ ys) is =
    elim (among_either x (f y) (flat_map f ys) is) [
      | inl here ↦ record { source = y; among = inl refl; made = here }
      | inr later ↦
          let rest = from_flat x f ys later in
          record { source = rest.source; among = inr rest.among; made = rest.made }
    ]

pub to_flat : {A B : Type 0} (x : B) (f : A → List B) (y : A) (ys : List A) → IsAmong y ys → IsAmong x (f y)
    → IsAmong x (flat_map f ys)
to_flat x f y [] is made = absurd is
to_flat x f y (z ∷ ys) (inl same) made =
    among_left x (f z) (flat_map f ys) (subst (λ u. IsAmong x (f u)) same made)
to_flat x f y (z ∷ ys) (inr later) made = among_right x (f z) (flat_map f ys) (to_flat x f y ys later made)

after_first : (first k : ℕ) → first ≤ k → (first == k) ≡ false → first + 1 ≤ k
after_first first k from other = let apart : first ≢ k = eqb-false first k other in omega arith

in_range : (first count k : ℕ) → first ≤ k → k < first + count → IsAmong k (range_with_len first count)
in_range first zero k from below = absurd (omega arith)
in_range first (suc count) k from below =
    elim (cases_Bool (first == k)) [
      | inl here ↦ inl (sym (eqb-true first k here))
      | inr other ↦ inr (in_range (first + 1) count k (after_first first k from other) (omega arith))
    ]

of_range : (first count k : ℕ) → IsAmong k (range_with_len first count) → (first ≤ k) × (k < first + count)
of_range first zero k is = absurd is
of_range first (suc count) k (inl same) = (omega arith, omega arith)
of_range first (suc count) k (inr later) =
    let rest = of_range (first + 1) count k later in (omega (arith, rest.0, rest.1), omega (arith, rest.0, rest.1))

-- ---- the rows

-- the text of rows that are made one after another
flat_same : {A : Type 0} (f : A → List PlanRow) (g : A → List ℕ) (xs : List A)
    → ((x : A) → flat_map row_line (f x) ≡ g x) → flat_map row_line (flat_map f xs) ≡ flat_map g xs
flat_same f g [] each = refl
flat_same f g (x ∷ xs) each =
    flat_map-append row_line (f x) (flat_map f xs)
    ∙ ap (λ (l : List ℕ). l ++ flat_map row_line (flat_map f xs)) (each x)
    ∙ ap (λ (l : List ℕ). g x ++ l) (flat_same f g xs each)

module _ (slot : ℕ) (channel : Channel) where
  abbrev row_of : ℕ → Own → PlanRow
  row_of node own = record { slot = slot; channel = channel; node = node; cycles = own.cycles }

  abbrev own_rows : ℕ → ℕ → Own → List PlanRow
  own_rows base node own = cond (begins_at slot channel base own) (row_of node own ∷ []) []

  one_or_none : (b : Bool) (row : PlanRow) → flat_map row_line (cond b (row ∷ []) []) ≡ cond b (row_line row) []
  one_or_none true row = append-nil (row_line row)
  one_or_none false row = refl

  abbrev owner_rows : ℕ → ℕ → Plan → List PlanRow
  owner_rows base node plan = flat_map (own_rows base node) plan.owned

  owner_same : (base node : ℕ) (plan : Plan)
      → flat_map row_line (owner_rows base node plan) ≡ owner_text slot channel base node plan
  owner_same base node plan =
      flat_same (own_rows base node) (own_text slot channel base node) plan.owned
      (λ own. one_or_none (begins_at slot channel base own) (row_of node own))

  abbrev node_rows : ℕ → ℕ → List Plan → List PlanRow
  node_rows base node [] = []
  node_rows base node (plan ∷ plans) = owner_rows base node plan ++ node_rows base (node + 1) plans

  nodes_same : (base node : ℕ) (plans : List Plan)
      → flat_map row_line (node_rows base node plans) ≡ of_nodes (owner_text slot channel base) node plans
  unfolding of_nodes
  nodes_same base node [] = refl
  nodes_same base node (plan ∷ plans) =
      let later = of_nodes (owner_text slot channel base) (node + 1) plans in
      flat_map-append row_line (owner_rows base node plan) (node_rows base (node + 1) plans)
      ∙ ap (λ (l : List ℕ). l ++ flat_map row_line (node_rows base (node + 1) plans)) (owner_same base node plan)
      ∙ ap (λ (l : List ℕ). owner_text slot channel base node plan ++ l) (nodes_same base (node + 1) plans)

  abbrev channel_rows : List Plan → List PlanRow
  channel_rows plans = flat_map (λ base. node_rows base 0 plans) (range_with_len 0 64)

  channel_same : (plans : List Plan) → flat_map row_line (channel_rows plans) ≡ owners_text plans slot channel
  unfolding owners_text
  channel_same plans =
      flat_same (λ base. node_rows base 0 plans) (base_text plans slot channel) (range_with_len 0 64)
      (λ base. nodes_same base 0 plans)

  -- ---- the rows of one slot on a channel name its owners

  own_row : (b : Bool) (row x : PlanRow) → IsAmong x (cond b (row ∷ []) []) → (b ≡ true) × (x ≡ row)
  own_row true row x (inl same) = (refl, same)
  own_row true row x (inr later) = absurd later
  own_row false row x is = absurd is

  row_own : (b : Bool) (row : PlanRow) → b ≡ true → IsAmong row (cond b (row ∷ []) [])
  row_own true row is = inl refl
  row_own false row is = absurd (let none : ⊥ = cc is in none)

  record IsNodeRow (base node : ℕ) (plans : List Plan) (row : PlanRow) : Type 0 where
    place : ℕ
    plan : Plan
    at : slice_get plans place ≡ Some plan
    own : Own
    among : IsAmong own plan.owned
    begins : begins_at slot channel base own ≡ true
    row_is : row ≡ row_of (node + place) own

  of_nodes_rows : (base node : ℕ) (plans : List Plan) (row : PlanRow) → IsAmong row (node_rows base node plans)
      → IsNodeRow base node plans row
  of_nodes_rows base node [] row is = absurd is
  of_nodes_rows base node (plan ∷ plans) row is =
      elim (among_either row (owner_rows base node plan) (node_rows base (node + 1) plans) is) [
        | inl here ↦
            let from = from_flat row (own_rows base node) plan.owned here in
            let made = own_row (begins_at slot channel base from.source) (row_of node from.source) row from.made in
            let same : node ≡ node + 0 = omega arith in
            record {
              place = 0;
              plan = plan;
              at = refl;
              own = from.source;
              among = from.among;
              begins = made.0;
              row_is = made.1 ∙ ap (λ (n : ℕ). row_of n from.source) same;
            }
        | inr later ↦
            let rest = of_nodes_rows base (node + 1) plans row later in
            let same : node + 1 + rest.place ≡ node + suc rest.place = omega arith in
            record {
              place = suc rest.place;
              plan = rest.plan;
              at = rest.at;
              own = rest.own;
              among = rest.among;
              begins = rest.begins;
              row_is = rest.row_is ∙ ap (λ (n : ℕ). row_of n rest.own) same;
            }
      ]

  to_nodes_rows : (base node place : ℕ) (plans : List Plan) (plan : Plan) (own : Own)
      → slice_get plans place ≡ Some plan → IsAmong own plan.owned → begins_at slot channel base own ≡ true
      → IsAmong (row_of (node + place) own) (node_rows base node plans)
  to_nodes_rows base node place [] plan own at among begins = absurd (let none : ⊥ = cc at in none)
  to_nodes_rows base node zero (first ∷ plans) plan own at among begins =
      let is : first ≡ plan = cc at in
      let same : node ≡ node + 0 = omega arith in
      let made = row_own (begins_at slot channel base own) (row_of node own) begins in
      let here = to_flat (row_of node own) (own_rows base node) own plan.owned among made in
      let row = subst (λ (p : Plan). IsAmong (row_of node own) (owner_rows base node p)) (sym is) here in
      subst (λ (n : ℕ). IsAmong (row_of n own) (owner_rows base node first ++ node_rows base (node + 1) plans)) same
      (among_left (row_of node own) (owner_rows base node first) (node_rows base (node + 1) plans) row)
  to_nodes_rows base node (suc place) (first ∷ plans) plan own at among begins =
      let same : node + 1 + place ≡ node + suc place = omega arith in
      let later = to_nodes_rows base (node + 1) place plans plan own at among begins in
      among_right (row_of (node + suc place) own) (owner_rows base node first) (node_rows base (node + 1) plans)
      (subst (λ (n : ℕ). IsAmong (row_of n own) (node_rows base (node + 1) plans)) same later)

-- ---- owners

pub any_among : {X : Type 0} (p : X → Bool) (x : X) (xs : List X) → IsAmong x xs → p x ≡ true → list_any p xs ≡ true
any_among p x [] is pass = absurd is
any_among p x (y ∷ xs) (inl same) pass = or_left (p y) (list_any p xs) (sym (ap p same) ∙ pass)
any_among p x (y ∷ xs) (inr later) pass = or_right (p y) (list_any p xs) (any_among p x xs later pass)

pub record IsFound {X : Type 0} (p : X → Bool) (xs : List X) : Type 0 where
  pub one : X
  pub among : IsAmong one xs
  pub passes : p one ≡ true

pub found_any : {X : Type 0} (p : X → Bool) (xs : List X) → list_any p xs ≡ true → IsFound p xs
found_any p [] any = absurd (let none : ⊥ = cc any in none)
found_any p (x ∷ xs) any =
    elim (cases_Bool (p x)) [
      | inl pass ↦ record { one = x; among = inl refl; passes = pass }
      | inr fail ↦
          let rest = found_any p xs (rest_passes (p x) (list_any p xs) fail any) in
          record { one = rest.one; among = inr rest.among; passes = rest.passes }
    ]

-- ---- the rows of a cluster

module _ (d : Description) where
  abbrev slot_rows : ℕ → List PlanRow
  slot_rows slot = channel_rows slot A d.plans ++ channel_rows slot B d.plans

  slot_same : (slot : ℕ) → flat_map row_line (slot_rows slot) ≡ slot_text d.plans slot
  slot_same slot =
      flat_map-append row_line (channel_rows slot A d.plans) (channel_rows slot B d.plans)
      ∙ ap (λ (l : List ℕ). l ++ flat_map row_line (channel_rows slot B d.plans)) (channel_same slot A d.plans)
      ∙ ap (λ (l : List ℕ). owners_text d.plans slot A ++ l) (channel_same slot B d.plans)

  abbrev rows : List PlanRow
  rows = flat_map slot_rows (range_with_len 1 d.params.static_slots)

  -- a row, and the ownership line that it comes from
  record IsRow (row : PlanRow) : Type 0 where
    slot : ℕ
    channel : Channel
    base : ℕ
    from_one : 1 ≤ slot
    at_most : slot ≤ d.params.static_slots
    of_node : IsNodeRow slot channel base 0 d.plans row

  of_channel : (slot : ℕ) (channel : Channel) (row : PlanRow) → 1 ≤ slot → slot ≤ d.params.static_slots
      → IsAmong row (channel_rows slot channel d.plans) → IsRow row
  of_channel slot channel row from most is =
      let base = from_flat row (λ b. node_rows slot channel b 0 d.plans) (range_with_len 0 64) is in
      record {
        slot = slot;
        channel = channel;
        base = base.source;
        from_one = from;
        at_most = most;
        of_node = of_nodes_rows slot channel base.source 0 d.plans row base.made;
      }

  is_row : (row : PlanRow) → IsAmong row rows → IsRow row
  is_row row is =
      let from = from_flat row slot_rows (range_with_len 1 d.params.static_slots) is in
      let slot = from.source in
      let range = of_range 1 d.params.static_slots slot from.among in
      let low : 1 ≤ slot = range.0 in
      let high : slot < 1 + d.params.static_slots = range.1 in
      elim (among_either row (channel_rows slot A d.plans) (channel_rows slot B d.plans) from.made) [
        | inl first ↦ of_channel slot A row low (omega arith) first
        | inr second ↦ of_channel slot B row low (omega arith) second
      ]

  static_is : (slot : ℕ) → slot ≤ d.params.static_slots → is_static_slot d.params slot ≡ true
  static_is slot most = le-leb slot d.params.static_slots most

  owner_sends : (cycle slot place : ℕ) (channel : Channel) (plan : Plan) (own : Own)
      → slot ≤ d.params.static_slots → slice_get d.plans place ≡ Some plan → IsAmong own plan.owned
      → claims slot channel cycle own ≡ true → IsSender d cycle slot channel (0 + place)
  owner_sends cycle slot place channel plan own most at among claimed =
      let same : place ≡ 0 + place = omega arith in
      let owned = any_among (claims slot channel cycle) own plan.owned among claimed in
      record {
        plan = plan;
        at = subst (λ (n : ℕ). slice_get d.plans n ≡ Some plan) same at;
        sends = ap (λ (b : Bool). cond b (is_owned plan.owned slot channel cycle)
            (list_any (sends_at slot channel cycle) plan.buffers)) (static_is slot most) ∙ owned;
      }

  abbrev Sends : ℕ → PlanRow → Type 0
  Sends cycle row = cycle_admitted row.cycles cycle ≡ true → IsSender d cycle row.slot row.channel row.node

  row_sends : (row : PlanRow) (cycle : ℕ) → IsAmong row rows → Sends cycle row
  row_sends row cycle is =
      let r = is_row row is in
      let n = r.of_node in
      let in_slot = n.own.slot == r.slot && includes n.own.channels r.channel in
      let begun = and_parts in_slot (n.own.cycles.base == r.base) n.begins in
      subst (Sends cycle) (sym n.row_is) (λ admits.
      owner_sends cycle r.slot n.place r.channel n.plan n.own r.at_most n.at n.among
      (and_from in_slot (cycle_admitted n.own.cycles cycle) begun.0 admits))

  row_static : (row : PlanRow) → IsAmong row rows → (1 ≤ row.slot) × (row.slot ≤ d.params.static_slots)
  row_static row is =
      let r = is_row row is in
      subst (λ (x : PlanRow). (1 ≤ x.slot) × (x.slot ≤ d.params.static_slots)) (sym r.of_node.row_is)
      (r.from_one, r.at_most)

  -- ---- each owner has a row

  on_channel : (slot : ℕ) (channel : Channel) (row : PlanRow) → IsAmong row (channel_rows slot channel d.plans)
      → IsAmong row (slot_rows slot)
  on_channel slot A row is = among_left row (channel_rows slot A d.plans) (channel_rows slot B d.plans) is
  on_channel slot B row is = among_right row (channel_rows slot A d.plans) (channel_rows slot B d.plans) is

  owned_static : (cycle slot : ℕ) (channel : Channel) (plan : Plan) → slot ≤ d.params.static_slots
      → may_send d.params cycle slot channel plan ≡ true → is_owned plan.owned slot channel cycle ≡ true
  owned_static cycle slot channel plan most sends =
      sym (ap (λ (b : Bool). cond b (is_owned plan.owned slot channel cycle)
      (list_any (sends_at slot channel cycle) plan.buffers)) (static_is slot most)) ∙ sends

  told : (cycle slot : ℕ) (channel : Channel) (node : ℕ) → cycle < 64 → 1 ≤ slot → slot ≤ d.params.static_slots
      → IsSender d cycle slot channel node → IsTold rows cycle slot channel node
  told cycle slot channel node few from most sender =
      let own_is = found_any (claims slot channel cycle) sender.plan.owned
      (owned_static cycle slot channel sender.plan most sender.sends) in
      let own = own_is.one in
      let in_slot = own.slot == slot && includes own.channels channel in
      let claimed = and_parts in_slot (cycle_admitted own.cycles cycle) own_is.passes in
      let base = own.cycles.base in
      let is_base : cycle % own.cycles.repetition ≡ base = eqb-true (cycle % own.cycles.repetition) base claimed.1 in
      let low : cycle % own.cycles.repetition ≤ cycle = mod-le cycle own.cycles.repetition in
      let begins = and_from in_slot (base == base) claimed.0 (eq-eqb base base refl) in
      let row = row_of slot channel (0 + node) own in
      let of_node = to_nodes_rows slot channel base 0 node d.plans sender.plan own sender.at own_is.among begins in
      let of_channel = to_flat row (λ b. node_rows slot channel b 0 d.plans) base (range_with_len 0 64)
      (in_range 0 64 base (omega arith) (omega arith)) of_node in
      record {
        row = row;
        among = to_flat row slot_rows slot (range_with_len 1 d.params.static_slots)
            (in_range 1 d.params.static_slots slot from (omega arith)) (on_channel slot channel row of_channel);
        slot_is = refl;
        channel_is = refl;
        node_is = let same : 0 + node ≡ node = omega arith in same;
        admits = claimed.1;
      }

  rows_told : ArePlanRows d rows
  rows_told = record {
    text_is = sym (flat_same slot_rows (slot_text d.plans) (range_with_len 1 d.params.static_slots) slot_same);
    are_static = row_static;
    are_senders = row_sends;
    are_all = told;
  }

pub plans_tables : ArePlansTables
plans_tables d = (rows d, rows_told d)
