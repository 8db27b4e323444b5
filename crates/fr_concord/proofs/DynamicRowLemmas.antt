-- The lines of a plan for dynamic slots are the rows of the sender table.
use Rattle.std.proofs.Common.{◌≡◌, ℕ, zero, suc, ◌+◌, Bool, true, false, cond, not, ◌&&◌, ◌==◌, inl, inr, List, [], ◌∷◌}
use Rattle.std.proofs.Common.{◌++◌, Some, refl, sym, ap, subst, ◌∙◌, arith, slice_get}
use Rattle.std.proofs.lemmas.Bool.{and_parts, eqb-true, eq-eqb, and_from, not-true, not_from_false}
use Rattle.std.proofs.lemmas.Grind.{flat_map-append}
use Rattle.std.proofs.lemmas.List.{append-nil}
use Rattle.std.specs.List.{flat_map, list_any}
use Rattle.fr_commands.specs.PlanText.{buffer_text, node_text}
use Rattle.fr_concord.proofs.PlanRowLemmas.{among_left, among_right, among_either, from_flat, to_flat, any_among}
use Rattle.fr_concord.proofs.PlanRowLemmas.{found_any}
use Rattle.fr_concord.specs.DynamicRows.{DynamicRow, dynamic_row_line, IsRowFor, IsToldDynamic, AreDynamicRows}
use Rattle.fr_concord.specs.DynamicRows.{AreDynamicTables}
use Rattle.fr_concord.specs.PlanRows.{IsAmong}
use Rattle.fr_files.specs.NodeTexts.{of_nodes}
use Rattle.fr_schedule.specs.Descriptions.{Description}
use Rattle.fr_schedule.specs.SenderTable.{IsSender}
use Rattle.fr_slots.specs.Admission.{cycle_admitted, includes}
use Rattle.fr_slots.specs.declared.channel.Channel.{Channel}
use Rattle.fr_slots.specs.declared.plan.Buffer.{Buffer}
use Rattle.fr_slots.specs.Faults.{is_owned, sends_at, transmits, transmits_dynamic}
use Rattle.fr_slots.specs.Parameters.{Parameters, is_static_slot}
use Rattle.fr_slots.specs.Plans.{Plan, filter_admits}

abbrev row_of : ℕ → Buffer → DynamicRow
row_of node b = record {
  slot = b.filter.slot;
  channels = b.filter.channels;
  node = node;
  cycles = b.filter.cycles;
}

one_or_none : (b : Bool) (row : DynamicRow)
    → flat_map dynamic_row_line (cond b (row ∷ []) []) ≡ cond b (dynamic_row_line row) []
one_or_none true row = append-nil (dynamic_row_line row)
one_or_none false row = refl

own_row : (b : Bool) (row x : DynamicRow) → IsAmong x (cond b (row ∷ []) []) → (b ≡ true) × (x ≡ row)
own_row true row x (inl same) = (refl, same)
own_row true row x (inr later) = absurd later
own_row false row x is = absurd is

row_own : (b : Bool) (row : DynamicRow) → b ≡ true → IsAmong row (cond b (row ∷ []) [])
row_own true row is = inl refl
row_own false row is = absurd (let none : ⊥ = cc is in none)

module _ (p : Parameters) where
  abbrev buffer_rows : ℕ → Buffer → List DynamicRow
  buffer_rows node b = cond (transmits_dynamic p b) (row_of node b ∷ []) []

  abbrev plan_rows : ℕ → Plan → List DynamicRow
  plan_rows node plan = flat_map (buffer_rows node) plan.buffers

  abbrev node_rows : ℕ → List Plan → List DynamicRow
  node_rows node [] = []
  node_rows node (plan ∷ plans) = plan_rows node plan ++ node_rows (node + 1) plans

  -- ---- the text

  buffers_same : (node : ℕ) (buffers : List Buffer)
      → flat_map dynamic_row_line (flat_map (buffer_rows node) buffers) ≡ flat_map (buffer_text p node) buffers
  buffers_same node [] = refl
  buffers_same node (b ∷ buffers) =
      flat_map-append dynamic_row_line (buffer_rows node b) (flat_map (buffer_rows node) buffers)
      ∙ ap (λ (l : List ℕ). l ++ flat_map dynamic_row_line (flat_map (buffer_rows node) buffers))
      (one_or_none (transmits_dynamic p b) (row_of node b))
      ∙ ap (λ (l : List ℕ). buffer_text p node b ++ l) (buffers_same node buffers)

  nodes_same : (node : ℕ) (plans : List Plan)
      → flat_map dynamic_row_line (node_rows node plans) ≡ of_nodes (node_text p) node plans
  unfolding of_nodes
  nodes_same node [] = refl
  nodes_same node (plan ∷ plans) =
      flat_map-append dynamic_row_line (plan_rows node plan) (node_rows (node + 1) plans)
      ∙ ap (λ (l : List ℕ). l ++ flat_map dynamic_row_line (node_rows (node + 1) plans))
      (buffers_same node plan.buffers)
      ∙ ap (λ (l : List ℕ). node_text p node plan ++ l) (nodes_same (node + 1) plans)

  -- ---- the buffer of a row, and the row of a buffer

  record IsBufferRow (node : ℕ) (plans : List Plan) (row : DynamicRow) : Type 0 where
    place : ℕ
    plan : Plan
    at : slice_get plans place ≡ Some plan
    buffer : Buffer
    among : IsAmong buffer plan.buffers
    transmits_is : transmits_dynamic p buffer ≡ true
    row_is : row ≡ row_of (node + place) buffer

  of_rows : (node : ℕ) (plans : List Plan) (row : DynamicRow) → IsAmong row (node_rows node plans)
      → IsBufferRow node plans row
  of_rows node [] row is = absurd is
  of_rows node (plan ∷ plans) row is =
      elim (among_either row (plan_rows node plan) (node_rows (node + 1) plans) is) [
        | inl here ↦
            let from = from_flat row (buffer_rows node) plan.buffers here in
            let made = own_row (transmits_dynamic p from.source) (row_of node from.source) row from.made in
            let same : node ≡ node + 0 = omega arith in
            record {
              place = 0;
              plan = plan;
              at = refl;
              buffer = from.source;
              among = from.among;
              transmits_is = made.0;
              row_is = made.1 ∙ ap (λ (n : ℕ). row_of n from.source) same;
            }
        | inr later ↦
            let rest = of_rows (node + 1) plans row later in
            let same : node + 1 + rest.place ≡ node + suc rest.place = omega arith in
            record {
              place = suc rest.place;
              plan = rest.plan;
              at = rest.at;
              buffer = rest.buffer;
              among = rest.among;
              transmits_is = rest.transmits_is;
              row_is = rest.row_is ∙ ap (λ (n : ℕ). row_of n rest.buffer) same;
            }
      ]

  to_rows : (node place : ℕ) (plans : List Plan) (plan : Plan) (b : Buffer)
      → slice_get plans place ≡ Some plan → IsAmong b plan.buffers → transmits_dynamic p b ≡ true
      → IsAmong (row_of (node + place) b) (node_rows node plans)
  to_rows node place [] plan b at among is = absurd (let none : ⊥ = cc at in none)
  to_rows node zero (first ∷ plans) plan b at among is =
      let is_first : first ≡ plan = cc at in
      let same : node ≡ node + 0 = omega arith in
      let made = row_own (transmits_dynamic p b) (row_of node b) is in
      let here = to_flat (row_of node b) (buffer_rows node) b plan.buffers among made in
      let row = subst (λ (x : Plan). IsAmong (row_of node b) (plan_rows node x)) (sym is_first) here in
      subst (λ (n : ℕ). IsAmong (row_of n b) (plan_rows node first ++ node_rows (node + 1) plans)) same
      (among_left (row_of node b) (plan_rows node first) (node_rows (node + 1) plans) row)
  to_rows node (suc place) (first ∷ plans) plan b at among is =
      let same : node + 1 + place ≡ node + suc place = omega arith in
      let later = to_rows (node + 1) place plans plan b at among is in
      among_right (row_of (node + suc place) b) (plan_rows node first) (node_rows (node + 1) plans)
      (subst (λ (n : ℕ). IsAmong (row_of n b) (node_rows (node + 1) plans)) same later)

-- ---- senders

module _ (d : Description) where
  abbrev rows : List DynamicRow
  rows = node_rows d.params 0 d.plans

  buffer_dynamic : (b : Buffer) → transmits_dynamic d.params b ≡ true → is_static_slot d.params b.filter.slot ≡ false
  buffer_dynamic b is =
      let parts = and_parts (transmits b) (not (is_static_slot d.params b.filter.slot)) is in
      not-true (is_static_slot d.params b.filter.slot) parts.1

  row_dynamic : (row : DynamicRow) → IsAmong row rows → is_static_slot d.params row.slot ≡ false
  row_dynamic row is =
      let r = of_rows d.params 0 d.plans row is in
      subst (λ (x : DynamicRow). is_static_slot d.params x.slot ≡ false) (sym r.row_is)
      (buffer_dynamic r.buffer r.transmits_is)

  buffer_sends : (cycle slot place : ℕ) (channel : Channel) (plan : Plan) (b : Buffer)
      → slice_get d.plans place ≡ Some plan → IsAmong b plan.buffers → transmits_dynamic d.params b ≡ true
      → IsRowFor (row_of (0 + place) b) cycle slot channel → IsSender d cycle slot channel (0 + place)
  buffer_sends cycle slot place channel plan b at among is for =
      let same : place ≡ 0 + place = omega arith in
      let transmits_is = (and_parts (transmits b) (not (is_static_slot d.params b.filter.slot)) is).0 in
      let here : (b.filter.slot == slot) ≡ true = eq-eqb b.filter.slot slot for.slot_is in
      let on_slot = and_from (b.filter.slot == slot) (includes b.filter.channels channel) here for.on_channel in
      let admitted = and_from (b.filter.slot == slot && includes b.filter.channels channel)
      (cycle_admitted b.filter.cycles cycle) on_slot for.admits in
      let sends = and_from (transmits b) (filter_admits b.filter cycle slot channel) transmits_is admitted in
      let dynamic : is_static_slot d.params slot ≡ false =
      subst (λ (s : ℕ). is_static_slot d.params s ≡ false) for.slot_is (buffer_dynamic b is) in
      record {
        plan = plan;
        at = subst (λ (n : ℕ). slice_get d.plans n ≡ Some plan) same at;
        sends = ap (λ (x : Bool). cond x (is_owned plan.owned slot channel cycle)
            (list_any (sends_at slot channel cycle) plan.buffers)) dynamic
            ∙ any_among (sends_at slot channel cycle) b plan.buffers among sends;
      }

  row_sends : (row : DynamicRow) (cycle slot : ℕ) (channel : Channel) → IsAmong row rows
      → IsRowFor row cycle slot channel → IsSender d cycle slot channel row.node
  row_sends row cycle slot channel is for =
      let r = of_rows d.params 0 d.plans row is in
      let for_buffer = subst (λ (x : DynamicRow). IsRowFor x cycle slot channel) r.row_is for in
      subst (λ (x : DynamicRow). IsSender d cycle slot channel x.node) (sym r.row_is)
      (buffer_sends cycle slot r.place channel r.plan r.buffer r.at r.among r.transmits_is for_buffer)

  told : (cycle slot : ℕ) (channel : Channel) (node : ℕ) → is_static_slot d.params slot ≡ false
      → IsSender d cycle slot channel node → IsToldDynamic rows cycle slot channel node
  told cycle slot channel node dynamic sender =
      let plan = sender.plan in
      let any = sym (ap (λ (x : Bool). cond x (is_owned plan.owned slot channel cycle)
      (list_any (sends_at slot channel cycle) plan.buffers)) dynamic) ∙ sender.sends in
      let found = found_any (sends_at slot channel cycle) plan.buffers any in
      let b = found.one in
      let sends = and_parts (transmits b) (filter_admits b.filter cycle slot channel) found.passes in
      let admitted = and_parts (b.filter.slot == slot && includes b.filter.channels channel)
      (cycle_admitted b.filter.cycles cycle) sends.1 in
      let on_slot = and_parts (b.filter.slot == slot) (includes b.filter.channels channel) admitted.0 in
      let slot_is : b.filter.slot ≡ slot = eqb-true b.filter.slot slot on_slot.0 in
      let not_static : is_static_slot d.params b.filter.slot ≡ false =
      subst (λ (s : ℕ). is_static_slot d.params s ≡ false) (sym slot_is) dynamic in
      let is_dynamic = and_from (transmits b) (not (is_static_slot d.params b.filter.slot)) sends.0
      (not_from_false (is_static_slot d.params b.filter.slot) not_static) in
      record {
        row = row_of (0 + node) b;
        among = to_rows d.params 0 node d.plans plan b sender.at found.among is_dynamic;
        is_for = record { slot_is = slot_is; on_channel = on_slot.1; admits = admitted.1 };
        node_is = let same : 0 + node ≡ node = omega arith in same;
      }

  rows_told : AreDynamicRows d rows
  rows_told = record {
    text_is = sym (nodes_same d.params 0 d.plans);
    are_dynamic = row_dynamic;
    are_senders = row_sends;
    are_all = told;
  }

pub dynamic_tables : AreDynamicTables
dynamic_tables d = (rows d, rows_told d)
