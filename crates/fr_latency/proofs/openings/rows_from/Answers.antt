use Rattle.std.proofs.Common.{◌≡◌, ℕ, ◌+◌, List, length, true, sym, ap, ◌∙◌, subst, arith, slice_get, Some}
use Rattle.std.proofs.lemmas.List.{length_push}
use Rattle.fr_slots.specs.Parameters.{Parameters}
use Rattle.fr_latency.specs.declared.openings.Row.{Row}
use Rattle.fr_latency.specs.Cells.{HasBits}
use Rattle.fr_latency.specs.Openings.{can_begin, is_used, slot_after}
use Rattle.fr_latency.specs.Rows.{IsRow}
use Rattle.fr_latency.proofs.RowLemmas.{first_slot, pushed, none_pushed}
use Rattle.fr_latency.proofs.openings.rows_from.Goals as goal

pub loop-earlier-init : goal.loop-earlier-init
loop-earlier-init c =
    let d = c.args.cluster.now in
    let P = λ (earlier : ℕ) (row : Row). is_used d.plans (slot_after d.params earlier) c.args.channel ≡ true
    → IsRow d c.args.channel earlier row in
    record {
      size = ap (λ (rows : List Row). length rows) c.new-rows.ensures.items;
      each = subst (λ (rows : List Row). (k : ℕ) (row : Row) → slice_get rows k ≡ Some row → P k row)
          (sym c.new-rows.ensures.items) (none_pushed P);
      begins = first_slot d c.args.channel c.args.before.now c.requires.begins;
    }

pub loop-earlier-preserved : goal.loop-earlier-preserved
loop-earlier-preserved c =
    let d = c.args.cluster.now in
    let earlier = c.loop-earlier.earlier in
    let rows = c.loop-earlier.rows.items in
    let row = c.row_at.result in
    let P = λ (earlier : ℕ) (row : Row). is_used d.plans (slot_after d.params earlier) c.args.channel ≡ true
    → IsRow d c.args.channel earlier row in
    let slot : c.slot_after-slot.result ≡ slot_after d.params earlier = c.slot_after-slot.ensures
    ∙ ap (λ (p : Parameters). slot_after p earlier) c.params-params.ensures.value in
    let at_slot = subst (λ (slot : ℕ). is_used d.plans slot c.args.channel ≡ true → IsRow d c.args.channel earlier row)
    slot c.row_at.ensures in
    let here : P (length rows) row = subst (λ (n : ℕ). P n row) (sym c.loop-earlier.invariant.size) at_slot in
    let next : earlier + 2 ≡ earlier + 1 + 1 = omega arith in
    record {
      size = ap (λ (rows : List Row). length rows) c.in_ok-push.ensures.items
          ∙ length_push rows row ∙ ap (λ n. n + 1) c.loop-earlier.invariant.size;
      each = subst (λ (rows : List Row). (k : ℕ) (row : Row) → slice_get rows k ≡ Some row → P k row)
          (sym c.in_ok-push.ensures.items) (pushed P rows row c.loop-earlier.invariant.each here);
      begins = subst (λ (first : ℕ). HasBits first
          (λ cycle minislot. can_begin d c.args.channel cycle (earlier + 1) minislot) c.step.new.before) next
          c.step.ensures.begins;
    }
