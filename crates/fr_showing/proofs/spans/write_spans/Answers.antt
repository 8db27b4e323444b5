use Rattle.std.proofs.Common.{◌≡◌, ℕ, ◌+◌, ◌<◌, ◌^◌, cond, get_or, length, take, refl, sym, ap, subst, ◌∙◌, arith}
use Rattle.std.proofs.KnownBytes.{Appends-nil}
use Rattle.fr_bus.specs.Record.{Recorded}
use Rattle.fr_bus.specs.Windows.{begins_cycle, cycles_begun}
use Rattle.fr_slots.specs.History.{each_after}
use Rattle.std.specs.Io.KnownBytes.{Appends}
use Rattle.fr_runs.proofs.EffectLemmas.{begun_more}
use Rattle.fr_showing.proofs.RecordLemmas.{fewer, window_more}
use Rattle.fr_showing.specs.Spans.{span_line}
use Rattle.fr_showing.proofs.spans.write_spans.Goals as goal

pub loop-sealed-init : goal.loop-sealed-init
unfolding each_after
loop-sealed-init g c = record { begun = refl; written = Appends-nil (g.W.Write.contents c.args.writer.now) }

pub loop-sealed-preserved : goal.loop-sealed-preserved
loop-sealed-preserved g c =
    let rs = c.args.bus.now.sealed in
    let n : ℕ = c.loop-sealed.sealed-index in
    let r = c.sealed-item.result in
    let same = c.record-sealed-items.ensures.value in
    let lt : n < length rs = subst (λ l. n < length l) same c.loop-sealed-test.true in
    let at : r ≡ get_or rs n r = subst (λ l. r ≡ get_or l n r) same c.sealed-item.is in
    let room : c.loop-sealed.begun + 1 < 2 ^ 32 =
    omega (arith, c.loop-sealed.invariant.begun, fewer rs n, c.record-sealed-items.ensures.few) in
    let begun : c.cycles_with-begun.result ≡ cycles_begun (take (n + 1) rs) =
    c.cycles_with-begun.ensures.counted room
    ∙ ap (λ (x : Recorded). c.loop-sealed.begun + cond (begins_cycle x) 1 0) c.sealed.view_is
    ∙ ap (λ (b : ℕ). b + cond (begins_cycle r) 1 0) c.loop-sealed.invariant.begun ∙ sym (begun_more rs n r lt at) in
    record {
      begun = begun;
      written =
          window_more rs n r lt at (span_line c.args.params.now) c.cycles_with-begun.result
          (g.W.Write.contents c.args.writer.now)
          (g.W.Write.contents c.loop-sealed.writer) (g.W.Write.contents c.write_window.new.writer) begun
          c.loop-sealed.invariant.written
          (subst (λ (k : ℕ). Appends (g.W.Write.contents c.loop-sealed.writer)
          (g.W.Write.contents c.write_window.new.writer) (span_line c.args.params.now k r))
          c.saturating_sub.ensures c.in_ok-write_window.ensures);
    }
