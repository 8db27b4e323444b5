use Rattle.std.proofs.Common.{◌≡◌, ℕ, Bool, true, false, ◌+◌, ◌≤◌, cond, take, refl, sym, ap, subst, ◌∙◌, arith}
use Rattle.std.proofs.KnownBytes.{Appends-nil}
use Rattle.fr_bus.specs.Windows.{begins_cycle, cycles_begun}
use Rattle.fr_slots.specs.History.{each_after}
use Rattle.std.specs.Io.KnownBytes.{Appends}
use Rattle.fr_runs.proofs.EffectLemmas.{begun_more}
use Rattle.fr_showing.proofs.RecordLemmas.{window_more}
use Rattle.fr_showing.specs.RecordText.{window_text}
use Rattle.fr_showing.proofs.record.write_record.Goals as goal

pub loop-sealed-init : goal.loop-sealed-init
unfolding each_after
loop-sealed-init g c = record {
  begun = refl;
  few = omega arith;
  written =
      Appends-nil (g.W.Write.contents c.args.writer.now);
}

digit : (b : Bool) → cond b 1 0 ≤ 1
digit true = omega arith
digit false = omega arith

pub loop-sealed-preserved : goal.loop-sealed-preserved
loop-sealed-preserved g c =
    let rs = c.record-record.result.now in
    let n : ℕ = c.loop-sealed.sealed-index in
    let r = c.sealed-item.result in
    let more = begun_more rs n r c.loop-sealed-test.true c.sealed-item.is in
    let begun : c.begun_with-begun.result ≡ cycles_begun (take (n + 1) rs) =
    c.begun_with-begun.ensures ∙ ap (λ (b : ℕ). b + cond (begins_cycle r) 1 0) c.loop-sealed.invariant.begun
    ∙ sym more in
    record {
      begun = begun;
      few = omega (arith, c.begun_with-begun.ensures, c.loop-sealed.invariant.few, digit (begins_cycle r));
      written =
          window_more rs n r c.loop-sealed-test.true c.sealed-item.is
          (window_text c.args.scenario.now c.args.params.now) c.begun_with-begun.result
          (g.W.Write.contents c.args.writer.now)
          (g.W.Write.contents c.loop-sealed.writer) (g.W.Write.contents c.write_window.new.writer) begun
          c.loop-sealed.invariant.written
          (subst (λ (k : ℕ). Appends (g.W.Write.contents c.loop-sealed.writer)
          (g.W.Write.contents c.write_window.new.writer) (window_text c.args.scenario.now c.args.params.now k r))
          c.saturating_sub-cycle.ensures c.in_ok-write_window.ensures);
    }
