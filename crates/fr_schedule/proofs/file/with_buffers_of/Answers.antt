use Rattle.std.proofs.Common.{◌≡◌, ◌+◌, length, drop, refl, rules, sym, ap, ◌∙◌, arith}
use Rattle.std.proofs.lemmas.List.{at_drop_all, length_push}
use Rattle.fr_schedule.proofs.BufferLemmas.{buffers_left, left_refused, left_taken, left_end, left_start, kept_more}
use Rattle.fr_schedule.proofs.RowLemmas.{at_item}
use Rattle.fr_schedule.specs.declared.error.ConfigError.{ConfigError}
use Rattle.fr_schedule.specs.Files.{with_buffers}
use Rattle.fr_slots.specs.Plans.{Plan, with_buffer}
use Rattle.std.specs.Prelude.{Result, Ok, Err}
use Rattle.fr_schedule.proofs.file.with_buffers_of.Goals as goal

pub loop-number-init : goal.loop-number-init
loop-number-init c = record {
  so_far = ap length c.requires.none_yet;
  kept = refl;
  left = left_start c.args.params.now c.args.node c.args.plan c.args.plan.buffers c.args.values.now c.requires.none_yet;
}

pub returns-in_err-buffer : goal.returns-in_err-buffer
returns-in_err-buffer c =
    let p = c.args.params.now in
    let n = c.loop-number.number in
    let gone : c.from_residual.result ≡ Err c.in_err-buffer.field-0.0 = search rules in
    gone
    ∙ sym (left_refused p c.args.node c.args.plan n c.loop-number.plan.buffers c.index-values-number.result
    (drop (n + 1) c.args.values.now) _ (sym c.in_err-buffer.ensures.value))
    ∙ sym (at_item (buffers_left p c.args.node c.args.plan n c.loop-number.plan.buffers) c.args.values.now n
    c.index-values-number.result c.loop-number-test.true c.index-values-number.is)
    ∙ c.loop-number.invariant.left

pub loop-number-preserved : goal.loop-number-preserved
loop-number-preserved c =
    let p = c.args.params.now in
    let n = c.loop-number.number in
    let buffer = c.in_ok-buffer.buffer in
    let added : c.add_buffer.new.self ≡ with_buffer c.loop-number.plan buffer = search rules in
    let buffers = ap (λ (plan : Plan). plan.buffers) added in
    record {
      so_far = ap length buffers ∙ length_push c.loop-number.plan.buffers buffer ∙ ap
          (λ m. m + 1) c.loop-number.invariant.so_far;
      kept = added ∙ kept_more c.args.plan c.loop-number.plan buffer c.loop-number.invariant.kept ∙ sym
          (ap (with_buffers c.args.plan) buffers);
      left = ap (λ bs. buffers_left p c.args.node c.args.plan (n + 1) bs (drop (n + 1) c.args.values.now)) buffers
          ∙ sym (left_taken p c.args.node c.args.plan n c.loop-number.plan.buffers c.index-values-number.result
          (drop (n + 1) c.args.values.now) buffer (sym c.in_ok-buffer.ensures.value))
          ∙ sym (at_item (buffers_left p c.args.node c.args.plan n c.loop-number.plan.buffers) c.args.values.now n
          c.index-values-number.result c.loop-number-test.true c.index-values-number.is)
          ∙ c.loop-number.invariant.left;
    }

pub returns : goal.returns
returns c =
    let p = c.args.params.now in
    let n = c.loop-number.number in
    ap (λ (plan : Plan). let r : Result Plan ConfigError = Ok plan in r) c.loop-number.invariant.kept
    ∙ sym (left_end p c.args.node c.args.plan n c.loop-number.plan.buffers)
    ∙ sym (at_drop_all (buffers_left p c.args.node c.args.plan n c.loop-number.plan.buffers) c.args.values.now n
    (omega (arith, c.loop-number-test.false)))
    ∙ c.loop-number.invariant.left
