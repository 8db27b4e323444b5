use Rattle.std.proofs.Common.{◌∙◌, sym}
use Rattle.fr_endless.proofs.TraceLemmas.{added_by, step_kept, step_refused, step_sealed}
use Rattle.fr_endless.proofs.telling.step_plain.Goals.{else-is_seal-via-then-is_seal+else-is_ok}
use Rattle.fr_endless.proofs.telling.step_plain.Goals.{else-is_seal-via-else-is_seal}
use Rattle.fr_endless.proofs.telling.step_plain.Goals as goal

pub returns-then-is_ok : goal.returns-then-is_ok
returns-then-is_ok g c =
    step_sealed c.args.world.now c.step-answer.new.self c.args.taps.now c.add_last.new.self c.args.event.now
    c.step-answer.result (sym c.is_seal.ensures ∙ c.if-is_seal.true) (sym c.is_ok.ensures.value ∙ c.if-is_ok.true)
    c.step-answer.ensures
    (added_by c.args.taps.now c.add_last.new.self c.bus.result.now c.step-answer.new.self.bus c.bus.ensures
    c.add_last.ensures)

pub returns-else-is_seal : goal.returns-else-is_seal
returns-else-is_seal g c = elim c.else-is_seal.branch [
  | else-is_seal-via-then-is_seal+else-is_ok w ↦
      step_refused c.args.world.now c.step-answer.new.self c.args.taps.now c.args.event.now c.step-answer.result
      (sym w.is_ok.ensures.value ∙ w.if-is_ok.false) c.step-answer.ensures
  | else-is_seal-via-else-is_seal w ↦
      step_kept c.args.world.now c.step-answer.new.self c.args.taps.now c.args.event.now c.step-answer.result
      (sym c.is_seal.ensures ∙ w.if-is_seal.false) c.requires c.step-answer.ensures
]
