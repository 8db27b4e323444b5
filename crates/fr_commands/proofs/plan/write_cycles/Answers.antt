use Rattle.std.proofs.Common.{ℕ, subst}
use Rattle.fr_commands.specs.PlanText.{IsGuardText, Adds}
use Rattle.fr_commands.proofs.PlanTextLemmas.{no_cycle, one_cycle}
use Rattle.fr_commands.proofs.plan.write_cycles.Goals as goal

pub loop-number-init : goal.loop-number-init
loop-number-init g c = no_cycle c.args.guardian.now c.args.node c.args.channel (g.W.Write.contents c.args.writer.now)

pub loop-number-preserved : goal.loop-number-preserved
loop-number-preserved g c =
    let d = c.args.guardian.now in
    let before = g.W.Write.contents c.loop-number.writer in
    let after = g.W.Write.contents c.write_guard.new.writer in
    one_cycle d c.args.node c.args.channel c.loop-number.number
    (g.W.Write.contents c.args.writer.now) before after c.loop-number.invariant
    (subst (λ (n : ℕ). Adds (IsGuardText d c.args.node c.args.channel n) before after) c.from_bits.ensures
    c.in_ok-write_guard.ensures)
