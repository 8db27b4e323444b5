use Rattle.std.proofs.Common.{◌≡◌, ◌∙◌, ◌++◌, List, ℕ, ap, subst}
use Rattle.std.specs.Io.KnownBytes.{Appends}
use Rattle.fr_commands.specs.Checks.{HasPlan}
use Rattle.fr_files.proofs.OutputLemmas.{tells_written}
use Rattle.fr_commands.proofs.plan.plan_text.Goals as goal

pub returns-in-Ok-write_plan : goal.returns-in-Ok-write_plan
returns-in-Ok-write_plan g c =
    let old = g.W.Write.contents c.args.writer.now in
    let (plan, is_plan, added) = c.in-Ok-write_plan.ensures in
    let text_is : c.as_slice.result.now ≡ plan =
    c.as_slice.ensures.value ∙ (added ∙ ap (λ (t : List ℕ). t ++ plan) c.new-text.ensures.items) in
    tells_written HasPlan (g.R.Read.remaining c.args.reader.now) c.in_ok-cluster.cluster old
    (g.W.Write.contents c.write_whole.new.writer) c.as_slice.result.now c.write_whole.result c.in_ok-cluster.ensures
    (λ whole all. (plan, is_plan, subst (λ (t : List ℕ). Appends old whole t) text_is all))
    c.write_whole.ensures.written c.write_whole.ensures.refused c.write_whole.ensures.cut
