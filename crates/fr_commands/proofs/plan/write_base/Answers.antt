use Rattle.std.proofs.Common.{◌≡◌, List, ℕ, Some, slice_get, subst, sym}
use Rattle.std.proofs.KnownBytes.{Appends-nil}
use Rattle.std.specs.Io.KnownBytes.{Appends}
use Rattle.std.specs.Prelude.{OnOk}
use Rattle.fr_commands.proofs.PlanTextLemmas.{owner_line, no_owner}
use Rattle.fr_commands.proofs.plan.write_base.Goals as goal

pub returns-in_default : goal.returns-in_default
returns-in_default g c =
    let d = c.args.cluster.now in
    let start = g.W.Write.contents c.args.writer.now in
    subst (λ (text : List ℕ). Appends start start text)
    (sym (no_owner d c.sender.ensures.lawful c.args.slot c.args.channel c.args.base c.requires.is_static
    c.in_default.ensures.nobody))
    (Appends-nil start)

pub returns : goal.returns
returns g c =
    let d = c.args.cluster.now in
    let at : slice_get d.plans c.in-Some.node ≡ Some c.in-Some-node.plan.now = sym c.in-Some-node.ensures.value in
    subst (λ (text : List ℕ). OnOk c.write_owner.result (Appends (g.W.Write.contents c.args.writer.now)
    (g.W.Write.contents c.write_owner.new.writer) text))
    (sym (owner_line d c.sender.ensures.lawful c.args.slot c.args.channel c.args.base c.requires.is_static
    c.requires.is_cycle c.in-Some.node c.in-Some-node.plan.now at c.in-Some.ensures.sender))
    c.write_owner.ensures
