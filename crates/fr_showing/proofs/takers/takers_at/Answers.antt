use Rattle.std.proofs.Common.{◌≡◌, Some, ap, ◌∙◌}
use Rattle.fr_bus.specs.Record.{seen_by}
use Rattle.fr_capture.proofs.TakerLemmas.{takers_is}
use Rattle.fr_capture.specs.TakerSteps.{takers_by}
use Rattle.fr_slots.specs.declared.channel.Channel.TheVariants.{A, B}
use Rattle.fr_slots.specs.Windows.{Opportunity}
use Rattle.fr_showing.proofs.takers.takers_at.Goals as goal

pub returns : goal.returns
returns c =
    let sent = c.args.sent.now in
    let p = sent.params.now in
    let r = sent.sealed.now in
    let node = c.args.node in
    let came = c.came_to.result in
    ap (λ (w : Opportunity). takers_by c.args.plan.now w came.a came.b sent.channel (Some node)) c.window_of.ensures
    ∙ takers_is p c.args.plan.now r.window (seen_by p r A node) (seen_by p r B node) came.a came.b c.came_to.ensures.a
    c.came_to.ensures.b sent.channel (Some node)
