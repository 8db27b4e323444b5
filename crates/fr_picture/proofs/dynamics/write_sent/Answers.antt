use Rattle.std.proofs.Common.{ap₂, inl, sym}
use Rattle.fr_picture.proofs.DynamicLemmas.{no_plan}
use Rattle.fr_picture.proofs.OwnerLemmas.{adds_text}
use Rattle.fr_picture.specs.Dynamics.{IsSlotText, sender_text}
use Rattle.fr_picture.proofs.dynamics.write_sent.Goals as goal

pub returns-in-Some : goal.returns-in-Some
returns-in-Some g c =
    let plan = c.in-Some.plan.now in
    let slot = c.args.sender.slot in
    let node = c.args.sender.node in
    adds_text c.write_sender.result (IsSlotText c.args.cluster.now c.args.cycle c.args.channel slot)
    (sender_text plan c.args.cycle c.args.channel slot node c.args.left c.args.length)
    (g.W.Write.contents c.args.writer.now) (g.W.Write.contents c.write_sender.new.writer)
    (inl (
      node,
      c.requires.sender,
      record {
        plan = plan;
        at = sym c.in-Some.ensures.value;
        text_is = ap₂ (sender_text plan c.args.cycle c.args.channel slot node) c.requires.left c.requires.length;
      },
    )) c.write_sender.ensures

pub returns-in-None : goal.returns-in-None
returns-in-None g c =
    let sender = c.requires.sender.sender in
    absurd (no_plan _ sender.plan c.in-None.ensures.value sender.at)
