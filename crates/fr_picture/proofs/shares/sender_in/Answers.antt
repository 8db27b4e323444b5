use Rattle.std.proofs.Common.{◌≡◌, ℕ, inr, sym, subst}
use Rattle.fr_latency.proofs.UsedLemmas.{is_slot_number}
use Rattle.fr_picture.proofs.ShareLemmas.{nobody_sends}
use Rattle.fr_picture.specs.Shares.{HasNoSender}
use Rattle.fr_schedule.specs.SenderTable.{IsSender}
use Rattle.fr_picture.proofs.shares.sender_in.Goals as goal

pub returns-in_err-node-clause-nobody : goal.returns-in_err-node-clause-nobody
returns-in_err-node-clause-nobody c =
    let slot_is : c.in_ok-slot.slot ≡ c.args.number =
    is_slot_number c.args.number c.in_ok-slot.slot (sym c.in_ok-slot.ensures) in
    let nobody : HasNoSender c.args.cluster.now c.args.cycle c.args.channel c.args.number =
    inr (subst (λ (n : ℕ). (node : ℕ) → IsSender c.args.cluster.now c.args.cycle n c.args.channel node → ⊥) slot_is
    c.in_err-node.ensures.nobody) in
    nobody_sends c.from_residual-in_err-node.result
    (HasNoSender c.args.cluster.now c.args.cycle c.args.channel c.args.number) nobody
