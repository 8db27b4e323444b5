use Rattle.std.proofs.Common.{rules, ◌≡◌, drop, replicate, take}
use Rattle.fr_schedule.proofs.CycleRowLemmas.{row_is_free}
use Rattle.fr_schedule.specs.DenseTable.{nobody}
use Rattle.fr_schedule.proofs.senders.is_row_free.Goals as goal

pub returns : goal.returns
returns c =
    λ is.
    let same : take 64 (drop c.args.start c.args.nodes.now) ≡ replicate 64 nobody = search rules in
    row_is_free c.args.nodes.now c.args.start same
