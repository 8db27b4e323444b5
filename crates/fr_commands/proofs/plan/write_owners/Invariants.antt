use Rattle.std.specs.Io.KnownBytes.{Appends}
use Rattle.std.specs.List.{flat_map, range_with_len}
use Rattle.fr_commands.specs.PlanText.{base_text}
use Rattle.fr_commands.proofs.plan.write_owners.Given as goal

abbrev pub invariant-loop-number : goal.invariant-loop-number
invariant-loop-number g l =
    Appends (g.W.Write.contents l.fn.writer) (g.W.Write.contents l.writer)
    (flat_map (base_text l.cluster.plans l.slot l.channel) (range_with_len 0 l.number))
