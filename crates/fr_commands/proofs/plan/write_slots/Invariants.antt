use Rattle.std.specs.Io.KnownBytes.{Appends}
use Rattle.std.specs.List.{flat_map, range_with_len}
use Rattle.fr_commands.specs.PlanText.{slot_text}
use Rattle.fr_commands.proofs.plan.write_slots.Given as goal

abbrev pub invariant-loop-earlier : goal.invariant-loop-earlier
invariant-loop-earlier g l = Appends (g.W.Write.contents l.fn.writer) (g.W.Write.contents l.writer)
    (flat_map (slot_text l.cluster.plans) (range_with_len 1 l.earlier))
