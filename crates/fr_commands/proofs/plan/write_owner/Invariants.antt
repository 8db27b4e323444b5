use Rattle.std.proofs.Common.{take}
use Rattle.std.specs.Io.KnownBytes.{Appends}
use Rattle.std.specs.List.{flat_map}
use Rattle.fr_commands.specs.PlanText.{own_text}
use Rattle.fr_commands.proofs.plan.write_owner.Given as goal

abbrev pub invariant-loop-own : goal.invariant-loop-own
invariant-loop-own g l =
    Appends (g.W.Write.contents l.fn.writer) (g.W.Write.contents l.writer)
    (flat_map (own_text l.slot l.channel l.base l.node) (take l.own-index l.plan.owned))
