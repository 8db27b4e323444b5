use Rattle.std.proofs.Common.{take}
use Rattle.std.specs.Io.KnownBytes.{Appends}
use Rattle.std.specs.List.{flat_map}
use Rattle.fr_showing.specs.Reasons.{effects_of}
use Rattle.fr_showing.proofs.reasons.write_all_effects.Given as goal

-- the lines so far
abbrev pub invariant-loop-transmission : goal.invariant-loop-transmission
invariant-loop-transmission g l =
    Appends (g.W.Write.contents l.fn.writer) (g.W.Write.contents l.writer)
    (flat_map (effects_of l.scenario l.params l.cycle l.sealed) (take l.transmission-index l.sent))
