use Rattle.std.proofs.Common.{◌≡◌, ◌≤◌, length, map, take}
use Rattle.fr_streaming.specs.LogSteps.{offers_of}
use Rattle.fr_streaming.proofs.log.offers_in.Given as goal

-- the offers of the interfaces so far
abbrev pub invariant-loop-interface : goal.invariant-loop-interface
invariant-loop-interface l =
    length l.world.interfaces ≤ 16 → l.offers.items ≡ map (offers_of l.window) (take l.interface-index l.interfaces)
