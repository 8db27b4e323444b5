use Rattle.std.proofs.Common.{◌≡◌, ℕ, Bool, false, take}
use Rattle.std.specs.List.{list_any}
use Rattle.fr_latency.specs.Marks.{AreMarksOf}
use Rattle.fr_latency.specs.Openings.{follows_node}
use Rattle.fr_latency.proofs.way.frame_into.Given as goal

-- no node so far has such a frame
abbrev pub invariant-loop-node : goal.invariant-loop-node
invariant-loop-node l = (test : ℕ → Bool) → AreMarksOf l.place.earlier test l.marks
    → list_any (follows_node l.cluster.params l.place.slot l.place.channel l.place.cycle test l.minislot)
    (take l.node l.cluster.plans) ≡ false
