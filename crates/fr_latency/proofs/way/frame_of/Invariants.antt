use Rattle.std.proofs.Common.{◌≡◌, ℕ, Bool, false, take}
use Rattle.std.specs.List.{list_any}
use Rattle.fr_latency.specs.Marks.{AreMarksOf}
use Rattle.fr_latency.specs.Openings.{follows_buffer}
use Rattle.fr_latency.proofs.way.frame_of.Given as goal

-- no buffer so far has such a frame
abbrev pub invariant-loop-number : goal.invariant-loop-number
invariant-loop-number l = (test : ℕ → Bool) → AreMarksOf l.place.earlier test l.marks
    → list_any (follows_buffer l.params l.place.slot l.place.channel l.place.cycle test l.minislot l.plan)
    (take l.number l.plan.buffers) ≡ false
