use Rattle.std.proofs.Common.{◌≡◌, take}
use Rattle.fr_interface.specs.Known.{stored_all}
use Rattle.fr_interface.proofs.observed.store_all.Given as goal

abbrev pub invariant-loop-place : goal.invariant-loop-place
invariant-loop-place l = l.buffers ≡ stored_all l.moment l.window l.a l.b (take l.place l.lines) l.initial.buffers
