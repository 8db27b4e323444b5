use Rattle.std.proofs.Common.{◌≡◌, false, take}
use Rattle.std.specs.List.{list_any}
use Rattle.fr_latency.specs.Openings.{is_for}
use Rattle.fr_latency.proofs.openings.is_used_by.Given as goal

abbrev pub invariant-loop-buffer : goal.invariant-loop-buffer
invariant-loop-buffer l = list_any (is_for l.slot l.channel) (take l.buffer-index l.plan.buffers) ≡ false
