use Rattle.std.proofs.Common.{◌≡◌, take}
use Rattle.fr_latency.specs.Loads.{least_of, spare}
use Rattle.fr_latency.proofs.load.spare_of.Given as goal

abbrev pub invariant-loop-buffer : goal.invariant-loop-buffer
invariant-loop-buffer l = l.least
    ≡ least_of (spare l.cluster l.channel l.plan) l.cluster.params.minislots (take l.buffer-index l.plan.buffers)
