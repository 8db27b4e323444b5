use Rattle.std.proofs.Common.{◌≡◌, false, take}
use Rattle.std.specs.List.{list_any}
use Rattle.fr_links.specs.Receivers.{receives_at}
use Rattle.fr_links.proofs.receivers.any_receives.Given as goal

abbrev pub invariant-loop-buffer : goal.invariant-loop-buffer
invariant-loop-buffer l = list_any (receives_at l.link l.cycle) (take l.buffer-index l.buffers) ≡ false
