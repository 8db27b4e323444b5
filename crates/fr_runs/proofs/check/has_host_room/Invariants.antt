use Rattle.std.proofs.Common.{◌≡◌, ◌+◌, take}
use Rattle.fr_runs.specs.Suiting.{lines_for}
use Rattle.fr_runs.proofs.check.has_host_room.Given as goal

-- the remaining room, with the lines so far
abbrev pub invariant-loop-script : goal.invariant-loop-script
invariant-loop-script l = l.room + lines_for l.node (take l.script-index l.scripts) ≡ l.host_entries
