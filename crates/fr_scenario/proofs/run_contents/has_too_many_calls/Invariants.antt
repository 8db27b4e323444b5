use Rattle.std.proofs.Common.{◌≡◌, ◌+◌, take}
use Rattle.fr_scenario.specs.RunContents.{calls_in_run, most_calls}
use Rattle.fr_scenario.proofs.run_contents.has_too_many_calls.Given as goal

-- the remaining room, with the calls so far
abbrev pub invariant-loop-statement : goal.invariant-loop-statement
invariant-loop-statement l =
    l.room + calls_in_run l.cycles (take l.statement-index l.statements) ≡ most_calls
