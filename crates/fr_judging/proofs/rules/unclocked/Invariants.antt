use Rattle.std.proofs.Common.{◌≡◌, ◌-◌}
use Rattle.fr_judging.specs.Rules.{unclocked}
use Rattle.fr_judging.proofs.rules.unclocked.Given as goal

-- the cycles so far have an owner
abbrev pub invariant-loop-number : goal.invariant-loop-number
invariant-loop-number l = unclocked l.cluster l.channel l.number (64 - l.number) ≡ unclocked l.cluster l.channel 0 64
