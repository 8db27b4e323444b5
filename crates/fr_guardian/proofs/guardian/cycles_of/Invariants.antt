use Rattle.std.proofs.Common.{◌≡◌, ◌≤◌, take, map}
use Rattle.fr_schedule.specs.FileFaults.{all_owned}
use Rattle.fr_guardian.specs.Periods.{period}
use Rattle.fr_guardian.proofs.PostLemmas.{plan_of}
use Rattle.fr_guardian.proofs.guardian.cycles_of.Given as goal

-- the greatest repetition of the posts so far
abbrev pub invariant-loop-post : goal.invariant-loop-post
invariant-loop-post l = record {
  most : l.most ≡ period (all_owned (map plan_of (take l.post-index l.posts)));
  few : l.most ≤ 64;
}
