use Rattle.std.specs.Io.KnownBytes.{Appends}
use Rattle.std.specs.List.{flat_map, range_with_len}
use Rattle.fr_showing.specs.CommitText.{commit_line, commits_in}
use Rattle.fr_showing.proofs.commits.write_commits.Given as goal

-- the lines of the nodes so far
abbrev pub invariant-loop-node : goal.invariant-loop-node
invariant-loop-node g l =
    Appends (g.W.Write.contents l.fn.writer) (g.W.Write.contents l.writer)
    (flat_map (commit_line l.world) (flat_map (commits_in l.world) (range_with_len 0 l.node)))
