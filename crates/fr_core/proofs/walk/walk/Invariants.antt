use Rattle.fr_core.specs.Walks.{AreFetches, AreObserves, AreCourses}
use Rattle.fr_core.proofs.walk.walk.Given as goal

-- the findings of the entries so far
abbrev pub invariant-loop-number : goal.invariant-loop-number
invariant-loop-number l = record {
  fetches : AreFetches l.interface l.node l.recorded l.number l.fetches;
  observes : AreObserves l.params l.interface l.node l.recorded l.number l.observes;
  courses : AreCourses l.interface l.scripts l.node l.number l.courses;
}
