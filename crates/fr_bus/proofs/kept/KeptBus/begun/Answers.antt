use Rattle.std.proofs.Common.{◌≡◌, ◌≤◌, arith, sym, subst}
use Rattle.fr_bus.proofs.StandingLemmas.{course_cycles}
use Rattle.fr_bus.specs.KeptFields.{standing_in}
use Rattle.fr_bus.specs.Standing.{BusStanding}
use Rattle.fr_bus.proofs.kept.KeptBus.begun.Goals as goal

pub returns-clause-few : goal.returns-clause-few
returns-clause-few c =
    let h = standing_in c.self.inside in
    let same : h.course.cycles ≡ h.cycles = course_cycles h c.self.invariant.bus c.self.invariant.run in
    let few : h.course.begun ≤ h.course.cycles =
    subst (λ (x : BusStanding). x.course.begun ≤ x.course.cycles) (sym c.self.view_is) c.known.ensures.begun_fit in
    subst (λ (x : BusStanding). c.begun.result ≤ x.cycles) c.self.view_is (omega (arith, same, few, c.begun.ensures))
