use Rattle.std.proofs.Common.{◌≡◌, [], None, replicate, refl, subst, sym, ap, ◌∙◌}
use Rattle.std.specs.List.{count_by}
use Rattle.fr_bus.proofs.CountLemmas.{count_none}
use Rattle.fr_bus.proofs.NextLemmas.{next_is}
use Rattle.fr_bus.proofs.RunLemmas.{run_new}
use Rattle.fr_bus.proofs.StandingLemmas.{own_history}
use Rattle.fr_bus.specs.Courses.{course_of, next_of}
use Rattle.fr_bus.specs.declared.error.Phase.TheVariants.{Collect}
use Rattle.fr_bus.specs.Standing.{BusStanding, IsBusHistory, standing_of}
use Rattle.fr_bus.specs.States.{new_bus, idle_station, is_put, is_taken}
use Rattle.fr_slots.specs.Parameters.{Parameters}
use Rattle.fr_bus.proofs.kept.KeptBus.new.Goals as goal

-- the made data
abbrev made : goal.After-next-opened → BusStanding
made c = record {
  cluster = c.in_ok-guardian.guardian;
  cycles = c.args.cycles;
  phase = Collect;
  opened = c.next-opened.result;
  stations = c.in_ok-stations.stations;
  corrupt_a = None;
  corrupt_b = None;
  course = c.new-course.result;
}

history : (c : goal.After-next-opened) → IsBusHistory (made c) (new_bus c.args.cluster.now c.args.cycles)
history c =
    let d = c.args.cluster.now in
    let cycles = c.args.cycles in
    let guardian : c.in_ok-guardian.guardian ≡ d = c.in_ok-guardian.ensures in
    let params : c.params.result.now ≡ d.params = c.params.ensures.value in
    let course : c.new-course.result ≡ course_of d.params cycles [] =
    c.new-course.ensures ∙ ap (λ (p : Parameters). course_of p cycles []) params in
    let opened = c.next-opened.ensures ∙ ap next_of course ∙ next_is d.params cycles [] in
    let count = c.from.ensures ∙ c.nodes.ensures.value in
    let stations = c.in_ok-stations.ensures ∙ ap (λ n. replicate n idle_station) count in
    subst (λ (x : BusStanding). IsBusHistory x (new_bus d cycles))
    (λ i. record (standing_of (new_bus d cycles)) {
      cluster = sym guardian i;
      opened = sym opened i;
      stations = sym stations i;
      course = sym course i;
    })
    (own_history (new_bus d cycles) (run_new d cycles c.nodes.ensures.lawful c.requires.some c.requires.few))

pub invariant_of-result : goal.invariant_of-result
invariant_of-result c = record {
  bus = new_bus c.args.cluster.now c.args.cycles;
  run = history c;
  put_count_is = sym (ap (count_by is_put) c.in_ok-stations.ensures
      ∙ count_none is_put c.from.result idle_station refl);
  taken_count_is = sym (ap (count_by is_taken) c.in_ok-stations.ensures
      ∙ count_none is_taken c.from.result idle_station refl);
}

pub returns-clause-history : goal.returns-clause-history
returns-clause-history c = history c
