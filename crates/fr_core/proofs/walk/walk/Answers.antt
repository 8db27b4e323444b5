use Rattle.std.proofs.Common.{◌≡◌, ap, length, option_map, sym, subst, ◌∙◌, arith}
use Rattle.fr_bus.specs.Record.{Recorded}
use Rattle.fr_core.proofs.ScriptLemmas.{courses_first, whole_at, task_found}
use Rattle.fr_core.proofs.WalkLemmas.{none_past, fetches_first, fetches_on, observes_first, observes_on, finds_rest}
use Rattle.fr_core.proofs.WalkLemmas.{windows_told}
use Rattle.fr_core.specs.Agreeing.{handed_at, sight_at, offers_of, sights_of}
use Rattle.fr_core.specs.Scripts.{calls_of}
use Rattle.fr_core.specs.Settling.{fetches_at, observes_at}
use Rattle.fr_core.specs.Walks.{AreCourses}
use Rattle.fr_journal.specs.Lent.{whole}
use Rattle.fr_core.proofs.walk.walk.Goals as goal

pub loop-number-init : goal.loop-number-init
loop-number-init c = record {
  fetches = fetches_first c.args.interface.now c.args.node c.args.recorded.now;
  observes = observes_first c.args.params.now c.args.interface.now c.args.node c.args.recorded.now;
  courses = subst (AreCourses c.args.interface.now c.args.scripts.now c.args.node 0) (sym c.new_courses-courses.ensures)
      (courses_first c.args.interface.now c.args.scripts.now c.args.node);
}

pub unreachable-requires : goal.unreachable-requires
unreachable-requires c =
    none_past c.args.interface.now.entries c.loop-number.number
    (omega (arith, c.loop-number-test.true, c.entries_of-number-end.ensures.value))
    (sym c.entry_at.ensures.entry ∙ ap (option_map whole) c.in_default.is)

pub loop-number-preserved : goal.loop-number-preserved
loop-number-preserved c =
    let at = sym c.entry_at.ensures.entry ∙ ap (option_map whole) c.in-Some.is in
    record {
      fetches = fetches_on c.args.interface.now c.args.node c.args.recorded.now c.loop-number.number
          c.loop-number.fetches c.loop-number.invariant.fetches
          (whole c.in-Some.entry) c.fetches_past-fetches.result at c.fetches_past-fetches.ensures;
      observes = observes_on c.args.params.now c.args.interface.now c.args.node c.args.recorded.now c.loop-number.number
          c.loop-number.observes
          (whole c.in-Some.entry) c.observes_past-observes.result c.loop-number.invariant.observes at
          c.observes_past-observes.ensures;
      courses = c.courses_past.ensures;
    }

pub returns : goal.returns
returns c =
    let s = c.args.interface.now in
    let rs = c.args.recorded.now in
    let n = c.args.node in
    let k = c.loop-number.number in
    let end : k ≡ length s.entries = omega (
      arith,
      c.loop-number.auto.number-end,
      c.loop-number-test.false,
      c.entries_of-number-end.ensures.value,
    ) in
    let fetches = c.loop-number.invariant.fetches in
    let observes = c.loop-number.invariant.observes in
    record {
      windows = windows_told rs s c.or_rest-fetch.result c.or_rest-observe.result c.are_none.result c.are_none.ensures
          (finds_rest fetches_at s.entries (λ (r : Recorded). r.window) rs k c.loop-number.fetches.count
          c.loop-number.fetches.window c.or_rest-fetch.result end fetches.windows c.or_rest-fetch.ensures)
          (finds_rest observes_at s.entries (λ (r : Recorded). r.window) rs k c.loop-number.observes.count
          c.loop-number.observes.window c.or_rest-observe.result end observes.windows c.or_rest-observe.ensures);
      offers = finds_rest (handed_at s.params s.plan) s.entries
          (offers_of n) rs k c.loop-number.fetches.count c.loop-number.fetches.offer c.or_rest.result end fetches.offers
          c.or_rest.ensures;
      sights = finds_rest sight_at s.entries (sights_of c.args.params.now n) rs k c.loop-number.observes.count
          c.loop-number.observes.sight c.or_rest-2.result end observes.sights c.or_rest-2.ensures;
      scripts = task_found c.args.scripts.now n (calls_of s) c.loop-number.courses c.other_task.result
          c.loop-number.invariant.courses.as_many
          (whole_at s c.args.scripts.now n k c.loop-number.courses end c.loop-number.invariant.courses)
          c.other_task.ensures;
    }
