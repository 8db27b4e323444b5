use Rattle.std.proofs.Common.{◌≡◌, ◌+◌, ◌*◌, ◌<◌, subst, sym, ap, ◌∙◌, arith, List, ◌++◌, Vec, Global}
use Rattle.fr_slots.specs.Parameters.{Parameters, IsParameters}
use Rattle.fr_guardian.specs.Guarding.{IsOpenTo}
use Rattle.fr_guardian.specs.Intervals.{Span, AreMaximalIntervals, run}
use Rattle.fr_guardian.proofs.OpenLemmas.{IsFound, step_open, step_closed, step_last, same_found, open_by_slots}
use Rattle.fr_guardian.proofs.intervals.open_intervals.Goals as goal
use Rattle.fr_guardian.proofs.intervals.open_intervals.Goals.{then-not-is_open_slot+in_ok-add, else-not-is_open_slot}

pub loop-earlier-preserved : goal.loop-earlier-preserved
loop-earlier-preserved c =
    let p = c.args.params.now in
    let lawful = subst IsParameters c.params.view_is c.params.invariant in
    let same = c.params.view_is in
    let size : c.from-static_mt.result ≡ p.static_mt = c.from-static_mt.ensures ∙ ap (λ (x : Parameters). x.static_mt)
    same in
    let slots = ap (λ (x : Parameters). x.static_slots) same in
    let below : c.loop-earlier.earlier < p.static_slots = omega arith in
    let found = c.loop-earlier.invariant in
    let few = lawful.static_slots_fit in
    let here = open_by_slots c.args.owned.now c.args.cycle c.args.channel c.owned_slots-slots.result c.args.guarded
    (c.loop-earlier.earlier + 1) c.owned_slots-slots.ensures (omega (arith, below, few.at_most)) in
    elim c.if-not-is_open_slot.branch [
      | then-not-is_open_slot+in_ok-add w ↦
          let closed = step_closed p lawful c.args.guarded c.args.owned.now c.args.cycle c.args.channel
          c.from-static_mt.result c.loop-earlier.earlier c.loop-earlier.since c.loop-earlier.intervals.items size
          below found (cc) in
          same_found p c.args.guarded c.args.owned.now c.args.cycle c.args.channel _ _ _ _ _
          (w.since-is ∙ ap (λ n. n * c.from-static_mt.result + c.from-static_mt.result) w.from.ensures)
          (ap (λ (v : Vec Span Global). v.items) w.intervals-is ∙ w.in_ok-add.ensures ∙ ap
          (λ n. c.loop-earlier.intervals.items ++ run c.loop-earlier.since (n * c.from-static_mt.result))
          w.from.ensures)
          closed
      | else-not-is_open_slot w ↦
          let opened = step_open p lawful c.args.guarded c.args.owned.now c.args.cycle c.args.channel
          c.from-static_mt.result c.loop-earlier.earlier c.loop-earlier.since c.loop-earlier.intervals.items size
          below found (cc) in
          same_found p c.args.guarded c.args.owned.now c.args.cycle c.args.channel _ _ _ _ _ w.since-is
          (ap (λ (v : Vec Span Global). v.items) w.intervals-is) opened
    ]

pub returns : goal.returns
returns c =
    let p = c.args.params.now in
    let lawful = subst IsParameters c.params.view_is c.params.invariant in
    let same = c.params.view_is in
    let size = c.from-static_mt.ensures ∙ ap (λ (x : Parameters). x.static_mt) same in
    let slots = ap (λ (x : Parameters). x.static_slots) same in
    let all : c.loop-earlier.earlier ≡ c.params.inside.static_slots = omega arith in
    let found = subst (λ n. IsFound p c.args.guarded c.args.owned.now c.args.cycle c.args.channel c.loop-earlier.since
    (n * c.from-static_mt.result) c.loop-earlier.intervals.items) all c.loop-earlier.invariant in
    let end = c.segments_of.ensures.symbol in
    subst (λ (xs : List Span). AreMaximalIntervals (IsOpenTo p c.args.guarded c.args.owned.now c.args.cycle
    c.args.channel) xs) (sym c.in_ok-add-2.ensures)
    (step_last p lawful c.args.guarded c.args.owned.now c.args.cycle c.args.channel c.from-static_mt.result
    c.params.inside.static_slots c.loop-earlier.since _ c.loop-earlier.intervals.items size slots end found)
