use Rattle.std.proofs.Common.{◌≡◌, ◌∙◌, ℕ, ◌+◌, ◌≤◌, true, length, take, Some, sym, ap, arith}
use Rattle.std.specs.Prelude.{slice_get}
use Rattle.fr_journal.specs.Cycles.{begins_cycle_at}
use Rattle.fr_expecting.proofs.PlaceLemmas.{lent_there}
use Rattle.fr_expecting.proofs.ThroughLemmas.{begun_in, through_all, through_next}
use Rattle.fr_journal.specs.Lent.{whole}
use Rattle.fr_expecting.proofs.walk.go_to_end.Goals as goal

pub returns-then-place-from-clause-end : goal.returns-then-place-from-clause-end
returns-then-place-from-clause-end c =
    let es = c.args.interface.now.entries in
    let n : ℕ = c.loop-number.place.next in
    let e = whole c.in-Some.entry in
    let here : slice_get es n ≡ Some e =
    ap (slice_get es) c.loop-number.invariant.here
    ∙ lent_there es c.journal-journal.result.now.entries c.loop-number.number c.lent.result c.in-Some.entry
    c.journal-journal.ensures.entries c.lent.ensures.entry c.in-Some.is in
    let begins : begins_cycle_at e ≡ true = sym c.begins_cycle.ensures ∙ c.if-begins_cycle.true in
    let count : begun_in (take n es) ≡ c.args.cycle + 1 =
    omega (
      arith,
      c.loop-number.invariant.place_is.begun_is,
      c.loop-number.invariant.before,
      c.from.ensures,
      c.if-place-from.true,
    ) in
    through_next (c.args.cycle + 1) n e es here begins count

pub returns-clause-end : goal.returns-clause-end
returns-clause-end c =
    let es = c.args.interface.now.entries in
    let n : ℕ = c.loop-number.place.next in
    let few : begun_in (take n es) ≤ c.args.cycle + 1 =
    omega (arith, c.loop-number.invariant.place_is.begun_is, c.loop-number.invariant.before) in
    let behind : length es ≤ n =
    omega (
      arith,
      ap (length {A = _}) c.journal-journal.ensures.entries,
      c.len-number-end.ensures.value,
      c.loop-number-test.false,
      c.loop-number.invariant.here,
    ) in
    through_all (c.args.cycle + 1) n es few behind
