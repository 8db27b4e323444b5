use Rattle.std.proofs.Common.{◌∙◌, length, map, sym, ap, arith}
use Rattle.std.proofs.lemmas.List.{length-map}
use Rattle.fr_runs.specs.Cycles.{names_cycle}
use Rattle.fr_scenario.proofs.RunCallLemmas.{adding_begun, skip_more, add_more}
use Rattle.fr_scenario.proofs.run_calls.add_to_named.Goals.{then-names+in_ok-add_place, else-names}
use Rattle.fr_scenario.proofs.run_calls.add_to_named.Goals as goal

pub loop-cycle-init : goal.loop-cycle-init
loop-cycle-init c = record {
  len = omega (arith, c.requires, c.args.places.now.ok.0);
  adding = adding_begun c.args.named c.args.place (map (λ made. made.items) c.args.places.now.items);
}

pub loop-cycle-preserved : goal.loop-cycle-preserved
loop-cycle-preserved c =
    let named = c.args.named in
    let place = c.args.place in
    let cycle = c.loop-cycle.cycle in
    let old = map (λ made. made.items) c.args.places.now.items in
    let now = map (λ made. made.items) c.loop-cycle.places.items in
    let len = c.loop-cycle.invariant.len in
    let many = length-map c.loop-cycle.places.items (λ made. made.items) in
    let there = ap (names_cycle named) (sym c.from.ensures) in
    elim c.if-names.branch [
      | then-names+in_ok-add_place w ↦ record {
        len = ap (λ v. length v.items) w.places-is
            ∙ omega (arith, w.add_place.ensures.len, w.add_place.new.places.ok.0, c.loop-cycle.places.ok.0, len);
        adding = add_more named place old now cycle (map (λ made. made.items) c.if-names.places.items)
            (there ∙ sym c.names.ensures ∙ w.if-names.true) (omega (arith, len, many, c.loop-cycle-test.true))
            (ap (λ v. map (λ made. made.items) v.items) w.places-is ∙ w.in_ok-add_place.ensures.places)
            c.loop-cycle.invariant.adding;
      }
      | else-names w ↦ record {
        len = ap (λ v. length v.items) w.places-is ∙ len;
        adding = rw w.places-is (skip_more named place old now cycle (there ∙ sym c.names.ensures ∙ w.if-names.false)
            c.loop-cycle.invariant.adding);
      }
    ]

pub returns-clause-places : goal.returns-clause-places
returns-clause-places c =
    let over = c.loop-cycle-test.false in
    λ cycle less. c.loop-cycle.invariant.adding.done cycle (omega (arith, over, less))
