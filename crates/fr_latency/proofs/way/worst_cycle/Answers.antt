use Rattle.std.proofs.Common.{◌≡◌, ◌<◌, ◌≤◌, sym, ap, ◌∙◌, arith}
use Rattle.std.proofs.lemmas.Bool.{cond-true, cond-false, lt-ltb, le-ltb}
use Rattle.fr_latency.specs.Marks.{place_of_most, start_in}
use Rattle.fr_latency.proofs.WayLemmas.{place_none, place_more}
use Rattle.fr_latency.proofs.way.worst_cycle.Goals as goal
use Rattle.fr_latency.proofs.way.worst_cycle.Goals.{then-most-start, else-most-start}

pub loop-number-init : goal.loop-number-init
loop-number-init c =
    let value = start_in c.args.cluster.now c.args.slot c.args.channel c.args.count in
    record {
      place = sym (place_none value);
      latest = c.start_in-most.ensures ∙ ap value c.from_bits.ensures;
      few = omega arith;
    }

pub loop-number-preserved : goal.loop-number-preserved
loop-number-preserved c =
    let value = start_in c.args.cluster.now c.args.slot c.args.channel c.args.count in
    let number = c.loop-number.number in
    let place = place_of_most value number in
    let here : c.start_in-start.result ≡ value number =
    c.start_in-start.ensures ∙ ap value c.from_bits-in-loop-number.ensures in
    let so_far : c.loop-number.worst ≡ place = c.loop-number.invariant.place in
    let most : c.loop-number.most ≡ value place = c.loop-number.invariant.latest ∙ ap value so_far in
    let more = place_more value number in
    elim c.if-most-start.branch [
      | then-most-start w ↦
          let later : value place < value number = omega (arith, w.if-most-start.true, here, most) in
          record {
            place = w.worst-is ∙ sym (more ∙ cond-true _ number place (lt-ltb (value place) (value number) later));
            latest = w.most-is ∙ here ∙ ap value (sym w.worst-is);
            few = omega (arith, w.worst-is);
          }
      | else-most-start w ↦
          let sooner : value number ≤ value place = omega (arith, w.if-most-start.false, here, most) in
          record {
            place = w.worst-is ∙ so_far
                ∙ sym (more ∙ cond-false _ number place (le-ltb (value place) (value number) sooner));
            latest = w.most-is ∙ c.loop-number.invariant.latest ∙ ap value (sym w.worst-is);
            few = omega (arith, w.worst-is, c.loop-number.invariant.few);
          }
    ]
