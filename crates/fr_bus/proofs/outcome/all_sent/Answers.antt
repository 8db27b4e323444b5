use Rattle.std.proofs.Common.{◌<◌, ◌+◌, ◌++◌, List, drop, length, sym, ap, append_assoc, ◌∙◌, arith}
use Rattle.fr_bus.proofs.StationLemmas.{sent_more}
use Rattle.fr_bus.specs.declared.outcome.Sent.{Sent}
use Rattle.fr_bus.specs.Outcome.{sent_from, sent_of}
use Rattle.fr_bus.specs.States.{idle_station}
use Rattle.std.specs.Prelude.{slice_index_or}
use Rattle.fr_bus.proofs.outcome.all_sent.Goals as goal

pub loop-number-preserved : goal.loop-number-preserved
loop-number-preserved c =
    let d = c.args.guardian.now in
    let w = c.args.window.now in
    let n = c.loop-number.number in
    let before = c.loop-number.list.items in
    let within : n < length c.args.stations.now = omega (arith, c.loop-number-test.true, c.len-number-end.ensures.value)
    in
    let rest = sent_from d w (n + 1) (drop (n + 1) c.args.stations.now) in
    ap (λ (xs : List Sent). xs ++ rest) c.in_ok-add_station.ensures
    ∙ ap (λ m. (before ++ sent_of d w m (slice_index_or c.args.stations.now m idle_station)) ++ rest)
    c.from_number-node.ensures
    ∙ append_assoc before (sent_of d w n (slice_index_or c.args.stations.now n idle_station)) rest
    ∙ ap (λ (xs : List Sent). before ++ xs) (sym (sent_more d w n n c.args.stations.now within))
    ∙ c.loop-number.invariant
