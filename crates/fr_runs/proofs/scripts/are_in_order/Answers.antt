use Rattle.std.proofs.Common.{rules}
use Rattle.std.proofs.lemmas.List.Sorted.{answers_always}
use Rattle.fr_core.specs.declared.script.Line.{Line}
use Rattle.fr_runs.proofs.OrderLemmas.{in_order_told}
use Rattle.fr_runs.proofs.scripts.are_in_order.Goals as goal

pub returns : goal.returns
returns c =
    in_order_told c.args.lines.now c.is_sorted_by_key.result
    (c.is_sorted_by_key.ensures.cases (λ (line : Line). line.cycle) (answers_always _ _ _ (λ f a r q k. search rules)))
