use Rattle.std.proofs.Common.{◌∙◌, sym, ap}
use Rattle.std.specs.List.{range_with_len}
use Rattle.std.specs.Prelude.{count_by}
use Rattle.fr_runs.specs.Cycles.{names_cycle}
use Rattle.fr_scenario.proofs.RunLemmas.{count_every, count_only}
use Rattle.fr_scenario.proofs.run_contents.cycles_named.Goals as goal

pub returns-in-Every : goal.returns-in-Every
returns-in-Every c =
    c.from.ensures ∙ count_every c.args.cycles
    ∙ ap (λ named. count_by (names_cycle named) (range_with_len 0 c.args.cycles)) (sym c.in-Every.is)

pub returns-in-Only : goal.returns-in-Only
returns-in-Only c =
    c.from-in-Only.ensures ∙ count_only c.in-Only.cycle c.args.cycles
    ∙ ap (λ named. count_by (names_cycle named) (range_with_len 0 c.args.cycles)) (sym c.in-Only.is)
