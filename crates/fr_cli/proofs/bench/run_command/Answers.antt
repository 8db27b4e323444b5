use Rattle.std.proofs.Common.{rules, ap₂, false, ◌≡◌, ◌∙◌, ◌||◌}
use Rattle.std.proofs.lemmas.Result.{IfOk-weaker}
use Rattle.clap.specs.Walk.{rule_of}
use Rattle.clap.specs.Words.{app_of, with_rule}
use Rattle.clap.specs.declared.builder.command.Command.TheViews.{out-Command}
use Rattle.fr_cli.specs.BenchOrders.{run_files, the_flag}
use Rattle.fr_cli.proofs.bench.run_command.Goals as goal
use Rattle.fr_cli.specs.Commands.{the_cycles, the_scenario}

pub returns : goal.returns
returns c =
    let scenario_is : rule_of c.required-scenario.result ≡ the_scenario = search rules in
    let cycles_is : rule_of c.required-cycles.result ≡ the_cycles = search rules in
    let free_is : rule_of c.action-free.result ≡ the_flag = search rules in
    let files : app_of c.in_ok-files.files ≡ run_files =
    c.in_ok-files.ensures.shape (search rules) ∙ ap₂ with_rule c.in_ok-of_file.ensures.app scenario_is in
    let third : app_of c.in_ok-arg.field-0 ≡ with_rule run_files the_cycles =
    c.in_ok-arg.ensures.shape (search rules) ∙ ap₂ with_rule files cycles_is in
    let first_local : (out-Command c.in_ok-files.files).has_globals ≡ false = search rules in
    let second_local : (out-Command c.in_ok-arg.field-0).has_globals ≡ false = search rules in
    record {
      app = IfOk-weaker c.arg-3.result _ _ (λ m h. h.shape (search rules) ∙ ap₂ with_rule third free_is)
          c.arg-3.ensures;
      local = IfOk-weaker c.arg-3.result _ _ (λ m h. h.globals ∙ ap₂ (λ a b. a || b) second_local (search rules))
          c.arg-3.ensures;
    }
