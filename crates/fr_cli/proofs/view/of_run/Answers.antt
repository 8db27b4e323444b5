use Rattle.std.proofs.Common.{rules, ap, ap₂, false, ◌≡◌, ◌∙◌, ◌||◌}
use Rattle.std.proofs.lemmas.Result.{IfOk-weaker}
use Rattle.clap.specs.Walk.{rule_of}
use Rattle.clap.specs.Words.{app_of, with_rule}
use Rattle.clap.specs.declared.builder.command.Command.TheViews.{out-Command}
use Rattle.fr_cli.proofs.view.of_run.Goals as goal
use Rattle.fr_cli.specs.Commands.{the_cycles, the_file, the_scenario}

pub returns : goal.returns
returns c =
    let file_is : rule_of c.required-file.result ≡ the_file = search rules in
    let scenario_is : rule_of c.required-scenario.result ≡ the_scenario = search rules in
    let cycles_is : rule_of c.required-cycles.result ≡ the_cycles = search rules in
    let first : app_of c.in_ok-arg.field-0 ≡ with_rule (app_of c.args.command) the_file =
    c.in_ok-arg.ensures.shape (search rules) ∙ ap (λ r. with_rule (app_of c.args.command) r) file_is in
    let second : app_of c.in_ok-arg-2.field-0 ≡ with_rule (with_rule (app_of c.args.command) the_file) the_scenario =
    c.in_ok-arg-2.ensures.shape (search rules) ∙ ap₂ with_rule first scenario_is in
    let local : (out-Command c.in_ok-arg-2.field-0).has_globals ≡ false = search rules in
    record {
      app = IfOk-weaker c.arg-3.result _ _ (λ m h. h.shape (search rules) ∙ ap₂ with_rule second cycles_is)
          c.arg-3.ensures;
      local = IfOk-weaker c.arg-3.result _ _ (λ m h. h.globals ∙ ap₂ (λ a b. a || b) local (search rules))
          c.arg-3.ensures;
    }
