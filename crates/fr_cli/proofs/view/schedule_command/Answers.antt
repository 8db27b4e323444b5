use Rattle.std.proofs.Common.{rules, ap₂, false, ◌≡◌, ◌∙◌, ◌||◌}
use Rattle.std.proofs.lemmas.Result.{IfOk-weaker}
use Rattle.clap.specs.Walk.{rule_of}
use Rattle.clap.specs.Words.{with_rule}
use Rattle.clap.specs.declared.builder.command.Command.TheViews.{out-Command}
use Rattle.fr_cli.specs.ViewOrders.{the_cycle}
use Rattle.fr_cli.proofs.view.schedule_command.Goals as goal

pub returns : goal.returns
returns c =
    let cycle_is : rule_of c.long-cycle.result ≡ the_cycle = search rules in
    let file_local : (out-Command c.in_ok-of_file.field-0).has_globals ≡ false = c.in_ok-of_file.ensures.local in
    record {
      app = IfOk-weaker c.arg.result _ _ (λ m h. h.shape (search rules)
          ∙ ap₂ with_rule c.in_ok-of_file.ensures.app cycle_is) c.arg.ensures;
      local = IfOk-weaker c.arg.result _ _ (λ m h. h.globals ∙ ap₂ (λ a b. a || b) file_local (search rules))
          c.arg.ensures;
    }
