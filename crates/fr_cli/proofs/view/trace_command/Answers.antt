use Rattle.std.proofs.Common.{rules, ap, ap₂, codes, ◌≡◌, ◌∙◌}
use Rattle.std.proofs.lemmas.Result.{IfOk-weaker}
use Rattle.clap.specs.Walk.{rule_of}
use Rattle.clap.specs.Words.{app_of, new_app, with_rule}
use Rattle.fr_cli.specs.ViewOrders.{the_node, with_run}
use Rattle.fr_cli.proofs.view.trace_command.Goals as goal

pub returns : goal.returns
returns c =
    let node_is : rule_of c.required-node.result ≡ the_node = search rules in
    let noded : app_of c.in_ok-arg.field-0 ≡ with_rule (new_app (codes "trace")) the_node =
    c.in_ok-arg.ensures.shape (search rules) ∙ ap₂ with_rule c.new-2.ensures.app node_is in
    record {
      app = IfOk-weaker c.of_run.result _ _ (λ m h. h ∙ ap with_run noded) c.of_run.ensures.app;
      local = c.of_run.ensures.local;
    }
