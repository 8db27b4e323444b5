use Rattle.std.proofs.Common.{rules, ap, ap₂, codes, false, ◌≡◌, ◌∙◌}
use Rattle.std.proofs.lemmas.Result.{IfOk-weaker}
use Rattle.clap.specs.Walk.{rule_of}
use Rattle.clap.specs.Words.{app_of, new_app, with_rule}
use Rattle.clap.specs.declared.builder.command.Command.TheViews.{out-Command}
use Rattle.fr_cli.specs.ViewOrders.{matrix_drawn, option_named, with_run}
use Rattle.fr_cli.proofs.view.matrix_command.Goals as goal

pub returns : goal.returns
returns c =
    let channel_is : rule_of c.long-channel.result ≡ option_named (codes "channel") = search rules in
    let node_is : rule_of c.long-node.result ≡ option_named (codes "node") = search rules in
    let from_is : rule_of c.long-from.result ≡ option_named (codes "from") = search rules in
    let window_is : rule_of c.long-from_window.result ≡ option_named (codes "from-window") = search rules in
    let first : app_of c.in_ok-arg.field-0 ≡ with_rule (new_app (codes "matrix")) (option_named (codes "channel")) =
    c.in_ok-arg.ensures.shape (search rules) ∙ ap₂ with_rule c.new-5.ensures.app channel_is in
    let second : app_of c.in_ok-arg-2.field-0
    ≡ with_rule (with_rule (new_app (codes "matrix")) (option_named (codes "channel"))) (option_named (codes "node")) =
    c.in_ok-arg-2.ensures.shape (search rules) ∙ ap₂ with_rule first node_is in
    let third : app_of c.in_ok-arg-3.field-0 ≡ with_rule (with_rule (with_rule (new_app (codes "matrix"))
    (option_named (codes "channel"))) (option_named (codes "node"))) (option_named (codes "from")) =
    c.in_ok-arg-3.ensures.shape (search rules) ∙ ap₂ with_rule second from_is in
    let local : (out-Command c.in_ok-arg-3.field-0).has_globals ≡ false = search rules in
    let drawn : app_of c.in_ok-drawn.drawn ≡ matrix_drawn = c.in_ok-drawn.ensures.shape (search rules) ∙ ap₂ with_rule
    third window_is in
    record {
      app = IfOk-weaker c.of_run.result _ _ (λ m h. h ∙ ap with_run drawn) c.of_run.ensures.app;
      local = c.of_run.ensures.local;
    }
