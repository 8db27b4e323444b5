use Rattle.std.proofs.Common.{rules, ap₂, codes, false, ◌≡◌, ◌∙◌, ◌||◌}
use Rattle.std.proofs.lemmas.Result.{IfOk-weaker}
use Rattle.clap.specs.Walk.{rule_of}
use Rattle.clap.specs.Words.{app_of, with_rule}
use Rattle.clap.specs.declared.builder.command.Command.TheViews.{out-Command}
use Rattle.fr_cli.specs.Commands.{with_file}
use Rattle.fr_cli.specs.ViewOrders.{option_named}
use Rattle.fr_cli.proofs.view.latency_command.Goals as goal

pub returns : goal.returns
returns c =
    let slot_is : rule_of c.long-slot.result ≡ option_named (codes "slot") = search rules in
    let channel_is : rule_of c.long-channel.result ≡ option_named (codes "channel") = search rules in
    let file_local : (out-Command c.in_ok-of_file.field-0).has_globals ≡ false = c.in_ok-of_file.ensures.local in
    let first : app_of c.in_ok-arg.field-0 ≡ with_rule (with_file (codes "latency")) (option_named (codes "slot")) =
    c.in_ok-arg.ensures.shape (search rules) ∙ ap₂ with_rule c.in_ok-of_file.ensures.app slot_is in
    let local : (out-Command c.in_ok-arg.field-0).has_globals ≡ false =
    c.in_ok-arg.ensures.globals ∙ ap₂ (λ a b. a || b) file_local (search rules) in
    record {
      app = IfOk-weaker c.arg-2.result _ _ (λ m h. h.shape (search rules) ∙ ap₂ with_rule first channel_is)
          c.arg-2.ensures;
      local = IfOk-weaker c.arg-2.result _ _ (λ m h. h.globals ∙ ap₂ (λ a b. a || b) local (search rules))
          c.arg-2.ensures;
    }
