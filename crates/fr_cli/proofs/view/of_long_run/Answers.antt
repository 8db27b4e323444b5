use Rattle.std.proofs.Common.{rules, ap, ap₂, false, ◌≡◌, ◌∙◌, ◌||◌}
use Rattle.std.proofs.lemmas.Result.{IfOk-weaker}
use Rattle.clap.specs.Words.{app_of, with_rule}
use Rattle.clap.specs.declared.builder.command.Command.TheViews.{out-Command}
use Rattle.fr_cli.specs.ViewOrders.{of_run, with_run}
use Rattle.fr_cli.proofs.view.of_long_run.Goals as goal

pub returns : goal.returns
returns c =
    let run_is : app_of c.in_ok-of_run.field-0 ≡ of_run c.args.name.now =
    c.in_ok-of_run.ensures.app ∙ ap with_run c.new.ensures.app in
    let local : (out-Command c.in_ok-of_run.field-0).has_globals ≡ false = c.in_ok-of_run.ensures.local in
    record {
      app = IfOk-weaker c.arg.result _ _ (λ m h. h.shape (search rules) ∙ ap₂ with_rule run_is
          c.flag-endless.ensures.rule) c.arg.ensures;
      local = IfOk-weaker c.arg.result _ _ (λ m h. h.globals ∙ ap₂ (λ a b. a || b) local (search rules))
          c.arg.ensures;
    }
