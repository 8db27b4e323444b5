use Rattle.std.proofs.Common.{rules, ap₂, codes, false, ◌≡◌, ◌∙◌, ◌||◌}
use Rattle.std.proofs.lemmas.Result.{IfOk-weaker}
use Rattle.clap.specs.Words.{app_of, new_app, with_rule}
use Rattle.clap.specs.declared.builder.command.Command.TheViews.{out-Command}
use Rattle.fr_cli.specs.ViewOrders.{flag_named}
use Rattle.fr_cli.proofs.view.of_trace.Goals as goal

pub returns : goal.returns
returns c =
    let first : app_of c.in_ok-arg.field-0 ≡ with_rule (new_app c.args.name.now) (flag_named (codes "until-fault")) =
    c.in_ok-arg.ensures.shape (search rules) ∙ ap₂ with_rule c.new.ensures.app c.flag-until_fault.ensures.rule in
    let fresh : (out-Command c.new.result).has_globals ≡ false = search rules in
    let local : (out-Command c.in_ok-arg.field-0).has_globals ≡ false =
    c.in_ok-arg.ensures.globals ∙ ap₂ (λ a b. a || b) fresh c.flag-until_fault.ensures.local in
    record {
      app = IfOk-weaker c.arg-2.result _ _ (λ m h. h.shape (search rules)
          ∙ ap₂ with_rule first c.flag-more.ensures.rule) c.arg-2.ensures;
      local = IfOk-weaker c.arg-2.result _ _ (λ m h. h.globals ∙ ap₂ (λ a b. a || b) local c.flag-more.ensures.local)
          c.arg-2.ensures;
    }
