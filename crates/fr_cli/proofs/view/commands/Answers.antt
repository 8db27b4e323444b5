use Rattle.std.proofs.Common.{rules, ap, ap₂, codes, ◌≡◌, ◌∙◌}
use Rattle.std.proofs.lemmas.Result.{IfOk-weaker}
use Rattle.clap.specs.Words.{App, app_of, with_subcommand}
use Rattle.fr_cli.specs.ViewOrders.{matrix_command, of_long_run, trace_command, with_bus, with_matrix}
use Rattle.fr_cli.proofs.view.commands.Goals as goal

pub returns : goal.returns
returns c =
    let top = λ (a : App). a.top in
    let bus_is : app_of c.in_ok-of_long_run.field-0 ≡ of_long_run (codes "bus") = c.in_ok-of_long_run.ensures.app in
    let matrix_is : app_of c.in_ok-matrix_command.field-0 ≡ matrix_command = c.in_ok-matrix_command.ensures.app in
    let trace_is : app_of c.in_ok-trace_command.field-0 ≡ trace_command = c.in_ok-trace_command.ensures.app in
    let heard : app_of c.in_ok-heard.heard ≡ with_bus =
    c.in_ok-heard.ensures.shape (search rules) ∙ ap₂ with_subcommand c.in_ok-causes.ensures (ap top bus_is) in
    let drawn : app_of c.in_ok-drawn.drawn ≡ with_matrix =
    c.in_ok-drawn.ensures.shape (search rules) ∙ ap₂ with_subcommand heard (ap top matrix_is) in
    IfOk-weaker c.subcommand-3.result _ _ (λ m h. h.shape (search rules) ∙ ap₂ with_subcommand drawn (ap top trace_is))
    c.subcommand-3.ensures
