use Rattle.std.proofs.Common.{ap, ap₂, codes, ◌≡◌, ◌∙◌}
use Rattle.std.proofs.lemmas.Result.{IfOk-weaker}
use Rattle.clap.specs.Words.{App, app_of, with_subcommand}
use Rattle.fr_cli.specs.ViewOrders.{of_long_run, with_origins, with_reasons}
use Rattle.fr_cli.proofs.view.cause_commands.Goals as goal

pub returns : goal.returns
returns c =
    let top = λ (a : App). a.top in
    let reasons_is : app_of c.in_ok-of_long_run.field-0 ≡ of_long_run (codes "reasons") =
    c.in_ok-of_long_run.ensures.app in
    let origins_is : app_of c.in_ok-of_long_run-2.field-0 ≡ of_long_run (codes "origins") =
    c.in_ok-of_long_run-2.ensures.app in
    let received_is : app_of c.in_ok-of_long_run-3.field-0 ≡ of_long_run (codes "received") =
    c.in_ok-of_long_run-3.ensures.app in
    let first : app_of c.in_ok-first.first ≡ with_reasons =
    c.in_ok-first.ensures.shape c.in_ok-of_long_run.ensures.local
    ∙ ap₂ with_subcommand c.requires (ap top reasons_is) in
    let second : app_of c.in_ok-second.second ≡ with_origins =
    c.in_ok-second.ensures.shape c.in_ok-of_long_run-2.ensures.local
    ∙ ap₂ with_subcommand first (ap top origins_is) in
    IfOk-weaker c.subcommand-3.result _ _
    (λ m h. h.shape c.in_ok-of_long_run-3.ensures.local ∙ ap₂ with_subcommand second (ap top received_is))
    c.subcommand-3.ensures
