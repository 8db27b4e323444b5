use Rattle.std.proofs.Common.{ap, ap₂, codes, ◌≡◌, ◌∙◌}
use Rattle.std.proofs.lemmas.Result.{IfOk-weaker}
use Rattle.clap.specs.Words.{App, app_of, with_subcommand}
use Rattle.fr_cli.specs.ViewOrders.{of_long_run, with_answers, with_commits, with_outcome, with_record}
use Rattle.fr_cli.proofs.view.line_commands.Goals as goal

pub returns : goal.returns
returns c =
    let top = λ (a : App). a.top in
    let outcome_is : app_of c.in_ok-of_long_run.field-0 ≡ of_long_run (codes "outcome") =
    c.in_ok-of_long_run.ensures.app in
    let answers_is : app_of c.in_ok-of_long_run-2.field-0 ≡ of_long_run (codes "answers") =
    c.in_ok-of_long_run-2.ensures.app in
    let commits_is : app_of c.in_ok-of_long_run-3.field-0 ≡ of_long_run (codes "commits") =
    c.in_ok-of_long_run-3.ensures.app in
    let record_is : app_of c.in_ok-of_long_run-4.field-0 ≡ of_long_run (codes "record") =
    c.in_ok-of_long_run-4.ensures.app in
    let windows_is : app_of c.in_ok-of_long_run-5.field-0 ≡ of_long_run (codes "windows") =
    c.in_ok-of_long_run-5.ensures.app in
    let first : app_of c.in_ok-first.first ≡ with_outcome =
    c.in_ok-first.ensures.shape c.in_ok-of_long_run.ensures.local
    ∙ ap₂ with_subcommand c.requires (ap top outcome_is) in
    let second : app_of c.in_ok-second.second ≡ with_answers =
    c.in_ok-second.ensures.shape c.in_ok-of_long_run-2.ensures.local ∙ ap₂ with_subcommand first (ap top answers_is) in
    let third : app_of c.in_ok-third.third ≡ with_commits =
    c.in_ok-third.ensures.shape c.in_ok-of_long_run-3.ensures.local ∙ ap₂ with_subcommand second (ap top commits_is) in
    let fourth : app_of c.in_ok-fourth.fourth ≡ with_record =
    c.in_ok-fourth.ensures.shape c.in_ok-of_long_run-4.ensures.local ∙ ap₂ with_subcommand third (ap top record_is) in
    IfOk-weaker c.subcommand-5.result _ _
    (λ m h. h.shape c.in_ok-of_long_run-5.ensures.local ∙ ap₂ with_subcommand fourth (ap top windows_is))
    c.subcommand-5.ensures
