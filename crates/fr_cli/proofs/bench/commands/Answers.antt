use Rattle.std.proofs.Common.{rules, ap, ap₂, codes, ◌≡◌, ◌∙◌}
use Rattle.std.proofs.lemmas.Result.{IfOk-weaker}
use Rattle.clap.specs.Words.{App, app_of, with_subcommand}
use Rattle.fr_cli.specs.BenchOrders.{four_commands, run_command, two_commands, three_commands}
use Rattle.fr_cli.proofs.bench.commands.Goals as goal
use Rattle.fr_cli.specs.Commands.{bare, named, with_file}

pub returns : goal.returns
returns c =
    let top = λ (a : App). a.top in
    let first : app_of c.in_ok-first.first ≡ with_subcommand (bare (codes "fr_bench")) (named (codes "audit")) =
    c.in_ok-first.ensures.shape (search rules) ∙ ap₂ with_subcommand c.program.ensures (ap top c.new.ensures.app) in
    let check_is : app_of c.in_ok-of_file.field-0 ≡ with_file (codes "check") = search rules in
    let second : app_of c.in_ok-second.second ≡ two_commands =
    c.in_ok-second.ensures.shape (search rules) ∙ ap₂ with_subcommand first (ap top check_is) in
    let plan_is : app_of c.in_ok-of_file-2.field-0 ≡ with_file (codes "plan") = search rules in
    let third : app_of c.in_ok-third.third ≡ three_commands =
    c.in_ok-third.ensures.shape (search rules) ∙ ap₂ with_subcommand second (ap top plan_is) in
    let fourth : app_of c.in_ok-fourth.fourth ≡ four_commands =
    c.in_ok-fourth.ensures.shape (search rules) ∙ ap₂ with_subcommand third (ap top c.new-2.ensures.app) in
    let run_is : app_of c.in_ok-run_command.field-0 ≡ run_command = search rules in
    IfOk-weaker c.subcommand-5.result _ _ (λ m h. h.shape (search rules) ∙ ap₂ with_subcommand fourth (ap top run_is))
    c.subcommand-5.ensures
