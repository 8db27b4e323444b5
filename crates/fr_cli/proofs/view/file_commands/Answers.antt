use Rattle.std.proofs.Common.{rules, ap, ap₂, codes, ◌≡◌, ◌∙◌}
use Rattle.std.proofs.lemmas.Result.{IfOk-weaker}
use Rattle.clap.specs.Words.{App, app_of, with_subcommand}
use Rattle.fr_cli.specs.Commands.{with_file}
use Rattle.fr_cli.specs.ViewOrders.{five_commands, four_commands, latency_command, of_trace, one_command}
use Rattle.fr_cli.specs.ViewOrders.{schedule_command, six_commands, three_commands, two_commands}
use Rattle.fr_cli.proofs.view.file_commands.Goals as goal

pub returns : goal.returns
returns c =
    let top = λ (a : App). a.top in
    let capture_is : app_of c.in_ok-of_trace.field-0 ≡ of_trace (codes "capture") (codes "own") =
    c.in_ok-of_trace.ensures.app in
    let frames_is : app_of c.in_ok-of_trace-2.field-0 ≡ of_trace (codes "frames") (codes "all") =
    c.in_ok-of_trace-2.ensures.app in
    let first : app_of c.in_ok-first.first ≡ one_command =
    c.in_ok-first.ensures.shape c.in_ok-of_trace.ensures.local
    ∙ ap₂ with_subcommand c.program.ensures (ap top capture_is) in
    let second : app_of c.in_ok-second.second ≡ two_commands =
    c.in_ok-second.ensures.shape c.in_ok-of_trace-2.ensures.local ∙ ap₂ with_subcommand first (ap top frames_is) in
    let third : app_of c.in_ok-third.third ≡ three_commands =
    c.in_ok-third.ensures.shape (search rules) ∙ ap₂ with_subcommand second (ap top c.new.ensures.app) in
    let schedule_is : app_of c.in_ok-schedule_command.field-0 ≡ schedule_command =
    c.in_ok-schedule_command.ensures.app in
    let latency_is : app_of c.in_ok-latency_command.field-0 ≡ latency_command = c.in_ok-latency_command.ensures.app in
    let fourth : app_of c.in_ok-fourth.fourth ≡ four_commands =
    c.in_ok-fourth.ensures.shape c.in_ok-schedule_command.ensures.local
    ∙ ap₂ with_subcommand third (ap top schedule_is) in
    let fifth : app_of c.in_ok-fifth.fifth ≡ five_commands =
    c.in_ok-fifth.ensures.shape c.in_ok-latency_command.ensures.local
    ∙ ap₂ with_subcommand fourth (ap top latency_is) in
    let links_is : app_of c.in_ok-of_file.field-0 ≡ with_file (codes "links") = c.in_ok-of_file.ensures.app in
    let sixth : app_of c.in_ok-sixth.sixth ≡ six_commands =
    c.in_ok-sixth.ensures.shape c.in_ok-of_file.ensures.local ∙ ap₂ with_subcommand fifth (ap top links_is) in
    IfOk-weaker c.subcommand-7.result _ _
    (λ m h. h.shape (search rules) ∙ ap₂ with_subcommand sixth (ap top c.new-2.ensures.app))
    c.subcommand-7.ensures
