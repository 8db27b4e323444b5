-- What the words of a command ask for, and the exit status of each end (project-defined).
use Rattle.std.specs.Prelude.{ℕ, Bool, true, false, Result, Ok, Err}
use Rattle.fr_cli.specs.declared.monitor.MonitorCommand.{MonitorCommand}
use Rattle.fr_judging.specs.declared.rules.Rules.{Rules}
use Rattle.fr_judging.specs.Rules.{rules_of}
use Rattle.fr_monitor.specs.declared.failure.MonitorFailure.{MonitorFailure}
use Rattle.fr_monitor.specs.Failures.{status_of}
use Rattle.fr_schedule.specs.Descriptions.{Description}

-- the rules of a judgement by the cluster, with the command's options
abbrev pub rules_asked : Description → MonitorCommand → Rules
rules_asked d c = rules_of d c.findings c.whole c.channel c.macrotick

-- 0 without a finding, 3 with one, and otherwise the failure's
abbrev pub end_status : Result Bool MonitorFailure → ℕ
end_status (Ok false) = 0
end_status (Ok true) = 3
end_status (Err failure) = status_of failure
