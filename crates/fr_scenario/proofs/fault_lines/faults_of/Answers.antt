use Rattle.std.proofs.Common.{◌≡◌, ◌<◌, ◌∙◌, [], None, ap, length, rules, sym}
use Rattle.fr_scenario.proofs.StatementLemmas.{many_words}
use Rattle.fr_scenario.specs.BlankWords.{blank_words}
use Rattle.fr_scenario.specs.FaultLines.{faults_said}
use Rattle.fr_scenario.proofs.fault_lines.faults_of.Goals as goal

pub returns-in_err-words : goal.returns-in_err-words
returns-in_err-words c =
    let line = c.args.line.now in
    let many : 6 < length (blank_words line) = search rules in
    let gone : c.from_residual.result ≡ None = search rules in
    gone ∙ sym (ap faults_said (many_words [] (blank_words line) many))
