use Rattle.std.proofs.Common.{◌≡◌, ◌≤◌, List, ℕ, length, subst}
use Rattle.fr_files.proofs.InputLemmas.{for_text}
use Rattle.fr_outcome.proofs.FileLemmas.{read_in}
use Rattle.fr_outcome.specs.ScenarioFiles.{IsScenarioIn}
use Rattle.fr_outcome.proofs.scenario_file.scenario_of.Goals as goal

pub returns : goal.returns
returns g c =
    let names = c.args.names.now in
    let known = g.R.Read.remaining c.args.reader.now in
    let read = for_text known (λ text. (c.in_ok-bytes.bytes.items ≡ text) × (length text ≤ 1048576))
    c.in_ok-bytes.ensures.known c.in_ok-bytes.ensures.some in
    read_in names c.args.cycles known c.in_ok-bytes.bytes.items _ read
    (subst (λ (bytes : List ℕ). IsScenarioIn names c.args.cycles bytes c.scenario_in.result) c.as_slice.ensures.value
    c.scenario_in.ensures)
