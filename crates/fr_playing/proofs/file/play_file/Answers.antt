use Rattle.std.proofs.Common.{◌≡◌, Result, Err, rules, subst, sym}
use Rattle.fr_files.specs.Inputs.{ForText}
use Rattle.fr_playing.proofs.FileLemmas.{played_of, unplayed}
use Rattle.fr_playing.specs.declared.error.PlayError.{PlayError}
use Rattle.fr_playing.specs.declared.file.PlayedFile.{PlayedFile}
use Rattle.fr_playing.specs.Files.{IsPlayOf}
use Rattle.fr_playing.proofs.file.play_file.Goals as goal

pub returns-in_err-played : goal.returns-in_err-played
returns-in_err-played g c =
    let remaining = g.R.Read.remaining c.args.reader.now in
    let e = c.in_err-played.field-0.0 in
    let gone : c.from_residual-in_err-played.result ≡ Err e = search rules in
    subst (λ (r : Result PlayedFile PlayError). ForText remaining
    (λ text. IsPlayOf c.args.cluster.now c.args.names.now c.args.cycles text r)) (sym gone)
    (unplayed c.args.cluster.now c.args.names.now c.args.cycles remaining c.in_ok-scenario.scenario c.scripts.result.now
    c.faults.result.now e c.scripts.ensures.value
    c.faults.ensures c.in_ok-scenario.ensures c.in_err-played.ensures.kind c.in_err-played.ensures.refused)

pub returns : goal.returns
returns g c =
    played_of c.args.cluster.now c.args.names.now c.args.cycles
    (g.R.Read.remaining c.args.reader.now) c.in_ok-scenario.scenario
    c.scripts.result.now c.faults.result.now
    c.in_ok-played.played c.scripts.ensures.value c.faults.ensures c.in_ok-scenario.ensures
    c.in_ok-played.ensures.refused c.in_ok-played.ensures.played c.in_ok-played.ensures.settled
