use Rattle.std.proofs.Common.{◌≡◌, ℕ, List, Ok, Err, Result, rules, subst, sym}
use Rattle.fr_files.specs.Inputs.{ForText}
use Rattle.fr_outcome.specs.ScenarioFiles.{IsScenarioOf}
use Rattle.fr_playing.specs.declared.error.PlayError.{PlayError}
use Rattle.fr_streaming.proofs.StreamLemmas.{file_streamed, file_told, file_untold}
use Rattle.fr_streaming.specs.declared.stream.StreamNotes.{StreamNotes}
use Rattle.fr_streaming.specs.Runs.{TellsStream}
use Rattle.fr_streaming.proofs.stream.stream_run.Goals as goal

pub returns-clause-written : goal.returns-clause-written
returns-clause-written g c =
    let s = c.in_ok-scenario.scenario in
    let text = g.R.Read.remaining c.args.reader.now in
    let read = subst (λ (n : ℕ). ForText text (λ (t : List ℕ). IsScenarioOf c.args.names.now n t (Ok s)))
    c.min-named.ensures c.in_ok-scenario.ensures in
    file_streamed c.args.cluster.now c.args.names.now c.args.cycles c.args.streamed s text
    (g.W.Write.contents c.args.writer.now)
    (g.W.Write.contents c.stream_scenario.new.writer) c.in-Ok.notes read
    c.in_ok-stream_scenario.ensures.written c.in-Ok.ensures

pub returns-clause-refused : goal.returns-clause-refused
returns-clause-refused g c =
    let s = c.in_ok-scenario.scenario in
    let text = g.R.Read.remaining c.args.reader.now in
    let read = subst (λ (n : ℕ). ForText text (λ (t : List ℕ). IsScenarioOf c.args.names.now n t (Ok s)))
    c.min-named.ensures c.in_ok-scenario.ensures in
    file_told c.args.cluster.now c.args.names.now c.args.cycles s text c.in-Ok.notes read
    c.in_ok-stream_scenario.ensures.refused

pub returns-in_err-stream_scenario-clause-refused : goal.returns-in_err-stream_scenario-clause-refused
returns-in_err-stream_scenario-clause-refused g c =
    let s = c.in_ok-scenario.scenario in
    let text = g.R.Read.remaining c.args.reader.now in
    let e = c.in_err-stream_scenario.field-0.0 in
    let gone : c.from_residual-in_err-stream_scenario.result ≡ Err e = search rules in
    let read = subst (λ (n : ℕ). ForText text (λ (t : List ℕ). IsScenarioOf c.args.names.now n t (Ok s)))
    c.min-named.ensures c.in_ok-scenario.ensures in
    subst (λ (r : Result StreamNotes PlayError). ForText text
    (λ t. TellsStream c.args.cluster.now c.args.names.now c.args.cycles t r)) (sym gone)
    (file_untold c.args.cluster.now c.args.names.now c.args.cycles StreamNotes s text e read
    c.in_err-stream_scenario.ensures.refused)
