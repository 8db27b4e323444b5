use Rattle.std.proofs.Common.{◌≡◌, ◌∙◌, ℕ, List, Result, Err, None, ap, rules, subst, sym}
use Rattle.std.specs.Io.KnownBytes.{Appends}
use Rattle.fr_files.specs.declared.error.BenchError.{BenchError}
use Rattle.fr_files.specs.Inputs.{ForText}
use Rattle.fr_files.specs.Outputs.{FallsShort}
use Rattle.fr_threads.proofs.OutcomeLemmas.{not_read_of, printed, printed_part, refused_same, run_refused}
use Rattle.fr_threads.specs.declared.outcome.RunNotes.{RunNotes}
use Rattle.fr_threads.specs.declared.outcome_error.OutcomeError.{OutcomeError}
use Rattle.fr_threads.specs.declared.outcome_error.OutcomeError.TheVariants as error
use Rattle.fr_threads.specs.Outcomes.{Answers, Prints, file_failure}
use Rattle.fr_threads.specs.Running.{refusal_of}
use Rattle.fr_outcome.specs.OutcomeText.{outcome_text}
use Rattle.fr_threads.proofs.outcome.run_cluster.Goals as goal

pub returns-in_err-scenario-clause-refused : goal.returns-in_err-scenario-clause-refused
returns-in_err-scenario-clause-refused g c =
    let remaining = g.R.Read.remaining c.args.reader.now in
    let e = c.in_err-scenario.field-0.0 in
    let gone : c.from_residual.result ≡ Err (file_failure e) = search rules in
    subst (λ (r : Result RunNotes OutcomeError). ForText remaining
    (λ text. Answers c.args.cluster.now c.args.names.now c.args.options.cycles text r)) (sym gone)
    (not_read_of c.args.cluster.now c.args.names.now c.args.options.cycles remaining e c.in_err-scenario.ensures)

pub returns-in_err-run-clause-refused : goal.returns-in_err-run-clause-refused
returns-in_err-run-clause-refused g c =
    let remaining = g.R.Read.remaining c.args.reader.now in
    let e = c.in_err-run.field-0.0 in
    let gone : c.from_residual-in_err-run.result ≡ Err (error.Run e) = search rules in
    let refused_is = c.in_err-run.ensures.refused in
    let scripts_are = c.scripts.ensures in
    let faults_are = c.faults.ensures in
    subst (λ (r : Result RunNotes OutcomeError). ForText remaining
    (λ text. Answers c.args.cluster.now c.args.names.now c.args.options.cycles text r)) (sym gone)
    (run_refused c.args.cluster.now c.args.names.now c.args.options.cycles remaining
    (record {
      scripts = c.in_ok-scenario.scenario.scripts;
      faults = c.in_ok-scenario.scenario.faults;
      numbers = c.in_ok-scenario.scenario.numbers;
      skipped = c.in_ok-scenario.scenario.skipped;
      expected = c.in_ok-scenario.scenario.expected;
    }) (refusal_of e)
    c.in_ok-scenario.ensures (search rules))

pub returns-in-Ok-write_outcome-clause-written : goal.returns-in-Ok-write_outcome-clause-written
returns-in-Ok-write_outcome-clause-written g c =
    let run = c.in_ok-run.run' in
    let written : Appends (g.W.Write.contents c.args.writer.now) (g.W.Write.contents c.write_whole.new.writer)
    (outcome_text run.interfaces.items run.settled.windows) = search rules in
    printed c.args.cluster.now c.args.names.now c.args.options.cycles c.args.options.free
    (g.R.Read.remaining c.args.reader.now)
    (g.W.Write.contents c.args.writer.now)
    (g.W.Write.contents c.write_whole.new.writer)
    (record {
      scripts = c.in_ok-scenario.scenario.scripts;
      faults = c.in_ok-scenario.scenario.faults;
      numbers = c.in_ok-scenario.scenario.numbers;
      skipped = c.in_ok-scenario.scenario.skipped;
      expected = c.in_ok-scenario.scenario.expected;
    }) run c.in-Ok.notes
    c.in_ok-scenario.ensures (search rules) written c.in-Ok.ensures

pub returns-in-Ok-write_outcome-clause-refused : goal.returns-in-Ok-write_outcome-clause-refused
returns-in-Ok-write_outcome-clause-refused g c =
    run_refused c.args.cluster.now c.args.names.now c.args.options.cycles (g.R.Read.remaining c.args.reader.now)
    (record {
      scripts = c.in_ok-scenario.scenario.scripts;
      faults = c.in_ok-scenario.scenario.faults;
      numbers = c.in_ok-scenario.scenario.numbers;
      skipped = c.in_ok-scenario.scenario.skipped;
      expected = c.in_ok-scenario.scenario.expected;
    }) None
    c.in_ok-scenario.ensures
    (refused_same c.args.cluster.now c.scripts.result.now c.in_ok-scenario.scenario.scripts c.faults.result.now
    c.in_ok-scenario.scenario.faults c.args.options.cycles None c.scripts.ensures.value c.faults.ensures
    c.in_ok-run.ensures.refused)

pub returns-in_err-write_whole-in-Ok-write_outcome-clause-written :
    goal.returns-in_err-write_whole-in-Ok-write_outcome-clause-written
returns-in_err-write_whole-in-Ok-write_outcome-clause-written g c =
    let remaining = g.R.Read.remaining c.args.reader.now in
    let old = g.W.Write.contents c.args.writer.now in
    let new = g.W.Write.contents c.write_whole.new.writer in
    let run = c.in_ok-run.run' in
    let e = c.in_err-write_whole-in-Ok-write_outcome.field-0.0 in
    let gone : c.from_residual-in_err-write_whole-in-Ok-write_outcome.result ≡ Err (error.Text e) = search rules in
    let named = gone ∙ ap (λ (x : BenchError). Err
    (error.Text x)) c.in_err-write_whole-in-Ok-write_outcome.ensures.refused in
    let text_is : c.as_slice-in-Ok-write_outcome.result.now ≡ outcome_text run.interfaces.items run.settled.windows =
    search rules in
    subst (λ (r : Result RunNotes OutcomeError). Prints c.args.cluster.now c.args.names.now c.args.options.cycles
    c.args.options.free
    remaining old new r) (sym named)
    (printed_part c.args.cluster.now c.args.names.now c.args.options.cycles c.args.options.free remaining old new
    (record {
      scripts = c.in_ok-scenario.scenario.scripts;
      faults = c.in_ok-scenario.scenario.faults;
      numbers = c.in_ok-scenario.scenario.numbers;
      skipped = c.in_ok-scenario.scenario.skipped;
      expected = c.in_ok-scenario.scenario.expected;
    }) run
    c.in_ok-scenario.ensures (search rules)
    (subst (λ (xs : List ℕ). FallsShort old new xs) text_is c.in_err-write_whole-in-Ok-write_outcome.ensures.cut))

pub returns-in_err-write_whole-in-Ok-write_outcome-clause-refused :
    goal.returns-in_err-write_whole-in-Ok-write_outcome-clause-refused
returns-in_err-write_whole-in-Ok-write_outcome-clause-refused g c =
    let remaining = g.R.Read.remaining c.args.reader.now in
    let e = c.in_err-write_whole-in-Ok-write_outcome.field-0.0 in
    let gone : c.from_residual-in_err-write_whole-in-Ok-write_outcome.result ≡ Err (error.Text e) = search rules in
    let named = gone ∙ ap (λ (x : BenchError). Err
    (error.Text x)) c.in_err-write_whole-in-Ok-write_outcome.ensures.refused in
    subst (λ (r : Result RunNotes OutcomeError). ForText remaining
    (λ text. Answers c.args.cluster.now c.args.names.now c.args.options.cycles text r)) (sym named)
    (run_refused c.args.cluster.now c.args.names.now c.args.options.cycles remaining
    (record {
      scripts = c.in_ok-scenario.scenario.scripts;
      faults = c.in_ok-scenario.scenario.faults;
      numbers = c.in_ok-scenario.scenario.numbers;
      skipped = c.in_ok-scenario.scenario.skipped;
      expected = c.in_ok-scenario.scenario.expected;
    }) None
    c.in_ok-scenario.ensures
    (refused_same c.args.cluster.now c.scripts.result.now c.in_ok-scenario.scenario.scripts c.faults.result.now
    c.in_ok-scenario.scenario.faults c.args.options.cycles None c.scripts.ensures.value c.faults.ensures
    c.in_ok-run.ensures.refused))
