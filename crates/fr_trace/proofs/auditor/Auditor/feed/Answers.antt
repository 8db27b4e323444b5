use Rattle.std.proofs.Common.{◌++◌, Result, sym, subst}
use Rattle.fr_trace.specs.declared.error.TraceError.{TraceError}
use Rattle.fr_trace.specs.Refusals.{LineIsNamed, HopelessIfRefused}
use Rattle.fr_trace.proofs.RefusalLemmas.{piece_named, piece_hopeless}
use Rattle.fr_trace.proofs.auditor.Auditor.feed.Goals as goal

pub returns-clause-line : goal.returns-clause-line
returns-clause-line c front so_far =
    subst (λ (r : Result (Unit {0}) TraceError). LineIsNamed r (front ++ c.args.piece.now)) (sym c.answer.ensures)
    (piece_named front c.args.piece.now c.args.self.now c.take_bytes.new.self c.take_bytes.ensures so_far)

pub returns-clause-hopeless : goal.returns-clause-hopeless
returns-clause-hopeless c front so_far =
    subst (λ (r : Result (Unit {0}) TraceError). HopelessIfRefused r (front ++ c.args.piece.now)) (sym c.answer.ensures)
    (piece_hopeless front c.args.piece.now c.args.self.now c.take_bytes.new.self c.take_bytes.ensures so_far)
