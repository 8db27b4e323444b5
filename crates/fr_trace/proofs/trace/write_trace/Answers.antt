use Rattle.fr_trace.proofs.OutcomeLemmas.{written_outcome}
use Rattle.fr_trace.proofs.trace.write_trace.Goals as goal

pub returns-in-Ok-clause-again : goal.returns-in-Ok-clause-again
returns-in-Ok-clause-again g c = written_outcome c.args.interface.now c.write_text.ensures.legal

pub returns-in-Err-clause-again : goal.returns-in-Err-clause-again
returns-in-Err-clause-again g c = written_outcome c.args.interface.now c.write_text.ensures.legal
