use Rattle.std.proofs.Common.{ap, ◌∙◌}
use Rattle.fr_session.proofs.QueryLemmas.{writes_so}
use Rattle.fr_session.specs.Queries.{counters_on, status_line}
use Rattle.fr_status.specs.declared.counters.Counters.{Counters}
use Rattle.fr_trace.specs.ReportText.{counts_in}
use Rattle.fr_endless.proofs.queries.write_kept_status.Goals as goal

pub returns : goal.returns
returns g c =
    let channel = c.args.channel in
    writes_so g.W.Write.contents _ _ c.write_status.result _ _
    (ap (λ counts. status_line channel (counts_in counts)) (c.counts_on.ensures
    ∙ ap (λ (k : Counters). counters_on channel k) c.counters.ensures)) c.write_status.ensures
