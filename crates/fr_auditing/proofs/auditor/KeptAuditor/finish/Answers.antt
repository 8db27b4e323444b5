use Rattle.std.proofs.Common.{◌∙◌, ap}
use Rattle.fr_auditing.proofs.EarlierLemmas.{earlier_found}
use Rattle.fr_auditing.proofs.LongFoundLemmas.{outcome_found, outcome_only}
use Rattle.fr_auditing.specs.Tracking.{Auditing}
use Rattle.fr_trace.specs.Stream.{outcome_of}
use Rattle.fr_auditing.proofs.auditor.KeptAuditor.finish.Goals as goal

pub returns-clause-earlier : goal.returns-clause-earlier
returns-clause-earlier c text tracks =
    earlier_found c.ended.result text
    (c.ended.ensures.exact ∙ ap (λ (a : Auditing). outcome_of a.progress) tracks) c.ended.ensures.legal

pub returns-clause-found : goal.returns-clause-found
returns-clause-found c text tracks =
    outcome_found c.ended.result text
    (c.ended.ensures.exact ∙ ap (λ (a : Auditing). outcome_of a.progress) tracks) c.ended.ensures.legal

pub returns-clause-only : goal.returns-clause-only
returns-clause-only c s legal tracks =
    outcome_only c.ended.result s legal
    (c.ended.ensures.exact ∙ ap (λ (a : Auditing). outcome_of a.progress) tracks)
