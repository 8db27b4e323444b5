use Rattle.std.proofs.Common.{◌∙◌, sym, subst, append-nil, List, ℕ}
use Rattle.fr_trace.specs.Stream.{fresh, take_bytes}
use Rattle.fr_why.proofs.BeforeLemmas.{body_left, finished_left, LeavesIn, Answers}
use Rattle.fr_why.proofs.before.interface_after.Goals.{in-Body, in-Finished}
use Rattle.fr_why.proofs.before.interface_after.Goals as goal

pub returns-in-Ok-clause-left : goal.returns-in-Ok-clause-left
returns-in-Ok-clause-left c =
    let front = c.args.lines.now in
    elim c.match-head.branch [
      | in-Body w ↦
          subst (LeavesIn (take_bytes fresh front)) (sym w.text-is ∙ c.in-Ok.is)
          (body_left _ front c.args.head.now w.audit_pieces-text.result c.requires w.in-Body.is
          w.audit_pieces-text.ensures.exact)
      | in-Finished w ↦
          subst (LeavesIn (take_bytes fresh front)) (sym w.text-is ∙ c.in-Ok.is)
          (finished_left front c.args.head.now w.audit_pieces-text-in-Finished.result c.requires w.in-Finished.is
          (subst (λ (t : List ℕ). Answers t w.audit_pieces-text-in-Finished.result)
          (append-nil front) w.audit_pieces-text-in-Finished.ensures.exact))
    ]
