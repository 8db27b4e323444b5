use Rattle.std.proofs.Common.{rules, ◌≡◌, ◌∙◌, ℕ, Bool, List, [], ap, subst, sym}
use Rattle.fr_auditing.proofs.CutLemmas.{carried_read, direct_read, held_nothing}
use Rattle.fr_auditing.specs.Phases.{phase_of, EndsLine}
use Rattle.fr_auditing.specs.Tracking.{Auditing, auditing}
use Rattle.fr_trace.specs.Auditor.{progress_in}
use Rattle.fr_trace.specs.Feeds.{held}
use Rattle.fr_trace.specs.Stream.{take_bytes}
use Rattle.fr_auditing.proofs.auditor.KeptAuditor.take_line.Goals as goal

pub returns-then-rest-le-LINE : goal.returns-then-rest-le-LINE
returns-then-rest-le-LINE c =
    let a = c.self.inside in
    let empty : held c.args.self.now.progress ≡ [] =
    ap (λ (x : Auditing). held x.progress) (sym c.self.view_is)
    ∙ held_nothing a.fault (phase_of a.phase) a.line.items (sym c.is_empty.ensures ∙ c.if-is_empty.true) in
    direct_read c.args.self.now.later c.args.self.now.progress c.args.rest.now c.end_line.new.self empty c.requires
    c.if-rest-le-LINE.true c.end_line.ensures

pub returns-else-is_empty : goal.returns-else-is_empty
returns-else-is_empty c =
    let a = c.self-else-is_empty.inside in
    let q = phase_of a.phase in
    let old = c.args.self.now in
    let new = c.end_line-else-is_empty.new.self in
    let line : c.as_slice.result.now ≡ a.line.items = search rules in
    let empty : c.replace-line.new.dest.items ≡ [] = search rules in
    let stands : auditing a.later (progress_in a.fault q a.line.items)
    ≡ auditing old.later (take_bytes old.progress c.args.rest.now) = c.self-else-is_empty.view_is ∙ c.add.ensures in
    let ends : EndsLine a.later (progress_in a.fault q []) a.line.items new =
    subst (λ (l : List ℕ). EndsLine a.later (progress_in a.fault q []) l new) line
    (subst (λ (l : List ℕ). EndsLine a.later (progress_in a.fault q l) c.as_slice.result.now new) empty
    c.end_line-else-is_empty.ensures) in
    carried_read a.fault q a.line.items old.later old.progress c.args.rest.now new c.requires
    (ap (λ (x : Auditing). x.progress) stands)
    (subst (λ (k : Bool). EndsLine k (progress_in a.fault q []) a.line.items new)
    (ap (λ (x : Auditing). x.later) stands) ends)
