use Rattle.std.proofs.Common.{◌+◌, ℕ, subst, ap, ◌∙◌}
use Rattle.fr_slots.specs.Parameters.{Parameters}
use Rattle.fr_latency.specs.Openings.{can_begin}
use Rattle.fr_latency.specs.Rows.{AreLast}
use Rattle.fr_latency.proofs.RowLemmas.{begins_right, is_row}
use Rattle.fr_latency.proofs.openings.row_at.Goals as goal

pub returns : goal.returns
returns c = λ used.
    let d = c.args.cluster.now in
    let earlier = c.args.earlier in
    let test = λ (cycle minislot : ℕ). can_begin d c.args.channel cycle earlier minislot in
    let right = begins_right d c.args.channel earlier c.requires.lawful in
    let same = ap (λ (p : Parameters). p.minislots) (c.behind-cluster.view_is ∙ c.params.ensures.value) in
    is_row d c.args.channel earlier c.lasts.result c.lasts-2.result
    (subst (λ (n : ℕ). AreLast test (earlier + (n + 300)) c.lasts.result) same
    (c.lasts.ensures test right c.requires.begins))
    (subst (λ (n : ℕ). AreLast test n c.lasts-2.result) same (c.lasts-2.ensures test right c.requires.begins))
