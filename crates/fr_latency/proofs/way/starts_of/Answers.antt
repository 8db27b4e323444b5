use Rattle.std.proofs.Common.{◌+◌, ℕ, subst, ap, ◌∙◌}
use Rattle.fr_slots.specs.Parameters.{Parameters}
use Rattle.fr_latency.specs.Openings.{can_begin}
use Rattle.fr_latency.specs.Rows.{AreLast}
use Rattle.fr_latency.proofs.RowLemmas.{begins_right}
use Rattle.fr_latency.proofs.way.starts_of.Goals as goal

pub returns : goal.returns
returns c =
    let d = c.args.cluster.now in
    let count = c.args.count in
    let test = λ (cycle minislot : ℕ). can_begin d c.args.channel cycle count minislot in
    let same = ap (λ (p : Parameters). p.minislots) (c.behind-cluster.view_is ∙ c.params.ensures.value) in
    subst (λ (n : ℕ). AreLast test (count + (n + 300)) c.lasts.result) same
    (c.lasts.ensures test (begins_right d c.args.channel count c.requires.lawful) c.skip.ensures)
