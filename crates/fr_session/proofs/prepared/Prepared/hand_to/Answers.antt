use Rattle.std.proofs.Common.{◌≡◌, ◌∙◌, ◌++◌, ℕ, List, ap₂, subst}
use Rattle.fr_session.proofs.CutLemmas.{hands_both}
use Rattle.fr_session.specs.Cuts.{Hands}
use Rattle.fr_session.proofs.prepared.Prepared.hand_to.Goals as goal

pub returns : goal.returns
returns g c =
    let line = c.as_slice.result.now in
    let block = c.as_slice-2.result.now in
    let all : line ++ block ≡ c.args.self.now =
    ap₂ (λ (x y : List ℕ). x ++ y) c.as_slice.ensures.value c.as_slice-2.ensures.value ∙ c.self.view_is in
    subst (λ (text : List ℕ). Hands g.W.Write.contents c.args.writer.now c.hand_on-2.new.writer c.hand_on-2.result text)
    all
    (hands_both g.W.Write.contents c.args.writer.now c.hand_on.new.writer c.hand_on-2.new.writer c.hand_on-2.result
    line block c.in_ok-hand_on.ensures c.hand_on-2.ensures)
