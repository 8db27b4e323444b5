use Rattle.std.proofs.Common.{◌≡◌, ◌∙◌, Option, Result, Ok, Err, ℕ, List, ap}
use Rattle.std.specs.Prelude.{OnOk, length}
use Rattle.std.specs.Io.KnownBytes.{Appends}
use Rattle.fr_endless.proofs.OutcomeLemmas.{outcome_kept}
use Rattle.fr_endless.specs.Answers.{windows_by}
use Rattle.fr_live.specs.LiveWorlds.{LiveState, ForEachWorld}
use Rattle.fr_bus.specs.Standing.{LiveStanding}
use Rattle.fr_outcome.specs.OutcomeText.{nodes_text, outcome_text, settled_text}
use Rattle.fr_endless.proofs.outcome.write_outcome.Goals as goal

settled : {A E : Type 0} (r : Result A E) (l : LiveState) (windows : ℕ) (old mid new : Option (List ℕ))
    → windows ≡ windows_by l.bus.last → ForEachWorld l (λ w. Appends old mid (nodes_text w.interfaces))
    → OnOk r (Appends mid new (settled_text windows))
    → OnOk r (ForEachWorld l (λ w. Appends old new (outcome_text w.interfaces (length w.bus.sealed))))
settled (Ok x) l windows old mid new is nodes ends = outcome_kept l windows old mid new is nodes ends
settled (Err e) l windows old mid new is nodes ends = tt

pub returns : goal.returns
returns g c =
    settled c.write_settled.result c.args.world.now c.windows_by-windows.result (g.W.Write.contents c.args.writer.now)
    (g.W.Write.contents c.write_nodes.new.writer) (g.W.Write.contents c.write_settled.new.writer)
    (c.windows_by-windows.ensures ∙ ap windows_by c.last.ensures
    ∙ ap (λ (b : LiveStanding). windows_by b.last) c.bus.ensures) c.in_ok-write_nodes.ensures c.write_settled.ensures
