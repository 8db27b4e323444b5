use Rattle.std.proofs.Common.{◌≡◌, ◌∙◌, ℕ, List, Option, Result, Ok, Err, ap, subst, sym}
use Rattle.std.specs.Io.KnownBytes.{Appends}
use Rattle.std.specs.Prelude.{OnOk}
use Rattle.fr_interface.specs.Standing.{Standing}
use Rattle.fr_live.specs.LiveWorlds.{LiveState, ForEachWorld, IsWorldHistory}
use Rattle.fr_streaming.proofs.LogEndLemmas.{left_is}
use Rattle.fr_streaming.specs.declared.telling.Streamed.{Streamed}
use Rattle.fr_streaming.specs.LogSteps.{left_in}
use Rattle.fr_streaming.specs.Streams.{told_closing}
use Rattle.fr_streaming.proofs.telling.write_closing.Goals as goal

-- a text that was written is that of each world, if it is the same
each_world : {A E : Type 0} (r : Result A E) (l : LiveState) (streamed : Streamed) (old new : Option (List ℕ))
    (text : List ℕ) → ForEachWorld l (λ w. text ≡ told_closing streamed w) → OnOk r (Appends old new text)
    → OnOk r (ForEachWorld l (λ w. Appends old new (told_closing streamed w)))
each_world (Ok x) l streamed old new text same adds = λ w is. subst (Appends old new) (same w is) adds
each_world (Err e) l streamed old new text same adds = tt

pub returns-in-Commits : goal.returns-in-Commits
returns-in-Commits g c =
    let counts = c.buffers.result.now in
    each_world c.write_left.result c.args.world.now c.args.streamed (g.W.Write.contents c.args.writer.now)
    (g.W.Write.contents c.write_left.new.writer) (left_in c.interfaces.result.now counts 0)
    (λ w is. ap (λ (hs : List Standing). left_in hs counts 0) c.interfaces.ensures
    ∙ left_is c.args.world.now w counts is (c.buffers.ensures w is)
    ∙ ap (λ (streamed : Streamed). told_closing streamed w) (sym c.in-Commits.is))
    c.write_left.ensures
