use Rattle.std.proofs.Common.{List, ℕ, ◌∷◌, [], take, OnOk, subst, sym, ◌∙◌}
use Rattle.std.specs.Io.KnownBytes.{Appends}
use Rattle.std.specs.List.{flat_map}
use Rattle.fr_trace.proofs.WritingLemmas.{appends-last}
use Rattle.fr_why.specs.WhyText.{byte_text}
use Rattle.fr_why.proofs.WordLemmas.{spaced}
use Rattle.fr_why.proofs.words.write_after_space.Goals as goal

pub returns : goal.returns
returns g c =
    let line = c.args.line.now in
    let start = g.W.Write.contents c.args.writer.now in
    let end = g.W.Write.contents c.write_bytes.new.writer in
    subst (λ (t : List ℕ). OnOk c.write_bytes.result (Appends start end t))
    (spaced line c.min.result (sym c.is_empty.ensures ∙ c.if-is_empty.false) c.min.ensures)
    (appends-last c.write_bytes.result start (g.W.Write.contents c.write_all.new.self) end (32 ∷ [])
    (flat_map byte_text (take c.min.result line)) c.in_ok-write_all.ensures.bytes c.write_bytes.ensures)
