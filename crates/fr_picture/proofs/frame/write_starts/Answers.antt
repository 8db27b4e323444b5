use Rattle.std.proofs.Common.{◌≡◌, ℕ, List, [], ◌∷◌, subst}
use Rattle.std.specs.Io.KnownBytes.{Appends}
use Rattle.std.specs.Prelude.{OnOk}
use Rattle.fr_picture.specs.Frames.{ticks_text}
use Rattle.fr_timing.specs.Segments.{cycle_end, dynamic_start, idle_start, symbol_start}
use Rattle.fr_picture.proofs.frame.write_starts.Goals as goal

pub returns : goal.returns
returns g c =
    let p = c.args.params.now in
    let s = c.segments_of-segments.result in
    let e = c.segments_of-segments.ensures in
    let old = g.W.Write.contents c.args.writer.now in
    let new = g.W.Write.contents c.write_five.new.writer in
    let same : ◌≡◌ {A = List ℕ} (0 ∷ s.dynamic ∷ s.symbol ∷ s.idle ∷ s.end ∷ [])
    (0 ∷ dynamic_start p ∷ symbol_start p ∷ idle_start p ∷ cycle_end p ∷ []) =
    cc (e.dynamic, e.symbol, e.idle, e.end) in
    subst (λ (xs : List ℕ). OnOk c.write_five.result (Appends old new (ticks_text p 0 xs))) same c.write_five.ensures
