use Rattle.std.proofs.Common.{Bor, get_or, ◌≡◌, ℕ, ◌+◌, List, [], ◌∷◌, ◌++◌, take, sym, ap, subst, ◌∙◌}
use Rattle.std.proofs.lemmas.List.{take_more, append-nil}
use Rattle.std.proofs.lemmas.List.Concat.{flat_map-append}
use Rattle.std.specs.List.{flat_map}
use Rattle.fr_trace.specs.Feeds.{Reads}
use Rattle.fr_trace.specs.Stream.{fresh}
use Rattle.fr_trace.proofs.FeedLemmas.{reads_more}
use Rattle.fr_trace.proofs.pieces.fed.Goals as goal

pub loop-piece-preserved : goal.loop-piece-preserved
loop-piece-preserved c =
    let pieces = c.args.pieces.now in
    let i = c.loop-piece.piece-index in
    let piece : Bor (List ℕ) = get_or pieces i (record { ref_ptr = (0, 0); now = [] }) in
    let joined : flat_map (λ p. p.now) (take (i + 1) pieces) ≡ flat_map (λ p. p.now) (take i pieces) ++ piece.now =
    ap (flat_map (λ p. p.now)) (take_more pieces i (record { ref_ptr = (0, 0); now = [] }) c.loop-piece-test.true)
    ∙ (flat_map-append (λ p. p.now) (take i pieces) (piece ∷ []) ∙ ap (λ t. flat_map (λ p. p.now) (take i pieces) ++ t)
    (append-nil piece.now)) in
    subst (λ t. Reads fresh t c.feed.new.self) (sym joined)
    (reads_more fresh (flat_map (λ p. p.now) (take i pieces)) piece.now c.loop-piece.auditor c.feed.new.self
    c.loop-piece.invariant c.feed.ensures.state)
