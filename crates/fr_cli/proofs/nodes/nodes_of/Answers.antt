use Rattle.std.proofs.Common.{rules, ◌≡◌, ◌∙◌, None, Some, ℕ, false, subst, is_some}
use Rattle.std.proofs.Common.{slice_get}
use Rattle.clap.specs.Words.{Text}
use Rattle.fr_cli.proofs.NodeLemmas.{SoFar, ended, filled, one_more, wrong}
use Rattle.fr_cli.specs.NodeLists.{pieces_of, with_piece}
use Rattle.fr_cli.proofs.nodes.nodes_of.Goals as goal

pub returns-in_err-nodes-in-Some : goal.returns-in_err-nodes-in-Some
returns-in_err-nodes-in-Some c =
    let word : Text = c.args.word.now in
    let short : is_some (slice_get (pieces_of word) 16) ≡ false = search rules in
    let at : slice_get (pieces_of word) c.loop-place.place ≡ Some c.in-Some.piece.now = search rules in
    let none : with_piece c.loop-place.nodes c.in-Some.piece.now ≡ None = search rules in
    let given : c.from_residual.result ≡ None = search rules in
    given ∙ wrong word c.loop-place.place c.loop-place.nodes c.in-Some.piece.now short at none c.loop-place.invariant

pub returns-in-None : goal.returns-in-None
returns-in-None c =
    let word : Text = c.args.word.now in
    let short : is_some (slice_get (pieces_of word) 16) ≡ false = search rules in
    let at : slice_get (pieces_of word) c.loop-place.place ≡ None = search rules in
    ended word c.loop-place.place c.loop-place.nodes short at c.loop-place.invariant

pub loop-place-preserved : goal.loop-place-preserved
loop-place-preserved c =
    let word : Text = c.args.word.now in
    let at : slice_get (pieces_of word) c.loop-place.place ≡ Some c.in-Some.piece.now = search rules in
    let more : with_piece c.loop-place.nodes c.in-Some.piece.now ≡ Some c.in_ok-nodes-in-Some.nodes = search rules in
    one_more word c.loop-place.place c.loop-place.nodes c.in_ok-nodes-in-Some.nodes c.in-Some.piece.now at more
    c.loop-place.invariant

pub returns : goal.returns
returns c =
    let word : Text = c.args.word.now in
    let short : is_some (slice_get (pieces_of word) 16) ≡ false = search rules in
    let end : c.loop-place.place ≡ 16 = search rules in
    filled word c.loop-place.nodes short (subst (λ (n : ℕ). SoFar word n c.loop-place.nodes) end c.loop-place.invariant)
