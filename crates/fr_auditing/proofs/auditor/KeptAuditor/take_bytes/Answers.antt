use Rattle.std.proofs.Common.{◌≡◌, ◌<◌, ◌-◌, ℕ, List, ◌∷◌, [], ◌++◌, length, get_or, take, drop, arith, ap, ◌∙◌}
use Rattle.std.proofs.Common.{subst, refl, inl, sym, true}
use Rattle.std.proofs.lemmas.Bool.{eqb-true}
use Rattle.std.proofs.lemmas.List.{take_rest}
use Rattle.fr_auditing.proofs.CutLemmas.{reads_more}
use Rattle.fr_auditing.proofs.StreamLemmas.{plain_same}
use Rattle.fr_auditing.specs.Tracking.{auditing, ReadsOn}
use Rattle.fr_text.specs.Plain.{has_no_feed}
use Rattle.fr_trace.proofs.CutLemmas.{no_feed, no_feed_before, piece_cut}
use Rattle.fr_auditing.proofs.auditor.KeptAuditor.take_bytes.Goals as goal

pub loop-at-init : goal.loop-at-init
loop-at-init c = ([], refl, inl refl)

pub take_line-requires : goal.take_line-requires
take_line-requires c =
    let rest = c.loop-at.rest.now in
    let at = c.in-Some.at in
    let found = c.in-Some.ensures in
    let within : at < length rest = found.0.high in
    ap has_no_feed c.split_at.ensures.front ∙ no_feed_before rest at (omega arith)
    (λ k lt feed. found.0.before k (omega arith) lt feed)

pub loop-at-preserved : goal.loop-at-preserved
loop-at-preserved c =
    let rest = c.loop-at.rest.now in
    let at = c.in-Some.at in
    let found = c.in-Some.ensures in
    let (front, whole, read) = c.loop-at.invariant in
    let within : at < length rest = found.0.high in
    let feed : get_or rest at 0 ≡ 10 = eqb-true _ 10 found.1 in
    let back = c.split_at.result.1.now in
    let all : take (length back - 1) (drop 1 back) ≡ drop 1 (drop at rest) =
    take_rest back 1 ∙ ap (drop 1) c.split_at.ensures.back in
    let line : c.split_at.result.0.now ++ 10 ∷ [] ≡ take at rest ++ 10 ∷ [] =
    ap (λ t. t ++ 10 ∷ []) c.split_at.ensures.front in (
      front ++ (take at rest ++ 10 ∷ []),
      ap (λ t. (front ++ (take at rest ++ 10 ∷ [])) ++ t) all
          ∙ piece_cut front rest c.args.piece.now at whole within feed,
      reads_more c.args.self.now c.loop-at.self c.take_line.new.self front (take at rest ++ 10 ∷ []) read
          (subst (λ (t : List ℕ). ReadsOn c.loop-at.self t c.take_line.new.self) line c.take_line.ensures),
    )

pub add-requires : goal.add-requires
add-requires c = no_feed c.loop-at.rest.now (λ k lt feed. c.in_default.ensures k (omega arith) lt feed)

pub returns : goal.returns
returns c =
    let (front, whole, read) = c.loop-at.invariant in
    let rest = c.loop-at.rest.now in
    let a = c.loop-at.self in
    let plain : has_no_feed rest ≡ true = no_feed rest (λ k lt feed. c.in_default.ensures k (omega arith) lt feed) in
    subst (λ (p : List ℕ). ReadsOn c.args.self.now p c.add.new.self) whole
    (reads_more c.args.self.now a c.add.new.self front rest read
    (inl (c.add.ensures ∙ ap (auditing a.later) (sym (plain_same a.later rest a.progress plain)))))
