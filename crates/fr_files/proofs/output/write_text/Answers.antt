use Rattle.std.proofs.Common.{◌≡◌, ℕ, ◌-◌, List, ◌++◌, length, take, drop, sym, ap, ◌∙◌, append_assoc, take-append-drop}
use Rattle.std.proofs.lemmas.List.{take_rest}
use Rattle.std.proofs.KnownBytes.{Appends-trans}
use Rattle.fr_files.proofs.output.write_text.Goals as goal

-- the front that was written grows by `count` bytes of the rest
moves_front : (all done rest : List ℕ) (count : ℕ) → all ≡ done ++ rest
    → all ≡ (done ++ take count rest) ++ take (length rest - count) (drop count rest)
moves_front all done rest count is =
    is ∙ ap (λ (t : List ℕ). done ++ t) (sym (take-append-drop count rest))
    ∙ sym (append_assoc done (take count rest) (drop count rest))
    ∙ ap (λ (t : List ℕ). (done ++ take count rest) ++ t) (sym (take_rest rest count))

pub loop-rest-preserved-in-Ok : goal.loop-rest-preserved-in-Ok
loop-rest-preserved-in-Ok g c =
    let (done, split, appended) = c.loop-rest.invariant in
    let rest = c.loop-rest.rest.now in
    let count = c.in-Ok.count in (
      done ++ take count rest,
      moves_front c.args.text.now done rest count split,
      Appends-trans _ _ _ _ _ appended c.in-Ok.ensures.bytes,
    )
