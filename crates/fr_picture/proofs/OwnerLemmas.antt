-- The elements of one slot more.
use Rattle.std.proofs.Common.{◌≡◌, ℕ, suc, ◌+◌, List, [], ◌++◌, Option, Result, Ok, Err, refl, subst, sym, add-one, ◌∙◌}
use Rattle.std.specs.Prelude.{OnOk}
use Rattle.std.specs.Io.KnownBytes.{Appends}
use Rattle.std.proofs.KnownBytes.{Appends-nil, Appends-trans}
use Rattle.fr_picture.specs.Owners.{Adds, AreOwnerTexts, IsOwnerText}
use Rattle.fr_schedule.specs.Descriptions.{Description}
use Rattle.fr_slots.specs.declared.channel.Channel.TheVariants.{A, B}

pub no_owners : (d : Description) (cycle : ℕ) (old : Option (List ℕ)) → Adds (AreOwnerTexts d cycle 0) old old
no_owners d cycle old = ([], refl, Appends-nil old)

pub one_slot : (d : Description) (cycle slot number : ℕ) (old mid first new : Option (List ℕ)) → number ≡ slot + 1
    → Adds (AreOwnerTexts d cycle slot) old mid
    → Adds (IsOwnerText d cycle number A) mid first → Adds (IsOwnerText d cycle number B) first new
    → Adds (AreOwnerTexts d cycle (slot + 1)) old new
one_slot d cycle slot number old mid first new is before on_a on_b =
    let (texts, texts_are, added) = before in
    let (a, a_is, added_a) = on_a in
    let (b, b_is, added_b) = on_b in
    let next : number ≡ suc slot = is ∙ add-one slot in (
      texts ++ a ++ b,
      subst (λ (n : ℕ). AreOwnerTexts d cycle n (texts ++ a ++ b)) (sym (add-one slot)) (
        texts,
        a,
        b,
        texts_are,
        subst (λ (n : ℕ). IsOwnerText d cycle n A a) next a_is,
        subst (λ (n : ℕ). IsOwnerText d cycle n B b) next b_is,
        refl,
      ),
      Appends-trans old first new (texts ++ a) b (Appends-trans old mid first texts a added added_a) added_b,
    )

-- a text of the kind that has been written is one
pub adds_text : {A E : Type 0} (r : Result A E) (IsText : List ℕ → Type 0) (text : List ℕ) (old new : Option (List ℕ))
    → IsText text → OnOk r (Appends old new text) → OnOk r (Adds IsText old new)
adds_text (Ok x) IsText text old new is written = (text, is, written)
adds_text (Err e) IsText text old new is written = tt
