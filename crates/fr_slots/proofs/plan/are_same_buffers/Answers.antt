use Rattle.std.proofs.Common.{rules, ◌≡◌, ap, refl, Bool, true, false, ◌&&◌, Option, ◌==◌, ℕ}
use Rattle.std.specs.Bool.{Decides}
use Rattle.std.specs.Cmp.{booleans_Decides}
use Rattle.std.specs.Option.{option_eq}
use Rattle.std.proofs.lemmas.Slice.Eq.{slice_eq-Decides}
use Rattle.fr_slots.specs.declared.plan.Buffer.{Buffer}
use Rattle.fr_slots.specs.declared.plan.Mode.{Mode}
use Rattle.fr_slots.specs.declared.filter.Filter.{Filter}
use Rattle.fr_slots.specs.contracts.plan.BufferPartialEq.TheImpl.{ghosts}
use Rattle.fr_slots.specs.contracts.plan.ModePartialEq.TheImpl.{ghosts as mode}
use Rattle.fr_slots.specs.contracts.filter.FilterPartialEq.TheImpl.{ghosts as filter}
use Rattle.fr_slots.proofs.plan.are_same_buffers.Goals as goal

same_mode : (a b : Mode) → Decides (mode.eq a b) (a ≡ b)
same_mode a b = search rules

same_filter : (a b : Filter) → Decides (filter.eq a b) (a ≡ b)
same_filter a b = search rules

same_words : (a b : Option ℕ) → Decides (option_eq (λ (x y : ℕ). x == y) a b) (a ≡ b)
same_words a b = search rules

-- two tests decide two facts
both : {P Q : Type 0} (p q : Bool) → Decides p P → Decides q Q → Decides (p && q) (P × Q)
both true q h k = (λ e. (h.0 refl, k.0 e), λ f. k.1 f.1)
both false q h k = (λ e. absurd (let none : ⊥ = cc in none), λ f. h.1 f.0)

same_buffer : (a b : Buffer) → Decides (ghosts.eq a b) (a ≡ b)
same_buffer a b =
    let parts : Decides (ghosts.eq a b) ((a.mode ≡ b.mode) ×
    ((a.filter ≡ b.filter) × ((a.words ≡ b.words) × (a.preamble ≡ b.preamble)))) =
    both _ _ (same_mode a.mode b.mode) (both _ _ (same_filter a.filter b.filter)
    (both _ _ (same_words a.words b.words) (booleans_Decides a.preamble b.preamble))) in (
      λ e. (let h = parts.0 e in λ i. record {
        mode = h.0 i;
        filter = h.1.0 i;
        words = h.1.1.0 i;
        preamble =
            h.1.1.1 i;
      }),
      λ e. parts.1 (
        ap (λ (x : Buffer). x.mode) e,
        (
          ap (λ (x : Buffer). x.filter) e,
          (ap (λ (x : Buffer). x.words) e, ap (λ (x : Buffer). x.preamble) e),
        ),
      ),
    )

pub returns : goal.returns
returns c = slice_eq-Decides same_buffer _ _ _ c.eq.ensures
