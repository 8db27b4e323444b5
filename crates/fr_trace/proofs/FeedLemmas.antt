-- An auditor that reads one piece and then another has read both.
use Rattle.std.proofs.Common.{◌≡◌, ℕ, true, List, [], ◌∷◌, ◌++◌, inl, inr, refl, sym, ap, ◌∙◌, append_assoc, subst}
use Rattle.std.proofs.lemmas.List.Sums.{fold-append}
use Rattle.std.proofs.lemmas.List.Folds.{fold_stays}
use Rattle.fr_interface.specs.State.{State}
use Rattle.fr_lines.specs.declared.versions.Version.{Version}
use Rattle.fr_trace.specs.Auditor.{phase_of}
use Rattle.fr_trace.specs.declared.auditor.TextPhase.{TextPhase as Given}
use Rattle.fr_trace.specs.declared.auditor.TextPhase.TheVariants.{Magic, Parameters, Node, Lines, Body, Finished}
use Rattle.fr_trace.specs.Stream.{Phase, Progress, reading, failed, take_byte, take_bytes}
use Rattle.fr_trace.specs.Feeds.{IsAtBegin, Begins, Reads, EndsLine}
use Rattle.fr_trace.specs.declared.error.TraceError.TheVariants.{Memory}
use Rattle.fr_trace.proofs.TextLemmas.{is_open, take_in-open}

pub begins_before : (old : Progress) (a b : List ℕ) → Begins old a → Begins old (a ++ b)
begins_before old a b h =
    let (front, rest, is, at) = h in
    (front, rest ++ b, ap (λ t. t ++ b) is ∙ append_assoc front (10 ∷ rest) b, at)

pub begins_behind : (old : Progress) (a b : List ℕ) → Begins (take_bytes old a) b → Begins old (a ++ b)
begins_behind old a b h =
    let (front, rest, is, at) = h in (
      a ++ front,
      rest,
      ap (λ t. a ++ t) is ∙ sym (append_assoc a front (10 ∷ rest)),
      subst IsAtBegin (sym (fold-append take_byte old a front)) at,
    )

pub reads_more : (old : Progress) (a b : List ℕ) (s t : Progress) → Reads old a s → Reads s b t → Reads old (a ++ b) t
reads_more old a b s t (inl x) (inl y) = inl (y ∙ (ap (λ u. take_bytes u b) x ∙ sym (fold-append take_byte old a b)))
reads_more old a b s t (inl x) (inr y) = inr (y.0, begins_behind old a b (subst (λ u. Begins u b) x y.1))
reads_more old a b s t (inr x) (inl y) =
    inr (
      y ∙ (ap (λ u. take_bytes u b) x.0 ∙ fold_stays take_byte (failed Memory) (λ _. refl) b),
      begins_before old a b x.1,
    )
reads_more old a b s t (inr x) (inr y) = inr (y.0, begins_before old a b x.1)

-- a line feed ends the line
pub feed_read : (p : Phase) (line : List ℕ) (new : Progress) → is_open p ≡ true → EndsLine (reading p line) new
    → Reads (reading p line) (10 ∷ []) new
feed_read p line new opened (inl is) = inl (is ∙ sym (take_in-open p line 10 opened))
feed_read p line new opened (inr out) = inr (out.0, ([], [], refl, out.1))

pub phase_open : (p : Given) → ((v : Version) (i : State) → p ≡ Finished v i → ⊥) → is_open (phase_of p) ≡ true
phase_open Magic h = refl
phase_open (Parameters v) h = refl
phase_open (Node v p) h = refl
phase_open (Lines v p plan) h = refl
phase_open (Body v i) h = refl
phase_open (Finished v i) h = absurd (h v i refl)
