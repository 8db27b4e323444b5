-- The ready commit of a transmit buffer, and its pending last commit, with one more entry.
use Rattle.std.proofs.Common.{◌≡◌, ◌<◌, ℕ, ◌+◌, Bool, true, false, not, cond, ◌&&◌, ◌||◌, List, [], ◌∷◌, ◌++◌, drop}
use Rattle.std.proofs.Common.{length, Option, Some, None, refl, sym, ap, subst, ◌∙◌, arith, option_map}
use Rattle.std.specs.Prelude.{IfSome}
use Rattle.std.specs.List.{list_any}
use Rattle.std.specs.Option.{option_and_then}
use Rattle.std.proofs.lemmas.List.Folds.{list_any-append}
use Rattle.fr_core.proofs.CaseLemmas.{differ}
use Rattle.fr_journal.proofs.FateStepLemmas.{fate_by}
use Rattle.fr_journal.proofs.HeldCommitLemmas.{pending_at, pending_is, held_is, held-some, held-commit, held-other}
use Rattle.fr_journal.proofs.HeldCommitLemmas.{held-taken, pending_stands}
use Rattle.fr_journal.proofs.LastCommitLemmas.{last_commit-below, last_commit-commit, last_commit-other, drop-front}
use Rattle.fr_journal.proofs.LastCommitLemmas.{drop-next, payload_of-front}
use Rattle.fr_journal.specs.Forms.{Entry}
use Rattle.fr_journal.specs.Fate.{is_commit_on, last_commit, sends, takes_back, fate_of, is_pending, if_pending}
use Rattle.fr_journal.specs.Fate.{pending_commit}
use Rattle.fr_journal.specs.Offers.{ready, payload_of}
use Rattle.fr_slots.specs.Plans.{is_receive}
use Rattle.fr_slots.specs.declared.plan.Mode.{Mode}
use Rattle.fr_slots.specs.declared.plan.Mode.TheVariants as mode

or_none : (b : Bool) → (b || false) ≡ b
or_none true = refl
or_none false = refl

and_true : (b : Bool) → (b && true) ≡ b
and_true true = refl
and_true false = refl

either : (p q : Bool) → p ≡ false → q ≡ false → (p || q) ≡ false
either false q e f = f
either true q e f = differ refl e

or_rest : (p q : Bool) → q ≡ true → (p || q) ≡ true
or_rest true q e = refl
or_rest false q e = e

-- ---- pending commits

pending_then : (s w c x y : Bool) → is_pending (fate_by (s || x) (w || y) (c || false)) ≡
    (is_pending (fate_by s w c) && not (x || y))
pending_then true w c x y = refl
pending_then false true c true y = refl
pending_then false true c false y = refl
pending_then false false true true y = refl
pending_then false false true false true = refl
pending_then false false true false false = refl
pending_then false false false true y = refl
pending_then false false false false true = refl
pending_then false false false false false = refl

module _ (k : ℕ) (es : List Entry) (e : Entry) where
  -- the entry sends or withdraws the commit of this number
  abbrev pub ends : ℕ → Bool
  ends number = sends number e || takes_back number e

  later : (number : ℕ) → number < length es → (p : Entry → Bool)
      → list_any p (drop (number + 1) (es ++ e ∷ [])) ≡ (list_any p (drop (number + 1) es) || p e)
  later number within p =
      ap (list_any p) (drop-front es (e ∷ []) (number + 1) (omega (arith, within))) ∙ list_any-append p
      (drop (number + 1) es) (e ∷ [])
      ∙ ap (λ (b : Bool). list_any p (drop (number + 1) es) || b) (or_none (p e))

  still_pending : (number : ℕ) → number < length es → is_commit_on k e ≡ false
      → pending_at k (es ++ e ∷ []) number ≡ (pending_at k es number && not (ends number))
  still_pending number within off =
      let s : Bool = list_any (sends number) (drop (number + 1) es) in
      let w : Bool = list_any (takes_back number) (drop (number + 1) es) in
      let c : Bool = list_any (is_commit_on k) (drop (number + 1) es) in
      (λ i. is_pending (fate_by (later number within (sends number) i) (later number within (takes_back number) i)
      (later number within (is_commit_on k) i)))
      ∙ ap (λ (b : Bool). is_pending (fate_by (s || sends number e) (w || takes_back number e) (c || b))) off
      ∙ pending_then s w c (sends number e) (takes_back number e)

  -- a new commit is pending
  pub pending-new : is_commit_on k e ≡ true → pending_commit k (es ++ e ∷ []) ≡ Some (length es)
  pending-new on =
      ap (option_and_then (if_pending k (es ++ e ∷ []))) (last_commit-commit k es e on)
      ∙ ap (λ (l : List Entry). cond (is_pending (fate_of k (length es) l)) (Some (length es)) None) (drop-next es e [])

  -- an entry that neither is a commit on the buffer nor ends the last one
  pub pending-same : is_commit_on k e ≡ false → ((number : ℕ) → last_commit k es ≡ Some number → ends number ≡ false)
      → pending_commit k (es ++ e ∷ []) ≡ pending_commit k es
  pending-same off unended = ap (option_and_then (if_pending k (es ++ e ∷ []))) (last_commit-other k es e off) ∙ by_last
      (last_commit k es) (last_commit-below k es) unended
    where
      by_last : (o : Option ℕ) → IfSome o (λ j. j < length es) → ((number : ℕ) → o ≡ Some number → ends number ≡ false)
          → option_and_then (if_pending k (es ++ e ∷ [])) o ≡ option_and_then (if_pending k es) o
      by_last None within h = refl
      by_last (Some number) within h =
          ap (λ (b : Bool). cond {A = Option ℕ} b (Some number) None)
          (still_pending number within off ∙ ap (λ (b : Bool). pending_at k es number && not b) (h number refl)
          ∙ and_true (pending_at k es number))

  -- an entry that ends a pending commit leaves none
  pub pending-gone : is_commit_on k e ≡ false → ((number : ℕ) → pending_commit k es ≡ Some number → ends number ≡ true)
      → pending_commit k (es ++ e ∷ []) ≡ None
  pending-gone off ended = ap (option_and_then (if_pending k (es ++ e ∷ []))) (last_commit-other k es e off) ∙ by_last
      (last_commit k es) (last_commit-below k es) ended
    where
      by_last : (o : Option ℕ) → IfSome o (λ j. j < length es)
          → ((number : ℕ) → option_and_then (if_pending k es) o ≡ Some number → ends number ≡ true)
          → option_and_then (if_pending k (es ++ e ∷ [])) o ≡ None
      by_last None within h = refl
      by_last (Some number) within h = ap (λ (b : Bool). cond {A = Option ℕ} b (Some number) None)
          (still_pending number within off ∙ by_test (pending_at k es number) refl)
        where
          by_test : (b : Bool) → pending_at k es number ≡ b → (b && not (ends number)) ≡ false
          by_test true is = ap not (h number (ap (λ (t : Bool). cond {A = Option ℕ} t (Some number) None) is))
          by_test false is = refl

-- ---- the ready commit is the last commit

pub ready_is_last : (m : Mode) (k number : ℕ) (es : List Entry) → ready m k es ≡ Some number
    → last_commit k es ≡ Some number
ready_is_last mode.Event k number es is = (pending_is k es number is).0
ready_is_last mode.State k number es is = (held_is k es number is).0
ready_is_last mode.Receive k number es is = absurd (let none : ⊥ = cc in none)

-- a pending commit is ready
pub pending_is_ready : (m : Mode) (k number : ℕ) (es : List Entry) → is_receive m ≡ false
    → pending_commit k es ≡ Some number → ready m k es ≡ Some number
pending_is_ready mode.Event k number es sending is = is
pending_is_ready mode.State k number es sending is =
    let parts = pending_is k es number is in held-some k es number parts.0 (pending_stands k es number parts.1)
pending_is_ready mode.Receive k number es sending is = absurd (let none : ⊥ = cc in none)

-- its payload is unchanged
pub paid-same : (k : ℕ) (es : List Entry) (e : Entry) (o : Option ℕ)
    → ((number : ℕ) → o ≡ Some number → last_commit k es ≡ Some number)
    → option_map (payload_of (es ++ e ∷ [])) o ≡ option_map (payload_of es) o
paid-same k es e None last = refl
paid-same k es e (Some number) last =
    ap Some (payload_of-front es e number (subst (λ (o : Option ℕ). IfSome o (λ j. j < length es)) (last number refl)
    (last_commit-below k es)))

-- ---- the ready commit with one more entry

module _ (k : ℕ) (es : List Entry) (e : Entry) where
  pub ready-new : (m : Mode) → is_receive m ≡ false → is_commit_on k e ≡ true
      → ready m k (es ++ e ∷ []) ≡ Some (length es)
  ready-new mode.Event sending on = pending-new k es e on
  ready-new mode.State sending on = held-commit k es e on
  ready-new mode.Receive sending on = absurd (let none : ⊥ = cc in none)

  module _ (off : is_commit_on k e ≡ false) where
    -- an entry that neither sends nor withdraws the last commit
    pub ready-same : (m : Mode) → ((number : ℕ) → last_commit k es ≡ Some number → sends number e ≡ false)
        → ((number : ℕ) → last_commit k es ≡ Some number → takes_back number e ≡ false)
        → ready m k (es ++ e ∷ []) ≡ ready m k es
    ready-same mode.Event unsent untaken = pending-same k es e off
        (λ number last. either (sends number e) (takes_back number e) (unsent number last) (untaken number last))
    ready-same mode.State unsent untaken = held-other k es e off untaken
        (λ number last sent. differ sent (unsent number last))
    ready-same mode.Receive unsent untaken = refl

    -- an entry that withdraws the pending commit leaves nothing
    pub ready-taken : (m : Mode) (number : ℕ) → ((j : ℕ) → sends j e ≡ false) → pending_commit k es ≡ Some number
        → takes_back number e ≡ true → ready m k (es ++ e ∷ []) ≡ None
    ready-taken mode.Event number unsent pending taken =
        let here : IfSome (pending_commit k es) (λ j. takes_back j e ≡ true) =
        subst (λ (o : Option ℕ). IfSome o (λ j. takes_back j e ≡ true)) (sym pending) taken in
        pending-gone k es e off (λ j is. or_rest (sends j e) (takes_back j e)
        (subst (λ (o : Option ℕ). IfSome o (λ i. takes_back i e ≡ true)) is here))
    ready-taken mode.State number unsent pending taken = held-taken k es e off unsent number pending taken
    ready-taken mode.Receive number unsent pending taken = refl
