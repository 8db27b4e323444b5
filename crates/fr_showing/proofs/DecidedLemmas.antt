-- The first entry that changes a commit decides its fate: in a legal journal no later entry sends or withdraws the
-- commit, unless it was sent.
use Rattle.std.proofs.Common.{◌≡◌, ◌⊎◌, inl, inr, ℕ, ◌+◌, ◌<◌, Bool, true, false, cond, not, ◌||◌, ◌&&◌, List, [], ◌∷◌}
use Rattle.std.proofs.Common.{◌++◌, drop, length, length-append, Option, Some, None, refl, sym, ap, subst, ◌∙◌, arith}
use Rattle.std.specs.Prelude.{slice_get, IsSomeAnd}
use Rattle.std.specs.List.{list_any}
use Rattle.std.specs.Option.{option_and_then}
use Rattle.std.proofs.lemmas.Bool.{eqb-true}
use Rattle.std.proofs.lemmas.List.Folds.{list_any-append}
use Rattle.fr_journal.proofs.FateStepLemmas.{fate_by}
use Rattle.fr_journal.proofs.HeldCommitLemmas.{pending_is, held_is, held-some, held-commit, held-taken, pending_stands}
use Rattle.fr_journal.proofs.HeldCommitLemmas.{withdrawn_at, same_entry, last_there}
use Rattle.fr_journal.proofs.LastCommitLemmas.{IsCommitAt, last_commit-commit, last_commit-other, drop-front}
use Rattle.fr_journal.proofs.LastCommitLemmas.{slice_get-front}
use Rattle.fr_journal.specs.Forms.{Entry}
use Rattle.fr_journal.specs.declared.entry.Entry.TheVariants.{Commit, Withdraw, Read, Pop, Fetch, Observe}
use Rattle.fr_journal.specs.declared.entry.Offered.{Offered}
use Rattle.fr_journal.specs.declared.entry.Offered.TheVariants.{Nothing, Null}
use Rattle.fr_journal.specs.Fate.{held_commit, is_commit_on, is_data_of, is_number, is_withdrawn, last_commit}
use Rattle.fr_journal.specs.Fate.{pending_commit, sends, takes_back}
use Rattle.fr_journal.specs.Legal.{IsLegal}
use Rattle.fr_journal.specs.Offers.{commit_offered, data_or, may_begin, offered, offered_at, owns, ready, ready_in}
use Rattle.fr_journal.specs.Offers.{transmitter}
use Rattle.fr_slots.specs.declared.channel.Channel.{Channel}
use Rattle.fr_slots.specs.declared.channel.Channel.TheVariants.{A, B}
use Rattle.fr_slots.specs.declared.plan.Buffer.{Buffer}
use Rattle.fr_slots.specs.declared.plan.Mode.{Mode}
use Rattle.fr_slots.specs.declared.plan.Mode.TheVariants as mode
use Rattle.fr_slots.specs.History.{AllAfter}
use Rattle.fr_slots.specs.Parameters.{Parameters}
use Rattle.fr_slots.specs.Plans.{Plan, buffer_at}
use Rattle.fr_slots.specs.Windows.{Opportunity, slot_of}

-- ---- tests

either : (a b : Bool) → (a || b) ≡ true → (a ≡ true) ⊎ (b ≡ true)
either true b is = inl refl
either false b is = inr is

or_none : (b : Bool) → (b || false) ≡ b
or_none true = refl
or_none false = refl

-- a test that can't pass
is_false : (b : Bool) → (b ≡ true → ⊥) → b ≡ false
is_false true never = absurd (never refl)
is_false false never = refl

-- ---- an entry changes a commit only while the commit is held

-- a buffer holds the commit
pub record Holds (xs : List Entry) (k : ℕ) : Type 0 where
  pub number : ℕ
  pub held : held_commit number xs ≡ Some k

-- on a buffer the commit is pending
pub record Awaits (xs : List Entry) (k : ℕ) : Type 0 where
  pub number : ℕ
  pub pending : pending_commit number xs ≡ Some k

pending_held : (number : ℕ) (xs : List Entry) (k : ℕ) → pending_commit number xs ≡ Some k
    → held_commit number xs ≡ Some k
pending_held number xs k is =
    let parts = pending_is number xs k is in
    held-some number xs k parts.0 (pending_stands number xs k parts.1)

ready_held : (m : Mode) (number : ℕ) (xs : List Entry) (k : ℕ) → ready m number xs ≡ Some k
    → held_commit number xs ≡ Some k
ready_held mode.Event number xs k is = pending_held number xs k is
ready_held mode.State number xs k is = is
ready_held mode.Receive number xs k is = absurd cc

is_commit : (k : ℕ) (of : Option ℕ) → is_number k of ≡ true → of ≡ Some k
is_commit k None is = absurd cc
is_commit k (Some j) is = ap (λ (n : ℕ). let o : Option ℕ = Some n in o) (eqb-true j k is)

named : (k : ℕ) (x : Offered) (o : Option ℕ) → is_data_of k x ≡ false → is_data_of k (data_or x o) ≡ true → o ≡ Some k
named k x None without is = let never : false ≡ true = sym without ∙ is in absurd cc
named k x (Some j) without is = ap (λ (n : ℕ). let o : Option ℕ = Some n in o) (eqb-true j k is)

no_data : (t : Bool) (k : ℕ) → is_data_of k (cond t Null Nothing) ≡ false
no_data true k = refl
no_data false k = refl

module _ (params : Parameters) (plan : Plan) where
  of_buffer : (xs : List Entry) (k : ℕ) (o : Option ℕ) → option_and_then (ready_in plan xs) o ≡ Some k → Holds xs k
  of_buffer xs k None is = absurd cc
  of_buffer xs k (Some number) is = by_line (buffer_at plan number) is
    where
      by_line : (b : Option Buffer) → option_and_then (λ (b : Buffer). ready b.mode number xs) b ≡ Some k → Holds xs k
      by_line None is = absurd cc
      by_line (Some b) is = record { number = number; held = ready_held b.mode number xs k is }

  of_offer : (xs : List Entry) (k : ℕ) (t : Bool) (o : Option ℕ)
      → cond t (option_and_then (ready_in plan xs) o) None ≡ Some k → Holds xs k
  of_offer xs k true o is = of_buffer xs k o is
  of_offer xs k false o is = absurd cc

  data_held : (xs : List Entry) (w : Opportunity) (channel : Channel) (k : ℕ)
      → is_data_of k (offered plan xs w channel) ≡ true → Holds xs k
  data_held xs w channel k is = by_slot (slot_of w channel) is
    where
      by_slot : (slot : Option ℕ) → is_data_of k (offered_at plan xs w channel slot) ≡ true → Holds xs k
      by_slot None is = absurd cc
      by_slot (Some slot) is =
          of_offer xs k (may_begin plan w channel) (transmitter plan w channel)
          (named k (cond (owns plan w channel slot) Null Nothing) (commit_offered plan xs w channel)
          (no_data (owns plan w channel slot) k) is)

  sent_held : (xs : List Entry) (e : Entry) (k : ℕ) → IsLegal params plan xs e → sends k e ≡ true → Holds xs k
  sent_held xs (Commit task buffer payload) k legal is = absurd cc
  sent_held xs (Withdraw task buffer of) k legal is = absurd cc
  sent_held xs (Read task buffer from) k legal is = absurd cc
  sent_held xs (Pop task from) k legal is = absurd cc
  sent_held xs (Fetch w a b) k legal is = on_one (either (is_data_of k a) (is_data_of k b) is)
    where
      on_one : ((is_data_of k a ≡ true) ⊎ (is_data_of k b ≡ true)) → Holds xs k
      on_one (inl on) = data_held xs w A k (ap (is_data_of k) (sym legal.offer_a) ∙ on)
      on_one (inr on) = data_held xs w B k (ap (is_data_of k) (sym legal.offer_b) ∙ on)
  sent_held xs (Observe number a b) k legal is = absurd cc

  taken_pending : (xs : List Entry) (e : Entry) (k : ℕ) → IsLegal params plan xs e → takes_back k e ≡ true → Awaits xs k
  taken_pending xs (Commit task buffer payload) k legal is = absurd cc
  taken_pending xs (Withdraw task buffer of) k legal is =
      record { number = buffer; pending = sym legal.found ∙ is_commit k of is }
  taken_pending xs (Read task buffer from) k legal is = absurd cc
  taken_pending xs (Pop task from) k legal is = absurd cc
  taken_pending xs (Fetch w a b) k legal is = absurd cc
  taken_pending xs (Observe number a b) k legal is = absurd cc

-- ---- a commit that isn't held is never held again

withdrawn_by : (s w c : Bool) → is_withdrawn (fate_by s w c) ≡ (not s && w)
withdrawn_by true w c = refl
withdrawn_by false true c = refl
withdrawn_by false false true = refl
withdrawn_by false false false = refl

still_withdrawn : (s w t u : Bool) → (not s && w) ≡ true → t ≡ false → (not (s || t) && (w || u)) ≡ true
still_withdrawn true w t u is unsent = absurd cc
still_withdrawn false true t u is unsent = ap (λ (b : Bool). not b && true) unsent
still_withdrawn false false t u is unsent = absurd cc

module _ (buffer : ℕ) (xs : List Entry) (e : Entry) (k : ℕ) (lt : k < length xs) where
  any_then : (p : Entry → Bool) → list_any p (drop (k + 1) (xs ++ e ∷ [])) ≡ (list_any p (drop (k + 1) xs) || p e)
  any_then p =
      ap (list_any p) (drop-front xs (e ∷ []) (k + 1) (omega (arith, lt))) ∙ list_any-append p (drop (k + 1) xs)
      (e ∷ [])
      ∙ ap (λ (b : Bool). list_any p (drop (k + 1) xs) || b) (or_none (p e))

  -- a withdrawn commit stays withdrawn, if the entry doesn't send it
  stays_withdrawn : withdrawn_at buffer xs k ≡ true → sends k e ≡ false → withdrawn_at buffer (xs ++ e ∷ []) k ≡ true
  stays_withdrawn is unsent =
      let s : Bool = list_any (sends k) (drop (k + 1) xs) in
      let w : Bool = list_any (takes_back k) (drop (k + 1) xs) in
      let c : Bool = list_any (is_commit_on buffer) (drop (k + 1) xs) in
      withdrawn_by (list_any (sends k) (drop (k + 1) (xs ++ e ∷ [])))
      (list_any (takes_back k) (drop (k + 1) (xs ++ e ∷ [])))
      (list_any (is_commit_on buffer) (drop (k + 1) (xs ++ e ∷ [])))
      ∙ (λ i. not (any_then (sends k) i) && any_then (takes_back k) i)
      ∙ still_withdrawn s w (sends k e) (takes_back k e) (sym (withdrawn_by s w c) ∙ is) unsent

module _ (params : Parameters) (plan : Plan) (buffer k : ℕ) where
  -- the buffer doesn't hold the commit
  abbrev pub IsGone : List Entry → Type 0
  IsGone xs = held_commit buffer xs ≡ Some k → ⊥

  on_buffer : (xs : List Entry) → IsCommitAt buffer xs k → Holds xs k → held_commit buffer xs ≡ Some k
  on_buffer xs there h =
      let same : h.number ≡ buffer =
      same_entry h.number buffer (slice_get xs k) (last_there xs h.number k (held_is h.number xs k h.held).0) there in
      subst (λ (n : ℕ). held_commit n xs ≡ Some k) same h.held

  unsent : (xs : List Entry) (e : Entry) → IsLegal params plan xs e → IsCommitAt buffer xs k → IsGone xs
      → sends k e ≡ false
  unsent xs e legal there gone = is_false (sends k e) (λ is. gone
      (on_buffer xs there (sent_held params plan xs e k legal is)))

  untaken : (xs : List Entry) (e : Entry) → IsLegal params plan xs e → IsCommitAt buffer xs k → IsGone xs
      → takes_back k e ≡ false
  untaken xs e legal there gone =
      is_false (takes_back k e) (λ is.
      let awaits = taken_pending params plan xs e k legal is in
      gone (on_buffer xs there (record {
        number = awaits.number;
        held =
            pending_held awaits.number xs k awaits.pending;
      })))

  stays_gone : (xs : List Entry) (e : Entry) → IsLegal params plan xs e → k < length xs → IsCommitAt buffer xs k
      → IsGone xs → IsGone (xs ++ e ∷ [])
  stays_gone xs e legal lt there gone held = by_commit (is_commit_on buffer e) refl
    where
      last : last_commit buffer (xs ++ e ∷ []) ≡ Some k
      last = (held_is buffer (xs ++ e ∷ []) k held).0

      stands : withdrawn_at buffer (xs ++ e ∷ []) k ≡ false
      stands = (held_is buffer (xs ++ e ∷ []) k held).1

      by_withdrawn : (t : Bool) → last_commit buffer xs ≡ Some k → withdrawn_at buffer xs k ≡ t → ⊥
      by_withdrawn true before is =
          let never : true ≡ false = sym (stays_withdrawn buffer xs e k lt is (unsent xs e legal there gone))
          ∙ stands in absurd cc
      by_withdrawn false before is = gone (held-some buffer xs k before is)

      by_commit : (t : Bool) → is_commit_on buffer e ≡ t → ⊥
      by_commit true on =
          let same : Some (length xs) ≡ Some k = sym (last_commit-commit buffer xs e on) ∙ last in
          let number : length xs ≡ k = cc in
          omega (arith, number, lt)
      by_commit false off = by_withdrawn (withdrawn_at buffer xs k)
          (sym (last_commit-other buffer xs e off) ∙ last) refl

  stays_there : (xs : List Entry) (e : Entry) → k < length xs → IsCommitAt buffer xs k
      → IsCommitAt buffer (xs ++ e ∷ []) k
  stays_there xs e lt there = subst (λ (o : Option Entry). IsSomeAnd o (λ e. is_commit_on buffer e ≡ true))
      (sym (slice_get-front xs (e ∷ []) k lt)) there

  any_none : (p : Entry → Bool) (e : Entry) (rest : List Entry) → p e ≡ false → list_any p rest ≡ false
      → list_any p (e ∷ rest) ≡ false
  any_none p e rest here later = λ i. here i || later i

  -- after that no entry sends it, and none withdraws it
  pub undone : (xs rest : List Entry) → AllAfter (IsLegal params plan) xs rest → k < length xs → IsCommitAt buffer xs k
      → IsGone xs
      → (list_any (sends k) rest ≡ false) × (list_any (takes_back k) rest ≡ false)
  unfolding AllAfter
  undone xs [] legal lt there gone = (refl, refl)
  undone xs (e ∷ rest) legal lt there gone =
      let later = undone (xs ++ e ∷ []) rest legal.1 (omega (arith, lt, length-append xs (e ∷ [])))
      (stays_there xs e lt there) (stays_gone xs e legal.0 lt there gone) in (
        any_none (sends k) e rest (unsent xs e legal.0 there gone) later.0,
        any_none (takes_back k) e rest (untaken xs e legal.0 there gone) later.1,
      )

  -- ---- the entry that ends it

  pub gone_by_commit : (xs : List Entry) (e : Entry) → k < length xs → is_commit_on buffer e ≡ true
      → IsGone (xs ++ e ∷ [])
  gone_by_commit xs e lt on held =
      let same : Some (length xs) ≡ Some k = sym (held-commit buffer xs e on) ∙ held in
      let number : length xs ≡ k = cc in
      omega (arith, number, lt)

  taking : (e : Entry) → takes_back k e ≡ true → (is_commit_on buffer e ≡ false) × ((j : ℕ) → sends j e ≡ false)
  taking (Commit task number payload) is = absurd cc
  taking (Withdraw task number of) is = (refl, λ j. refl)
  taking (Read task number from) is = absurd cc
  taking (Pop task from) is = absurd cc
  taking (Fetch w a b) is = absurd cc
  taking (Observe number a b) is = absurd cc

  pub gone_by_withdraw : (xs : List Entry) (e : Entry) → IsLegal params plan xs e → IsCommitAt buffer xs k
      → takes_back k e ≡ true → IsGone (xs ++ e ∷ [])
  gone_by_withdraw xs e legal there is held =
      let awaits = taken_pending params plan xs e k legal is in
      let same : awaits.number ≡ buffer =
      same_entry awaits.number buffer (slice_get xs k) (last_there xs awaits.number k
      (pending_is awaits.number xs k awaits.pending).0) there in
      let parts = taking e is in
      let none : held_commit buffer (xs ++ e ∷ []) ≡ None =
      held-taken buffer xs e parts.0 parts.1 k (subst (λ (n : ℕ). pending_commit n xs ≡ Some k) same awaits.pending) is
      in
      let never : None ≡ Some k = sym none ∙ held in absurd cc
