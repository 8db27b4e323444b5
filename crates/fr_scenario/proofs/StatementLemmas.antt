-- The lines of a text of version 3, as they are read one after another.
use Rattle.std.proofs.Common.{◌≡◌, ℕ, ◌<◌, false, inl, inr, List, [], ◌∷◌, ◌++◌, length}
use Rattle.std.proofs.Common.{Option, Some, None, Ok, Err, refl, ap, arith, append_assoc, codes}
use Rattle.std.proofs.lemmas.Bool.{cases_Bool}
use Rattle.std.specs.Str.{bytes_eq}
use Rattle.fr_names.specs.Names.{NamesOfNode}
use Rattle.fr_interface.specs.declared.call.Call.{Call}
use Rattle.fr_scenario.specs.declared.statement.Statement.{Statement}
use Rattle.fr_scenario.specs.declared.statement.Statement.TheVariants.{Calls}
use Rattle.fr_scenario.specs.StatementParts.{node_said, cycles_said}
use Rattle.fr_scenario.specs.Reading.{ReadOf, put_before}
use Rattle.fr_scenario.specs.Statements.{are_end, statement_said, calls_said, call_said}
use Rattle.fr_scenario.specs.Statements.{babble_said, mute_said, corrupt_said, lost_said, expect_said}
use Rattle.fr_scenario.specs.Statements.{expect_none_said, other_said, commit_said, withdraw_said}
use Rattle.fr_scenario.specs.Statements.{read_said, pop_said}
use Rattle.fr_text.specs.Reading.{◌>>=◌, number_in}

-- ---- statements that are kept, with those that follow

abbrev pub put_all : {V : Type 0} → List V → ReadOf V → ReadOf V
put_all before (Ok after) = Ok (before ++ after)
put_all before (Err e) = Err e

pub put_none : {V : Type 0} (r : ReadOf V) → put_all [] r ≡ r
put_none (Ok after) = refl
put_none (Err e) = refl

pub put_one : {V : Type 0} (before : List V) (one : V) (r : ReadOf V)
    → put_all (before ++ one ∷ []) r ≡ put_all before (put_before one r)
put_one before one (Ok after) = ap Ok (append_assoc before (one ∷ []) after)
put_one before one (Err e) = refl

-- ---- more words than a line has

bind_none : {A B : Type 0} (o : Option A) (f : A → Option B) → ((x : A) → f x ≡ None) → (o >>= f) ≡ None
bind_none None f none = refl
bind_none (Some x) f none = none x

many_call : (names : List NamesOfNode) (kind : List ℕ) (n : ℕ) (a b c : List ℕ) (more : List (List ℕ))
    → call_said names kind n (a ∷ b ∷ c ∷ more) ≡ None
unfolding call_said commit_said withdraw_said read_said pop_said
many_call names kind n a b c more =
    elim (cases_Bool (bytes_eq kind (codes "commit"))) [
      | inl commit ↦ rw commit refl
      | inr not_commit ↦
          elim (cases_Bool (bytes_eq kind (codes "withdraw"))) [
            | inl withdraw ↦ rw (not_commit, withdraw) refl
            | inr not_withdraw ↦
                elim (cases_Bool (bytes_eq kind (codes "read"))) [
                  | inl read ↦ rw (not_commit, not_withdraw, read) refl
                  | inr not_read ↦
                      elim (cases_Bool (bytes_eq kind (codes "pop"))) [
                        | inl pop ↦ rw (not_commit, not_withdraw, not_read, pop) refl
                        | inr not_pop ↦ rw (not_commit, not_withdraw, not_read, not_pop) refl
                      ]
                ]
          ]
    ]

unspoken : (names : List NamesOfNode) (kind : List ℕ) (n : ℕ) (a b c : List ℕ) (more : List (List ℕ))
    (f : Call → Option Statement) → (call_said names kind n (a ∷ b ∷ c ∷ more) >>= f) ≡ None
unspoken names kind n a b c more f = ap (λ (o : Option Call). o >>= f) (many_call names kind n a b c more)

many_calls : (names : List NamesOfNode) (kind a b c d e f : List ℕ) (more : List (List ℕ))
    → calls_said names kind (a ∷ b ∷ c ∷ d ∷ e ∷ f ∷ more) ≡ None
unfolding calls_said
many_calls names kind a b c d e f more =
    bind_none (node_said names a) _ (λ n. bind_none (number_in 8 b) _ (λ t. bind_none (cycles_said c) _ (λ y.
    unspoken names kind n d e f more (λ call. Some (Calls n t y call)))))

many_other : (names : List NamesOfNode) (kind a b c d e f : List ℕ) (more : List (List ℕ))
    → other_said names kind (a ∷ b ∷ c ∷ d ∷ e ∷ f ∷ more) ≡ None
unfolding other_said expect_said expect_none_said
many_other names kind a b c d e f more =
    elim (cases_Bool (bytes_eq kind (codes "expect"))) [
      | inl expect ↦ rw expect refl
      | inr not_expect ↦
          elim (cases_Bool (bytes_eq kind (codes "expect-none"))) [
            | inl none ↦ rw (not_expect, none) refl
            | inr not_none ↦ rw (not_expect, not_none) (many_calls names kind a b c d e f more)
          ]
    ]

many_said : (names : List NamesOfNode) (kind a b c d e f : List ℕ) (more : List (List ℕ))
    → statement_said names (kind ∷ a ∷ b ∷ c ∷ d ∷ e ∷ f ∷ more) ≡ None
unfolding statement_said babble_said mute_said corrupt_said lost_said
many_said names kind a b c d e f more =
    elim (cases_Bool (bytes_eq kind (codes "babble"))) [
      | inl babble ↦ rw babble refl
      | inr not_babble ↦
          elim (cases_Bool (bytes_eq kind (codes "mute"))) [
            | inl mute ↦ rw (not_babble, mute) refl
            | inr not_mute ↦
                elim (cases_Bool (bytes_eq kind (codes "corrupt"))) [
                  | inl corrupt ↦ rw (not_babble, not_mute, corrupt) refl
                  | inr not_corrupt ↦
                      elim (cases_Bool (bytes_eq kind (codes "lost"))) [
                        | inl lost ↦ rw (not_babble, not_mute, not_corrupt, lost) refl
                        | inr not_lost ↦ rw (not_babble, not_mute, not_corrupt, not_lost)
                            (many_other names kind a b c d e f more)
                      ]
                ]
          ]
    ]

pub many_words : (names : List NamesOfNode) (words : List (List ℕ)) → 6 < length words
    → statement_said names words ≡ None
many_words names [] many = absurd (omega arith)
many_words names (k ∷ []) many = absurd (omega arith)
many_words names (k ∷ a ∷ []) many = absurd (omega arith)
many_words names (k ∷ a ∷ b ∷ []) many = absurd (omega arith)
many_words names (k ∷ a ∷ b ∷ c ∷ []) many = absurd (omega arith)
many_words names (k ∷ a ∷ b ∷ c ∷ d ∷ []) many = absurd (omega arith)
many_words names (k ∷ a ∷ b ∷ c ∷ d ∷ e ∷ []) many = absurd (omega arith)
many_words names (k ∷ a ∷ b ∷ c ∷ d ∷ e ∷ f ∷ more) many = many_said names k a b c d e f more

pub many_not_end : (words : List (List ℕ)) → 6 < length words → are_end words ≡ false
many_not_end [] many = refl
many_not_end (k ∷ []) many = absurd (omega arith)
many_not_end (k ∷ a ∷ more) many = refl
