-- A legal journal with an open window has room for its observe.
use Rattle.std.proofs.Common.{◌≡◌, ℕ, ◌+◌, ◌≤◌, Bool, false, cond, List, [], ◌∷◌, ◌++◌, Option, Some, None, refl, sym}
use Rattle.std.proofs.Common.{ap, subst, ◌∙◌, arith}
use Rattle.std.specs.Prelude.{IfSome, count_by}
use Rattle.std.specs.Option.{option_and_then, option_or}
use Rattle.std.proofs.lemmas.List.Sums.{sum_by-append}
use Rattle.fr_journal.specs.Forms.{Entry}
use Rattle.fr_journal.specs.declared.entry.Entry.TheVariants.{Commit, Withdraw, Read, Pop, Fetch, Observe}
use Rattle.fr_journal.specs.Entries.{is_slot}
use Rattle.fr_journal.specs.Legal.{IsLegal, IsLegalJournal}
use Rattle.fr_journal.specs.OpenWindow.{open_window, window_mark}
use Rattle.fr_journal.proofs.OpenWindowLemmas.{open_window-snoc}
use Rattle.fr_slots.specs.History.{last_after}
use Rattle.fr_slots.specs.Parameters.{Parameters}
use Rattle.fr_slots.specs.Plans.{Plan}
use Rattle.fr_slots.specs.Windows.{Opportunity}
use Rattle.fr_slots.proofs.HistoryLemmas.{AllAfter-induction}

abbrev HasRoom : Plan → List Entry → Type 0
HasRoom plan entries = IfSome (open_window entries) (λ _. count_by is_slot entries + 1 ≤ plan.slot_entries)

-- an entry of the host changes neither the open window nor the number of the controller's entries
still_room : (plan : Plan) (xs : List Entry) (e : Entry) → is_slot e ≡ false → window_mark xs e ≡ None → HasRoom plan xs
    → HasRoom plan (xs ++ e ∷ [])
still_room plan xs e host unmarked h =
    let same : open_window (xs ++ e ∷ []) ≡ open_window xs =
    open_window-snoc xs e ∙ ap (λ (m : Option (Option Opportunity)). option_and_then (λ w. w)
    (option_or m (last_after window_mark [] xs))) unmarked in
    let none : cond {A = ℕ} (is_slot e) 1 0 ≡ 0 = ap (λ (b : Bool). cond {A = ℕ} b 1 0) host in
    let count : count_by is_slot (xs ++ e ∷ []) ≡ count_by is_slot xs =
    omega (arith, sum_by-append (λ x. cond (is_slot x) 1 0) xs (e ∷ []), none) in
    subst (λ (o : Option Opportunity). IfSome o (λ _. count_by is_slot (xs ++ e ∷ []) + 1 ≤ plan.slot_entries))
    (sym same)
    (subst (λ (n : ℕ). IfSome (open_window xs) (λ _. n + 1 ≤ plan.slot_entries)) (sym count) h)

HasRoom-snoc : (params : Parameters) (plan : Plan) (xs : List Entry) (e : Entry) → HasRoom plan xs
    → IsLegal params plan xs e → HasRoom plan (xs ++ e ∷ [])
HasRoom-snoc params plan xs (Commit task buffer payload) h legal =
    still_room plan xs (Commit task buffer payload) refl refl h
HasRoom-snoc params plan xs (Withdraw task buffer of) h legal = still_room plan xs (Withdraw task buffer of) refl refl h
HasRoom-snoc params plan xs (Read task buffer from) h legal = still_room plan xs (Read task buffer from) refl refl h
HasRoom-snoc params plan xs (Pop task from) h legal = still_room plan xs (Pop task from) refl refl h
HasRoom-snoc params plan xs (Fetch window a b) h legal =
    subst (λ (o : Option Opportunity). IfSome o (λ _. count_by is_slot (xs ++ Fetch window a b ∷ [])
    + 1 ≤ plan.slot_entries)) (sym (open_window-snoc xs (Fetch window a b)))
    (omega (arith, sum_by-append (λ x. cond (is_slot x) 1 0) xs (Fetch window a b ∷ []), legal.room))
HasRoom-snoc params plan xs (Observe window a b) h legal =
    subst (λ (o : Option Opportunity). IfSome o (λ _. count_by is_slot (xs ++ Observe window a b ∷ [])
    + 1 ≤ plan.slot_entries)) (sym (open_window-snoc xs (Observe window a b))) tt

pub room_for_observe : (params : Parameters) (plan : Plan) (xs : List Entry) (w : Opportunity)
    → IsLegalJournal params plan xs → open_window xs ≡ Some w → count_by is_slot xs + 1 ≤ plan.slot_entries
unfolding last_after
room_for_observe params plan xs w legal e =
    let h : HasRoom plan xs = AllAfter-induction (IsLegal params plan) (HasRoom plan) [] xs tt
    (HasRoom-snoc params plan) legal in
    subst (λ (o : Option Opportunity). IfSome o (λ _. count_by is_slot xs + 1 ≤ plan.slot_entries)) e h
